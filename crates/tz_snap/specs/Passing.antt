-- Bytes that wait before they go out.
use Rattle.std.specs.Prelude.{◌≡◌, ℕ, List, ◌++◌, Option, Result, OnOk}
use Rattle.tz_model.specs.declared.outside.SinkError.{SinkError}
use Rattle.tz_model.specs.Outside.{Put}

-- of bytes that were held and a text behind them some went out, and the rest is held; at a fault a front went out
pub record Passes (w w' : Option (List ℕ)) (r r' : Option ℕ) (held text held' : List ℕ) (result : Result Unit SinkError) : Type 0 where
  pub gone : List ℕ
  pub rest : List ℕ
  pub put : Put w w' r r' gone result
  pub whole : gone ++ rest ≡ held ++ text
  pub kept : OnOk result (rest ≡ held')
