-- What is left to list, as text.
use Rattle.std.specs.Prelude.{◌≡◌, ◌≢◌, ℕ, ◌+◌, ◌≤◌, ◌^◌, List, [], ◌∷◌, ◌++◌, length, IsTrue}
use Rattle.tz_model.specs.Image.{SegmentValue, are_addressed}
use Rattle.tz_text.specs.Text.{text_left}
use Rattle.tz_text.specs.declared.disassembly.rest.Rest.{Rest}

abbrev pub bytes_of : Rest → List ℕ
bytes_of rest = rest.waiting.items ++ rest.here.now

abbrev pub rest_text : Rest → List ℕ
rest_text rest = text_left rest.at (bytes_of rest) rest.segments.now

-- the bytes and the segments behind them lie below 2^32
pub record LiesBelow (rest : Rest) : Type 0 where
  pub bytes : rest.at + length (bytes_of rest) ≤ 2 ^ 32
  pub segments : IsTrue (are_addressed rest.segments.now)

-- no segment goes on with waiting bytes that end at an address
abbrev pub EndsAt : ℕ → List ℕ → List SegmentValue → Type 0
EndsAt end waiting [] = Unit {0}
EndsAt end waiting (s ∷ more) = (waiting ≢ []) × (end ≢ s.base)

-- the run has no more bytes than those that wait
pub record IsAtEnd (rest : Rest) : Type 0 where
  pub here : rest.here.now ≡ []
  pub segments : EndsAt (rest.at + length rest.waiting.items) rest.waiting.items rest.segments.now
