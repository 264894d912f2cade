-- The crossings `return` and `call`, of one run: all that Non-secure code then has is handed over or public.
use Rattle.std.proofs.Common.{◌≡◌, Bool, true, false, cond, List, refl, sym}
use Rattle.tz_table.specs.declared.units.Side.{Side}
use Rattle.tz_table.specs.declared.units.Side.TheVariants.{Secure, NonSecure}
use Rattle.tz_table.specs.declared.units.Code.{Code}
use Rattle.tz_model.specs.declared.report.Store.{Store}
use Rattle.tz_state.specs.State.{State, with_run}
use Rattle.tz_regs.specs.Registers.{side_in}
use Rattle.tz_frames.specs.Gate.{fnc_return}
use Rattle.tz_sem.specs.declared.ending.Cause.TheVariants.{Returned, Called}
use Rattle.tz_sem.specs.Ended.{with_stores}
use Rattle.tz_sem.specs.Exchange.{ran_by}
use Rattle.tz_twin.specs.Seen.{Seen}
use Rattle.tz_twin.proofs.Split.{board_seen}
use Rattle.tz_twin.proofs.Both.{Found, Touching, touching_found}

-- a state in which Secure code runs
abbrev pub secured : State → State
secured s = with_run s (record s.core.run { side = Secure; locked = false })

-- one in which Non-secure code does
abbrev pub gone : State → State
gone s = with_run s (record s.core.run { side = NonSecure; locked = false })

starts_secure : (s : State) → s.core.run.side ≡ Secure → side_in s.core ≡ Secure
starts_secure s e = go s.core.run.locked where
  go : (t : Bool) → cond t Secure s.core.run.side ≡ Secure
  go true = refl
  go false = e

-- Secure code is no Non-secure code
pub never : (s : State) → s.core.run.side ≡ Secure → side_in s.core ≡ NonSecure → ⊥
never s e f = go (side_in s.core) (starts_secure s e) f where
  go : (side : Side) → side ≡ Secure → side ≡ NonSecure → ⊥
  go Secure e f = cc
  go NonSecure e f = cc

-- Secure code that returned handed all registers over
found_returned : (side : Side) (before : Seen) (s : State) → side ≡ Secure → Found side before s Returned
found_returned Secure before s e is = refl
found_returned NonSecure before s e is = cc

pub touching_returned : (s0 s : State) (before : Seen) (negative : Bool) (code : Code) (stores : List Store) → s0.core.run.side ≡ Secure → board_seen before ≡ s.bus.board
    → Touching s0 before (with_stores stores (ran_by Returned (gone s) (record { touched = true; negative = negative }) code))
touching_returned s0 s before negative code stores starts e = touching_found s0 before _ refl e (found_returned (side_in s0.core) before (gone s) (starts_secure s0 starts))

-- and so did a call, but for LR, by which Non-secure code returns
found_called : (side : Side) (before : Seen) (s : State) → side ≡ Secure → s.core.registers.lr ≡ fnc_return → Found side before s Called
found_called Secure before s e h is = λ i. record s.core.registers { lr = sym h i }
found_called NonSecure before s e h is = cc

pub touching_called : (s0 s : State) (before : Seen) (negative : Bool) (code : Code) (stores : List Store) → s0.core.run.side ≡ Secure → board_seen before ≡ s.bus.board → s.core.registers.lr ≡ fnc_return
    → Touching s0 before (with_stores stores (ran_by Called s (record { touched = true; negative = negative }) code))
touching_called s0 s before negative code stores starts e h = touching_found s0 before _ refl e (found_called (side_in s0.core) before s (starts_secure s0 starts) h)
