use Rattle.std.proofs.Common.{◌≡◌, Bool, true, false, ◌&&◌, not, cond, None, refl, sym, ap, ◌∙◌}
use Rattle.tz_regs.specs.Banks.{with_channels}
use Rattle.tz_state.specs.State.{State, with_exceptions, with_memory}
use Rattle.tz_state.specs.Due.{begun}
use Rattle.tz_state.specs.Moves.{Moving, all_moved, moving_in, moves_of, after_moves}
use Rattle.tz_sem.specs.Ended.{Ended}
use Rattle.tz_sem.specs.Taking.{locks}
use Rattle.tz_sem.specs.Step.{ended, started}
use Rattle.tz_sem.proofs.locked_stays.Goals as goal

first : (t : Bool) (x y : Ended) → t ≡ true → cond t x y ≡ x
first true x y e = refl
first false x y e = cc

ended_locked : (s : State) → s.core.run.locked ≡ true → (ended s).state ≡ s
unfolding ended
ended_locked s e =
    let locked : (locks s true None).state ≡ s =
    λ i. record s { core = record s.core { run = record s.core.run { locked = sym e i } } } in
    ap (λ (x : Ended). x.state) (first s.core.run.locked _ _ e) ∙ locked

-- its mover stands still
none_moved : (s : State) → s.core.run.locked ≡ true → moves_of s ≡ moving_in s
unfolding moves_of
none_moved s e = go s.bus.board.mover s.core.run.locked e where
  go : (mover locked : Bool) → locked ≡ true → cond (mover && not locked) (all_moved s.bus s.exceptions s.core.run.side (moving_in s)) (moving_in s) ≡ moving_in s
  go true true h = refl
  go false true h = refl
  go mover false h = cc

stands_still : (s : State) → s.core.run.locked ≡ true → after_moves s ≡ s
stands_still s e =
    ap (λ (m : Moving). record { core = with_channels s.core m.channels; exceptions = record s.exceptions { slots = m.slots }; bus = with_memory s.bus m.memory }) (none_moved s e)

pub returns : goal.returns
returns c = λ s events e. ended_locked (started s events) e ∙ stands_still (with_exceptions s (begun s.exceptions events)) e
