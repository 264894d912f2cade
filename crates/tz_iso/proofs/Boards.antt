-- Two steps from states that are seen alike end on the same board.
use Rattle.std.proofs.Common.{◌≡◌, Bool, true, false, Option, Some, None, refl, sym, ap, ◌∙◌}
use Rattle.tz_model.specs.Words.{is_nonsecure_side}
use Rattle.tz_regs.specs.Registers.{before_in}
use Rattle.tz_state.specs.State.{State, side_of}
use Rattle.tz_sem.specs.Ended.{Ended}
use Rattle.tz_sem.specs.Step.{stepped, ended}
use Rattle.tz_twin.specs.Seen.{Crossing, crossing, Seen, seen}
use Rattle.tz_twin.proofs.Split.{Open, Twins, board_seen, board_seen-seen, sides_alike, twins_of_seen}
use Rattle.tz_twin.proofs.After.{after}
use Rattle.tz_twin.proofs.Both.{Touching, Both, Go, Stop, Touch}
use Rattle.tz_twin.proofs.Secured.{touching_step}
use Rattle.tz_twin.proofs.Stepping.{twin_ended}

board_after : (before : Seen) (c : Option Crossing) → board_seen (after before c) ≡ board_seen before
unfolding board_seen
board_after before None = refl
board_after before (Some c) = refl

board_touching : (s : State) (before : Seen) (e : Ended) → Touching s before e → e.state.bus.board ≡ board_seen before
board_touching s before e t =
    sym (board_seen-seen e.state) ∙ ap board_seen t.seen ∙ board_after before (crossing (stepped (before_in s.core) e))

boards_touching : (s t : State) (before before' : Seen) (e f : Ended) → before ≡ before' → Touching s before e → Touching t before' f → e.state.bus.board ≡ f.state.bus.board
boards_touching s t before before' e f alike h k = board_touching s before e h ∙ ap board_seen alike ∙ sym (board_touching t before' f k)

boards_both : (s t : State) (e f : Ended) → Twins s t → Both s t e f → e.state.bus.board ≡ f.state.bus.board
boards_both s t e f twins (Go h) = ap (λ (o : Open). o.board) h.twins.opens
boards_both s t e f twins (Stop h k) = h.board ∙ ap (λ (o : Open). o.board) twins.opens ∙ sym k.board
boards_both s t e f twins (Touch before before' alike h k a b) = boards_touching s t before before' e f alike h k

pub same_boards : (s t : State) → seen s ≡ seen t → (ended s).state.bus.board ≡ (ended t).state.bus.board
same_boards s t alike = go (is_nonsecure_side (side_of s)) refl where
  go : (u : Bool) → is_nonsecure_side (side_of s) ≡ u → (ended s).state.bus.board ≡ (ended t).state.bus.board
  go true is =
      let twins = twins_of_seen s t alike is in
      boards_both s t (ended s) (ended t) twins (twin_ended s t twins)
  go false is =
      boards_touching s t (seen s) (seen t) (ended s) (ended t) alike (touching_step s (seen s) is (board_seen-seen s))
      (touching_step t (seen t) (sym (sides_alike s t alike) ∙ is) (board_seen-seen t))
