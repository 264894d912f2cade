-- What may differ after a step of two machines is marked.
use Rattle.std.proofs.Common.{◌≡◌, ℕ, ◌/◌, Bool, true, false, ◌&&◌, cond, List, Option, None, refl, sym, ap, ◌∙◌, subst}
use Rattle.std.specs.FinMap.{get}
use Rattle.tz_table.specs.declared.units.Side.{Side}
use Rattle.tz_table.specs.declared.units.Side.TheVariants.{Secure, NonSecure}
use Rattle.tz_model.specs.declared.report.ScriptEvent.{ScriptEvent}
use Rattle.tz_model.specs.declared.report.Store.{Store}
use Rattle.tz_model.specs.Words.{is_nonsecure_side}
use Rattle.tz_regs.specs.declared.parts.Stacks.{Stacks}
use Rattle.tz_regs.specs.Banks.{stacks_of}
use Rattle.tz_state.specs.Attribution.{MapState, is_open}
use Rattle.tz_state.specs.Due.{begun}
use Rattle.tz_state.specs.Slots.{ExceptionsValue}
use Rattle.tz_state.specs.State.{State, map_of, side_of, with_exceptions}
use Rattle.tz_sem.specs.Step.{ended, started, step}
use Rattle.tz_twin.specs.Seen.{Public, public_of, open_bytes, Seen, Hidden, Shown, seen}
use Rattle.tz_twin.specs.Writing.{is_framed, is_exceptional, with_timers_of}
use Rattle.tz_twin.proofs.Elsewhere.{writes_told}
use Rattle.tz_twin.proofs.Moved.{moves_told}
use Rattle.tz_twin.proofs.TwoRuns.{seen_started}
use Rattle.tz_twin.proofs.Split.{board_seen, board_seen-seen, sides_alike}
use Rattle.tz_iso.specs.declared.marks.Marks.{Marks}
use Rattle.tz_iso.specs.Marks.{marks_byte, Grows, Notes, NotesMoves, Marked, begin_alike}
use Rattle.tz_iso.specs.Runs.{IsLinked}
use Rattle.tz_iso.proofs.Beginning.{begun_alike}
use Rattle.tz_iso.proofs.Marking.{or_first, grows_then}

-- ---- states that are seen alike

public_seen : Public → Seen → Public
public_seen other (Hidden board) = other
public_seen other (Shown board registers p) = p

seen_public : (s : State) (other : Public) → is_nonsecure_side (side_of s) ≡ true → public_seen other (seen s) ≡ public_of s
unfolding public_seen
seen_public s other is = rw is refl

same_public : (s t : State) → IsLinked s t → is_nonsecure_side (side_of s) ≡ true → public_of s ≡ public_of t
same_public s t linked is =
    sym (seen_public s (public_of s) is) ∙ ap (public_seen (public_of s)) linked ∙ seen_public t (public_of s) (sym (sides_alike s t linked) ∙ is)

open_at : (m : MapState) (x y : Option ℕ) (a : ℕ) → is_open m a ≡ true → cond (is_open m a) x None ≡ cond (is_open m a) y None → x ≡ y
open_at m x y a is e = rw is at e

-- the side that runs, by whether it is the Non-secure one
pub same_side : (a b : Side) → is_nonsecure_side a ≡ is_nonsecure_side b → a ≡ b
same_side Secure Secure e = refl
same_side Secure NonSecure e = absurd cc
same_side NonSecure Secure e = absurd cc
same_side NonSecure NonSecure e = refl

-- where Non-secure code runs in linked machines nothing differs, whatever is marked
pub marked_linked : (m : Marks) (s t : State) → IsLinked s t → is_nonsecure_side (side_of s) ≡ true → Marked m s t
marked_linked m s t linked is =
    let p = same_public s t linked is in
    let board : s.bus.board ≡ t.bus.board = sym (board_seen-seen s) ∙ ap board_seen linked ∙ board_seen-seen t in
    let maps : map_of s ≡ map_of t = λ i. record { regions = (board i).regions; sau = (p i).sau } in
    record {
      sau = λ all. λ i. (p i).sau;
      bytes = λ a shown unmarked.
          open_at (map_of s) (get s.bus.memory a) (get t.bus.memory a) a shown
          (ap (λ (q : Public). q.bytes a) p ∙ ap (λ (x : MapState). open_bytes x t.bus.memory a) (sym maps));
      exceptions = λ none. λ i. with_timers_of s.exceptions (p i).exceptions;
    }

-- nor does anything after what a step begins with
pub marked_started : (m : Marks) (s t : State) (due : List ScriptEvent) → IsLinked s t → is_nonsecure_side (side_of s) ≡ true → Marked m (started s due) (started t due)
marked_started m s t due linked is = marked_linked m (started s due) (started t due) (seen_started s t due linked) is

-- ---- what a step begins with

-- where what moves may write is marked, and the timers pend alike, what may differ is
pub begun_marked : (m m0 m' : Marks) (s t : State) (due : List ScriptEvent) → Marked m s t → Grows m m0
    → (e f : ExceptionsValue) → e ≡ s.exceptions → f ≡ t.exceptions → (m0.exceptions ≡ false → begin_alike e f ≡ true)
    → NotesMoves s m0 m' → NotesMoves t m0 m' → Marked m' (started s due) (started t due)
begun_marked m m0 m' s t due h first e f of_s of_t alike n n' =
    let a = moves_told (with_exceptions s (begun s.exceptions due)) in
    let b = moves_told (with_exceptions t (begun t.exceptions due)) in
    let all = grows_then m m0 m' first n.grows in
    record {
      sau = λ none. h.sau (all.all none);
      bytes = λ q shown unmarked. a.bytes q (n.beside q unmarked) ∙ h.bytes q shown (all.blocks (q / 32) unmarked) ∙ sym (b.bytes q (n'.beside q unmarked));
      exceptions = λ none.
          let pend : begin_alike s.exceptions t.exceptions ≡ true = (λ i. begin_alike (sym of_s i) (sym of_t i)) ∙ alike (n.grows.exceptions none) in
          let begin = begun_alike s.exceptions t.exceptions due (h.exceptions (all.exceptions none)) pend in
          let p = a.exceptions (n.exceptions none) in
          let q = b.exceptions (n'.exceptions none) in
          p ∙ begin ∙ ap (with_timers_of (begun s.exceptions due)) (sym q) ∙ ap (λ (z : ExceptionsValue). with_timers_of z (started t due).exceptions) (sym p);
    }

-- ---- a step

true_is_false : {P : Type 0} → true ≡ false → P
true_is_false e = cc

-- all may differ
pub marked_all : (m : Marks) (s t : State) → m.all ≡ true → m.exceptions ≡ true → Marked m s t
marked_all m s t all exceptions = record {
  sau = λ e. true_is_false (sym all ∙ e);
  bytes = λ a shown unmarked. true_is_false (sym all ∙ or_first m.all _ unmarked);
  exceptions = λ e. true_is_false (sym exceptions ∙ e);
}

-- of one machine, in which a step is noted, from what it begins with
record Moved (m m' : Marks) (s e : State) : Type 0 where
  pub sau : m'.all ≡ false → e.bus.sau ≡ s.bus.sau
  pub board : e.bus.board ≡ s.bus.board
  pub bytes : (a : ℕ) → marks_byte m' a ≡ false → get e.bus.memory a ≡ get s.bus.memory a
  pub exceptions : m'.exceptions ≡ false → e.exceptions ≡ with_timers_of e.exceptions s.exceptions

moved_step : (m m' : Marks) (s : State) (due : List ScriptEvent) (exceptional : Bool) → exceptional ≡ is_exceptional (step s due).state.core (ended (started s due)).ending.cause
    → Notes (ended (started s due)).stores exceptional (stacks_of s.core.run.side (step s due).state.core) m m' → Moved m m' (started s due) (step s due).state
moved_step m m' s due exceptional is n =
    let w = writes_told s due in
    record {
      sau = λ all. w.sau (n.all all);
      board = w.board;
      bytes = λ a unmarked.
          w.bytes a (n.beside a unmarked)
          (subst (λ t. (t && is_framed (stacks_of s.core.run.side (step s due).state.core) a) ≡ false) is (n.unframed a unmarked));
      exceptions = λ none. w.exceptions (n.exceptions none) (sym is ∙ n.plain none);
    }

marked_step : (m m' m'' : Marks) (s t : State) (due : List ScriptEvent) (x y : Bool) → Marked m (started s due) (started t due)
    → x ≡ is_exceptional (step s due).state.core (ended (started s due)).ending.cause → Notes (ended (started s due)).stores x (stacks_of s.core.run.side (step s due).state.core) m m'
    → y ≡ is_exceptional (step t due).state.core (ended (started t due)).ending.cause → Notes (ended (started t due)).stores y (stacks_of t.core.run.side (step t due).state.core) m' m''
    → Marked m'' (step s due).state (step t due).state
marked_step m m' m'' s t due x y h is n is' n' =
    let e = (step s due).state in
    let f = (step t due).state in
    let a = moved_step m m' s due x is n in
    let b = moved_step m' m'' t due y is' n' in
    let all = grows_then m m' m'' n.grows n'.grows in
    record {
      sau = λ none. a.sau (n'.grows.all none) ∙ h.sau (all.all none) ∙ sym (b.sau none);
      bytes = λ q shown unmarked.
          let none = n'.grows.all (or_first m''.all _ unmarked) in
          let map : map_of e ≡ map_of s = λ i. record { regions = (a.board i).regions; sau = a.sau none i } in
          a.bytes q (n'.grows.blocks (q / 32) unmarked) ∙ h.bytes q (subst (λ (z : MapState). is_open z q ≡ true) map shown) (all.blocks (q / 32) unmarked)
          ∙ sym (b.bytes q unmarked);
      exceptions = λ none.
          a.exceptions (n'.grows.exceptions none)
          ∙ ap (with_timers_of e.exceptions) (h.exceptions (all.exceptions none))
          ∙ sym (ap (with_timers_of e.exceptions) (b.exceptions none));
    }

-- what was noted of a step that left a state
pub record Noted (m m' : Marks) (s s' : State) (due : List ScriptEvent) : Type 0 where
  pub is : s' ≡ (step s due).state
  pub exceptional : Bool
  pub is_told : exceptional ≡ is_exceptional (step s due).state.core (ended (started s due)).ending.cause
  pub notes : Notes (ended (started s due)).stores exceptional (stacks_of s.core.run.side (step s due).state.core) m m'

-- by what it told
pub noted_step : (m m' : Marks) (s s' : State) (due : List ScriptEvent) (stores : List Store) (exceptional : Bool) (stacks : Stacks) → s' ≡ (step s due).state
    → stores ≡ (ended (started s due)).stores → exceptional ≡ is_exceptional (step s due).state.core (ended (started s due)).ending.cause → stacks ≡ stacks_of s.core.run.side s'.core
    → Notes stores exceptional stacks m m' → Noted m m' s s' due
noted_step m m' s s' due stores exceptional stacks is told is_told left n = record {
  is = is;
  exceptional = exceptional;
  is_told = is_told;
  notes = subst (λ (z : List Store). Notes z exceptional (stacks_of s.core.run.side (step s due).state.core) m m') told
      (subst (λ (z : Stacks). Notes stores exceptional z m m') (left ∙ ap (λ (z : State). stacks_of s.core.run.side z.core) is) n);
}

-- so what may differ of what two steps left is marked
pub marked_after : (m m' m'' : Marks) (s t s' t' : State) (due : List ScriptEvent) → Marked m (started s due) (started t due)
    → Noted m m' s s' due → Noted m' m'' t t' due → Marked m'' s' t'
marked_after m m' m'' s t s' t' due h n n' =
    subst (λ (z : State). Marked m'' z t') (sym n.is)
    (subst (λ (z : State). Marked m'' (step s due).state z) (sym n'.is)
    (marked_step m m' m'' s t due n.exceptional n'.exceptional h n.is_told n.notes n'.is_told n'.notes))
