-- Steps and runs from linked states.
use Rattle.std.proofs.Common.{◌≡◌, ℕ, zero, suc, ◌+◌, ◌<◌, ◌↔◌, List, Option, Some, None, refl, sym, ap, ◌∙◌, subst, arith}
use Rattle.tz_model.specs.declared.report.ScriptEvent.{ScriptEvent}
use Rattle.tz_model.specs.declared.report.View.TheVariants.{Ns}
use Rattle.tz_model.specs.declared.report.Way.{Way}
use Rattle.tz_model.specs.Board.{BoardValue}
use Rattle.tz_model.specs.Image.{ImageValue}
use Rattle.tz_state.specs.State.{State}
use Rattle.tz_sem.specs.Boot.{boot}
use Rattle.tz_sem.specs.Step.{step, started}
use Rattle.tz_sem.specs.Run.{Events, state_after}
use Rattle.tz_text.specs.Line.{line}
use Rattle.tz_twin.specs.Seen.{crossing, Agree, seen}
use Rattle.tz_twin.proofs.TwoRuns.{Linked, linked_step, boot_seen, seen_started}
use Rattle.tz_iso.specs.declared.answer.What.{What}
use Rattle.tz_iso.specs.What.{what_by, what_of}
use Rattle.tz_iso.specs.Runs.{IsLinked, found_at, difference, what_at}
use Rattle.tz_iso.proofs.Boards.{same_boards}
use Rattle.tz_iso.proofs.Told.{same_crossing, none_crossing}

-- ---- one step

pub linked_boots : (b : BoardValue) (secure other nonsecure : ImageValue) → IsLinked (boot b secure nonsecure) (boot b other nonsecure)
linked_boots b secure other nonsecure = boot_seen b secure nonsecure ∙ sym (boot_seen b other nonsecure)

-- both steps end on the same board
pub boards_stepped : (s t : State) (due : List ScriptEvent) → IsLinked s t → (step s due).state.bus.board ≡ (step t due).state.bus.board
boards_stepped s t due linked = same_boards (started s due) (started t due) (seen_started s t due linked)

pub crossings_same : (s t : State) (due : List ScriptEvent) → IsLinked s t → what_of (step s due) (step t due) ≡ None → crossing (step s due) ≡ crossing (step t due)
crossings_same s t due linked e = same_crossing s t due (λ i. (boards_stepped s t due linked i).regions) e

-- what steps that cross alike leave
pub linked_alike : (k : ℕ) (s t : State) (due : List ScriptEvent) → IsLinked s t → crossing (step s due) ≡ crossing (step t due) → Linked k (step s due) (step t due)
linked_alike k s t due linked same = linked_step k (started s due) (started t due) (seen_started s t due linked) same

-- by what the steps leave and tell: they end on boards with the same regions
pub regions_stepped : (s t : State) (due : List ScriptEvent) (s' t' : State) → IsLinked s t → s' ≡ (step s due).state → t' ≡ (step t due).state → s'.bus.board.regions ≡ t'.bus.board.regions
regions_stepped s t due s' t' linked e h =
    (λ i. (e i).bus.board.regions) ∙ (λ i. (boards_stepped s t due linked i).regions) ∙ (λ i. (sym h i).bus.board.regions)

-- and what differs first
pub what_stepped : (s t : State) (due : List ScriptEvent) (s' t' : State) (way other : Option Way) → s' ≡ (step s due).state → way ≡ (step s due).report.way
    → t' ≡ (step t due).state → other ≡ (step t due).report.way → what_by way other s' t' ≡ what_of (step s due) (step t due)
what_stepped s t due s' t' way other e told h told' = λ i. what_by (told i) (told' i) (e i) (h i)

-- nothing differs exactly where they cross alike
pub exact_stepped : (s t : State) (due : List ScriptEvent) (what : Option What) → IsLinked s t → what ≡ what_of (step s due) (step t due)
    → what ≡ None ↔ crossing (step s due) ≡ crossing (step t due)
exact_stepped s t due what linked e =
    (λ none. crossings_same s t due linked (sym e ∙ none), λ same. e ∙ none_crossing s t due same)

kept : (s t : State) (due : List ScriptEvent) (what : Option What) → IsLinked s t → what ≡ what_of (step s due) (step t due) → what ≡ None → (k : ℕ) → Linked k (step s due) (step t due)
kept s t due what linked e none k = linked_alike k s t due linked (crossings_same s t due linked (sym e ∙ none))

-- where nothing differs, their lines are the same
pub lines_stepped : (s t : State) (due : List ScriptEvent) (what : Option What) → IsLinked s t → what ≡ what_of (step s due) (step t due) → what ≡ None → (k : ℕ)
    → line Ns k (step s due).report ≡ line Ns k (step t due).report
lines_stepped s t due what linked e none k = (kept s t due what linked e none k).line

-- and they leave linked states
pub linked_stepped : (s t : State) (due : List ScriptEvent) (s' t' : State) (what : Option What) → IsLinked s t → s' ≡ (step s due).state → t' ≡ (step t due).state
    → what ≡ what_of (step s due) (step t due) → what ≡ None → IsLinked s' t'
linked_stepped s t due s' t' what linked e h told none =
    (λ i. seen (e i)) ∙ (kept s t due what linked told none 0).seen ∙ (λ i. seen (sym h i))

pub linked_starts : (b : BoardValue) (secure other nonsecure : ImageValue) (s t : State) → s ≡ boot b secure nonsecure → t ≡ boot b other nonsecure → IsLinked s t
linked_starts b secure other nonsecure s t e h = ap seen e ∙ linked_boots b secure other nonsecure ∙ sym (ap seen h)

-- ---- runs

none_found : (k : ℕ) (what : Option What) (later : Option (ℕ × What)) → found_at k what later ≡ None → (what ≡ None) × (later ≡ None)
none_found k None later e = (refl, e)
none_found k (Some what) later e = cc

pub agree_of : (events : Events) (n k : ℕ) (s t : State) → IsLinked s t → difference events k s t n ≡ None → Agree events k s t n
agree_of events zero k s t linked e = tt
agree_of events (suc n) k s t linked e =
    let h = none_found k (what_of (step s (events k)) (step t (events k))) _ e in
    let same = crossings_same s t (events k) linked h.0 in
    (same, agree_of events n (k + 1) (step s (events k)).state (step t (events k)).state (linked_alike k s t (events k) linked same).seen h.1)

pub none_of : (events : Events) (n k : ℕ) (s t : State) → IsLinked s t → Agree events k s t n → difference events k s t n ≡ None
none_of events zero k s t linked agree = refl
none_of events (suc n) k s t linked agree =
    rw (none_crossing s t (events k) agree.0)
    (none_of events n (k + 1) (step s (events k)).state (step t (events k)).state (linked_alike k s t (events k) linked agree.0).seen agree.1)

-- the first step that differs, of runs that are here at step k
record First (events : Events) (n k : ℕ) (s t : State) (i : ℕ) (what : What) : Type 0 where
  pub before : ℕ
  pub is : i ≡ k + before
  pub below : before < n
  pub agree : Agree events k s t before
  pub differs : what_of (step (state_after events k s before) (events i)) (step (state_after events k t before) (events i)) ≡ Some what

number_found : ℕ → Option (ℕ × What) → ℕ
number_found other None = other
number_found other (Some found) = found.0

what_found : What → Option (ℕ × What) → What
what_found other None = other
what_found other (Some found) = found.1

-- it is this one
first_here : (events : Events) (n k : ℕ) (s t : State) (i : ℕ) (what here : What) (later : Option (ℕ × What)) → what_of (step s (events k)) (step t (events k)) ≡ Some here
    → found_at k (Some here) later ≡ Some (i, what) → First events (suc n) k s t i what
unfolding number_found what_found
first_here events n k s t i what here later e h =
    let number : k ≡ i = ap (number_found k) h in
    let same : here ≡ what = ap (what_found here) h in
    record {
      before = zero;
      is = sym number ∙ omega arith;
      below = omega arith;
      agree = tt;
      differs = subst (λ (j : ℕ). what_of (step s (events j)) (step t (events j)) ≡ Some what) number (e ∙ ap Some same);
    }

-- it is a later one
first_later : (events : Events) (n k : ℕ) (s t : State) (i : ℕ) (what : What) → crossing (step s (events k)) ≡ crossing (step t (events k))
    → First events n (k + 1) (step s (events k)).state (step t (events k)).state i what → First events (suc n) k s t i what
first_later events n k s t i what same h =
    let is = h.is in
    let below = h.below in
    record {
      before = suc h.before;
      is = omega arith;
      below = omega arith;
      agree = (same, h.agree);
      differs = h.differs;
    }

-- by what differs here; `after` is of the steps after this one
first_by : (events : Events) (n k : ℕ) (s t : State) (i : ℕ) (what : What) (here : Option What) (later : Option (ℕ × What)) → IsLinked s t
    → what_of (step s (events k)) (step t (events k)) ≡ here → found_at k here later ≡ Some (i, what)
    → (crossing (step s (events k)) ≡ crossing (step t (events k)) → later ≡ Some (i, what) → First events n (k + 1) (step s (events k)).state (step t (events k)).state i what)
    → First events (suc n) k s t i what
first_by events n k s t i what (Some here) later linked is e after = first_here events n k s t i what here later is e
first_by events n k s t i what None later linked is e after =
    let same = crossings_same s t (events k) linked is in first_later events n k s t i what same (after same e)

first_from : (events : Events) (n k : ℕ) (s t : State) → IsLinked s t → (i : ℕ) (what : What) → difference events k s t n ≡ Some (i, what) → First events n k s t i what
first_from events zero k s t linked i what e = cc
first_from events (suc n) k s t linked i what e =
    first_by events n k s t i what (what_of (step s (events k)) (step t (events k))) _ linked refl e
    (λ same h. first_from events n (k + 1) (step s (events k)).state (step t (events k)).state (linked_alike k s t (events k) linked same).seen i what h)

pub first_of : (events : Events) (n j : ℕ) (what : What) (s t : State) → IsLinked s t → difference events 0 s t n ≡ Some (j, what)
    → (j < n) × Agree events 0 s t j × (what_at events s t j ≡ Some what)
first_of events n j what s t linked e =
    let h = first_from events n 0 s t linked j what e in
    let is : h.before ≡ j = go h.before j h.is in (
      subst (λ (i : ℕ). i < n) is h.below,
      subst (λ (i : ℕ). Agree events 0 s t i) is h.agree,
      subst (λ (i : ℕ). what_of (step (state_after events 0 s i) (events j)) (step (state_after events 0 t i) (events j)) ≡ Some what) is h.differs,
    )
  where
    go : (i j : ℕ) → j ≡ 0 + i → i ≡ j
    go i j e = omega arith
