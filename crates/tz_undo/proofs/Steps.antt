-- A step forth and a step back of a ring of notes, as what they are of the states before.
use Rattle.std.proofs.Common.{◌≡◌, ℕ, zero, suc, ◌+◌, ◌<◌, ◌≤◌, not, true, false, List, [], ◌∷◌, length, take, set, get_or, refl, sym, ap, ◌∙◌, subst}
use Rattle.std.proofs.lemmas.List.{length-set}
use Rattle.tz_state.specs.State.{State}
use Rattle.tz_core.specs.Undo.{NoteValue, undo_of}
use Rattle.tz_model.specs.declared.report.ScriptEvent.{ScriptEvent}
use Rattle.tz_sem.specs.Step.{step}
use Rattle.tz_undo.specs.History.{HistoryValue, befores, stepped, backed, is_at_start}
use Rattle.tz_undo.specs.Ring.{place_after, place_before, standing}
use Rattle.tz_undo.proofs.Ring.{one_more, one_over, one_less, length_standing}

-- a ring of notes with the state that they lead to, as a history
abbrev pub ring_value : List NoteValue → ℕ → ℕ → State → HistoryValue
ring_value notes next count s = record { now = s; kept = length notes; before = befores (standing notes next count) s }

befores_take : (n : ℕ) (ns : List NoteValue) (s : State) → befores (take n ns) s ≡ take n (befores ns s)
unfolding befores
befores_take zero ns s = refl
befores_take (suc n) [] s = refl
befores_take (suc n) (x ∷ ns) s = ap (λ l. undo_of x s ∷ l) (befores_take n ns (undo_of x s))

-- with the note of a step from s to s'
befores_onto : (k : ℕ) (x : NoteValue) (ns : List NoteValue) (s s' : State) → undo_of x s' ≡ s → befores (take k (x ∷ ns)) s' ≡ take k (s ∷ befores ns s)
unfolding befores
befores_onto k x ns s s' e = befores_take k (x ∷ ns) s' ∙ ap (λ r. take k (r ∷ befores ns r)) e

stepped_by : (notes notes' : List NoteValue) (next next' count count' : ℕ) (x : NoteValue) (s s' : State) (due : List ScriptEvent) (h : HistoryValue)
    → ring_value notes next count s ≡ h → (step s due).state ≡ s' → undo_of x s' ≡ s → length notes' ≡ length notes
    → standing notes' next' count' ≡ take (length notes) (x ∷ standing notes next count)
    → ring_value notes' next' count' s' ≡ stepped h due
stepped_by notes notes' next next' count count' x s s' due h is goes undoes len stands =
    subst (λ (v : HistoryValue). ring_value notes' next' count' s' ≡ stepped v due) is
    (λ i. record {
      now = sym goes i;
      kept = len i;
      before = (ap (λ ns. befores ns s') stands ∙ befores_onto (length notes) x (standing notes next count) s s' undoes) i;
    })

-- a step whose note has room
pub step_more : (notes : List NoteValue) (next count : ℕ) (x : NoteValue) (s s' : State) (due : List ScriptEvent) (h : HistoryValue)
    → next < length notes → count < length notes → ring_value notes next count s ≡ h → (step s due).state ≡ s' → undo_of x s' ≡ s
    → ring_value (set notes next x) (place_after (length notes) next) (count + 1) s' ≡ stepped h due
step_more notes next count x s s' due h fits room is goes undoes =
    stepped_by notes (set notes next x) next (place_after (length notes) next) count (count + 1) x s s' due h is goes undoes (length-set notes next x)
    (one_more notes next count x fits room)

-- a step whose note takes the place of the oldest
pub step_over : (notes : List NoteValue) (next count : ℕ) (x : NoteValue) (s s' : State) (due : List ScriptEvent) (h : HistoryValue)
    → next < length notes → count ≡ length notes → ring_value notes next count s ≡ h → (step s due).state ≡ s' → undo_of x s' ≡ s
    → ring_value (set notes next x) (place_after (length notes) next) count s' ≡ stepped h due
step_over notes next count x s s' due h fits full is goes undoes =
    stepped_by notes (set notes next x) next (place_after (length notes) next) count count x s s' due h is goes undoes (length-set notes next x)
    (one_over notes next count x fits full)

-- no step to take back
pub back_none : (notes : List NoteValue) (next count : ℕ) (s : State) (h : HistoryValue) → count ≡ 0 → ring_value notes next count s ≡ h → h ≡ backed h
unfolding befores
back_none notes next count s h none is = subst (λ (v : HistoryValue). v ≡ backed v) is (rw none refl)

pub back_known_none : (notes : List NoteValue) (next count : ℕ) (s : State) (h : HistoryValue) → count ≡ 0 → ring_value notes next count s ≡ h → false ≡ not (is_at_start h)
unfolding befores
back_known_none notes next count s h none is = subst (λ (v : HistoryValue). false ≡ not (is_at_start v)) is (rw none refl)

-- one step taken back
before_one : (notes : List NoteValue) (next count : ℕ) (d : NoteValue) (s : State) → next < length notes → count < length notes
    → ring_value notes next (suc count) s ≡ record {
      now = s;
      kept = length notes;
      before = undo_of (get_or notes (place_before (length notes) next) d) s ∷ befores (standing notes (place_before (length notes) next) count) (undo_of (get_or notes (place_before (length notes) next) d) s);
    }
unfolding befores
before_one notes next count d s fits room = λ i. record { now = s; kept = length notes; before = befores (one_less notes next count d fits room i) s }

pub back_one : (notes : List NoteValue) (next count : ℕ) (x : NoteValue) (s s' : State) (h : HistoryValue) → next < length notes → count < length notes
    → x ≡ get_or notes (place_before (length notes) next) x → s' ≡ undo_of x s → ring_value notes next (suc count) s ≡ h
    → ring_value notes (place_before (length notes) next) count s' ≡ backed h
back_one notes next count x s s' h fits room there undoes is =
    subst (λ (v : HistoryValue). ring_value notes (place_before (length notes) next) count s' ≡ backed v) (sym (before_one notes next count x s fits room) ∙ is)
    (ap (ring_value notes (place_before (length notes) next) count) (undoes ∙ ap (λ n. undo_of n s) there))

pub back_known : (notes : List NoteValue) (next count : ℕ) (d : NoteValue) (s : State) (h : HistoryValue) → next < length notes → count < length notes
    → ring_value notes next (suc count) s ≡ h → true ≡ not (is_at_start h)
back_known notes next count d s h fits room is =
    subst (λ (v : HistoryValue). true ≡ not (is_at_start v)) (sym (before_one notes next count d s fits room) ∙ is) refl

-- ---- how many

length_befores : (ns : List NoteValue) (s : State) → length (befores ns s) ≡ length ns
unfolding befores
length_befores [] s = refl
length_befores (n ∷ ns) s = ap suc (length_befores ns (undo_of n s))

pub ring_count : (notes : List NoteValue) (next count : ℕ) (s : State) → count ≤ length notes → length (ring_value notes next count s).before ≡ count
ring_count notes next count s few = length_befores (standing notes next count) s ∙ length_standing notes next count few
