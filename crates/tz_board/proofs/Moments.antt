-- Scripts as they are kept: what is due, and one more event.
use Rattle.std.proofs.Common.{◌≡◌, ◌∙◌, inl, inr, sym, ◌<◌, ◌≤◌, ℕ, zero, suc, refl, ap, arith, nat_lt, List, [], ◌∷◌, ◌++◌, length, get_or, map, IsTrue}
use Rattle.std.proofs.lemmas.Bool.{and_parts, cases_lt, eq-eqb, ltb-true, ne_eqb}
use Rattle.std.proofs.lemmas.List.{append-nil, length-append, length-map}
use Rattle.tz_model.specs.declared.report.ScriptEvent.{ScriptEvent}
use Rattle.tz_board.specs.Scripts.{Timed, due_at}
use Rattle.tz_board.specs.Script.{all_timed, ascend, have_events, is_below_all, steps_of, timed_of}
use Rattle.tz_board.specs.declared.script.Moment.{Moment}
use Rattle.tz_board.proofs.Halving.{all_above, below_all-at, length-steps_of, steps_of-at}

-- the events of a step among those of one step
due_at-same : (step s : ℕ) (es : List ScriptEvent) (more : List Timed) → s ≡ step → due_at step (map (λ e. (s, e)) es ++ more) ≡ es ++ due_at step more
unfolding due_at
due_at-same step s [] more h = refl
due_at-same step s (e ∷ es) more h = rw (eq-eqb s step h) (ap (λ (ys : List ScriptEvent). e ∷ ys) (due_at-same step s es more h))

due_at-other : (step s : ℕ) (es : List ScriptEvent) (more : List Timed) → (s ≡ step → ⊥) → due_at step (map (λ e. (s, e)) es ++ more) ≡ due_at step more
unfolding due_at
due_at-other step s [] more h = refl
due_at-other step s (e ∷ es) more h = rw (ne_eqb s step h) (due_at-other step s es more h)

-- no moment has the step
pub due_at-none : (step : ℕ) (ms : List Moment) → ((k : ℕ) → k < length ms → get_or (steps_of ms) k 0 ≡ step → ⊥) → due_at step (all_timed ms) ≡ []
unfolding due_at
due_at-none step [] h = refl
due_at-none step (m ∷ ms) h =
    due_at-other step m.step m.events.items (all_timed ms) (h 0 (omega arith)) ∙ due_at-none step ms (λ k lt. h (suc k) (omega arith))

-- the moment that has the step
pub due_at-found : (step : ℕ) (ms : List Moment) (i : ℕ) (d : Moment) → IsTrue (ascend (steps_of ms)) → i < length ms → get_or (steps_of ms) i 0 ≡ step → due_at step (all_timed ms) ≡ (get_or ms i d).events.items
due_at-found step [] i d up lt h = absurd (omega arith)
due_at-found step (m ∷ ms) zero d up lt h =
    let above = (and_parts (is_below_all m.step (steps_of ms)) (ascend (steps_of ms)) up).0 in
    let none : due_at step (all_timed ms) ≡ [] =
    due_at-none step ms (λ k within is. let later : m.step < get_or (steps_of ms) k 0 = below_all-at m.step (steps_of ms) k above (omega (arith, length-steps_of ms)) in omega arith) in
    due_at-same step m.step m.events.items (all_timed ms) h ∙ rw none (append-nil m.events.items)
due_at-found step (m ∷ ms) (suc i) d up lt h =
    let parts = and_parts (is_below_all m.step (steps_of ms)) (ascend (steps_of ms)) up in
    let later : m.step < get_or (steps_of ms) i 0 = below_all-at m.step (steps_of ms) i parts.0 (omega (arith, length-steps_of ms)) in
    due_at-other step m.step m.events.items (all_timed ms) (λ is. omega arith) ∙ due_at-found step ms i d parts.1 (omega arith) h

-- each moment has an event, so there are no more moments than events
pub moments_few : (ms : List Moment) → IsTrue (have_events ms) → length ms ≤ length (all_timed ms)
moments_few [] h = omega arith
moments_few (m ∷ ms) h =
    let parts = and_parts (nat_lt 0 (length m.events.items)) (have_events ms) h in
    let some : 0 < length m.events.items = ltb-true 0 (length m.events.items) parts.0 in
    let here : length (timed_of m) ≡ length m.events.items = length-map m.events.items (λ (e : ScriptEvent). (m.step, e)) in
    omega (arith, moments_few ms parts.1, length-append (timed_of m) (all_timed ms))

-- between a step and the moment after it there is none
pub none_between : (ms : List Moment) (i step k : ℕ) → ((j : ℕ) → j < i → get_or (steps_of ms) j 0 ≤ step) → step < k → ((j : ℕ) → i ≤ j → j < length ms → k < get_or (steps_of ms) j 0)
    → due_at k (all_timed ms) ≡ []
none_between ms i step k before above after = due_at-none k ms (λ j within is. elim (cases_lt j i) [
  | inl early ↦ let low = before j early in omega (arith, low, is, above)
  | inr late ↦ let high = after j late within in omega (arith, high, is)
])

-- the moments from one that is above a step on are above it
pub later_above : (ms : List Moment) (i j k : ℕ) (d : Moment) → IsTrue (ascend (steps_of ms)) → i ≤ j → j < length ms → k < (get_or ms i d).step → k < get_or (steps_of ms) j 0
later_above ms i j k d up from within under =
    let here : get_or (steps_of ms) i 0 ≡ (get_or ms i d).step = steps_of-at ms i d (omega (arith, from, within)) in
    all_above ms k i up (rw here under) j from within

-- a moment has events
pub some_at : (ms : List Moment) (i : ℕ) (d : Moment) → IsTrue (have_events ms) → i < length ms → 0 < length (get_or ms i d).events.items
some_at [] i d h within = absurd (omega (arith, within))
some_at (m ∷ ms) zero d h within = ltb-true 0 (length m.events.items) (and_parts (nat_lt 0 (length m.events.items)) (have_events ms) h).0
some_at (m ∷ ms) (suc i) d h within = some_at ms i d (and_parts (nat_lt 0 (length m.events.items)) (have_events ms) h).1 (omega (arith, within))

none_is_some : {A : Type 0} (xs : List A) → xs ≡ [] → 0 < length xs → ⊥
none_is_some [] e h = omega (arith, h)
none_is_some (x ∷ xs) e h = cc

-- so at its step events are due
pub due_there : (ms : List Moment) (i : ℕ) (d : Moment) → IsTrue (ascend (steps_of ms)) → IsTrue (have_events ms) → i < length ms → due_at (get_or ms i d).step (all_timed ms) ≡ [] → ⊥
due_there ms i d up some within none =
    none_is_some (get_or ms i d).events.items (sym (due_at-found (get_or ms i d).step ms i d up within (steps_of-at ms i d within)) ∙ none) (some_at ms i d some within)
