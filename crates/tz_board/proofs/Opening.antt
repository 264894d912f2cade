-- One more event at the end of a script.
use Rattle.std.proofs.Common.{◌≡◌, ◌∙◌, ◌<◌, ◌≤◌, ℕ, zero, suc, refl, sym, ap, arith, true, nat_le, nat_lt, List, [], ◌∷◌, ◌++◌, append_assoc, length, map, get_or, take, ◌-◌, IsTrue}
use Rattle.std.proofs.lemmas.Bool.{and_from, and_parts, le-leb, leb-true, lt-ltb, ltb-true}
use Rattle.std.proofs.lemmas.List.{append-nil, length_push, nil_from_length, take_more}
use Rattle.std.proofs.Math.Seq.{take-length}
use Rattle.tz_model.specs.declared.report.ScriptEvent.{ScriptEvent}
use Rattle.tz_board.specs.Scripts.{Timed, follow, last_step, most_events}
use Rattle.tz_board.specs.Script.{IsKept, Opens, all_timed, ascend, have_events, is_below_all, steps_of, timed_of}
use Rattle.tz_board.specs.declared.script.Moment.{Moment}

steps_of-last : (ms : List Moment) (m : Moment) → steps_of (ms ++ m ∷ []) ≡ steps_of ms ++ m.step ∷ []
steps_of-last [] m = refl
steps_of-last (x ∷ ms) m = ap (λ (ss : List ℕ). x.step ∷ ss) (steps_of-last ms m)

all_timed-last : (ms : List Moment) (m : Moment) → all_timed (ms ++ m ∷ []) ≡ all_timed ms ++ timed_of m
all_timed-last [] m = append-nil (timed_of m)
all_timed-last (x ∷ ms) m = ap (λ (ts : List Timed). timed_of x ++ ts) (all_timed-last ms m) ∙ sym (append_assoc (timed_of x) (all_timed ms) (timed_of m))

have_events-last : (ms : List Moment) (m : Moment) → IsTrue (have_events (ms ++ m ∷ [])) → IsTrue (have_events ms) × (0 < length m.events.items)
have_events-last [] m h = (refl, ltb-true 0 (length m.events.items) (and_parts (nat_lt 0 (length m.events.items)) true h).0)
have_events-last (x ∷ ms) m h =
    let parts = and_parts (nat_lt 0 (length x.events.items)) (have_events (ms ++ m ∷ [])) h in
    let rest = have_events-last ms m parts.1 in
    (and_from (nat_lt 0 (length x.events.items)) (have_events ms) parts.0 rest.0, rest.1)

have_events-push : (ms : List Moment) (m : Moment) → IsTrue (have_events ms) → 0 < length m.events.items → IsTrue (have_events (ms ++ m ∷ []))
have_events-push [] m h some = and_from (nat_lt 0 (length m.events.items)) true (lt-ltb 0 (length m.events.items) some) refl
have_events-push (x ∷ ms) m h some =
    let parts = and_parts (nat_lt 0 (length x.events.items)) (have_events ms) h in
    and_from (nat_lt 0 (length x.events.items)) (have_events (ms ++ m ∷ [])) parts.0 (have_events-push ms m parts.1 some)

last_step-append : (d : ℕ) (xs ys : List Timed) → last_step d (xs ++ ys) ≡ last_step (last_step d xs) ys
last_step-append d [] ys = refl
last_step-append d (x ∷ xs) ys = last_step-append x.0 xs ys

last_step-same : (s : ℕ) (es : List ScriptEvent) → last_step s (map (λ e. (s, e)) es) ≡ s
last_step-same s [] = refl
last_step-same s (e ∷ es) = last_step-same s es

last_step-some : (d s : ℕ) (es : List ScriptEvent) → 0 < length es → last_step d (map (λ e. (s, e)) es) ≡ s
last_step-some d s [] h = absurd (omega arith)
last_step-some d s (e ∷ es) h = last_step-same s es

-- the last step of a script is that of its last moment
last_step-last : (ms : List Moment) (m : Moment) → 0 < length m.events.items → last_step 0 (all_timed (ms ++ m ∷ [])) ≡ m.step
last_step-last ms m h = rw (all_timed-last ms m) (last_step-append 0 (all_timed ms) (timed_of m) ∙ last_step-some (last_step 0 (all_timed ms)) m.step m.events.items h)

below_end : (x s : ℕ) (ss : List ℕ) → IsTrue (is_below_all x (ss ++ s ∷ [])) → x < s
below_end x s [] h = ltb-true x s (and_parts (nat_lt x s) true h).0
below_end x s (y ∷ ss) h = below_end x s ss (and_parts (nat_lt x y) (is_below_all x (ss ++ s ∷ [])) h).1

is_below_all-push : (x t : ℕ) (ss : List ℕ) → IsTrue (is_below_all x ss) → x < t → IsTrue (is_below_all x (ss ++ t ∷ []))
is_below_all-push x t [] h lt = and_from (nat_lt x t) true (lt-ltb x t lt) refl
is_below_all-push x t (y ∷ ss) h lt =
    let parts = and_parts (nat_lt x y) (is_below_all x ss) h in
    and_from (nat_lt x y) (is_below_all x (ss ++ t ∷ [])) parts.0 (is_below_all-push x t ss parts.1 lt)

ascend-push : (ss : List ℕ) (s t : ℕ) → IsTrue (ascend (ss ++ s ∷ [])) → s < t → IsTrue (ascend ((ss ++ s ∷ []) ++ t ∷ []))
ascend-push [] s t h lt = and_from (is_below_all s (t ∷ [])) true (is_below_all-push s t [] refl lt) refl
ascend-push (x ∷ ss) s t h lt =
    let parts = and_parts (is_below_all x (ss ++ s ∷ [])) (ascend (ss ++ s ∷ [])) h in
    let below : x < s = below_end x s ss parts.0 in
    and_from (is_below_all x ((ss ++ s ∷ []) ++ t ∷ [])) (ascend ((ss ++ s ∷ []) ++ t ∷ [])) (is_below_all-push x t (ss ++ s ∷ []) parts.0 (omega arith)) (ascend-push ss s t parts.1 lt)

follow-last : (d : ℕ) (xs : List Timed) (t : Timed) → IsTrue (follow d xs) → last_step d xs ≤ t.0 → IsTrue (follow d (xs ++ t ∷ []))
follow-last d [] t h le = and_from (nat_le d t.0) true (le-leb d t.0 le) refl
follow-last d (x ∷ xs) t h le =
    let parts = and_parts (nat_le d x.0) (follow x.0 xs) h in
    and_from (nat_le d x.0) (follow x.0 (xs ++ t ∷ [])) parts.0 (follow-last x.0 xs t parts.1 le)

-- the last moment is of the step
pub opens_last : (old new : List Moment) (step : ℕ) (m : Moment) → old ≡ new ++ m ∷ [] → IsKept old → m.step ≡ step → Opens old new step m
opens_last old new step m is kept same = record {
  step_is = same;
  events = ap all_timed is ∙ all_timed-last new m;
  ascending = rw (sym same) (rw (ap steps_of is ∙ steps_of-last new m) at kept.ascending);
  some_events = (have_events-last new m (rw is at kept.some_events)).0;
}

-- the last moment is of an earlier step, and a new one comes after it
pub opens_new : (old : List Moment) (ms : List Moment) (last m : Moment) (step : ℕ) → old ≡ ms ++ last ∷ [] → IsKept old → last_step 0 (all_timed old) ≤ step → (last.step ≡ step → ⊥) → m.step ≡ step → m.events.items ≡ [] → Opens old old step m
opens_new old ms last m step is kept order other step_is none =
    let some = (have_events-last ms last (rw is at kept.some_events)).1 in
    let ends : last_step 0 (all_timed old) ≡ last.step = ap (λ (xs : List Moment). last_step 0 (all_timed xs)) is ∙ last_step-last ms last some in
    let same : steps_of old ≡ steps_of ms ++ last.step ∷ [] = ap steps_of is ∙ steps_of-last ms last in
    record {
      step_is = step_is;
      events = rw none (sym (append-nil (all_timed old)));
      ascending = rw same (ascend-push (steps_of ms) last.step step (rw same at kept.ascending) (omega arith));
      some_events = kept.some_events;
    }

map-push : (s : ℕ) (es : List ScriptEvent) (e : ScriptEvent) → map {B = Timed} (λ x. (s, x)) (es ++ e ∷ []) ≡ map {B = Timed} (λ x. (s, x)) es ++ (s, e) ∷ []
map-push s [] e = refl
map-push s (x ∷ es) e = ap (λ (ts : List Timed). (s, x) ∷ ts) (map-push s es e)

-- the script with one more event
pub all_timed-push : (old new : List Moment) (step : ℕ) (m n : Moment) (e : ScriptEvent) → Opens old new step m → n.step ≡ m.step → n.events.items ≡ m.events.items ++ e ∷ [] → all_timed (new ++ n ∷ []) ≡ all_timed old ++ (step, e) ∷ []
all_timed-push old new step m n e opens same more =
    let last : timed_of n ≡ timed_of m ++ (step, e) ∷ [] =
    rw (same, more) (map-push m.step m.events.items e ∙ ap (λ (s : ℕ). timed_of m ++ (s, e) ∷ []) opens.step_is) in
    all_timed-last new n ∙ ap (λ (ts : List Timed). all_timed new ++ ts) last
    ∙ sym (append_assoc (all_timed new) (timed_of m) ((step, e) ∷ []))
    ∙ ap (λ (ts : List Timed). ts ++ (step, e) ∷ []) (sym opens.events)

pub kept_push : (old new : List Moment) (step : ℕ) (m n : Moment) (e : ScriptEvent) → Opens old new step m → IsKept old → length (all_timed old) < most_events → last_step 0 (all_timed old) ≤ step → n.step ≡ m.step → n.events.items ≡ m.events.items ++ e ∷ [] → IsKept (new ++ n ∷ [])
kept_push old new step m n e opens kept room order same more =
    let all = all_timed-push old new step m n e opens same more in
    record {
      ascending = rw (steps_of-last new n, same, opens.step_is) opens.ascending;
      some_events = have_events-push new n opens.some_events (rw more (omega (arith, length_push m.events.items e)));
      script = record {
        few = rw all (le-leb (length (all_timed old ++ (step, e) ∷ [])) most_events (omega (arith, length_push (all_timed old) (step, e))));
        in_order = rw all (follow-last 0 (all_timed old) (step, e) kept.script.in_order order);
      };
    }

-- the last moment of a script has its last step
pub last_moment : (ms : List Moment) (m : Moment) → IsKept ms → 0 < length ms → m ≡ get_or ms (length ms - 1) m → last_step 0 (all_timed ms) ≡ m.step
last_moment ms m kept some at =
    let front : ms ≡ take (length ms - 1) ms ++ m ∷ [] =
    sym (take-length ms) ∙ ap (λ (k : ℕ). take k ms) (omega arith) ∙ take_more ms (length ms - 1) m (omega arith) ∙ ap (λ (x : Moment). take (length ms - 1) ms ++ x ∷ []) (sym at) in
    let has = (have_events-last (take (length ms - 1) ms) m (rw front at kept.some_events)).1 in
    ap (λ (xs : List Moment). last_step 0 (all_timed xs)) front ∙ last_step-last (take (length ms - 1) ms) m has

-- the events before one in order are not after it
pub follow-at : (d : ℕ) (ts : List Timed) (i : ℕ) (t : Timed) → IsTrue (follow d ts) → i < length ts → last_step d (take i ts) ≤ (get_or ts i t).0
follow-at d [] i t h lt = absurd (omega arith)
follow-at d (x ∷ ts) zero t h lt = leb-true d x.0 (and_parts (nat_le d x.0) (follow x.0 ts) h).0
follow-at d (x ∷ ts) (suc i) t h lt = follow-at x.0 ts i t (and_parts (nat_le d x.0) (follow x.0 ts) h).1 (omega arith)

pub no_moment : (ms : List Moment) → length ms ≤ 0 → last_step 0 (all_timed ms) ≡ 0
no_moment ms h = let none : ms ≡ [] = nil_from_length ms (omega arith) in rw none
