-- How many events are due in the first steps: each counts once, where its step is among them.
use Rattle.std.proofs.Common.{◌≡◌, ℕ, zero, suc, ◌+◌, ◌==◌, ◌≤◌, Bool, true, false, cond, List, [], ◌∷◌, length, map, filter, refl, ap, arith}
use Rattle.std.specs.Prelude.{nat_le, nat_lt, IsTrue}
use Rattle.std.proofs.lemmas.Bool.Decides.{nat_tests}
use Rattle.tz_model.specs.declared.report.ScriptEvent.TheVariants.{Irq}
use Rattle.tz_board.specs.Scripts.{Timed, due_at}
use Rattle.tz_run.specs.Generated.{stirred, gap, irqs_from, generated_events}
use Rattle.tz_run.proofs.Drawing.{generated_script}
use Rattle.tz_cli.specs.Summary.{due_before}

abbrev one_if : Bool → ℕ
one_if b = cond b 1 0

due_more : (k : ℕ) (t : Timed) (ts : List Timed) → length (due_at k (t ∷ ts)) ≡ one_if (t.0 == k) + length (due_at k ts)
unfolding due_at
due_more k t ts = by_test (t.0 == k)
  where
    rest : List Timed
    rest = filter (λ (x : Timed). x.0 == k) ts

    by_test : (b : Bool) → length (map (λ (x : Timed). x.1) (cond b (t ∷ rest) rest)) ≡ one_if b + length (map (λ (x : Timed). x.1) rest)
    by_test true = omega arith
    by_test false = omega arith

one_more : (m n : ℕ) → one_if (nat_lt m (suc n)) ≡ one_if (nat_lt m n) + one_if (m == n)
one_more m n = grind (arith, nat_tests)

none_below : (m : ℕ) → one_if (nat_lt m zero) ≡ 0
none_below m = grind (arith, nat_tests)

before_more : (n : ℕ) (t : Timed) (ts : List Timed) → due_before n (t ∷ ts) ≡ one_if (nat_lt t.0 n) + due_before n ts
unfolding due_before
before_more zero t ts = let none = none_below t.0 in omega (arith, none)
before_more (suc n) t ts =
    let before = before_more n t ts in
    let now = due_more n t ts in
    let one = one_more t.0 n in
    omega (arith, before, now, one)

before_none : (n : ℕ) → due_before n [] ≡ 0
unfolding due_before due_at
before_none zero = refl
before_none (suc n) = let before = before_none n in omega (arith, before)

at_most_one : (b : Bool) → one_if b ≤ 1
at_most_one true = omega arith
at_most_one false = omega arith

-- no more than there are
pub due_within : (n : ℕ) (ts : List Timed) → due_before n ts ≤ length ts
due_within n [] = let none = before_none n in omega (arith, none)
due_within n (t ∷ ts) =
    let more = before_more n t ts in
    let one = at_most_one (nat_lt t.0 n) in
    let rest = due_within n ts in
    omega (arith, more, one, rest)

-- a step more
pub due_next : (n : ℕ) (ts : List Timed) → due_before (n + 1) ts ≡ due_before n ts + length (due_at n ts)
unfolding due_before
due_next n ts = let next : n + 1 ≡ suc n = omega arith in ap (λ (k : ℕ). due_before k ts) next

pub due_start : (ts : List Timed) → due_before 0 ts ≡ 0
unfolding due_before
due_start ts = refl

-- the events of a job are all before its last step
irqs_due : (left x last steps : ℕ) → due_before steps (irqs_from left x last steps) ≡ length (irqs_from left x last steps)
unfolding irqs_from
irqs_due zero x last steps = before_none steps
irqs_due (suc left) x last steps = by_test (nat_lt (last + gap x) steps) refl (irqs_due left (stirred x) (last + gap x) steps)
  where
    rest : List Timed
    rest = irqs_from left (stirred x) (last + gap x) steps

    by_test : (b : Bool) → nat_lt (last + gap x) steps ≡ b → due_before steps rest ≡ length rest
        → due_before steps (cond b ((last + gap x, Irq 0) ∷ rest) []) ≡ length (cond b ((last + gap x, Irq 0) ∷ rest) [])
    by_test true is h =
        let more = before_more steps (last + gap x, Irq 0) rest in
        let one = ap one_if is in
        omega (arith, more, one, h)
    by_test false is h = before_none steps

pub generated_due : (seed steps : ℕ) → due_before steps (generated_events seed steps) ≡ length (generated_events seed steps)
unfolding generated_events
generated_due seed steps = irqs_due 10000 (stirred (stirred seed)) 0 steps

few_by : (n m : ℕ) → IsTrue (nat_le n m) → n ≤ m
few_by n m h = grind (arith, nat_tests)

pub generated_few : (seed steps : ℕ) → length (generated_events seed steps) ≤ 10000
generated_few seed steps = few_by (length (generated_events seed steps)) 10000 (generated_script seed steps).few
