-- The events of a job, drawn one after another.
use Rattle.std.proofs.Common.{◌≡◌, ℕ, zero, suc, ◌+◌, ◌*◌, ◌-◌, ◌%◌, ◌<◌, ◌≤◌, Bool, true, false, ◌&&◌, cond, List, [], ◌∷◌, ◌++◌, length, refl, sym, ap, ◌∙◌, arith, append_assoc, append-nil, subst}
use Rattle.std.specs.Prelude.{nat_le, nat_lt}
use Rattle.std.proofs.lemmas.Bool.Decides.{nat_tests}
use Rattle.tz_model.specs.declared.report.ScriptEvent.TheVariants.{Irq}
use Rattle.tz_board.specs.Scripts.{Timed, IsScript, follow}
use Rattle.tz_run.specs.Generated.{stirred, drawn, gap, irqs_from, generated_events}

-- with so many events to come, those that are drawn and those that are left are all
pub record Drawn (seed steps : ℕ) (events : List Timed) (x last left : ℕ) : Type 0 where
  pub all : events ++ irqs_from left x last steps ≡ irqs_from 10000 (stirred (stirred seed)) 0 steps
  pub low : last + 113 * left ≤ 1130000

pub drawn_start : (seed steps : ℕ) (events : List Timed) (x : ℕ) → events ≡ [] → x ≡ stirred (stirred seed) → Drawn seed steps events x 0 10000
drawn_start seed steps events x none first = record {
  all = ap (λ (ts : List Timed). ts ++ irqs_from 10000 x 0 steps) none ∙ ap (λ (n : ℕ). irqs_from 10000 n 0 steps) first;
  low = omega arith;
}

irq_comes : (left x last steps : ℕ) → last + gap x < steps → irqs_from (suc left) x last steps ≡ (last + gap x, Irq 0) ∷ irqs_from left (stirred x) (last + gap x) steps
unfolding irqs_from
irq_comes left x last steps l =
    let is : nat_lt (last + gap x) steps ≡ true = grind (arith, nat_tests, l) in
    ap (λ (t : Bool). cond t ((last + gap x, Irq 0) ∷ irqs_from left (stirred x) (last + gap x) steps) []) is

no_irq : (left x last steps : ℕ) → steps ≤ last + gap x → irqs_from left x last steps ≡ []
unfolding irqs_from
no_irq zero x last steps l = refl
no_irq (suc left) x last steps l =
    let isnt : nat_lt (last + gap x) steps ≡ false = grind (arith, nat_tests, l) in
    ap (λ (t : Bool). cond t ((last + gap x, Irq 0) ∷ irqs_from left (stirred x) (last + gap x) steps) []) isnt

drawn_next : (seed steps : ℕ) (events events' : List Timed) (x last left step : ℕ) → step ≡ last + gap x → step < steps → events' ≡ events ++ (step, Irq 0) ∷ []
    → Drawn seed steps events x last (suc left) → Drawn seed steps events' (stirred x) step left
drawn_next seed steps events events' x last left step at l more h =
    let comes = irq_comes left x last steps (omega (arith, at, l)) in
    let few : drawn x % 64 < 64 = omega arith in
    let low = h.low in
    record {
      all = ap (λ (ts : List Timed). ts ++ irqs_from left (stirred x) step steps) more
          ∙ append_assoc events ((step, Irq 0) ∷ []) (irqs_from left (stirred x) step steps)
          ∙ ap (λ (k : ℕ). events ++ (k, Irq 0) ∷ irqs_from left (stirred x) k steps) at
          ∙ ap (λ (ts : List Timed). events ++ ts) (sym comes) ∙ h.all;
      low = omega (arith, few, low, at);
    }

pub drawn_more : (seed steps : ℕ) (events events' : List Timed) (x x' last k step : ℕ) → k < 10000 → step ≡ last + gap x → step < steps → events' ≡ events ++ (step, Irq 0) ∷ [] → x' ≡ stirred x
    → Drawn seed steps events x last (10000 - k) → Drawn seed steps events' x' step (10000 - (k + 1))
drawn_more seed steps events events' x x' last k step few at l more next h =
    let left : 10000 - k ≡ suc (10000 - (k + 1)) = omega (arith, few) in
    subst (λ (n : ℕ). Drawn seed steps events' n step (10000 - (k + 1))) (sym next)
    (drawn_next seed steps events events' x last (10000 - (k + 1)) step at l more (subst (λ (n : ℕ). Drawn seed steps events x last n) left h))

pub drawn_end : (seed steps : ℕ) (events : List Timed) (x last left : ℕ) → steps ≤ last + gap x → Drawn seed steps events x last left → events ≡ generated_events seed steps
unfolding generated_events
drawn_end seed steps events x last left l h = sym (append-nil events) ∙ ap (λ (ts : List Timed). events ++ ts) (sym (no_irq left x last steps l)) ∙ h.all

pub drawn_all : (seed steps : ℕ) (events : List Timed) (x last left : ℕ) → left ≡ 0 → Drawn seed steps events x last left → events ≡ generated_events seed steps
unfolding generated_events irqs_from
drawn_all seed steps events x last left none h = sym (append-nil events) ∙ ap (λ (k : ℕ). events ++ irqs_from k x last steps) (sym none) ∙ h.all

-- ---- they make a script

few_irqs : (left x last steps : ℕ) → length (irqs_from left x last steps) ≤ left
unfolding irqs_from
few_irqs zero x last steps = omega arith
few_irqs (suc left) x last steps = go (nat_lt (last + gap x) steps) (few_irqs left (stirred x) (last + gap x) steps) where
  go : (t : Bool) → length (irqs_from left (stirred x) (last + gap x) steps) ≤ left → length (cond t ((last + gap x, Irq 0) ∷ irqs_from left (stirred x) (last + gap x) steps) []) ≤ suc left
  go true more = omega (arith, more)
  go false more = omega arith

irqs_follow : (left x last steps : ℕ) → follow last (irqs_from left x last steps) ≡ true
unfolding irqs_from
irqs_follow zero x last steps = refl
irqs_follow (suc left) x last steps = go (nat_lt (last + gap x) steps) (irqs_follow left (stirred x) (last + gap x) steps) where
  go : (t : Bool) → follow (last + gap x) (irqs_from left (stirred x) (last + gap x) steps) ≡ true → follow last (cond t ((last + gap x, Irq 0) ∷ irqs_from left (stirred x) (last + gap x) steps) []) ≡ true
  go true more =
      let above : nat_le last (last + gap x) ≡ true = grind (arith, nat_tests) in
      ap (λ (b : Bool). b && follow (last + gap x) (irqs_from left (stirred x) (last + gap x) steps)) above ∙ more
  go false more = refl

below : (n m : ℕ) → n ≤ m → nat_le n m ≡ true
below n m l = grind (arith, nat_tests)

pub generated_script : (seed steps : ℕ) → IsScript (generated_events seed steps)
unfolding generated_events
generated_script seed steps = record {
  few = below (length (irqs_from 10000 (stirred (stirred seed)) 0 steps)) 10000 (few_irqs 10000 (stirred (stirred seed)) 0 steps);
  in_order = irqs_follow 10000 (stirred (stirred seed)) 0 steps;
}
