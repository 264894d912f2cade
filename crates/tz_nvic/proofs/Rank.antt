-- What ranks say.
use Rattle.std.proofs.Common.{◌≡◌, ◌≢◌, ◌⊎◌, inl, inr, ℕ, ◌+◌, ◌*◌, ◌%◌, ◌^◌, ◌<◌, ◌≤◌, Bool, true, false, cond, arith}
use Rattle.std.proofs.Math.Pow.{pow_mono}
use Rattle.std.proofs.lemmas.Bool.{cases_order}
use Rattle.std.proofs.lemmas.Nat.{pow_pos}
use Rattle.tz_table.specs.declared.units.Side.{Side}
use Rattle.tz_table.specs.declared.units.Side.TheVariants.{Secure, NonSecure}
use Rattle.tz_state.specs.Slots.{ExceptionsValue, exception_number, side_at, at, has_fixed_priority}
use Rattle.tz_state.specs.Priority.{subgroup_of, priority_of, subpriority_of, rank_of}
use Rattle.tz_state.specs.First.{ComesBefore, FitGroups}

rest_few : (n byte : ℕ) → n ≤ 7 → byte % 2 ^ (n + 1) < 256
rest_few n byte h =
    let few : n + 1 ≤ 8 = omega arith in
    let most : 2 ^ (n + 1) ≤ 2 ^ 8 = pow_mono few in
    let some : 0 < 2 ^ (n + 1) = pow_pos (n + 1) in
    omega (arith, most, some)

subgroup_few : (e : ExceptionsValue) (side : Side) (byte : ℕ) → FitGroups e → subgroup_of e side byte < 256
subgroup_few e Secure byte h = rest_few e.prigroup_s byte h.0
subgroup_few e NonSecure byte h = rest_few e.prigroup_ns byte h.1

few_either : (t : Bool) (x : ℕ) → x < 256 → cond t 0 x < 256
few_either true x h = omega arith
few_either false x h = h

pub subpriority_few : (e : ExceptionsValue) (i : ℕ) → FitGroups e → subpriority_of e i < 256
unfolding subpriority_of
subpriority_few e i h = few_either (has_fixed_priority (exception_number i)) (subgroup_of e (side_at e i) (at e i).priority) (subgroup_few e (side_at e i) (at e i).priority h)

by_parts : (p p' s s' i j : ℕ) → s < 256 → s' < 256 → i < 512 → j < 512 → i ≢ j → (p * 256 + s) * 512 + i ≤ (p' * 256 + s') * 512 + j →
    (p < p') ⊎ ((p ≡ p') × ((s < s') ⊎ ((s ≡ s') × (i < j))))
by_parts p p' s s' i j f f' g g' d h = elim (cases_order p p') [
  | inr b ↦ elim b [ inl a ↦ inl a | inr c ↦ absurd (omega arith) ]
  | inl c ↦ inr (
    c,
    elim (cases_order s s') [
      | inr y ↦ elim y [ inl x ↦ inl x | inr z ↦ absurd (omega arith) ]
      | inl z ↦ inr (z, omega arith)
    ],
  )
]

to_rank : (p p' s s' i j : ℕ) → s < 256 → s' < 256 → i < 512 → j < 512 → (p < p') ⊎ ((p ≡ p') × ((s < s') ⊎ ((s ≡ s') × (i < j)))) →
    (p * 256 + s) * 512 + i < (p' * 256 + s') * 512 + j
to_rank p p' s s' i j f f' g g' (inl a) = omega arith
to_rank p p' s s' i j f f' g g' (inr (a, inl b)) = omega arith
to_rank p p' s s' i j f f' g g' (inr (a, inr b)) = omega (arith, b.0, b.1)

pub rank_tells : (e : ExceptionsValue) (i j : ℕ) → FitGroups e → i < 512 → j < 512 → i ≢ j → rank_of e i ≤ rank_of e j → ComesBefore e i j
unfolding rank_of
rank_tells e i j h f g d l =
    by_parts (priority_of e i) (priority_of e j) (subpriority_of e i) (subpriority_of e j) i j (subpriority_few e i h) (subpriority_few e j h) f g d l

pub told_by_rank : (e : ExceptionsValue) (i j : ℕ) → FitGroups e → i < 512 → j < 512 → ComesBefore e i j → rank_of e i < rank_of e j
unfolding rank_of
told_by_rank e i j h f g b =
    to_rank (priority_of e i) (priority_of e j) (subpriority_of e i) (subpriority_of e j) i j (subpriority_few e i h) (subpriority_few e j h) f g b
