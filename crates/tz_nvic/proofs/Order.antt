-- Within a side the order by group priority and subpriority is that of the priority registers, whatever PRIGROUP and
-- PRIS are.
use Rattle.std.proofs.Common.{◌≡◌, ◌⊎◌, inl, inr, ℕ, ◌+◌, ◌*◌, ◌/◌, ◌%◌, ◌^◌, ◌<◌, ◌≤◌, Bool, true, false, cond, refl, ap, sym, subst, ◌∙◌, arith}
use Rattle.std.proofs.lemmas.Nat.{div-add-mod', mul-add-lt, le-div, pow_pos}
use Rattle.std.proofs.lemmas.Grind.{pow_more}
use Rattle.std.specs.Prelude.{◌==◌, ◌||◌}
use Rattle.tz_table.specs.declared.units.Side.{Side}
use Rattle.tz_table.specs.declared.units.Side.TheVariants.{Secure, NonSecure}
use Rattle.tz_state.specs.Slots.{ExceptionsValue, at, exception_number, side_at, prigroup_of}
use Rattle.tz_state.specs.Priority.{group_size, group_of, subgroup_of, restricted_priority, hard_priority, priority_of, subpriority_of, rank_of}
use Rattle.tz_state.specs.First.{ComesBefore, FitGroups}
use Rattle.tz_nvic.specs.Choice.{IsOn}
use Rattle.tz_nvic.proofs.Rank.{told_by_rank}

same_or_less : (a b : ℕ) → a ≤ b → (a < b) ⊎ (a ≡ b)
same_or_less a b h = grind arith

-- a byte x below y is of a lower group, or of the same and a lower rest
quotients : (z x y : ℕ) → 0 < z → x < y → (x / z < y / z) ⊎ ((x / z ≡ y / z) × (x % z < y % z))
quotients z x y some h = elim (same_or_less (x / z) (y / z) (le-div (x / z) y z some (omega (arith, div-add-mod' x z)))) [
  | inl l ↦ inl l
  | inr e ↦ inr (e, omega (arith, div-add-mod' x z, div-add-mod' y z, ap (λ k. k * z) e))
]

-- ---- groups are even, so restricted priorities keep their order

half_size : (n : ℕ) → 2 ^ (n + 1) ≡ 2 * 2 ^ n
half_size n = grind (arith, pow_more)

twice : (q w : ℕ) → q * (2 * w) ≡ 2 * (q * w)
twice q w = grind arith

times_less : (a b z : ℕ) → a < b → 0 < z → a * z < b * z
times_less a b z h some = grind (arith, mul-add-lt a z 0 b h some)

group_even : (e : ExceptionsValue) (side : Side) (x : ℕ) → group_of e side x ≡ 2 * (x / group_size e side * 2 ^ prigroup_of e side)
group_even e side x = ap (λ k. x / group_size e side * k) (half_size (prigroup_of e side)) ∙ twice (x / group_size e side) (2 ^ prigroup_of e side)

restricted_less : (e : ExceptionsValue) (side : Side) (k m : ℕ) → k < m → restricted_priority e side (2 * k) < restricted_priority e side (2 * m)
restricted_less e Secure k m h = omega arith
restricted_less e NonSecure k m h = go e.pris where
  go : (t : Bool) → cond t (128 + 2 * k / 2) (2 * k) < cond t (128 + 2 * m / 2) (2 * m)
  go true = omega arith
  go false = omega arith

abbrev Below : ExceptionsValue → Side → ℕ → ℕ → Type 0
Below e side x y =
    (restricted_priority e side (group_of e side x) < restricted_priority e side (group_of e side y))
    ⊎ ((restricted_priority e side (group_of e side x) ≡ restricted_priority e side (group_of e side y)) × (subgroup_of e side x < subgroup_of e side y))

bytes_order : (e : ExceptionsValue) (side : Side) (x y : ℕ) → x < y → Below e side x y
bytes_order e side x y h = elim (quotients (group_size e side) x y (pow_pos (prigroup_of e side + 1)) h) [
  | inl l ↦ inl (subst (λ g. g < restricted_priority e side (group_of e side y)) (ap (restricted_priority e side) (sym (group_even e side x)))
      (subst (λ g. restricted_priority e side (2 * (x / group_size e side * 2 ^ prigroup_of e side)) < g) (ap (restricted_priority e side) (sym (group_even e side y)))
      (restricted_less e side (x / group_size e side * 2 ^ prigroup_of e side) (y / group_size e side * 2 ^ prigroup_of e side) (times_less (x / group_size e side) (y / group_size e side) (2 ^ prigroup_of e side) l (pow_pos (prigroup_of e side))))))
  | inr k ↦ inr (ap (λ q. restricted_priority e side (q * group_size e side)) k.0, k.1)
]

-- ---- slots of a side whose priorities aren't fixed

or_false : (a b : Bool) → (a || b) ≡ false → (a ≡ false) × (b ≡ false)
or_false true b h = cc
or_false false b h = (refl, h)

by_rest : {A : Type 0} (a b : Bool) (x y z : A) → a ≡ false → b ≡ false → cond a x (cond b y z) ≡ z
by_rest true b x y z f g = cc
by_rest false true x y z f g = cc
by_rest false false x y z f g = refl

priority_is : (e : ExceptionsValue) (i : ℕ) (side : Side) → IsOn e side i → priority_of e i ≡ 4 + restricted_priority e side (group_of e side (at e i).priority)
unfolding priority_of
priority_is e i side h =
    let n = or_false (exception_number i == 2) (exception_number i == 3) h.0 in
    by_rest (exception_number i == 2) (exception_number i == 3) 2 (hard_priority e (side_at e i)) (4 + restricted_priority e (side_at e i) (group_of e (side_at e i) (at e i).priority)) n.0 n.1
    ∙ ap (λ (s : Side). 4 + restricted_priority e s (group_of e s (at e i).priority)) h.1

subpriority_is : (e : ExceptionsValue) (i : ℕ) (side : Side) → IsOn e side i → subpriority_of e i ≡ subgroup_of e side (at e i).priority
unfolding subpriority_of
subpriority_is e i side h = ap (λ (t : Bool). cond t 0 (subgroup_of e (side_at e i) (at e i).priority)) h.0 ∙ ap (λ (s : Side). subgroup_of e s (at e i).priority) h.1

less_before : (e : ExceptionsValue) (i j : ℕ) (side : Side) → IsOn e side i → IsOn e side j → (at e i).priority < (at e j).priority → ComesBefore e i j
less_before e i j side h g l = elim (bytes_order e side (at e i).priority (at e j).priority l) [
  | inl a ↦ inl (omega (arith, priority_is e i side h, priority_is e j side g))
  | inr a ↦ inr (priority_is e i side h ∙ ap (λ p. 4 + p) a.0 ∙ sym (priority_is e j side g), inl (omega (arith, a.1, subpriority_is e i side h, subpriority_is e j side g)))
]

same_before : (e : ExceptionsValue) (i j : ℕ) (side : Side) → IsOn e side i → IsOn e side j → (at e i).priority ≡ (at e j).priority → i < j → ComesBefore e i j
same_before e i j side h g k l = inr (
  priority_is e i side h ∙ ap (λ p. 4 + restricted_priority e side (group_of e side p)) k ∙ sym (priority_is e j side g),
  inr (subpriority_is e i side h ∙ ap (subgroup_of e side) k ∙ sym (subpriority_is e j side g), l),
)

-- the lists' order is that of ranks
pub slots_order : (e : ExceptionsValue) (i j : ℕ) (side : Side) → FitGroups e → i < 512 → j < 512 → IsOn e side i → IsOn e side j → ((at e i).priority < (at e j).priority) ⊎ (((at e i).priority ≡ (at e j).priority) × (i ≤ j)) →
    rank_of e i ≤ rank_of e j
slots_order e i j side fit fi fj h g (inl l) = let less = told_by_rank e i j fit fi fj (less_before e i j side h g l) in omega (arith, less)
slots_order e i j side fit fi fj h g (inr k) = elim (same_or_less i j k.1) [
  | inl l ↦ (let less = told_by_rank e i j fit fi fj (same_before e i j side h g k.0 l) in omega (arith, less))
  | inr s ↦ subst (λ n. rank_of e i ≤ rank_of e n) s (omega arith)
]
