-- Finding a step among ascending steps by halving.
use Rattle.std.proofs.Common.{◌≡◌, ◌<◌, ◌≤◌, ◌+◌, ◌-◌, ◌*◌, ◌/◌, ◌^◌, ℕ, zero, suc, refl, ap, arith, nat_lt, List, [], ◌∷◌, length, get_or, IsTrue, inl, inr}
use Rattle.std.proofs.lemmas.Bool.{and_parts, cases_lt, ltb-true}
use Rattle.std.proofs.Math.Nat.{pow-succ'}
use Rattle.tz_board.specs.Script.{ascend, is_below_all, steps_of}
use Rattle.tz_board.specs.declared.script.Moment.{Moment}

-- a step below all is below each
pub below_all-at : (s : ℕ) (ss : List ℕ) (j : ℕ) → IsTrue (is_below_all s ss) → j < length ss → s < get_or ss j 0
below_all-at s [] j h lt = absurd (omega arith)
below_all-at s (x ∷ ss) zero h lt = ltb-true s x (and_parts (nat_lt s x) (is_below_all s ss) h).0
below_all-at s (x ∷ ss) (suc j) h lt = below_all-at s ss j (and_parts (nat_lt s x) (is_below_all s ss) h).1 (omega arith)

-- of two steps the later one is above
pub ascend-at : (ss : List ℕ) (i j : ℕ) → IsTrue (ascend ss) → i < j → j < length ss → get_or ss i 0 < get_or ss j 0
ascend-at [] i j h lt within = absurd (omega arith)
ascend-at (x ∷ ss) i zero h lt within = absurd (omega arith)
ascend-at (x ∷ ss) zero (suc j) h lt within = below_all-at x ss j (and_parts (is_below_all x ss) (ascend ss) h).0 (omega arith)
ascend-at (x ∷ ss) (suc i) (suc j) h lt within = ascend-at ss i j (and_parts (is_below_all x ss) (ascend ss) h).1 (omega arith) (omega arith)

pub length-steps_of : (ms : List Moment) → length (steps_of ms) ≡ length ms
length-steps_of [] = refl
length-steps_of (m ∷ ms) = ap suc (length-steps_of ms)

pub steps_of-at : (ms : List Moment) (i : ℕ) (m : Moment) → i < length ms → get_or (steps_of ms) i 0 ≡ (get_or ms i m).step
steps_of-at [] i m h = absurd (omega arith)
steps_of-at (x ∷ ms) zero m h = refl
steps_of-at (x ∷ ms) (suc i) m h = steps_of-at ms i m (omega arith)

-- the steps up to one that is too low are too low
pub all_below : (ms : List Moment) (step i : ℕ) → IsTrue (ascend (steps_of ms)) → i < length ms → get_or (steps_of ms) i 0 < step → (k : ℕ) → k < i + 1 → get_or (steps_of ms) k 0 < step
all_below ms step i up within low k lt = elim (cases_lt k i) [
  | inl before ↦ let less : get_or (steps_of ms) k 0 < get_or (steps_of ms) i 0 = ascend-at (steps_of ms) k i up before (omega (arith, length-steps_of ms)) in omega arith
  | inr after ↦ let here : k ≡ i = omega arith in rw here low
]

-- the steps from one that is too high on are too high
pub all_above : (ms : List Moment) (step i : ℕ) → IsTrue (ascend (steps_of ms)) → step < get_or (steps_of ms) i 0 → (k : ℕ) → i ≤ k → k < length ms → step < get_or (steps_of ms) k 0
all_above ms step i up high k le within = elim (cases_lt i k) [
  | inl after ↦ let less : get_or (steps_of ms) i 0 < get_or (steps_of ms) k 0 = ascend-at (steps_of ms) i k up after (omega (arith, length-steps_of ms)) in omega arith
  | inr before ↦ let here : k ≡ i = omega arith in rw here high
]

halved_at : (d e : ℕ) → 0 < d → d < 2 ^ e → (0 < e) × (d / 2 < 2 ^ (e - 1))
halved_at d zero some h = absurd (omega arith)
halved_at d (suc e) some h =
    let twice : 2 ^ suc e ≡ 2 * 2 ^ e = pow-succ' 2 e in
    let same : suc e - 1 ≡ e = omega arith in
    (omega arith, rw same (omega arith))

-- one look halves what is left, and there is one look less for it
pub halved : (d top n : ℕ) → 0 < d → d < 2 ^ (top - n) → (n + 1 ≤ top) × (d / 2 < 2 ^ (top - (n + 1)))
halved d top n some h =
    let half = halved_at d (top - n) some h in
    let left : top - (n + 1) ≡ top - n - 1 = omega arith in
    (omega arith, rw left half.1)
