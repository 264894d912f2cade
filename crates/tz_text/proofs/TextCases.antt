-- Cases of the terms in which an instruction of a row depends on its code.
use Rattle.std.proofs.Common.{◌≡◌, ◌≢◌, ◌<◌, ℕ, zero, suc, Bool, true, false, cond, not, ◌&&◌, ◌||◌, ◌==◌, ℤ, pos, refl, sym, subst, arith, inl, inr}
use Rattle.std.specs.Ordering.{int_eq}
use Rattle.std.proofs.lemmas.Bool.{and_cases, and_parts, cond_both, eqb-false, not-true, or_parts}
use Rattle.tz_table.specs.Fields.{bits}
use Rattle.tz_table.specs.Patterns.{has_any, in_cube}
use Rattle.tz_table.specs.Rows.{TableRow, holds}
use Rattle.tz_table.specs.Terms.{flags_of, indexed, is_one, shift_of, size_of}
use Rattle.tz_table.specs.declared.instruction.Address.{Address}
use Rattle.tz_table.specs.declared.instruction.Address.TheVariants as addresses
use Rattle.tz_table.specs.declared.instruction.Flags.{Flags}
use Rattle.tz_table.specs.declared.instruction.Flags.TheVariants as flags
use Rattle.tz_table.specs.declared.instruction.Insn.TheVariants as insns
use Rattle.tz_table.specs.declared.units.Shift.{Shift}
use Rattle.tz_table.specs.declared.units.Shift.TheVariants as shifts
use Rattle.tz_table.specs.declared.units.Size.{Size}
use Rattle.tz_table.specs.declared.units.Size.TheVariants as sizes
use Rattle.tz_table.specs.declared.units.Width.TheVariants.{Narrow, Wide}
use Rattle.tz_syntax.specs.OtherTexts.{branches, system}
use Rattle.tz_text.proofs.TextGroups.{Among}

pub by_bool : (P : Bool → Type 0) (b : Bool) → P true → P false → P b
by_bool P true x y = x
by_bool P false x y = y

pub by_one : (P : Bool → Type 0) (n : ℕ) → P true → P false → P (is_one n)
by_one P n x y = by_bool P (n == 1) x y

pub by_flags : (P : Flags → Type 0) (n : ℕ) → P flags.Always → P flags.Never → P (flags_of n)
by_flags P n x y = cond_both (n == 1) flags.Always flags.Never P (λ _. x) (λ _. y)

pub by_size : (P : Size → Type 0) (n : ℕ) → P sizes.Byte → P sizes.Half → P sizes.Word → P (size_of n)
by_size P n x y z =
    cond_both (n == 0) sizes.Byte (cond (n == 1) sizes.Half sizes.Word) P (λ _. x)
    (λ _. cond_both (n == 1) sizes.Half sizes.Word P (λ _. y) (λ _. z))

pub by_shift : (P : Shift → Type 0) (n : ℕ) → P shifts.Lsl → P shifts.Lsr → P shifts.Asr → P shifts.Ror → P (shift_of n)
by_shift P n x y z w =
    cond_both (n == 0) shifts.Lsl (cond (n == 1) shifts.Lsr (cond (n == 2) shifts.Asr shifts.Ror)) P (λ _. x)
    (λ _. cond_both (n == 1) shifts.Lsr (cond (n == 2) shifts.Asr shifts.Ror) P (λ _. y)
    (λ _. cond_both (n == 2) shifts.Asr shifts.Ror P (λ _. z) (λ _. w)))

pub by_indexed : (P : Address → Type 0) (p w rn : ℕ) (offset : ℤ) → P (addresses.Offset rn offset) → P (addresses.Pre rn offset) → P (addresses.Post rn offset) → P (indexed p w rn offset)
by_indexed P p w rn offset x y z =
    cond_both (w == 1) (cond (p == 1) (addresses.Pre rn offset) (addresses.Post rn offset)) (addresses.Offset rn offset) P
    (λ _. cond_both (p == 1) (addresses.Pre rn offset) (addresses.Post rn offset) P (λ _. y) (λ _. z)) (λ _. x)

-- a code of a row has no values of fields that belong to other rows
pub excepts_from : (r : TableRow) (f s : ℕ) → holds r f s ≡ true → has_any r.pattern.excepts f s ≡ false
excepts_from r f s h =
    let fitting = (and_parts (r.limits f s) (in_cube r.pattern.cube f s && not (has_any r.pattern.excepts f s)) h).1 in
    not-true (has_any r.pattern.excepts f s) (and_parts (in_cube r.pattern.cube f s) (not (has_any r.pattern.excepts f s)) fitting).1

-- a load is of a byte or a halfword, signed or not, or of a word that isn't signed
pub load_cases : (P : Size → Bool → Type 0) (f : ℕ) (others : Bool) → ((bits f 5 2 == 3) || (((bits f 8 1 == 1) && (bits f 5 2 == 2)) || others)) ≡ false
    → P sizes.Byte true → P sizes.Byte false → P sizes.Half true → P sizes.Half false → P sizes.Word false → P (size_of (bits f 5 2)) (is_one (bits f 8 1))
load_cases P f others none b b' h h' w =
    let parts = or_parts (bits f 5 2 == 3) (((bits f 8 1 == 1) && (bits f 5 2 == 2)) || others) none in
    let word = (or_parts ((bits f 8 1 == 1) && (bits f 5 2 == 2)) others parts.1).0 in
    cond_both (bits f 5 2 == 0) sizes.Byte (cond (bits f 5 2 == 1) sizes.Half sizes.Word) (λ (x : Size). P x (is_one (bits f 8 1))) (λ _. by_one (P sizes.Byte) (bits f 8 1) b b')
    (λ n0. cond_both (bits f 5 2 == 1) sizes.Half sizes.Word (λ (x : Size). P x (is_one (bits f 8 1))) (λ _. by_one (P sizes.Half) (bits f 8 1) h h')
    (λ n1.
    let not0 : bits f 5 2 ≢ 0 = eqb-false (bits f 5 2) 0 n0 in
    let not1 : bits f 5 2 ≢ 1 = eqb-false (bits f 5 2) 1 n1 in
    let not3 : bits f 5 2 ≢ 3 = eqb-false (bits f 5 2) 3 parts.0 in
    let is2 : bits f 5 2 ≡ 2 = last (bits f 5 2) (omega arith) not0 not1 not3 in
    let unsigned : (bits f 8 1 == 1) ≡ false = elim (and_cases (bits f 8 1 == 1) (bits f 5 2 == 2) word) [
      | inl e ↦ e
      | inr e ↦ absurd (eqb-false (bits f 5 2) 2 e is2)
    ] in
    subst (P sizes.Word) (sym unsigned) w))
  where
    last : (n : ℕ) → n < 4 → n ≢ 0 → n ≢ 1 → n ≢ 3 → n ≡ 2
    last n l a b c = omega (arith, a, b, c)

-- a condition that a branch has is below 14
below_14 : (c : ℕ) → c < 16 → ((c == 14) || (c == 15)) ≡ false → c < 14
below_14 c l none =
    let parts = or_parts (c == 14) (c == 15) none in
    let not14 : c ≢ 14 = eqb-false c 14 parts.0 in
    let not15 : c ≢ 15 = eqb-false c 15 parts.1 in
    omega (arith, not14, not15)

narrow_condition : (c : ℕ) (offset : ℤ) → c < 14 → Among branches (insns.BranchIf c offset) Narrow
narrow_condition zero offset l = refl
narrow_condition (suc zero) offset l = refl
narrow_condition (suc (suc zero)) offset l = refl
narrow_condition (suc (suc (suc zero))) offset l = refl
narrow_condition (suc (suc (suc (suc zero)))) offset l = refl
narrow_condition (suc (suc (suc (suc (suc zero))))) offset l = refl
narrow_condition (suc (suc (suc (suc (suc (suc zero)))))) offset l = refl
narrow_condition (suc (suc (suc (suc (suc (suc (suc zero))))))) offset l = refl
narrow_condition (suc (suc (suc (suc (suc (suc (suc (suc zero)))))))) offset l = refl
narrow_condition (suc (suc (suc (suc (suc (suc (suc (suc (suc zero))))))))) offset l = refl
narrow_condition (suc (suc (suc (suc (suc (suc (suc (suc (suc (suc zero)))))))))) offset l = refl
narrow_condition (suc (suc (suc (suc (suc (suc (suc (suc (suc (suc (suc zero))))))))))) offset l = refl
narrow_condition (suc (suc (suc (suc (suc (suc (suc (suc (suc (suc (suc (suc zero)))))))))))) offset l = refl
narrow_condition (suc (suc (suc (suc (suc (suc (suc (suc (suc (suc (suc (suc (suc zero))))))))))))) offset l = refl
narrow_condition (suc (suc (suc (suc (suc (suc (suc (suc (suc (suc (suc (suc (suc (suc c)))))))))))))) offset l = absurd (omega arith)

pub branch_if_narrow : (c : ℕ) (offset : ℤ) → c < 16 → ((c == 14) || (c == 15)) ≡ false → Among branches (insns.BranchIf c offset) Narrow
branch_if_narrow c offset l none = narrow_condition c offset (below_14 c l none)

wide_condition : (c : ℕ) (offset : ℤ) → c < 14 → Among branches (insns.BranchIf c offset) Wide
wide_condition zero offset l = refl
wide_condition (suc zero) offset l = refl
wide_condition (suc (suc zero)) offset l = refl
wide_condition (suc (suc (suc zero))) offset l = refl
wide_condition (suc (suc (suc (suc zero)))) offset l = refl
wide_condition (suc (suc (suc (suc (suc zero))))) offset l = refl
wide_condition (suc (suc (suc (suc (suc (suc zero)))))) offset l = refl
wide_condition (suc (suc (suc (suc (suc (suc (suc zero))))))) offset l = refl
wide_condition (suc (suc (suc (suc (suc (suc (suc (suc zero)))))))) offset l = refl
wide_condition (suc (suc (suc (suc (suc (suc (suc (suc (suc zero))))))))) offset l = refl
wide_condition (suc (suc (suc (suc (suc (suc (suc (suc (suc (suc zero)))))))))) offset l = refl
wide_condition (suc (suc (suc (suc (suc (suc (suc (suc (suc (suc (suc zero))))))))))) offset l = refl
wide_condition (suc (suc (suc (suc (suc (suc (suc (suc (suc (suc (suc (suc zero)))))))))))) offset l = refl
wide_condition (suc (suc (suc (suc (suc (suc (suc (suc (suc (suc (suc (suc (suc zero))))))))))))) offset l = refl
wide_condition (suc (suc (suc (suc (suc (suc (suc (suc (suc (suc (suc (suc (suc (suc c)))))))))))))) offset l = absurd (omega arith)

pub branch_if_wide : (c : ℕ) (offset : ℤ) → c < 16 → ((c == 14) || (c == 15)) ≡ false → Among branches (insns.BranchIf c offset) Wide
branch_if_wide c offset l none = wide_condition c offset (below_14 c l none)

-- a hint has a name or a number
last_of_six : (a b c d e : Bool) → (a || (b || (c || (d || (e || true))))) ≡ true
last_of_six true b c d e = refl
last_of_six false true c d e = refl
last_of_six false false true d e = refl
last_of_six false false false true e = refl
last_of_six false false false false true = refl
last_of_six false false false false false = refl

abbrev has_number : ℕ → ℕ → Bool
has_number op k = int_eq (pos op) (pos k) && true

pub narrow_hint : (op : ℕ) → Among system (insns.Hint op) Narrow
narrow_hint op = last_of_six (has_number op 0) (has_number op 1) (has_number op 2) (has_number op 3) (has_number op 4)

pub wide_hint : (op : ℕ) → Among system (insns.Hint op) Wide
wide_hint op = last_of_six (has_number op 0) (has_number op 1) (has_number op 2) (has_number op 3) (has_number op 4)
