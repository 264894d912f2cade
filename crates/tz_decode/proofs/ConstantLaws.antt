-- What the codes that process data with a constant mean, leaf by leaf of the decoder.
use Rattle.std.proofs.Common.{◌≡◌, ◌≢◌, ℕ, true, false, [], ◌∷◌, refl}
use Rattle.std.specs.Prelude.{◌+◌, ◌-◌, ◌*◌, pos, neg_ℤ, if◌then◌else◌}
use Rattle.std.proofs.lemmas.Bool.{and_from, or_from, eq-eqb, ne_eqb}
use Rattle.tz_table.specs.Fields.{bits}
use Rattle.tz_table.specs.Patterns.{first, second}
use Rattle.tz_table.specs.Terms.{is_one, flags_of, imm12_of, imm5_of}
use Rattle.tz_table.specs.Limits.{plain, can_add, can_add_constant, can_set, can_set_from, can_compare, can_saturate, can_extract, can_insert, can_clear}
use Rattle.tz_table.specs.Table.{rows, refusals, decode_of}
use Rattle.tz_table.proofs.Scans.{known_by}
use Rattle.tz_decode.proofs.ClassLaws.{told}
use Rattle.tz_decode.specs.DataClasses.{class_rows, class_of}
use Rattle.tz_decode.specs.declared.classes.DataClass.{DataClass}
use Rattle.tz_decode.specs.declared.classes.DataClass.TheVariants as classes
use Rattle.tz_table.specs.declared.Decoded.{Decoded}
use Rattle.tz_table.specs.declared.Decoded.TheVariants.{One, Undefined}
use Rattle.tz_table.specs.declared.Width.TheVariants.{Wide}
use Rattle.tz_table.specs.declared.Insn.TheVariants as insns
use Rattle.tz_table.specs.declared.DataOp.TheVariants as ops
use Rattle.tz_table.specs.declared.FieldOp.TheVariants as fields
use Rattle.tz_table.specs.declared.Flags.TheVariants as flags

-- ---- 11110.0

-- what an operation of each class is with a constant
abbrev pub constant_of : DataClass → ℕ → ℕ → Decoded
constant_of (classes.Plain op) f s = if can_set_from (bits s 8 4) (bits f 0 4) (imm12_of f s) then One (insns.DataImm op (flags_of (bits f 4 1)) (bits s 8 4) (bits f 0 4) (imm12_of f s)) Wide else Undefined Wide
constant_of (classes.Sum op) f s = if can_add_constant (bits s 8 4) (bits f 0 4) (imm12_of f s) then One (insns.DataImm op (flags_of (bits f 4 1)) (bits s 8 4) (bits f 0 4) (imm12_of f s)) Wide else Undefined Wide
constant_of classes.Move f s = if can_set (bits s 8 4) (imm12_of f s) then One (insns.DataImm ops.Mov (flags_of (bits f 4 1)) (bits s 8 4) 0 (imm12_of f s)) Wide else Undefined Wide
constant_of classes.MoveNot f s = if can_set (bits s 8 4) (imm12_of f s) then One (insns.DataImm ops.Mvn (flags_of (bits f 4 1)) (bits s 8 4) 0 (imm12_of f s)) Wide else Undefined Wide
constant_of (classes.Test op) f s = if can_set (bits f 0 4) (imm12_of f s) then One (insns.DataImm op flags.Always 0 (bits f 0 4) (imm12_of f s)) Wide else Undefined Wide
constant_of (classes.Comparison op) f s = if can_compare (bits f 0 4) (imm12_of f s) then One (insns.DataImm op flags.Always 0 (bits f 0 4) (imm12_of f s)) Wide else Undefined Wide
constant_of classes.Undefined f s = Undefined Wide

pub constants : (class : DataClass) (f s : ℕ) → bits f 11 5 ≡ 30 → bits f 9 1 ≡ 0 → bits s 15 1 ≡ 0 → class ≡ class_of (bits f 5 4) f s → constant_of class f s ≡ decode_of f s
unfolding rows class_rows
constants class f s h0 h1 h2 = told (first 11 5 30 ∷ first 9 1 0 ∷ second 15 1 0 ∷ []) constant_of class f s (and_from _ _ (eq-eqb _ _ h0) (and_from _ _ (eq-eqb _ _ h1) (eq-eqb _ _ h2))) (refl, (refl, (refl, (refl, (refl, (refl, (refl, (refl, (refl, (refl, (refl, (refl, (refl, (refl, (refl, (refl, (refl, (refl, (refl, (refl, refl))))))))))))))))))))

-- ---- 11110.1

pub plain_constants_other : (f s : ℕ) → bits f 11 5 ≡ 30 → bits f 9 1 ≡ 1 → bits s 15 1 ≡ 0 → bits f 8 1 ≡ 0 → bits f 4 4 ≢ 0 → bits f 4 4 ≢ 10 → bits f 4 3 ≢ 4 → decode_of f s ≡ Undefined Wide
unfolding rows decode_of
plain_constants_other f s h0 h1 h2 h3 h4 h5 h6 = known_by refusals rows (first 11 5 30 ∷ first 9 1 1 ∷ second 15 1 0 ∷ first 8 1 0 ∷ []) ((first 4 4 0 ∷ []) ∷ (first 4 4 10 ∷ []) ∷ (first 4 3 4 ∷ []) ∷ []) f s (and_from _ _ (eq-eqb _ _ h0) (and_from _ _ (eq-eqb _ _ h1) (and_from _ _ (eq-eqb _ _ h2) (eq-eqb _ _ h3)))) (or_from _ _ (ne_eqb _ _ h4) (or_from _ _ (ne_eqb _ _ h5) (ne_eqb _ _ h6)))

pub ruleset plain_constants = (plain_constants_other)

-- ---- addw

pub add_wide_addw : (f s : ℕ) → bits f 11 5 ≡ 30 → bits f 9 1 ≡ 1 → bits s 15 1 ≡ 0 → bits f 8 1 ≡ 0 → bits f 4 4 ≡ 0 → bits f 0 4 ≢ 15 → decode_of f s ≡ (if can_add (bits s 8 4) (bits f 0 4) then One (insns.AddWide false (bits s 8 4) (bits f 0 4) (imm12_of f s)) Wide else Undefined Wide)
unfolding rows decode_of
add_wide_addw f s h0 h1 h2 h3 h4 h5 = known_by refusals rows (first 11 5 30 ∷ first 9 1 1 ∷ second 15 1 0 ∷ first 8 1 0 ∷ first 4 4 0 ∷ []) ((first 0 4 15 ∷ []) ∷ []) f s (and_from _ _ (eq-eqb _ _ h0) (and_from _ _ (eq-eqb _ _ h1) (and_from _ _ (eq-eqb _ _ h2) (and_from _ _ (eq-eqb _ _ h3) (eq-eqb _ _ h4))))) (ne_eqb _ _ h5)

pub add_wide_adr_after : (f s : ℕ) → bits f 11 5 ≡ 30 → bits f 9 1 ≡ 1 → bits s 15 1 ≡ 0 → bits f 8 1 ≡ 0 → bits f 4 4 ≡ 0 → bits f 0 4 ≡ 15 → decode_of f s ≡ (if plain (bits s 8 4) then One (insns.Adr (bits s 8 4) (pos (imm12_of f s))) Wide else Undefined Wide)
unfolding rows decode_of
add_wide_adr_after f s h0 h1 h2 h3 h4 h5 = known_by refusals rows (first 11 5 30 ∷ first 9 1 1 ∷ second 15 1 0 ∷ first 8 1 0 ∷ first 4 4 0 ∷ first 0 4 15 ∷ []) ([]) f s (and_from _ _ (eq-eqb _ _ h0) (and_from _ _ (eq-eqb _ _ h1) (and_from _ _ (eq-eqb _ _ h2) (and_from _ _ (eq-eqb _ _ h3) (and_from _ _ (eq-eqb _ _ h4) (eq-eqb _ _ h5)))))) refl

pub ruleset add_wide = (add_wide_addw, add_wide_adr_after)

-- ---- subw

pub subtract_wide_subw : (f s : ℕ) → bits f 11 5 ≡ 30 → bits f 9 1 ≡ 1 → bits s 15 1 ≡ 0 → bits f 8 1 ≡ 0 → bits f 4 4 ≡ 10 → bits f 0 4 ≢ 15 → decode_of f s ≡ (if can_add (bits s 8 4) (bits f 0 4) then One (insns.AddWide true (bits s 8 4) (bits f 0 4) (imm12_of f s)) Wide else Undefined Wide)
unfolding rows decode_of
subtract_wide_subw f s h0 h1 h2 h3 h4 h5 = known_by refusals rows (first 11 5 30 ∷ first 9 1 1 ∷ second 15 1 0 ∷ first 8 1 0 ∷ first 4 4 10 ∷ []) ((first 0 4 15 ∷ []) ∷ []) f s (and_from _ _ (eq-eqb _ _ h0) (and_from _ _ (eq-eqb _ _ h1) (and_from _ _ (eq-eqb _ _ h2) (and_from _ _ (eq-eqb _ _ h3) (eq-eqb _ _ h4))))) (ne_eqb _ _ h5)

pub subtract_wide_adr_before : (f s : ℕ) → bits f 11 5 ≡ 30 → bits f 9 1 ≡ 1 → bits s 15 1 ≡ 0 → bits f 8 1 ≡ 0 → bits f 4 4 ≡ 10 → bits f 0 4 ≡ 15 → decode_of f s ≡ (if plain (bits s 8 4) then One (insns.Adr (bits s 8 4) (neg_ℤ (pos (imm12_of f s)))) Wide else Undefined Wide)
unfolding rows decode_of
subtract_wide_adr_before f s h0 h1 h2 h3 h4 h5 = known_by refusals rows (first 11 5 30 ∷ first 9 1 1 ∷ second 15 1 0 ∷ first 8 1 0 ∷ first 4 4 10 ∷ first 0 4 15 ∷ []) ([]) f s (and_from _ _ (eq-eqb _ _ h0) (and_from _ _ (eq-eqb _ _ h1) (and_from _ _ (eq-eqb _ _ h2) (and_from _ _ (eq-eqb _ _ h3) (and_from _ _ (eq-eqb _ _ h4) (eq-eqb _ _ h5)))))) refl

pub ruleset subtract_wide = (subtract_wide_subw, subtract_wide_adr_before)

-- ---- movw

pub move_wide_movw : (f s : ℕ) → bits f 11 5 ≡ 30 → bits f 9 1 ≡ 1 → bits s 15 1 ≡ 0 → bits f 8 1 ≡ 0 → bits f 4 3 ≡ 4 → decode_of f s ≡ (if plain (bits s 8 4) then One (insns.MovWide (is_one (bits f 7 1)) (bits s 8 4) (bits f 0 4 * 4096 + imm12_of f s)) Wide else Undefined Wide)
unfolding rows decode_of
move_wide_movw f s h0 h1 h2 h3 h4 = known_by refusals rows (first 11 5 30 ∷ first 9 1 1 ∷ second 15 1 0 ∷ first 8 1 0 ∷ first 4 3 4 ∷ []) ([]) f s (and_from _ _ (eq-eqb _ _ h0) (and_from _ _ (eq-eqb _ _ h1) (and_from _ _ (eq-eqb _ _ h2) (and_from _ _ (eq-eqb _ _ h3) (eq-eqb _ _ h4))))) refl

pub ruleset move_wide = (move_wide_movw)

-- ---- 11110.11

pub bit_fields_high : (f s : ℕ) → bits f 11 5 ≡ 30 → bits f 9 1 ≡ 1 → bits s 15 1 ≡ 0 → bits f 8 1 ≡ 1 → bits f 10 1 ≢ 0 → decode_of f s ≡ Undefined Wide
unfolding rows decode_of
bit_fields_high f s h0 h1 h2 h3 h4 = known_by refusals rows (first 11 5 30 ∷ first 9 1 1 ∷ second 15 1 0 ∷ first 8 1 1 ∷ []) ((first 10 1 0 ∷ []) ∷ []) f s (and_from _ _ (eq-eqb _ _ h0) (and_from _ _ (eq-eqb _ _ h1) (and_from _ _ (eq-eqb _ _ h2) (eq-eqb _ _ h3)))) (ne_eqb _ _ h4)

pub bit_fields_low : (f s : ℕ) → bits f 11 5 ≡ 30 → bits f 9 1 ≡ 1 → bits s 15 1 ≡ 0 → bits f 8 1 ≡ 1 → bits s 5 1 ≢ 0 → decode_of f s ≡ Undefined Wide
unfolding rows decode_of
bit_fields_low f s h0 h1 h2 h3 h4 = known_by refusals rows (first 11 5 30 ∷ first 9 1 1 ∷ second 15 1 0 ∷ first 8 1 1 ∷ []) ((second 5 1 0 ∷ []) ∷ []) f s (and_from _ _ (eq-eqb _ _ h0) (and_from _ _ (eq-eqb _ _ h1) (and_from _ _ (eq-eqb _ _ h2) (eq-eqb _ _ h3)))) (ne_eqb _ _ h4)

pub bit_fields_odd : (f s : ℕ) → bits f 11 5 ≡ 30 → bits f 9 1 ≡ 1 → bits s 15 1 ≡ 0 → bits f 8 1 ≡ 1 → bits f 4 1 ≢ 0 → decode_of f s ≡ Undefined Wide
unfolding rows decode_of
bit_fields_odd f s h0 h1 h2 h3 h4 = known_by refusals rows (first 11 5 30 ∷ first 9 1 1 ∷ second 15 1 0 ∷ first 8 1 1 ∷ []) ((first 4 1 0 ∷ []) ∷ []) f s (and_from _ _ (eq-eqb _ _ h0) (and_from _ _ (eq-eqb _ _ h1) (and_from _ _ (eq-eqb _ _ h2) (eq-eqb _ _ h3)))) (ne_eqb _ _ h4)

pub bit_fields_ssat_0 : (f s : ℕ) → bits f 11 5 ≡ 30 → bits f 9 1 ≡ 1 → bits s 15 1 ≡ 0 → bits f 8 1 ≡ 1 → bits f 10 1 ≡ 0 → bits s 5 1 ≡ 0 → bits f 4 1 ≡ 0 → bits f 5 3 ≡ 0 → decode_of f s ≡ (if can_saturate (bits s 8 4) (bits f 0 4) (bits f 5 1) (imm5_of s) then One (insns.Saturate true (bits s 8 4) (bits f 0 4) (bits s 0 5 + 1) (is_one (bits f 5 1)) (imm5_of s)) Wide else Undefined Wide)
unfolding rows decode_of
bit_fields_ssat_0 f s h0 h1 h2 h3 h4 h5 h6 h7 = known_by refusals rows (first 11 5 30 ∷ first 9 1 1 ∷ second 15 1 0 ∷ first 8 1 1 ∷ first 10 1 0 ∷ second 5 1 0 ∷ first 4 1 0 ∷ first 5 3 0 ∷ []) ([]) f s (and_from _ _ (eq-eqb _ _ h0) (and_from _ _ (eq-eqb _ _ h1) (and_from _ _ (eq-eqb _ _ h2) (and_from _ _ (eq-eqb _ _ h3) (and_from _ _ (eq-eqb _ _ h4) (and_from _ _ (eq-eqb _ _ h5) (and_from _ _ (eq-eqb _ _ h6) (eq-eqb _ _ h7)))))))) refl

pub bit_fields_ssat_1 : (f s : ℕ) → bits f 11 5 ≡ 30 → bits f 9 1 ≡ 1 → bits s 15 1 ≡ 0 → bits f 8 1 ≡ 1 → bits f 10 1 ≡ 0 → bits s 5 1 ≡ 0 → bits f 4 1 ≡ 0 → bits f 5 3 ≡ 1 → decode_of f s ≡ (if can_saturate (bits s 8 4) (bits f 0 4) (bits f 5 1) (imm5_of s) then One (insns.Saturate true (bits s 8 4) (bits f 0 4) (bits s 0 5 + 1) (is_one (bits f 5 1)) (imm5_of s)) Wide else Undefined Wide)
unfolding rows decode_of
bit_fields_ssat_1 f s h0 h1 h2 h3 h4 h5 h6 h7 = known_by refusals rows (first 11 5 30 ∷ first 9 1 1 ∷ second 15 1 0 ∷ first 8 1 1 ∷ first 10 1 0 ∷ second 5 1 0 ∷ first 4 1 0 ∷ first 5 3 1 ∷ []) ([]) f s (and_from _ _ (eq-eqb _ _ h0) (and_from _ _ (eq-eqb _ _ h1) (and_from _ _ (eq-eqb _ _ h2) (and_from _ _ (eq-eqb _ _ h3) (and_from _ _ (eq-eqb _ _ h4) (and_from _ _ (eq-eqb _ _ h5) (and_from _ _ (eq-eqb _ _ h6) (eq-eqb _ _ h7)))))))) refl

pub bit_fields_sbfx_2 : (f s : ℕ) → bits f 11 5 ≡ 30 → bits f 9 1 ≡ 1 → bits s 15 1 ≡ 0 → bits f 8 1 ≡ 1 → bits f 10 1 ≡ 0 → bits s 5 1 ≡ 0 → bits f 4 1 ≡ 0 → bits f 5 3 ≡ 2 → decode_of f s ≡ (if can_extract (bits s 8 4) (bits f 0 4) (imm5_of s) (bits s 0 5) then One (insns.BitField fields.Sbfx (bits s 8 4) (bits f 0 4) (imm5_of s) (bits s 0 5 + 1)) Wide else Undefined Wide)
unfolding rows decode_of
bit_fields_sbfx_2 f s h0 h1 h2 h3 h4 h5 h6 h7 = known_by refusals rows (first 11 5 30 ∷ first 9 1 1 ∷ second 15 1 0 ∷ first 8 1 1 ∷ first 10 1 0 ∷ second 5 1 0 ∷ first 4 1 0 ∷ first 5 3 2 ∷ []) ([]) f s (and_from _ _ (eq-eqb _ _ h0) (and_from _ _ (eq-eqb _ _ h1) (and_from _ _ (eq-eqb _ _ h2) (and_from _ _ (eq-eqb _ _ h3) (and_from _ _ (eq-eqb _ _ h4) (and_from _ _ (eq-eqb _ _ h5) (and_from _ _ (eq-eqb _ _ h6) (eq-eqb _ _ h7)))))))) refl

pub bit_fields_usat_4 : (f s : ℕ) → bits f 11 5 ≡ 30 → bits f 9 1 ≡ 1 → bits s 15 1 ≡ 0 → bits f 8 1 ≡ 1 → bits f 10 1 ≡ 0 → bits s 5 1 ≡ 0 → bits f 4 1 ≡ 0 → bits f 5 3 ≡ 4 → decode_of f s ≡ (if can_saturate (bits s 8 4) (bits f 0 4) (bits f 5 1) (imm5_of s) then One (insns.Saturate false (bits s 8 4) (bits f 0 4) (bits s 0 5) (is_one (bits f 5 1)) (imm5_of s)) Wide else Undefined Wide)
unfolding rows decode_of
bit_fields_usat_4 f s h0 h1 h2 h3 h4 h5 h6 h7 = known_by refusals rows (first 11 5 30 ∷ first 9 1 1 ∷ second 15 1 0 ∷ first 8 1 1 ∷ first 10 1 0 ∷ second 5 1 0 ∷ first 4 1 0 ∷ first 5 3 4 ∷ []) ([]) f s (and_from _ _ (eq-eqb _ _ h0) (and_from _ _ (eq-eqb _ _ h1) (and_from _ _ (eq-eqb _ _ h2) (and_from _ _ (eq-eqb _ _ h3) (and_from _ _ (eq-eqb _ _ h4) (and_from _ _ (eq-eqb _ _ h5) (and_from _ _ (eq-eqb _ _ h6) (eq-eqb _ _ h7)))))))) refl

pub bit_fields_usat_5 : (f s : ℕ) → bits f 11 5 ≡ 30 → bits f 9 1 ≡ 1 → bits s 15 1 ≡ 0 → bits f 8 1 ≡ 1 → bits f 10 1 ≡ 0 → bits s 5 1 ≡ 0 → bits f 4 1 ≡ 0 → bits f 5 3 ≡ 5 → decode_of f s ≡ (if can_saturate (bits s 8 4) (bits f 0 4) (bits f 5 1) (imm5_of s) then One (insns.Saturate false (bits s 8 4) (bits f 0 4) (bits s 0 5) (is_one (bits f 5 1)) (imm5_of s)) Wide else Undefined Wide)
unfolding rows decode_of
bit_fields_usat_5 f s h0 h1 h2 h3 h4 h5 h6 h7 = known_by refusals rows (first 11 5 30 ∷ first 9 1 1 ∷ second 15 1 0 ∷ first 8 1 1 ∷ first 10 1 0 ∷ second 5 1 0 ∷ first 4 1 0 ∷ first 5 3 5 ∷ []) ([]) f s (and_from _ _ (eq-eqb _ _ h0) (and_from _ _ (eq-eqb _ _ h1) (and_from _ _ (eq-eqb _ _ h2) (and_from _ _ (eq-eqb _ _ h3) (and_from _ _ (eq-eqb _ _ h4) (and_from _ _ (eq-eqb _ _ h5) (and_from _ _ (eq-eqb _ _ h6) (eq-eqb _ _ h7)))))))) refl

pub bit_fields_ubfx_6 : (f s : ℕ) → bits f 11 5 ≡ 30 → bits f 9 1 ≡ 1 → bits s 15 1 ≡ 0 → bits f 8 1 ≡ 1 → bits f 10 1 ≡ 0 → bits s 5 1 ≡ 0 → bits f 4 1 ≡ 0 → bits f 5 3 ≡ 6 → decode_of f s ≡ (if can_extract (bits s 8 4) (bits f 0 4) (imm5_of s) (bits s 0 5) then One (insns.BitField fields.Ubfx (bits s 8 4) (bits f 0 4) (imm5_of s) (bits s 0 5 + 1)) Wide else Undefined Wide)
unfolding rows decode_of
bit_fields_ubfx_6 f s h0 h1 h2 h3 h4 h5 h6 h7 = known_by refusals rows (first 11 5 30 ∷ first 9 1 1 ∷ second 15 1 0 ∷ first 8 1 1 ∷ first 10 1 0 ∷ second 5 1 0 ∷ first 4 1 0 ∷ first 5 3 6 ∷ []) ([]) f s (and_from _ _ (eq-eqb _ _ h0) (and_from _ _ (eq-eqb _ _ h1) (and_from _ _ (eq-eqb _ _ h2) (and_from _ _ (eq-eqb _ _ h3) (and_from _ _ (eq-eqb _ _ h4) (and_from _ _ (eq-eqb _ _ h5) (and_from _ _ (eq-eqb _ _ h6) (eq-eqb _ _ h7)))))))) refl

pub bit_fields_other : (f s : ℕ) → bits f 11 5 ≡ 30 → bits f 9 1 ≡ 1 → bits s 15 1 ≡ 0 → bits f 8 1 ≡ 1 → bits f 10 1 ≡ 0 → bits s 5 1 ≡ 0 → bits f 4 1 ≡ 0 → bits f 5 3 ≡ 7 → decode_of f s ≡ Undefined Wide
unfolding rows decode_of
bit_fields_other f s h0 h1 h2 h3 h4 h5 h6 h7 = known_by refusals rows (first 11 5 30 ∷ first 9 1 1 ∷ second 15 1 0 ∷ first 8 1 1 ∷ first 10 1 0 ∷ second 5 1 0 ∷ first 4 1 0 ∷ first 5 3 7 ∷ []) ([]) f s (and_from _ _ (eq-eqb _ _ h0) (and_from _ _ (eq-eqb _ _ h1) (and_from _ _ (eq-eqb _ _ h2) (and_from _ _ (eq-eqb _ _ h3) (and_from _ _ (eq-eqb _ _ h4) (and_from _ _ (eq-eqb _ _ h5) (and_from _ _ (eq-eqb _ _ h6) (eq-eqb _ _ h7)))))))) refl

pub ruleset bit_fields = (bit_fields_high, bit_fields_low, bit_fields_odd, bit_fields_ssat_0, bit_fields_ssat_1, bit_fields_sbfx_2, bit_fields_usat_4, bit_fields_usat_5, bit_fields_ubfx_6, bit_fields_other)

-- ---- bfi

pub insert_bfi : (f s : ℕ) → bits f 11 5 ≡ 30 → bits f 9 1 ≡ 1 → bits s 15 1 ≡ 0 → bits f 8 1 ≡ 1 → bits f 10 1 ≡ 0 → bits s 5 1 ≡ 0 → bits f 4 1 ≡ 0 → bits f 5 3 ≡ 3 → bits f 0 4 ≢ 15 → decode_of f s ≡ (if can_insert (bits s 8 4) (bits f 0 4) (imm5_of s) (bits s 0 5) then One (insns.BitField fields.Bfi (bits s 8 4) (bits f 0 4) (imm5_of s) (bits s 0 5 + 1 - imm5_of s)) Wide else Undefined Wide)
unfolding rows decode_of
insert_bfi f s h0 h1 h2 h3 h4 h5 h6 h7 h8 = known_by refusals rows (first 11 5 30 ∷ first 9 1 1 ∷ second 15 1 0 ∷ first 8 1 1 ∷ first 10 1 0 ∷ second 5 1 0 ∷ first 4 1 0 ∷ first 5 3 3 ∷ []) ((first 0 4 15 ∷ []) ∷ []) f s (and_from _ _ (eq-eqb _ _ h0) (and_from _ _ (eq-eqb _ _ h1) (and_from _ _ (eq-eqb _ _ h2) (and_from _ _ (eq-eqb _ _ h3) (and_from _ _ (eq-eqb _ _ h4) (and_from _ _ (eq-eqb _ _ h5) (and_from _ _ (eq-eqb _ _ h6) (eq-eqb _ _ h7)))))))) (ne_eqb _ _ h8)

pub insert_bfc : (f s : ℕ) → bits f 11 5 ≡ 30 → bits f 9 1 ≡ 1 → bits s 15 1 ≡ 0 → bits f 8 1 ≡ 1 → bits f 10 1 ≡ 0 → bits s 5 1 ≡ 0 → bits f 4 1 ≡ 0 → bits f 5 3 ≡ 3 → bits f 0 4 ≡ 15 → decode_of f s ≡ (if can_clear (bits s 8 4) (imm5_of s) (bits s 0 5) then One (insns.BitField fields.Bfc (bits s 8 4) 0 (imm5_of s) (bits s 0 5 + 1 - imm5_of s)) Wide else Undefined Wide)
unfolding rows decode_of
insert_bfc f s h0 h1 h2 h3 h4 h5 h6 h7 h8 = known_by refusals rows (first 11 5 30 ∷ first 9 1 1 ∷ second 15 1 0 ∷ first 8 1 1 ∷ first 10 1 0 ∷ second 5 1 0 ∷ first 4 1 0 ∷ first 5 3 3 ∷ first 0 4 15 ∷ []) ([]) f s (and_from _ _ (eq-eqb _ _ h0) (and_from _ _ (eq-eqb _ _ h1) (and_from _ _ (eq-eqb _ _ h2) (and_from _ _ (eq-eqb _ _ h3) (and_from _ _ (eq-eqb _ _ h4) (and_from _ _ (eq-eqb _ _ h5) (and_from _ _ (eq-eqb _ _ h6) (and_from _ _ (eq-eqb _ _ h7) (eq-eqb _ _ h8))))))))) refl

pub ruleset insert = (insert_bfi, insert_bfc)
