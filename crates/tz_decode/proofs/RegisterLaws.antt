-- What the codes that process data with a shifted register mean, leaf by leaf of the decoder.
use Rattle.std.proofs.Common.{◌≡◌, ◌≢◌, ℕ, [], ◌∷◌, refl}
use Rattle.std.specs.Prelude.{if◌then◌else◌}
use Rattle.std.proofs.lemmas.Bool.{and_from, eq-eqb, ne_eqb}
use Rattle.tz_table.specs.Fields.{bits}
use Rattle.tz_table.specs.Patterns.{first, second}
use Rattle.tz_table.specs.Terms.{flags_of, imm_shift_of, imm_amount_of, imm5_of}
use Rattle.tz_table.specs.Limits.{plain2, plain3, plain_base, can_add_register, can_move}
use Rattle.tz_table.specs.Table.{rows, refusals, decode_of}
use Rattle.tz_table.proofs.Scans.{known_by}
use Rattle.tz_decode.proofs.ClassLaws.{told}
use Rattle.tz_decode.specs.DataClasses.{class_rows, class_of}
use Rattle.tz_decode.specs.declared.classes.DataClass.{DataClass}
use Rattle.tz_decode.specs.declared.classes.DataClass.TheVariants as classes
use Rattle.tz_table.specs.declared.Decoded.{Decoded}
use Rattle.tz_table.specs.declared.Decoded.TheVariants.{One, Undefined}
use Rattle.tz_table.specs.declared.Width.TheVariants.{Wide}
use Rattle.tz_table.specs.declared.Insn.TheVariants as insns
use Rattle.tz_table.specs.declared.DataOp.TheVariants as ops
use Rattle.tz_table.specs.declared.Flags.TheVariants as flags

-- ---- 1110101

pub registers_fixed : (f s : ℕ) → bits f 9 7 ≡ 117 → bits s 15 1 ≢ 0 → decode_of f s ≡ Undefined Wide
unfolding rows decode_of
registers_fixed f s h0 h1 = known_by refusals rows (first 9 7 117 ∷ []) ((second 15 1 0 ∷ []) ∷ []) f s (eq-eqb _ _ h0) (ne_eqb _ _ h1)

-- what an operation of each class is with a shifted register
abbrev pub register_of : DataClass → ℕ → ℕ → Decoded
register_of (classes.Plain op) f s = if plain3 (bits s 8 4) (bits f 0 4) (bits s 0 4) then One (insns.DataReg op (flags_of (bits f 4 1)) (bits s 8 4) (bits f 0 4) (bits s 0 4) (imm_shift_of (bits s 4 2) (imm5_of s)) (imm_amount_of (bits s 4 2) (imm5_of s))) Wide else Undefined Wide
register_of (classes.Sum op) f s = if can_add_register (bits s 8 4) (bits f 0 4) (bits s 0 4) (bits s 4 2) (imm5_of s) then One (insns.DataReg op (flags_of (bits f 4 1)) (bits s 8 4) (bits f 0 4) (bits s 0 4) (imm_shift_of (bits s 4 2) (imm5_of s)) (imm_amount_of (bits s 4 2) (imm5_of s))) Wide else Undefined Wide
register_of classes.Move f s = if can_move (bits f 4 1) (bits s 8 4) (bits s 0 4) (bits s 4 2) (imm5_of s) then One (insns.DataReg ops.Mov (flags_of (bits f 4 1)) (bits s 8 4) 0 (bits s 0 4) (imm_shift_of (bits s 4 2) (imm5_of s)) (imm_amount_of (bits s 4 2) (imm5_of s))) Wide else Undefined Wide
register_of classes.MoveNot f s = if plain2 (bits s 8 4) (bits s 0 4) then One (insns.DataReg ops.Mvn (flags_of (bits f 4 1)) (bits s 8 4) 0 (bits s 0 4) (imm_shift_of (bits s 4 2) (imm5_of s)) (imm_amount_of (bits s 4 2) (imm5_of s))) Wide else Undefined Wide
register_of (classes.Test op) f s = if plain2 (bits f 0 4) (bits s 0 4) then One (insns.DataReg op flags.Always 0 (bits f 0 4) (bits s 0 4) (imm_shift_of (bits s 4 2) (imm5_of s)) (imm_amount_of (bits s 4 2) (imm5_of s))) Wide else Undefined Wide
register_of (classes.Comparison op) f s = if plain_base (bits s 0 4) (bits f 0 4) then One (insns.DataReg op flags.Always 0 (bits f 0 4) (bits s 0 4) (imm_shift_of (bits s 4 2) (imm5_of s)) (imm_amount_of (bits s 4 2) (imm5_of s))) Wide else Undefined Wide
register_of classes.Undefined f s = Undefined Wide

pub registers : (class : DataClass) (f s : ℕ) → bits f 9 7 ≡ 117 → bits s 15 1 ≡ 0 → class ≡ class_of (bits f 5 4) f s → register_of class f s ≡ decode_of f s
unfolding rows class_rows
registers class f s h0 h1 = told (first 9 7 117 ∷ second 15 1 0 ∷ []) register_of class f s (and_from _ _ (eq-eqb _ _ h0) (eq-eqb _ _ h1)) (refl, (refl, (refl, (refl, (refl, (refl, (refl, (refl, (refl, (refl, (refl, (refl, (refl, (refl, (refl, (refl, (refl, (refl, (refl, (refl, refl))))))))))))))))))))
