-- An instruction from its nine numbers: so no two instructions have the same.
use Rattle.std.specs.Prelude.{ℕ, ◌==◌, ◌-◌, nat_lt, if◌then◌else◌, Bool, true, false, ℤ, pos, negsuc, List, [], ◌∷◌, ◌≡◌, refl}
use Rattle.std.proofs.Common.{sym, ◌∙◌, ap}
use Rattle.tz_bits.specs.Values.{bool_number, flags_number, shift_number, size_number, address_number, address_first, address_second, address_third, values_of}
use Rattle.tz_table.specs.declared.instruction.Insn.{Insn}
use Rattle.tz_table.specs.declared.instruction.Insn.TheVariants as insns
use Rattle.tz_table.specs.declared.instruction.Address.{Address}
use Rattle.tz_table.specs.declared.instruction.Address.TheVariants as addresses
use Rattle.tz_table.specs.declared.instruction.Flags.{Flags}
use Rattle.tz_table.specs.declared.instruction.Flags.TheVariants as flags_kinds
use Rattle.tz_table.specs.declared.units.Shift.{Shift}
use Rattle.tz_table.specs.declared.units.Shift.TheVariants as shifts
use Rattle.tz_table.specs.declared.units.Size.{Size}
use Rattle.tz_table.specs.declared.units.Size.TheVariants as sizes
use Rattle.tz_table.specs.declared.instruction.DataOp.{DataOp}
use Rattle.tz_table.specs.declared.instruction.DataOp.TheVariants as ops
use Rattle.tz_table.specs.declared.instruction.FieldOp.{FieldOp}
use Rattle.tz_table.specs.declared.instruction.FieldOp.TheVariants as fields
use Rattle.tz_table.specs.declared.instruction.ExtendOp.{ExtendOp}
use Rattle.tz_table.specs.declared.instruction.ExtendOp.TheVariants as extends
use Rattle.tz_table.specs.declared.instruction.ReverseOp.{ReverseOp}
use Rattle.tz_table.specs.declared.instruction.ReverseOp.TheVariants as reverses
use Rattle.tz_table.specs.declared.instruction.MultiplyOp.{MultiplyOp}
use Rattle.tz_table.specs.declared.instruction.MultiplyOp.TheVariants as multiplies
use Rattle.tz_table.specs.declared.instruction.LongOp.{LongOp}
use Rattle.tz_table.specs.declared.instruction.LongOp.TheVariants as longs
use Rattle.tz_table.specs.declared.instruction.BarrierOp.{BarrierOp}
use Rattle.tz_table.specs.declared.instruction.BarrierOp.TheVariants as barriers

-- the ℕ of a number that isn't negative
abbrev magnitude : ℤ → ℕ
magnitude (pos n) = n
magnitude (negsuc n) = 0

abbrev bool_of : ℤ → Bool
bool_of z = magnitude z == 1

bool_back : (b : Bool) → bool_of (pos (bool_number b)) ≡ b
bool_back false = refl
bool_back true = refl

abbrev flags_of : ℤ → Flags
flags_of z = if magnitude z == 0 then flags_kinds.Never else (if magnitude z == 1 then flags_kinds.Always else flags_kinds.OutsideIt)

flags_back : (x : Flags) → flags_of (pos (flags_number x)) ≡ x
flags_back flags_kinds.Never = refl
flags_back flags_kinds.Always = refl
flags_back flags_kinds.OutsideIt = refl

abbrev shift_of : ℤ → Shift
shift_of z = if magnitude z == 0 then shifts.Lsl else (if magnitude z == 1 then shifts.Lsr else (if magnitude z == 2 then shifts.Asr else (if magnitude z == 3 then shifts.Ror else shifts.Rrx)))

shift_back : (x : Shift) → shift_of (pos (shift_number x)) ≡ x
shift_back shifts.Lsl = refl
shift_back shifts.Lsr = refl
shift_back shifts.Asr = refl
shift_back shifts.Ror = refl
shift_back shifts.Rrx = refl

abbrev size_of : ℤ → Size
size_of z = if magnitude z == 0 then sizes.Byte else (if magnitude z == 1 then sizes.Half else sizes.Word)

size_back : (x : Size) → size_of (pos (size_number x)) ≡ x
size_back sizes.Byte = refl
size_back sizes.Half = refl
size_back sizes.Word = refl

abbrev data_of : ℕ → DataOp
data_of n = if n == 0 then ops.And else (if n == 1 then ops.Bic else (if n == 2 then ops.Orr else (if n == 3 then ops.Orn else (if n == 4 then ops.Eor else (if n == 5 then ops.Add else (if n == 6 then ops.Adc else (if n == 7 then ops.Sbc else (if n == 8 then ops.Sub else (if n == 9 then ops.Rsb else (if n == 10 then ops.Mov else (if n == 11 then ops.Mvn else (if n == 12 then ops.Tst else (if n == 13 then ops.Teq else (if n == 14 then ops.Cmn else ops.Cmp))))))))))))))

abbrev field_of : ℕ → FieldOp
field_of n = if n == 0 then fields.Sbfx else (if n == 1 then fields.Ubfx else (if n == 2 then fields.Bfi else fields.Bfc))

abbrev extend_of : ℕ → ExtendOp
extend_of n = if n == 0 then extends.Sxth else (if n == 1 then extends.Sxtb else (if n == 2 then extends.Uxth else extends.Uxtb))

abbrev reverse_of : ℕ → ReverseOp
reverse_of n = if n == 0 then reverses.Rev else (if n == 1 then reverses.Rev16 else (if n == 2 then reverses.Rbit else (if n == 3 then reverses.Revsh else reverses.Clz)))

abbrev multiply_of : ℕ → MultiplyOp
multiply_of n = if n == 0 then multiplies.Mul else (if n == 1 then multiplies.Mla else multiplies.Mls)

abbrev long_of : ℕ → LongOp
long_of n = if n == 0 then longs.Smull else (if n == 1 then longs.Umull else (if n == 2 then longs.Smlal else longs.Umlal))

abbrev barrier_of : ℕ → BarrierOp
barrier_of n = if n == 0 then barriers.Clrex else (if n == 1 then barriers.Dsb else (if n == 2 then barriers.Dmb else barriers.Isb))

abbrev address_of : ℤ → ℤ → ℤ → ℤ → Address
address_of k p q r = if magnitude k == 0 then addresses.Index (magnitude p) (magnitude q) (magnitude r) else (if magnitude k == 1 then addresses.Offset (magnitude p) q else (if magnitude k == 2 then addresses.Post (magnitude p) q else (if magnitude k == 3 then addresses.Pre (magnitude p) q else addresses.Literal p)))

address_back : (a : Address) → address_of (pos (address_number a)) (address_first a) (address_second a) (address_third a) ≡ a
address_back (addresses.Index rn rm amount) = refl
address_back (addresses.Offset rn offset) = refl
address_back (addresses.Post rn offset) = refl
address_back (addresses.Pre rn offset) = refl
address_back (addresses.Literal offset) = refl

-- an instruction from the number of its form, the words of its form and its numbers
abbrev system_from : ℕ → ℤ → ℤ → ℤ → ℤ → ℤ → ℤ → ℤ → ℤ → Insn
system_from n a b c d p q r s = if nat_lt n 86 then insns.TestTarget (bool_of a) (bool_of b) (magnitude p) (magnitude q) else (if nat_lt n 87 then insns.SecureGateway else (if nat_lt n 88 then insns.LazyState (bool_of a) (magnitude p) else (if nat_lt n 89 then insns.Supervisor (magnitude p) else (if nat_lt n 90 then insns.Breakpoint (magnitude p) else (insns.Undefined (magnitude p))))))

abbrev hint_from : ℕ → ℤ → ℤ → ℤ → ℤ → ℤ → ℤ → ℤ → ℤ → Insn
hint_from n a b c d p q r s = if nat_lt n 77 then insns.IfThen (magnitude p) (magnitude q) else (if nat_lt n 78 then insns.Hint (magnitude p) else (if nat_lt n 82 then insns.Barrier (barrier_of (n - 78)) (magnitude p) else (if nat_lt n 83 then insns.ChangeState (bool_of a) (bool_of b) (bool_of c) else (if nat_lt n 84 then insns.ReadSpecial (magnitude p) (magnitude q) else (if nat_lt n 85 then insns.WriteSpecial (magnitude p) (magnitude q) else (system_from n a b c d p q r s))))))

abbrev branch_from : ℕ → ℤ → ℤ → ℤ → ℤ → ℤ → ℤ → ℤ → ℤ → Insn
branch_from n a b c d p q r s = if nat_lt n 71 then insns.BranchIf (magnitude p) q else (if nat_lt n 72 then insns.BranchLink p else (if nat_lt n 73 then insns.BranchZero (bool_of a) (magnitude p) q else (if nat_lt n 74 then insns.TableBranch (bool_of a) (magnitude p) (magnitude q) else (if nat_lt n 75 then insns.BranchExchange (magnitude p) (bool_of a) else (if nat_lt n 76 then insns.CallExchange (magnitude p) (bool_of a) else (hint_from n a b c d p q r s))))))

abbrev exclusive_from : ℕ → ℤ → ℤ → ℤ → ℤ → ℤ → ℤ → ℤ → ℤ → Insn
exclusive_from n a b c d p q r s = if nat_lt n 65 then insns.Preload else (if nat_lt n 66 then insns.LoadExclusive (size_of a) (bool_of b) (magnitude p) (magnitude q) r else (if nat_lt n 67 then insns.StoreExclusive (size_of a) (bool_of b) (magnitude p) (magnitude q) (magnitude r) s else (if nat_lt n 68 then insns.LoadAcquire (size_of a) (magnitude p) (magnitude q) else (if nat_lt n 69 then insns.StoreRelease (size_of a) (magnitude p) (magnitude q) else (if nat_lt n 70 then insns.Branch p else (branch_from n a b c d p q r s))))))

abbrev memory_from : ℕ → ℤ → ℤ → ℤ → ℤ → ℤ → ℤ → ℤ → ℤ → Insn
memory_from n a b c d p q r s = if nat_lt n 59 then insns.Load (size_of a) (bool_of b) (magnitude p) (address_of c q r s) (bool_of d) else (if nat_lt n 60 then insns.Store (size_of a) (magnitude p) (address_of b q r s) (bool_of c) else (if nat_lt n 61 then insns.LoadPair (magnitude p) (magnitude q) (address_of a r s b) else (if nat_lt n 62 then insns.StorePair (magnitude p) (magnitude q) (address_of a r s b) else (if nat_lt n 63 then insns.LoadMany (magnitude p) (magnitude q) (bool_of a) (bool_of b) else (if nat_lt n 64 then insns.StoreMany (magnitude p) (magnitude q) (bool_of a) (bool_of b) else (exclusive_from n a b c d p q r s))))))

abbrev more_data_from : ℕ → ℤ → ℤ → ℤ → ℤ → ℤ → ℤ → ℤ → ℤ → Insn
more_data_from n a b c d p q r s = if nat_lt n 41 then insns.BitField (field_of (n - 37)) (magnitude p) (magnitude q) (magnitude r) (magnitude s) else (if nat_lt n 45 then insns.Extend (extend_of (n - 41)) (magnitude p) (magnitude q) (magnitude r) else (if nat_lt n 50 then insns.Reverse (reverse_of (n - 45)) (magnitude p) (magnitude q) else (if nat_lt n 53 then insns.Multiply (multiply_of (n - 50)) (flags_of a) (magnitude p) (magnitude q) (magnitude r) (magnitude s) else (if nat_lt n 57 then insns.MultiplyLong (long_of (n - 53)) (magnitude p) (magnitude q) (magnitude r) (magnitude s) else (if nat_lt n 58 then insns.Divide (bool_of a) (magnitude p) (magnitude q) (magnitude r) else (memory_from n a b c d p q r s))))))

abbrev data_from : ℕ → ℤ → ℤ → ℤ → ℤ → ℤ → ℤ → ℤ → ℤ → Insn
data_from n a b c d p q r s = if nat_lt n 16 then insns.DataImm (data_of n) (flags_of a) (magnitude p) (magnitude q) (magnitude r) else (if nat_lt n 32 then insns.DataReg (data_of (n - 16)) (flags_of a) (magnitude p) (magnitude q) (magnitude r) (shift_of b) (magnitude s) else (if nat_lt n 33 then insns.ShiftReg (shift_of a) (flags_of b) (magnitude p) (magnitude q) (magnitude r) else (if nat_lt n 34 then insns.AddWide (bool_of a) (magnitude p) (magnitude q) (magnitude r) else (if nat_lt n 35 then insns.Adr (magnitude p) q else (if nat_lt n 36 then insns.MovWide (bool_of a) (magnitude p) (magnitude q) else (if nat_lt n 37 then insns.Saturate (bool_of a) (magnitude p) (magnitude q) (magnitude r) (bool_of b) (magnitude s) else (more_data_from n a b c d p q r s)))))))

abbrev insn_from : List ℤ → Insn
insn_from (n ∷ a ∷ b ∷ c ∷ d ∷ p ∷ q ∷ r ∷ s ∷ []) = data_from (magnitude n) a b c d p q r s
insn_from _ = insns.Preload

data_imm_back : (op : DataOp) (flags : Flags) (rd : ℕ) (rn : ℕ) (imm12 : ℕ) → insn_from (values_of (insns.DataImm op flags rd rn imm12)) ≡ insns.DataImm op flags rd rn imm12
data_imm_back ops.And flags rd rn imm12 = ap (λ (x : Flags). insns.DataImm ops.And x rd rn imm12) (flags_back flags)
data_imm_back ops.Bic flags rd rn imm12 = ap (λ (x : Flags). insns.DataImm ops.Bic x rd rn imm12) (flags_back flags)
data_imm_back ops.Orr flags rd rn imm12 = ap (λ (x : Flags). insns.DataImm ops.Orr x rd rn imm12) (flags_back flags)
data_imm_back ops.Orn flags rd rn imm12 = ap (λ (x : Flags). insns.DataImm ops.Orn x rd rn imm12) (flags_back flags)
data_imm_back ops.Eor flags rd rn imm12 = ap (λ (x : Flags). insns.DataImm ops.Eor x rd rn imm12) (flags_back flags)
data_imm_back ops.Add flags rd rn imm12 = ap (λ (x : Flags). insns.DataImm ops.Add x rd rn imm12) (flags_back flags)
data_imm_back ops.Adc flags rd rn imm12 = ap (λ (x : Flags). insns.DataImm ops.Adc x rd rn imm12) (flags_back flags)
data_imm_back ops.Sbc flags rd rn imm12 = ap (λ (x : Flags). insns.DataImm ops.Sbc x rd rn imm12) (flags_back flags)
data_imm_back ops.Sub flags rd rn imm12 = ap (λ (x : Flags). insns.DataImm ops.Sub x rd rn imm12) (flags_back flags)
data_imm_back ops.Rsb flags rd rn imm12 = ap (λ (x : Flags). insns.DataImm ops.Rsb x rd rn imm12) (flags_back flags)
data_imm_back ops.Mov flags rd rn imm12 = ap (λ (x : Flags). insns.DataImm ops.Mov x rd rn imm12) (flags_back flags)
data_imm_back ops.Mvn flags rd rn imm12 = ap (λ (x : Flags). insns.DataImm ops.Mvn x rd rn imm12) (flags_back flags)
data_imm_back ops.Tst flags rd rn imm12 = ap (λ (x : Flags). insns.DataImm ops.Tst x rd rn imm12) (flags_back flags)
data_imm_back ops.Teq flags rd rn imm12 = ap (λ (x : Flags). insns.DataImm ops.Teq x rd rn imm12) (flags_back flags)
data_imm_back ops.Cmn flags rd rn imm12 = ap (λ (x : Flags). insns.DataImm ops.Cmn x rd rn imm12) (flags_back flags)
data_imm_back ops.Cmp flags rd rn imm12 = ap (λ (x : Flags). insns.DataImm ops.Cmp x rd rn imm12) (flags_back flags)

data_reg_back : (op : DataOp) (flags : Flags) (rd : ℕ) (rn : ℕ) (rm : ℕ) (shift : Shift) (amount : ℕ) → insn_from (values_of (insns.DataReg op flags rd rn rm shift amount)) ≡ insns.DataReg op flags rd rn rm shift amount
data_reg_back ops.And flags rd rn rm shift amount = ap (λ (x : Flags). insns.DataReg ops.And x rd rn rm (shift_of (pos (shift_number shift))) amount) (flags_back flags) ∙ ap (λ (x : Shift). insns.DataReg ops.And flags rd rn rm x amount) (shift_back shift)
data_reg_back ops.Bic flags rd rn rm shift amount = ap (λ (x : Flags). insns.DataReg ops.Bic x rd rn rm (shift_of (pos (shift_number shift))) amount) (flags_back flags) ∙ ap (λ (x : Shift). insns.DataReg ops.Bic flags rd rn rm x amount) (shift_back shift)
data_reg_back ops.Orr flags rd rn rm shift amount = ap (λ (x : Flags). insns.DataReg ops.Orr x rd rn rm (shift_of (pos (shift_number shift))) amount) (flags_back flags) ∙ ap (λ (x : Shift). insns.DataReg ops.Orr flags rd rn rm x amount) (shift_back shift)
data_reg_back ops.Orn flags rd rn rm shift amount = ap (λ (x : Flags). insns.DataReg ops.Orn x rd rn rm (shift_of (pos (shift_number shift))) amount) (flags_back flags) ∙ ap (λ (x : Shift). insns.DataReg ops.Orn flags rd rn rm x amount) (shift_back shift)
data_reg_back ops.Eor flags rd rn rm shift amount = ap (λ (x : Flags). insns.DataReg ops.Eor x rd rn rm (shift_of (pos (shift_number shift))) amount) (flags_back flags) ∙ ap (λ (x : Shift). insns.DataReg ops.Eor flags rd rn rm x amount) (shift_back shift)
data_reg_back ops.Add flags rd rn rm shift amount = ap (λ (x : Flags). insns.DataReg ops.Add x rd rn rm (shift_of (pos (shift_number shift))) amount) (flags_back flags) ∙ ap (λ (x : Shift). insns.DataReg ops.Add flags rd rn rm x amount) (shift_back shift)
data_reg_back ops.Adc flags rd rn rm shift amount = ap (λ (x : Flags). insns.DataReg ops.Adc x rd rn rm (shift_of (pos (shift_number shift))) amount) (flags_back flags) ∙ ap (λ (x : Shift). insns.DataReg ops.Adc flags rd rn rm x amount) (shift_back shift)
data_reg_back ops.Sbc flags rd rn rm shift amount = ap (λ (x : Flags). insns.DataReg ops.Sbc x rd rn rm (shift_of (pos (shift_number shift))) amount) (flags_back flags) ∙ ap (λ (x : Shift). insns.DataReg ops.Sbc flags rd rn rm x amount) (shift_back shift)
data_reg_back ops.Sub flags rd rn rm shift amount = ap (λ (x : Flags). insns.DataReg ops.Sub x rd rn rm (shift_of (pos (shift_number shift))) amount) (flags_back flags) ∙ ap (λ (x : Shift). insns.DataReg ops.Sub flags rd rn rm x amount) (shift_back shift)
data_reg_back ops.Rsb flags rd rn rm shift amount = ap (λ (x : Flags). insns.DataReg ops.Rsb x rd rn rm (shift_of (pos (shift_number shift))) amount) (flags_back flags) ∙ ap (λ (x : Shift). insns.DataReg ops.Rsb flags rd rn rm x amount) (shift_back shift)
data_reg_back ops.Mov flags rd rn rm shift amount = ap (λ (x : Flags). insns.DataReg ops.Mov x rd rn rm (shift_of (pos (shift_number shift))) amount) (flags_back flags) ∙ ap (λ (x : Shift). insns.DataReg ops.Mov flags rd rn rm x amount) (shift_back shift)
data_reg_back ops.Mvn flags rd rn rm shift amount = ap (λ (x : Flags). insns.DataReg ops.Mvn x rd rn rm (shift_of (pos (shift_number shift))) amount) (flags_back flags) ∙ ap (λ (x : Shift). insns.DataReg ops.Mvn flags rd rn rm x amount) (shift_back shift)
data_reg_back ops.Tst flags rd rn rm shift amount = ap (λ (x : Flags). insns.DataReg ops.Tst x rd rn rm (shift_of (pos (shift_number shift))) amount) (flags_back flags) ∙ ap (λ (x : Shift). insns.DataReg ops.Tst flags rd rn rm x amount) (shift_back shift)
data_reg_back ops.Teq flags rd rn rm shift amount = ap (λ (x : Flags). insns.DataReg ops.Teq x rd rn rm (shift_of (pos (shift_number shift))) amount) (flags_back flags) ∙ ap (λ (x : Shift). insns.DataReg ops.Teq flags rd rn rm x amount) (shift_back shift)
data_reg_back ops.Cmn flags rd rn rm shift amount = ap (λ (x : Flags). insns.DataReg ops.Cmn x rd rn rm (shift_of (pos (shift_number shift))) amount) (flags_back flags) ∙ ap (λ (x : Shift). insns.DataReg ops.Cmn flags rd rn rm x amount) (shift_back shift)
data_reg_back ops.Cmp flags rd rn rm shift amount = ap (λ (x : Flags). insns.DataReg ops.Cmp x rd rn rm (shift_of (pos (shift_number shift))) amount) (flags_back flags) ∙ ap (λ (x : Shift). insns.DataReg ops.Cmp flags rd rn rm x amount) (shift_back shift)

bit_field_back : (op : FieldOp) (rd : ℕ) (rn : ℕ) (low : ℕ) (width : ℕ) → insn_from (values_of (insns.BitField op rd rn low width)) ≡ insns.BitField op rd rn low width
bit_field_back fields.Sbfx rd rn low width = refl
bit_field_back fields.Ubfx rd rn low width = refl
bit_field_back fields.Bfi rd rn low width = refl
bit_field_back fields.Bfc rd rn low width = refl

extend_back : (op : ExtendOp) (rd : ℕ) (rm : ℕ) (rotate : ℕ) → insn_from (values_of (insns.Extend op rd rm rotate)) ≡ insns.Extend op rd rm rotate
extend_back extends.Sxth rd rm rotate = refl
extend_back extends.Sxtb rd rm rotate = refl
extend_back extends.Uxth rd rm rotate = refl
extend_back extends.Uxtb rd rm rotate = refl

reverse_back : (op : ReverseOp) (rd : ℕ) (rm : ℕ) → insn_from (values_of (insns.Reverse op rd rm)) ≡ insns.Reverse op rd rm
reverse_back reverses.Rev rd rm = refl
reverse_back reverses.Rev16 rd rm = refl
reverse_back reverses.Rbit rd rm = refl
reverse_back reverses.Revsh rd rm = refl
reverse_back reverses.Clz rd rm = refl

multiply_back : (op : MultiplyOp) (flags : Flags) (rd : ℕ) (rn : ℕ) (rm : ℕ) (ra : ℕ) → insn_from (values_of (insns.Multiply op flags rd rn rm ra)) ≡ insns.Multiply op flags rd rn rm ra
multiply_back multiplies.Mul flags rd rn rm ra = ap (λ (x : Flags). insns.Multiply multiplies.Mul x rd rn rm ra) (flags_back flags)
multiply_back multiplies.Mla flags rd rn rm ra = ap (λ (x : Flags). insns.Multiply multiplies.Mla x rd rn rm ra) (flags_back flags)
multiply_back multiplies.Mls flags rd rn rm ra = ap (λ (x : Flags). insns.Multiply multiplies.Mls x rd rn rm ra) (flags_back flags)

multiply_long_back : (op : LongOp) (lo : ℕ) (hi : ℕ) (rn : ℕ) (rm : ℕ) → insn_from (values_of (insns.MultiplyLong op lo hi rn rm)) ≡ insns.MultiplyLong op lo hi rn rm
multiply_long_back longs.Smull lo hi rn rm = refl
multiply_long_back longs.Umull lo hi rn rm = refl
multiply_long_back longs.Smlal lo hi rn rm = refl
multiply_long_back longs.Umlal lo hi rn rm = refl

barrier_back : (op : BarrierOp) (option : ℕ) → insn_from (values_of (insns.Barrier op option)) ≡ insns.Barrier op option
barrier_back barriers.Clrex option = refl
barrier_back barriers.Dsb option = refl
barrier_back barriers.Dmb option = refl
barrier_back barriers.Isb option = refl

insn_back : (i : Insn) → insn_from (values_of i) ≡ i
insn_back (insns.DataImm op flags rd rn imm12) = data_imm_back op flags rd rn imm12
insn_back (insns.DataReg op flags rd rn rm shift amount) = data_reg_back op flags rd rn rm shift amount
insn_back (insns.ShiftReg kind flags rd rn rm) = ap (λ (x : Shift). insns.ShiftReg x (flags_of (pos (flags_number flags))) rd rn rm) (shift_back kind) ∙ ap (λ (x : Flags). insns.ShiftReg kind x rd rn rm) (flags_back flags)
insn_back (insns.AddWide sub rd rn imm) = ap (λ (x : Bool). insns.AddWide x rd rn imm) (bool_back sub)
insn_back (insns.Adr rd offset) = refl
insn_back (insns.MovWide top rd imm) = ap (λ (x : Bool). insns.MovWide x rd imm) (bool_back top)
insn_back (insns.Saturate signed rd rn bits asr amount) = ap (λ (x : Bool). insns.Saturate x rd rn bits (bool_of (pos (bool_number asr))) amount) (bool_back signed) ∙ ap (λ (x : Bool). insns.Saturate signed rd rn bits x amount) (bool_back asr)
insn_back (insns.BitField op rd rn low width) = bit_field_back op rd rn low width
insn_back (insns.Extend op rd rm rotate) = extend_back op rd rm rotate
insn_back (insns.Reverse op rd rm) = reverse_back op rd rm
insn_back (insns.Multiply op flags rd rn rm ra) = multiply_back op flags rd rn rm ra
insn_back (insns.MultiplyLong op lo hi rn rm) = multiply_long_back op lo hi rn rm
insn_back (insns.Divide signed rd rn rm) = ap (λ (x : Bool). insns.Divide x rd rn rm) (bool_back signed)
insn_back (insns.Load size signed rt address user) = ap (λ (x : Size). insns.Load x (bool_of (pos (bool_number signed))) rt (address_of (pos (address_number address)) (address_first address) (address_second address) (address_third address)) (bool_of (pos (bool_number user)))) (size_back size) ∙ ap (λ (x : Bool). insns.Load size x rt (address_of (pos (address_number address)) (address_first address) (address_second address) (address_third address)) (bool_of (pos (bool_number user)))) (bool_back signed) ∙ ap (λ (x : Address). insns.Load size signed rt x (bool_of (pos (bool_number user)))) (address_back address) ∙ ap (λ (x : Bool). insns.Load size signed rt address x) (bool_back user)
insn_back (insns.Store size rt address user) = ap (λ (x : Size). insns.Store x rt (address_of (pos (address_number address)) (address_first address) (address_second address) (address_third address)) (bool_of (pos (bool_number user)))) (size_back size) ∙ ap (λ (x : Address). insns.Store size rt x (bool_of (pos (bool_number user)))) (address_back address) ∙ ap (λ (x : Bool). insns.Store size rt address x) (bool_back user)
insn_back (insns.LoadPair rt rt2 address) = ap (λ (x : Address). insns.LoadPair rt rt2 x) (address_back address)
insn_back (insns.StorePair rt rt2 address) = ap (λ (x : Address). insns.StorePair rt rt2 x) (address_back address)
insn_back (insns.LoadMany rn list down back) = ap (λ (x : Bool). insns.LoadMany rn list x (bool_of (pos (bool_number back)))) (bool_back down) ∙ ap (λ (x : Bool). insns.LoadMany rn list down x) (bool_back back)
insn_back (insns.StoreMany rn list down back) = ap (λ (x : Bool). insns.StoreMany rn list x (bool_of (pos (bool_number back)))) (bool_back down) ∙ ap (λ (x : Bool). insns.StoreMany rn list down x) (bool_back back)
insn_back insns.Preload = refl
insn_back (insns.LoadExclusive size acquire rt rn offset) = ap (λ (x : Size). insns.LoadExclusive x (bool_of (pos (bool_number acquire))) rt rn offset) (size_back size) ∙ ap (λ (x : Bool). insns.LoadExclusive size x rt rn offset) (bool_back acquire)
insn_back (insns.StoreExclusive size release rd rt rn offset) = ap (λ (x : Size). insns.StoreExclusive x (bool_of (pos (bool_number release))) rd rt rn offset) (size_back size) ∙ ap (λ (x : Bool). insns.StoreExclusive size x rd rt rn offset) (bool_back release)
insn_back (insns.LoadAcquire size rt rn) = ap (λ (x : Size). insns.LoadAcquire x rt rn) (size_back size)
insn_back (insns.StoreRelease size rt rn) = ap (λ (x : Size). insns.StoreRelease x rt rn) (size_back size)
insn_back (insns.Branch offset) = refl
insn_back (insns.BranchIf cond offset) = refl
insn_back (insns.BranchLink offset) = refl
insn_back (insns.BranchZero nonzero rn offset) = ap (λ (x : Bool). insns.BranchZero x rn offset) (bool_back nonzero)
insn_back (insns.TableBranch half rn rm) = ap (λ (x : Bool). insns.TableBranch x rn rm) (bool_back half)
insn_back (insns.BranchExchange rm ns) = ap (λ (x : Bool). insns.BranchExchange rm x) (bool_back ns)
insn_back (insns.CallExchange rm ns) = ap (λ (x : Bool). insns.CallExchange rm x) (bool_back ns)
insn_back (insns.IfThen cond mask) = refl
insn_back (insns.Hint op) = refl
insn_back (insns.Barrier op option) = barrier_back op option
insn_back (insns.ChangeState disable i f) = ap (λ (x : Bool). insns.ChangeState x (bool_of (pos (bool_number i))) (bool_of (pos (bool_number f)))) (bool_back disable) ∙ ap (λ (x : Bool). insns.ChangeState disable x (bool_of (pos (bool_number f)))) (bool_back i) ∙ ap (λ (x : Bool). insns.ChangeState disable i x) (bool_back f)
insn_back (insns.ReadSpecial rd sysm) = refl
insn_back (insns.WriteSpecial rn sysm) = refl
insn_back (insns.TestTarget a t rd rn) = ap (λ (x : Bool). insns.TestTarget x (bool_of (pos (bool_number t))) rd rn) (bool_back a) ∙ ap (λ (x : Bool). insns.TestTarget a x rd rn) (bool_back t)
insn_back insns.SecureGateway = refl
insn_back (insns.LazyState load rn) = ap (λ (x : Bool). insns.LazyState x rn) (bool_back load)
insn_back (insns.Supervisor imm) = refl
insn_back (insns.Breakpoint imm) = refl
insn_back (insns.Undefined imm) = refl

pub same_values : (i j : Insn) → values_of i ≡ values_of j → i ≡ j
same_values i j same = sym (insn_back i) ∙ ap insn_from same ∙ insn_back j
