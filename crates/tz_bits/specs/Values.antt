-- An instruction field by field as numbers: four words of its form beside the form's number, and four
-- numbers of its registers, constants and offsets in the order of its fields, those of an address in the
-- address's place. What is not used is 0.
use Rattle.std.specs.Prelude.{ℕ, ◌+◌, Bool, true, false, ℤ, pos, List, [], ◌∷◌}
use Rattle.tz_table.specs.Forms.{data_number, field_number, extend_number, reverse_number, multiply_number, long_number, barrier_number}
use Rattle.tz_table.specs.declared.instruction.Insn.{Insn}
use Rattle.tz_table.specs.declared.instruction.Insn.TheVariants as insns
use Rattle.tz_table.specs.declared.instruction.Address.{Address}
use Rattle.tz_table.specs.declared.instruction.Address.TheVariants as addresses
use Rattle.tz_table.specs.declared.instruction.Flags.{Flags}
use Rattle.tz_table.specs.declared.instruction.Flags.TheVariants as flags_kinds
use Rattle.tz_table.specs.declared.units.Shift.{Shift}
use Rattle.tz_table.specs.declared.units.Shift.TheVariants as shifts
use Rattle.tz_table.specs.declared.units.Size.{Size}
use Rattle.tz_table.specs.declared.units.Size.TheVariants as sizes
use Rattle.tz_bits.specs.declared.names.FieldName.{FieldName}
use Rattle.tz_bits.specs.declared.names.FieldName.TheVariants as names

abbrev pub bool_number : Bool → ℕ
bool_number false = 0
bool_number true = 1

abbrev pub flags_number : Flags → ℕ
flags_number flags_kinds.Never = 0
flags_number flags_kinds.Always = 1
flags_number flags_kinds.OutsideIt = 2

abbrev pub shift_number : Shift → ℕ
shift_number shifts.Lsl = 0
shift_number shifts.Lsr = 1
shift_number shifts.Asr = 2
shift_number shifts.Ror = 3
shift_number shifts.Rrx = 4

abbrev pub size_number : Size → ℕ
size_number sizes.Byte = 0
size_number sizes.Half = 1
size_number sizes.Word = 2

-- register plus offset: the bit P (the access is at the sum) plus twice the bit W (the register takes the sum)
abbrev pub address_number : Address → ℕ
address_number (addresses.Index rn rm amount) = 0
address_number (addresses.Offset rn offset) = 1
address_number (addresses.Post rn offset) = 2
address_number (addresses.Pre rn offset) = 3
address_number (addresses.Literal offset) = 4

-- the numbers of an address, in the order of its fields
abbrev pub address_first : Address → ℤ
address_first (addresses.Index rn rm amount) = pos rn
address_first (addresses.Offset rn offset) = pos rn
address_first (addresses.Post rn offset) = pos rn
address_first (addresses.Pre rn offset) = pos rn
address_first (addresses.Literal offset) = offset

abbrev pub address_second : Address → ℤ
address_second (addresses.Index rn rm amount) = pos rm
address_second (addresses.Offset rn offset) = offset
address_second (addresses.Post rn offset) = offset
address_second (addresses.Pre rn offset) = offset
address_second (addresses.Literal offset) = pos 0

abbrev pub address_third : Address → ℤ
address_third (addresses.Index rn rm amount) = pos amount
address_third (addresses.Offset rn offset) = pos 0
address_third (addresses.Post rn offset) = pos 0
address_third (addresses.Pre rn offset) = pos 0
address_third (addresses.Literal offset) = pos 0

-- A pair that takes its address from two registers is no code's instruction; there the third number of its
-- address, for which no place is left, stands in the form.
abbrev pub values_of : Insn → List ℤ
values_of (insns.DataImm op flags rd rn imm12) = pos (data_number op) ∷ pos (flags_number flags) ∷ pos 0 ∷ pos 0 ∷ pos 0 ∷ pos rd ∷ pos rn ∷ pos imm12 ∷ pos 0 ∷ []
values_of (insns.DataReg op flags rd rn rm shift amount) = pos (16 + data_number op) ∷ pos (flags_number flags) ∷ pos (shift_number shift) ∷ pos 0 ∷ pos 0 ∷ pos rd ∷ pos rn ∷ pos rm ∷ pos amount ∷ []
values_of (insns.ShiftReg kind flags rd rn rm) = pos 32 ∷ pos (shift_number kind) ∷ pos (flags_number flags) ∷ pos 0 ∷ pos 0 ∷ pos rd ∷ pos rn ∷ pos rm ∷ pos 0 ∷ []
values_of (insns.AddWide sub rd rn imm) = pos 33 ∷ pos (bool_number sub) ∷ pos 0 ∷ pos 0 ∷ pos 0 ∷ pos rd ∷ pos rn ∷ pos imm ∷ pos 0 ∷ []
values_of (insns.Adr rd offset) = pos 34 ∷ pos 0 ∷ pos 0 ∷ pos 0 ∷ pos 0 ∷ pos rd ∷ offset ∷ pos 0 ∷ pos 0 ∷ []
values_of (insns.MovWide top rd imm) = pos 35 ∷ pos (bool_number top) ∷ pos 0 ∷ pos 0 ∷ pos 0 ∷ pos rd ∷ pos imm ∷ pos 0 ∷ pos 0 ∷ []
values_of (insns.Saturate signed rd rn bits asr amount) = pos 36 ∷ pos (bool_number signed) ∷ pos (bool_number asr) ∷ pos 0 ∷ pos 0 ∷ pos rd ∷ pos rn ∷ pos bits ∷ pos amount ∷ []
values_of (insns.BitField op rd rn low width) = pos (37 + field_number op) ∷ pos 0 ∷ pos 0 ∷ pos 0 ∷ pos 0 ∷ pos rd ∷ pos rn ∷ pos low ∷ pos width ∷ []
values_of (insns.Extend op rd rm rotate) = pos (41 + extend_number op) ∷ pos 0 ∷ pos 0 ∷ pos 0 ∷ pos 0 ∷ pos rd ∷ pos rm ∷ pos rotate ∷ pos 0 ∷ []
values_of (insns.Reverse op rd rm) = pos (45 + reverse_number op) ∷ pos 0 ∷ pos 0 ∷ pos 0 ∷ pos 0 ∷ pos rd ∷ pos rm ∷ pos 0 ∷ pos 0 ∷ []
values_of (insns.Multiply op flags rd rn rm ra) = pos (50 + multiply_number op) ∷ pos (flags_number flags) ∷ pos 0 ∷ pos 0 ∷ pos 0 ∷ pos rd ∷ pos rn ∷ pos rm ∷ pos ra ∷ []
values_of (insns.MultiplyLong op lo hi rn rm) = pos (53 + long_number op) ∷ pos 0 ∷ pos 0 ∷ pos 0 ∷ pos 0 ∷ pos lo ∷ pos hi ∷ pos rn ∷ pos rm ∷ []
values_of (insns.Divide signed rd rn rm) = pos 57 ∷ pos (bool_number signed) ∷ pos 0 ∷ pos 0 ∷ pos 0 ∷ pos rd ∷ pos rn ∷ pos rm ∷ pos 0 ∷ []
values_of (insns.Load size signed rt address user) = pos 58 ∷ pos (size_number size) ∷ pos (bool_number signed) ∷ pos (address_number address) ∷ pos (bool_number user) ∷ pos rt ∷ address_first address ∷ address_second address ∷ address_third address ∷ []
values_of (insns.Store size rt address user) = pos 59 ∷ pos (size_number size) ∷ pos (address_number address) ∷ pos (bool_number user) ∷ pos 0 ∷ pos rt ∷ address_first address ∷ address_second address ∷ address_third address ∷ []
values_of (insns.LoadPair rt rt2 address) = pos 60 ∷ pos (address_number address) ∷ address_third address ∷ pos 0 ∷ pos 0 ∷ pos rt ∷ pos rt2 ∷ address_first address ∷ address_second address ∷ []
values_of (insns.StorePair rt rt2 address) = pos 61 ∷ pos (address_number address) ∷ address_third address ∷ pos 0 ∷ pos 0 ∷ pos rt ∷ pos rt2 ∷ address_first address ∷ address_second address ∷ []
values_of (insns.LoadMany rn list down back) = pos 62 ∷ pos (bool_number down) ∷ pos (bool_number back) ∷ pos 0 ∷ pos 0 ∷ pos rn ∷ pos list ∷ pos 0 ∷ pos 0 ∷ []
values_of (insns.StoreMany rn list down back) = pos 63 ∷ pos (bool_number down) ∷ pos (bool_number back) ∷ pos 0 ∷ pos 0 ∷ pos rn ∷ pos list ∷ pos 0 ∷ pos 0 ∷ []
values_of insns.Preload = pos 64 ∷ pos 0 ∷ pos 0 ∷ pos 0 ∷ pos 0 ∷ pos 0 ∷ pos 0 ∷ pos 0 ∷ pos 0 ∷ []
values_of (insns.LoadExclusive size acquire rt rn offset) = pos 65 ∷ pos (size_number size) ∷ pos (bool_number acquire) ∷ pos 0 ∷ pos 0 ∷ pos rt ∷ pos rn ∷ offset ∷ pos 0 ∷ []
values_of (insns.StoreExclusive size release rd rt rn offset) = pos 66 ∷ pos (size_number size) ∷ pos (bool_number release) ∷ pos 0 ∷ pos 0 ∷ pos rd ∷ pos rt ∷ pos rn ∷ offset ∷ []
values_of (insns.LoadAcquire size rt rn) = pos 67 ∷ pos (size_number size) ∷ pos 0 ∷ pos 0 ∷ pos 0 ∷ pos rt ∷ pos rn ∷ pos 0 ∷ pos 0 ∷ []
values_of (insns.StoreRelease size rt rn) = pos 68 ∷ pos (size_number size) ∷ pos 0 ∷ pos 0 ∷ pos 0 ∷ pos rt ∷ pos rn ∷ pos 0 ∷ pos 0 ∷ []
values_of (insns.Branch offset) = pos 69 ∷ pos 0 ∷ pos 0 ∷ pos 0 ∷ pos 0 ∷ offset ∷ pos 0 ∷ pos 0 ∷ pos 0 ∷ []
values_of (insns.BranchIf cond offset) = pos 70 ∷ pos 0 ∷ pos 0 ∷ pos 0 ∷ pos 0 ∷ pos cond ∷ offset ∷ pos 0 ∷ pos 0 ∷ []
values_of (insns.BranchLink offset) = pos 71 ∷ pos 0 ∷ pos 0 ∷ pos 0 ∷ pos 0 ∷ offset ∷ pos 0 ∷ pos 0 ∷ pos 0 ∷ []
values_of (insns.BranchZero nonzero rn offset) = pos 72 ∷ pos (bool_number nonzero) ∷ pos 0 ∷ pos 0 ∷ pos 0 ∷ pos rn ∷ offset ∷ pos 0 ∷ pos 0 ∷ []
values_of (insns.TableBranch half rn rm) = pos 73 ∷ pos (bool_number half) ∷ pos 0 ∷ pos 0 ∷ pos 0 ∷ pos rn ∷ pos rm ∷ pos 0 ∷ pos 0 ∷ []
values_of (insns.BranchExchange rm ns) = pos 74 ∷ pos (bool_number ns) ∷ pos 0 ∷ pos 0 ∷ pos 0 ∷ pos rm ∷ pos 0 ∷ pos 0 ∷ pos 0 ∷ []
values_of (insns.CallExchange rm ns) = pos 75 ∷ pos (bool_number ns) ∷ pos 0 ∷ pos 0 ∷ pos 0 ∷ pos rm ∷ pos 0 ∷ pos 0 ∷ pos 0 ∷ []
values_of (insns.IfThen cond mask) = pos 76 ∷ pos 0 ∷ pos 0 ∷ pos 0 ∷ pos 0 ∷ pos cond ∷ pos mask ∷ pos 0 ∷ pos 0 ∷ []
values_of (insns.Hint op) = pos 77 ∷ pos 0 ∷ pos 0 ∷ pos 0 ∷ pos 0 ∷ pos op ∷ pos 0 ∷ pos 0 ∷ pos 0 ∷ []
values_of (insns.Barrier op option) = pos (78 + barrier_number op) ∷ pos 0 ∷ pos 0 ∷ pos 0 ∷ pos 0 ∷ pos option ∷ pos 0 ∷ pos 0 ∷ pos 0 ∷ []
values_of (insns.ChangeState disable i f) = pos 82 ∷ pos (bool_number disable) ∷ pos (bool_number i) ∷ pos (bool_number f) ∷ pos 0 ∷ pos 0 ∷ pos 0 ∷ pos 0 ∷ pos 0 ∷ []
values_of (insns.ReadSpecial rd sysm) = pos 83 ∷ pos 0 ∷ pos 0 ∷ pos 0 ∷ pos 0 ∷ pos rd ∷ pos sysm ∷ pos 0 ∷ pos 0 ∷ []
values_of (insns.WriteSpecial rn sysm) = pos 84 ∷ pos 0 ∷ pos 0 ∷ pos 0 ∷ pos 0 ∷ pos rn ∷ pos sysm ∷ pos 0 ∷ pos 0 ∷ []
values_of (insns.TestTarget a t rd rn) = pos 85 ∷ pos (bool_number a) ∷ pos (bool_number t) ∷ pos 0 ∷ pos 0 ∷ pos rd ∷ pos rn ∷ pos 0 ∷ pos 0 ∷ []
values_of insns.SecureGateway = pos 86 ∷ pos 0 ∷ pos 0 ∷ pos 0 ∷ pos 0 ∷ pos 0 ∷ pos 0 ∷ pos 0 ∷ pos 0 ∷ []
values_of (insns.LazyState load rn) = pos 87 ∷ pos (bool_number load) ∷ pos 0 ∷ pos 0 ∷ pos 0 ∷ pos rn ∷ pos 0 ∷ pos 0 ∷ pos 0 ∷ []
values_of (insns.Supervisor imm) = pos 88 ∷ pos 0 ∷ pos 0 ∷ pos 0 ∷ pos 0 ∷ pos imm ∷ pos 0 ∷ pos 0 ∷ pos 0 ∷ []
values_of (insns.Breakpoint imm) = pos 89 ∷ pos 0 ∷ pos 0 ∷ pos 0 ∷ pos 0 ∷ pos imm ∷ pos 0 ∷ pos 0 ∷ pos 0 ∷ []
values_of (insns.Undefined imm) = pos 90 ∷ pos 0 ∷ pos 0 ∷ pos 0 ∷ pos 0 ∷ pos imm ∷ pos 0 ∷ pos 0 ∷ pos 0 ∷ []

-- the names of the numbers of an address
abbrev pub address_names : Address → List FieldName
address_names (addresses.Index rn rm amount) = names.Rn ∷ names.Rm ∷ names.Amount ∷ []
address_names (addresses.Offset rn offset) = names.Rn ∷ names.Offset ∷ []
address_names (addresses.Post rn offset) = names.Rn ∷ names.Offset ∷ []
address_names (addresses.Pre rn offset) = names.Rn ∷ names.Offset ∷ []
address_names (addresses.Literal offset) = names.Offset ∷ []

-- the same in a pair, where the third stands in the form
abbrev pub pair_names : Address → List FieldName
pair_names (addresses.Index rn rm amount) = names.Rn ∷ names.Rm ∷ []
pair_names (addresses.Offset rn offset) = names.Rn ∷ names.Offset ∷ []
pair_names (addresses.Post rn offset) = names.Rn ∷ names.Offset ∷ []
pair_names (addresses.Pre rn offset) = names.Rn ∷ names.Offset ∷ []
pair_names (addresses.Literal offset) = names.Offset ∷ []

-- the names of an instruction's numbers, in their order
abbrev pub names_of : Insn → List FieldName
names_of (insns.DataImm op flags rd rn imm12) = names.Rd ∷ names.Rn ∷ names.Imm12 ∷ []
names_of (insns.DataReg op flags rd rn rm shift amount) = names.Rd ∷ names.Rn ∷ names.Rm ∷ names.Amount ∷ []
names_of (insns.ShiftReg kind flags rd rn rm) = names.Rd ∷ names.Rn ∷ names.Rm ∷ []
names_of (insns.AddWide sub rd rn imm) = names.Rd ∷ names.Rn ∷ names.Imm ∷ []
names_of (insns.Adr rd offset) = names.Rd ∷ names.Offset ∷ []
names_of (insns.MovWide top rd imm) = names.Rd ∷ names.Imm ∷ []
names_of (insns.Saturate signed rd rn bits asr amount) = names.Rd ∷ names.Rn ∷ names.Bits ∷ names.Amount ∷ []
names_of (insns.BitField op rd rn low width) = names.Rd ∷ names.Rn ∷ names.Low ∷ names.Width ∷ []
names_of (insns.Extend op rd rm rotate) = names.Rd ∷ names.Rm ∷ names.Rotate ∷ []
names_of (insns.Reverse op rd rm) = names.Rd ∷ names.Rm ∷ []
names_of (insns.Multiply op flags rd rn rm ra) = names.Rd ∷ names.Rn ∷ names.Rm ∷ names.Ra ∷ []
names_of (insns.MultiplyLong op lo hi rn rm) = names.Lo ∷ names.Hi ∷ names.Rn ∷ names.Rm ∷ []
names_of (insns.Divide signed rd rn rm) = names.Rd ∷ names.Rn ∷ names.Rm ∷ []
names_of (insns.Load size signed rt address user) = names.Rt ∷ address_names address
names_of (insns.Store size rt address user) = names.Rt ∷ address_names address
names_of (insns.LoadPair rt rt2 address) = names.Rt ∷ names.Rt2 ∷ pair_names address
names_of (insns.StorePair rt rt2 address) = names.Rt ∷ names.Rt2 ∷ pair_names address
names_of (insns.LoadMany rn list down back) = names.Rn ∷ names.List ∷ []
names_of (insns.StoreMany rn list down back) = names.Rn ∷ names.List ∷ []
names_of insns.Preload = []
names_of (insns.LoadExclusive size acquire rt rn offset) = names.Rt ∷ names.Rn ∷ names.Offset ∷ []
names_of (insns.StoreExclusive size release rd rt rn offset) = names.Rd ∷ names.Rt ∷ names.Rn ∷ names.Offset ∷ []
names_of (insns.LoadAcquire size rt rn) = names.Rt ∷ names.Rn ∷ []
names_of (insns.StoreRelease size rt rn) = names.Rt ∷ names.Rn ∷ []
names_of (insns.Branch offset) = names.Offset ∷ []
names_of (insns.BranchIf cond offset) = names.Cond ∷ names.Offset ∷ []
names_of (insns.BranchLink offset) = names.Offset ∷ []
names_of (insns.BranchZero nonzero rn offset) = names.Rn ∷ names.Offset ∷ []
names_of (insns.TableBranch half rn rm) = names.Rn ∷ names.Rm ∷ []
names_of (insns.BranchExchange rm ns) = names.Rm ∷ []
names_of (insns.CallExchange rm ns) = names.Rm ∷ []
names_of (insns.IfThen cond mask) = names.Cond ∷ names.Mask ∷ []
names_of (insns.Hint op) = names.Op ∷ []
names_of (insns.Barrier op option) = names.Option ∷ []
names_of (insns.ChangeState disable i f) = []
names_of (insns.ReadSpecial rd sysm) = names.Rd ∷ names.Sysm ∷ []
names_of (insns.WriteSpecial rn sysm) = names.Rn ∷ names.Sysm ∷ []
names_of (insns.TestTarget a t rd rn) = names.Rd ∷ names.Rn ∷ []
names_of insns.SecureGateway = []
names_of (insns.LazyState load rn) = names.Rn ∷ []
names_of (insns.Supervisor imm) = names.Imm ∷ []
names_of (insns.Breakpoint imm) = names.Imm ∷ []
names_of (insns.Undefined imm) = names.Imm ∷ []
