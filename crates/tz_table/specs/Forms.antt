-- The number of an instruction's form: its variant with its operation.
use Rattle.std.specs.Prelude.{ℕ, ◌+◌}
use Rattle.tz_table.specs.declared.instruction.Insn.{Insn}
use Rattle.tz_table.specs.declared.instruction.Insn.TheVariants as insns
use Rattle.tz_table.specs.declared.instruction.DataOp.{DataOp}
use Rattle.tz_table.specs.declared.instruction.DataOp.TheVariants as ops
use Rattle.tz_table.specs.declared.instruction.FieldOp.{FieldOp}
use Rattle.tz_table.specs.declared.instruction.FieldOp.TheVariants as fields
use Rattle.tz_table.specs.declared.instruction.ExtendOp.{ExtendOp}
use Rattle.tz_table.specs.declared.instruction.ExtendOp.TheVariants as extends
use Rattle.tz_table.specs.declared.instruction.ReverseOp.{ReverseOp}
use Rattle.tz_table.specs.declared.instruction.ReverseOp.TheVariants as reverses
use Rattle.tz_table.specs.declared.instruction.MultiplyOp.{MultiplyOp}
use Rattle.tz_table.specs.declared.instruction.MultiplyOp.TheVariants as multiplies
use Rattle.tz_table.specs.declared.instruction.LongOp.{LongOp}
use Rattle.tz_table.specs.declared.instruction.LongOp.TheVariants as longs
use Rattle.tz_table.specs.declared.instruction.BarrierOp.{BarrierOp}
use Rattle.tz_table.specs.declared.instruction.BarrierOp.TheVariants as barriers

abbrev pub data_number : DataOp → ℕ
data_number ops.And = 0
data_number ops.Bic = 1
data_number ops.Orr = 2
data_number ops.Orn = 3
data_number ops.Eor = 4
data_number ops.Add = 5
data_number ops.Adc = 6
data_number ops.Sbc = 7
data_number ops.Sub = 8
data_number ops.Rsb = 9
data_number ops.Mov = 10
data_number ops.Mvn = 11
data_number ops.Tst = 12
data_number ops.Teq = 13
data_number ops.Cmn = 14
data_number ops.Cmp = 15

abbrev pub field_number : FieldOp → ℕ
field_number fields.Sbfx = 0
field_number fields.Ubfx = 1
field_number fields.Bfi = 2
field_number fields.Bfc = 3

abbrev pub extend_number : ExtendOp → ℕ
extend_number extends.Sxth = 0
extend_number extends.Sxtb = 1
extend_number extends.Uxth = 2
extend_number extends.Uxtb = 3

abbrev pub reverse_number : ReverseOp → ℕ
reverse_number reverses.Rev = 0
reverse_number reverses.Rev16 = 1
reverse_number reverses.Rbit = 2
reverse_number reverses.Revsh = 3
reverse_number reverses.Clz = 4

abbrev pub multiply_number : MultiplyOp → ℕ
multiply_number multiplies.Mul = 0
multiply_number multiplies.Mla = 1
multiply_number multiplies.Mls = 2

abbrev pub long_number : LongOp → ℕ
long_number longs.Smull = 0
long_number longs.Umull = 1
long_number longs.Smlal = 2
long_number longs.Umlal = 3

abbrev pub barrier_number : BarrierOp → ℕ
barrier_number barriers.Clrex = 0
barrier_number barriers.Dsb = 1
barrier_number barriers.Dmb = 2
barrier_number barriers.Isb = 3

abbrev pub form_of : Insn → ℕ
form_of (insns.DataImm op flags rd rn imm12) = data_number op
form_of (insns.DataReg op flags rd rn rm shift amount) = 16 + data_number op
form_of (insns.ShiftReg kind flags rd rn rm) = 32
form_of (insns.AddWide sub rd rn imm) = 33
form_of (insns.Adr rd offset) = 34
form_of (insns.MovWide top rd imm) = 35
form_of (insns.Saturate signed rd rn bits asr amount) = 36
form_of (insns.BitField op rd rn low width) = 37 + field_number op
form_of (insns.Extend op rd rm rotate) = 41 + extend_number op
form_of (insns.Reverse op rd rm) = 45 + reverse_number op
form_of (insns.Multiply op flags rd rn rm ra) = 50 + multiply_number op
form_of (insns.MultiplyLong op lo hi rn rm) = 53 + long_number op
form_of (insns.Divide signed rd rn rm) = 57
form_of (insns.Load size signed rt address user) = 58
form_of (insns.Store size rt address user) = 59
form_of (insns.LoadPair rt rt2 address) = 60
form_of (insns.StorePair rt rt2 address) = 61
form_of (insns.LoadMany rn list down back) = 62
form_of (insns.StoreMany rn list down back) = 63
form_of insns.Preload = 64
form_of (insns.LoadExclusive size acquire rt rn offset) = 65
form_of (insns.StoreExclusive size release rd rt rn offset) = 66
form_of (insns.LoadAcquire size rt rn) = 67
form_of (insns.StoreRelease size rt rn) = 68
form_of (insns.Branch offset) = 69
form_of (insns.BranchIf cond offset) = 70
form_of (insns.BranchLink offset) = 71
form_of (insns.BranchZero nonzero rn offset) = 72
form_of (insns.TableBranch half rn rm) = 73
form_of (insns.BranchExchange rm ns) = 74
form_of (insns.CallExchange rm ns) = 75
form_of (insns.IfThen cond mask) = 76
form_of (insns.Hint op) = 77
form_of (insns.Barrier op option) = 78 + barrier_number op
form_of (insns.ChangeState disable i f) = 82
form_of (insns.ReadSpecial rd sysm) = 83
form_of (insns.WriteSpecial rn sysm) = 84
form_of (insns.TestTarget a t rd rn) = 85
form_of insns.SecureGateway = 86
form_of (insns.LazyState load rn) = 87
form_of (insns.Supervisor imm) = 88
form_of (insns.Breakpoint imm) = 89
form_of (insns.Undefined imm) = 90
