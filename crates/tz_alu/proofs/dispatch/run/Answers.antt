use Rattle.std.proofs.Common.{arith}
use Rattle.std.proofs.lemmas.Int.{to_z-of_z}
use Rattle.tz_alu.proofs.dispatch.run.Goals as goal

-- What these forms leave doesn't depend on whose code it is, nor on its CCR.

pub returns-in-Adr : goal.returns-in-Adr
returns-in-Adr c = let h = c.give_address.ensures c.args.side c.args.ccr in rw c.in-Adr.is (grind (arith, to_z-of_z))

pub returns-in-MovWide : goal.returns-in-MovWide
returns-in-MovWide c = rw c.in-MovWide.is (c.move_wide.ensures c.args.side c.args.ccr)

pub returns-in-Extend : goal.returns-in-Extend
returns-in-Extend c = rw c.in-Extend.is (c.extend_register.ensures c.args.side c.args.ccr)

pub returns-in-Reverse : goal.returns-in-Reverse
returns-in-Reverse c = rw c.in-Reverse.is (c.reverse_register.ensures c.args.side c.args.ccr)

pub returns-in-Multiply : goal.returns-in-Multiply
returns-in-Multiply c = rw c.in-Multiply.is (c.multiply_registers.ensures c.args.side c.args.ccr)

pub returns-in-MultiplyLong : goal.returns-in-MultiplyLong
returns-in-MultiplyLong c = rw c.in-MultiplyLong.is (c.multiply_long_registers.ensures c.args.side c.args.ccr)

pub returns-in-Saturate : goal.returns-in-Saturate
returns-in-Saturate c = rw c.in-Saturate.is (c.saturate_register.ensures c.args.side c.args.ccr)

pub returns-in-BitField : goal.returns-in-BitField
returns-in-BitField c = rw c.in-BitField.is (c.take_field.ensures c.args.side c.args.ccr)

-- These have the side, and take the CCR as it is.

pub returns-in-DataImm : goal.returns-in-DataImm
returns-in-DataImm c = rw c.in-DataImm.is (c.with_constant.ensures c.args.ccr)

pub returns-in-DataReg : goal.returns-in-DataReg
returns-in-DataReg c = rw c.in-DataReg.is (c.with_register.ensures c.args.ccr)

pub returns-in-ShiftReg : goal.returns-in-ShiftReg
returns-in-ShiftReg c = rw c.in-ShiftReg.is (c.shift_by_register.ensures c.args.ccr)

pub returns-in-AddWide : goal.returns-in-AddWide
returns-in-AddWide c = rw c.in-AddWide.is (c.add_wide.ensures c.args.ccr)

-- This one has the CCR, and doesn't depend on whose code it is.
pub returns-in-Divide : goal.returns-in-Divide
returns-in-Divide c = rw c.in-Divide.is (c.divide_registers.ensures c.args.side)
