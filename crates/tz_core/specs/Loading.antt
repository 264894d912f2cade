-- Loads of PC, which are the instructions that exchange after they wrote registers.
use Rattle.std.specs.Prelude.{◌==◌, Bool, false, nat_le}
use Rattle.tz_table.specs.declared.instruction.Insn.{Insn}
use Rattle.tz_table.specs.declared.instruction.Insn.TheVariants.{Load, LoadMany}

abbrev pub loads_pc : Insn → Bool
loads_pc (Load size signed rt address user) = rt == 15
loads_pc (LoadMany rn list down back) = nat_le 32768 list
loads_pc insn = false
