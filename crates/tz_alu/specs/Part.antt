-- The part of a core that an instruction of this family works on, piece by piece.
use Rattle.std.specs.Prelude.{ℕ, Result}
use Rattle.tz_table.specs.declared.units.Side.{Side}
use Rattle.tz_model.specs.declared.report.Fault.{Fault}
use Rattle.tz_model.specs.declared.report.Outcome.{Outcome}
use Rattle.tz_regs.specs.declared.parts.Registers.{Registers}
use Rattle.tz_regs.specs.declared.parts.Stacks.{Stacks}
use Rattle.tz_sem.specs.Local.{Local, Finished, finished_part}

-- whose code it is, its CCR, the registers and its stacks
abbrev pub part : Side → ℕ → Registers → Stacks → Local
part side ccr registers own = record { side = side; ccr = ccr; registers = registers; own = own }

-- what an instruction leaves of them, with its answer
abbrev pub left : Side → ℕ → Registers → Stacks → (Local → Finished) → Local × Result Outcome Fault
left side ccr registers own finish = finished_part (part side ccr registers own) (finish (part side ccr registers own))
