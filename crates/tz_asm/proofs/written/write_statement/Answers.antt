use Rattle.std.proofs.Common.{arith}
use Rattle.std.proofs.lemmas.Grind.{common_steps}
use Rattle.tz_asm.specs.Values.{data_bytes}
use Rattle.tz_asm.specs.Written.{Writes}
use Rattle.std.proofs.lemmas.Result.{on_ok_weaker}
use Rattle.tz_asm.specs.Layouts.{byte_count}
use Rattle.tz_asm.specs.Places.{places_in}
use Rattle.tz_asm.specs.Views.{expression_view, views}
use Rattle.tz_asm.proofs.Bytes.{InstructionWrites-length, data_bytes-length}
use Rattle.tz_asm.proofs.written.write_statement.Goals as goal

pub returns-in-Data-clause-count : goal.returns-in-Data-clause-count
unfolding byte_count
returns-in-Data-clause-count c =
    rw c.in-Data.is
    (on_ok_weaker c.write_data.result
    (data_bytes-length c.args.line (places_in c.args.places.now) c.in-Data.size (expression_view c.in-Data.expression) c.write_data.new.bytes.items) c.write_data.ensures.ok)

pub returns-in-Instruction-clause-count : goal.returns-in-Instruction-clause-count
unfolding byte_count
returns-in-Instruction-clause-count c =
    rw c.in-Instruction.is
    (on_ok_weaker c.write_instruction.result
    (InstructionWrites-length c.args.line (places_in c.args.places.now) c.args.place c.in-Instruction.width c.in-Instruction.mnemonic.now (views c.in-Instruction.operands.now)
    c.write_instruction.new.bytes.items) c.write_instruction.ensures.ok)

-- The first call that the prover tries finds nothing here, after long: the one that does is named.
pub returns-in-Ok-clause-ok : goal.returns-in-Ok-clause-ok
unfolding Writes byte_count data_bytes
returns-in-Ok-clause-ok c = grind (arith, common_steps)
