use Rattle.std.proofs.lemmas.Result.{IfOk-weaker}
use Rattle.tz_board.proofs.ScriptLines.{script_of-on}
use Rattle.tz_board.proofs.script_file.read_script.Goals as goal

pub returns-clause-on_board : goal.returns-clause-on_board
returns-clause-on_board c = IfOk-weaker c.read_lines.result _ _ (λ s h. script_of-on c.args.bytes.now c.args.interrupts s h) c.read_lines.ensures.ok
