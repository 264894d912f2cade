use Rattle.std.proofs.Common.{◌-◌, arith}
use Rattle.std.proofs.lemmas.Grind.{common_steps}
use Rattle.tz_syntax.proofs.Lists.{listed_from_step, listed_from_none}
use Rattle.tz_syntax.proofs.pieces.push_list.Goals as goal

pub loop-register-preserved : goal.loop-register-preserved
loop-register-preserved g c =
    let step = listed_from_step c.args.list c.loop-register.register c.loop-register-test.true in
    record { bytes = grind (arith, common_steps, step); len = grind (arith, common_steps) }

pub returns-clause-bytes : goal.returns-clause-bytes
returns-clause-bytes g c =
    let none = listed_from_none c.args.list c.loop-register.register (16 - c.loop-register.register) (omega arith) in
    grind (arith, common_steps, none)

pub returns-clause-len : goal.returns-clause-len
returns-clause-len g c = grind (arith, common_steps)
