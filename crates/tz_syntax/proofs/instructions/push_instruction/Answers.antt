use Rattle.std.proofs.Common.{rules, arith, ◌≤◌}
use Rattle.tz_syntax.specs.Rows.{row_most, row_view}
use Rattle.tz_syntax.proofs.Room.{row_fits}
use Rattle.tz_syntax.proofs.instructions.push_instruction.Goals as goal

pub push_row-requires : goal.push_row-requires
push_row-requires g c =
    let fits : row_most (row_view c.in-Some.row.now) ≤ 96 = row_fits c.values-values.result c.args.width c.row_of.result c.in-Some.row c.in-Some.is c.row_of.ensures in
    (search rules, omega (arith, fits, c.requires))

pub returns-in-Some-clause-len : goal.returns-in-Some-clause-len
returns-in-Some-clause-len g c =
    let fits : row_most (row_view c.in-Some.row.now) ≤ 96 = row_fits c.values-values.result c.args.width c.row_of.result c.in-Some.row c.in-Some.is c.row_of.ensures in
    omega (arith, fits, c.push_row.ensures.len)
