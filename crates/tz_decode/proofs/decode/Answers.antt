use Rattle.std.proofs.Common.{◌∙◌}
use Rattle.tz_table.proofs.Apart.{decode_row}
use Rattle.tz_decode.proofs.decode.Goals as goal

pub returns-then-needs_second-clause-row : goal.returns-then-needs_second-clause-row
returns-then-needs_second-clause-row c = λ k r g h. c.wide.ensures ∙ decode_row c.args.first c.args.second k r g h

pub returns-else-needs_second-clause-row : goal.returns-else-needs_second-clause-row
returns-else-needs_second-clause-row c = λ k r g h. c.narrow.ensures ∙ decode_row c.args.first c.args.second k r g h
