use Rattle.std.proofs.Common.{◌∙◌}
use Rattle.tz_syntax.proofs.NameLemmas.{shifts_are, shift_name_is}
use Rattle.tz_syntax.proofs.names.shift_name.Goals as goal

pub returns-clause-text : goal.returns-clause-text
returns-clause-text c = c.name_at.ensures ∙ shift_name_is _ c.args.number shifts_are
