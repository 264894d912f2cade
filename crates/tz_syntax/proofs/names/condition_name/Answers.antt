use Rattle.std.proofs.Common.{◌∙◌}
use Rattle.tz_syntax.proofs.NameLemmas.{conditions_are, condition_text_is}
use Rattle.tz_syntax.proofs.names.condition_name.Goals as goal

pub returns-clause-text : goal.returns-clause-text
returns-clause-text c = c.name_at.ensures ∙ condition_text_is _ c.args.number conditions_are
