use Rattle.std.proofs.Common.{◌∙◌}
use Rattle.tz_syntax.proofs.NameLemmas.{registers_are, register_text_is}
use Rattle.tz_syntax.proofs.names.register_name.Goals as goal

pub returns-clause-text : goal.returns-clause-text
returns-clause-text c = c.name_at.ensures ∙ register_text_is _ c.args.number registers_are
