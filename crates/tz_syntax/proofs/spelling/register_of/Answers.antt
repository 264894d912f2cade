use Rattle.std.proofs.Common.{◌∙◌}
use Rattle.tz_syntax.proofs.NameLemmas.{registers_are}
use Rattle.tz_syntax.proofs.SpellingLemmas.{register_of_is}
use Rattle.tz_syntax.proofs.spelling.register_of.Goals as goal

pub returns-in-Some-clause-number : goal.returns-in-Some-clause-number
returns-in-Some-clause-number c = c.in-Some.ensures.place ∙ register_of_is _ c.args.word.now registers_are

pub returns-in-None-clause-number : goal.returns-in-None-clause-number
returns-in-None-clause-number c = c.in-None.ensures.place ∙ register_of_is _ c.args.word.now registers_are
