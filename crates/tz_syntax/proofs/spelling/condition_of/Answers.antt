use Rattle.std.proofs.Common.{◌∙◌}
use Rattle.tz_syntax.proofs.NameLemmas.{conditions_are}
use Rattle.tz_syntax.proofs.SpellingLemmas.{condition_of_is}
use Rattle.tz_syntax.proofs.spelling.condition_of.Goals as goal

pub returns-in-Some-clause-number : goal.returns-in-Some-clause-number
returns-in-Some-clause-number c = c.in-Some.ensures.place ∙ condition_of_is _ c.args.word.now conditions_are

pub returns-in-None-clause-number : goal.returns-in-None-clause-number
returns-in-None-clause-number c = c.in-None.ensures.place ∙ condition_of_is _ c.args.word.now conditions_are
