use Rattle.std.proofs.Common.{Some, None}
use Rattle.tz_syntax.proofs.NameLemmas.{specials_are, nonsecure_specials_are}
use Rattle.tz_syntax.proofs.SpellingLemmas.{special_first, special_later}
use Rattle.tz_syntax.proofs.spelling.special_of.Goals as goal

pub returns-in-Some-clause-number : goal.returns-in-Some-clause-number
returns-in-Some-clause-number c = special_first _ c.args.word.now c.in-Some.place specials_are c.in-Some.ensures.place

pub returns-in-Some-place_in-clause-number : goal.returns-in-Some-place_in-clause-number
returns-in-Some-place_in-clause-number c = special_later _ _ c.args.word.now (Some c.in-Some-place_in.place) specials_are nonsecure_specials_are c.in-None.ensures.place c.in-Some-place_in.ensures.place

pub returns-in-None-place_in-clause-number : goal.returns-in-None-place_in-clause-number
returns-in-None-place_in-clause-number c = special_later _ _ c.args.word.now None specials_are nonsecure_specials_are c.in-None.ensures.place c.in-None-place_in.ensures.place
