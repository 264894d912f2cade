use Rattle.std.proofs.Common.{arith}
use Rattle.tz_words.proofs.Numbers.{is_count-by_index}
use Rattle.tz_words.proofs.counts.is_count.Goals as goal
use Rattle.std.proofs.Common.{rules, tests}
use Rattle.std.proofs.lemmas.Grind.{common_steps, elements}

pub returns : goal.returns
returns c = is_count-by_index c.args.word.now c.are_digits.result (omega arith) (omega arith) c.are_digits.ensures

-- What the tactics try, by name: a body that is refused is then told without a search for what to offer.
pub returns-then-digits-eq0 : goal.returns-then-digits-eq0
returns-then-digits-eq0 c = first_of (assumption, search (tests, rules), grind (arith, common_steps), grind (arith, elements))
