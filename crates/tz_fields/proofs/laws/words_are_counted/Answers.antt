use Rattle.tz_fields.proofs.Indexed.{length_state}
use Rattle.tz_fields.proofs.Reading.{words_small}
use Rattle.tz_fields.proofs.laws.words_are_counted.Goals as goal

pub returns-clause-count : goal.returns-clause-count
returns-clause-count c = length_state

pub returns-clause-words : goal.returns-clause-words
returns-clause-words c = words_small
