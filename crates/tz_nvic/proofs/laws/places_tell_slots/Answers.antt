use Rattle.tz_nvic.proofs.Places.{number_back, place_there, index_back, ascending}
use Rattle.tz_nvic.proofs.laws.places_tell_slots.Goals as goal

pub returns : goal.returns
returns c = record {
  there = λ e slot h. place_there e slot h;
  number = λ e slot h. number_back e slot h;
  back = λ e i h. index_back e i h;
  ascend = λ e i j h l. ascending e i j h l;
}
