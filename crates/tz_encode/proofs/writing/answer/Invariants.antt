use Rattle.std.proofs.Common.{◌≡◌, ◌+◌, true, take, drop}
use Rattle.tz_encode.specs.Numbers.{answer, sound}
use Rattle.tz_encode.proofs.Going.{going}
use Rattle.tz_encode.proofs.writing.answer.Given as goal

abbrev pub invariant-loop-index : goal.invariant-loop-index
invariant-loop-index l = record {
  same : answer l.fn.form l.fn.first l.fn.second l.slots l.values ≡ going (l.index + 1) l.first_half l.second_half (take (l.index + 1) l.values) (drop l.index l.slots) (drop (l.index + 1) l.values);
  sound_rest : sound (drop l.index l.slots) ≡ true;
}
