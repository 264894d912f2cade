use Rattle.std.proofs.Common.{◌≡◌, ◌+◌, ◌-◌, ◌*◌, ◌/◌}
use Rattle.tz_ready.specs.Levels.{is_set, FailsWithin}
use Rattle.tz_ready.proofs.levels.Levels.least_from.Given as goal

-- no bit in the words before is set, and each of them was a look
abbrev pub invariant-loop-word : goal.invariant-loop-word
invariant-loop-word g l = record {
  none : FailsWithin (is_set l.self.words) l.from (32 * l.word);
  looks : l.steps ≡ l.initial.steps + (l.word - l.from / 32);
}
