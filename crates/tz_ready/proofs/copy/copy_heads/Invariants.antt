use Rattle.std.proofs.Common.{◌≡◌, ℕ, ◌+◌, ◌*◌, ◌<◌, true}
use Rattle.std.specs.Prelude.{slice_index}
use Rattle.tz_ready.specs.Levels.{is_set}
use Rattle.tz_ready.proofs.copy.copy_heads.Given as goal

abbrev pub invariant-loop-word : goal.invariant-loop-word
invariant-loop-word l = record {
  slots : (i : ℕ) → i < 272 → slice_index l.after i ≡ slice_index l.fn.after i;
  heads : (k : ℕ) → k < 32 * l.word → is_set l.levels.words k ≡ true → slice_index l.after (272 + k) ≡ slice_index l.others (272 + k);
}
