use Rattle.std.proofs.Common.{◌≡◌, drop, slice_get}
use Rattle.tz_fields.specs.StateWords.{memory_words}
use Rattle.tz_fields.proofs.words.memory_word.Given as goal

abbrev pub invariant-loop-region : goal.invariant-loop-region
invariant-loop-region l =
    slice_get (memory_words l.state.bus.memory l.regions) l.index ≡ slice_get (memory_words l.state.bus.memory (drop l.region-index l.regions)) l.left
