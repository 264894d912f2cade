use Rattle.std.proofs.Common.{◌≡◌, ◌+◌, ◌*◌, drop, length}
use Rattle.tz_state.specs.State.{with_memory}
use Rattle.tz_fields.specs.ReadWords.{with_regions, words_of}
use Rattle.tz_fields.specs.StateWords.{memory_count}
use Rattle.tz_fields.proofs.from_words.put_memory.Given as goal

abbrev pub invariant-loop-region : goal.invariant-loop-region
invariant-loop-region l =
    record {
      told : with_memory l.fn.bus.state (with_regions l.fn.bus.state.memory l.regions (words_of l.bytes)) ≡ with_memory l.bus.state (with_regions l.bus.state.memory (drop l.region-index l.regions) (words_of (drop l.at l.bytes)));
      left : l.at + 4 * memory_count (drop l.region-index l.regions) ≡ length l.bytes;
    }
