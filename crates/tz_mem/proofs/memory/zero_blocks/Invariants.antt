use Rattle.std.proofs.Common.{◌≡◌, ◌++◌, drop, map, take}
use Rattle.tz_state.specs.Zeros.{zero_entries}
use Rattle.tz_mem.specs.Blocks.{region_of, entries_of}
use Rattle.tz_mem.proofs.memory.zero_blocks.Given as goal

abbrev pub invariant-loop-region : goal.invariant-loop-region
invariant-loop-region l =
    (map region_of l.blocks.items ≡ take l.region-index l.regions) × (entries_of l.blocks.items ++ zero_entries (drop l.region-index l.regions) ≡ zero_entries l.regions)
