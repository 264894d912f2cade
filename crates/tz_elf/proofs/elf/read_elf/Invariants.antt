use Rattle.std.proofs.Common.{◌≡◌, ◌+◌, ◌*◌, ◌-◌, ◌≤◌, length}
use Rattle.tz_elf.specs.ElfImage.{elf_segments, headers_from, loads_from}
use Rattle.tz_elf.specs.Taken.{Keeps}
use Rattle.tz_elf.specs.Placement.{placed_in}
use Rattle.tz_elf.proofs.elf.read_elf.Given as goal

abbrev pub invariant-loop-index : goal.invariant-loop-index
invariant-loop-index l = record {
  segments : elf_segments (placed_in l.regions l.usable) l.file
      ≡ loads_from (placed_in l.regions l.usable) l.file l.index l.loads.numbers.items l.loads.placed.segments.items (headers_from l.file (l.table + 32 * l.index) (l.index-end - l.index));
  kept : Keeps l.loads.placed;
  paired : length l.loads.numbers.items ≡ length l.loads.placed.segments.items;
  count : length l.loads.placed.segments.items ≤ l.index;
}
