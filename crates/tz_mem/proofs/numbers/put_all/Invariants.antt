use Rattle.std.proofs.Common.{◌≡◌, drop}
use Rattle.tz_state.specs.Memory.{with_bytes}
use Rattle.tz_mem.specs.Blocks.{memory_of, view_of}
use Rattle.tz_mem.specs.Values as values
use Rattle.tz_mem.proofs.numbers.put_all.Given as goal

abbrev pub invariant-loop-byte : goal.invariant-loop-byte
invariant-loop-byte l =
    values.with_bytes (view_of l.blocks) (with_bytes (memory_of l.blocks) l.addr (drop l.byte-index l.bytes)) ≡ values.with_bytes (view_of l.fn.blocks) (with_bytes (memory_of l.fn.blocks) l.base l.bytes)
