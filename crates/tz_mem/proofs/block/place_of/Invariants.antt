use Rattle.std.proofs.Common.{◌≡◌, drop}
use Rattle.tz_mem.specs.Blocks.{place_in}
use Rattle.tz_mem.proofs.block.place_of.Given as goal

abbrev pub invariant-loop-index : goal.invariant-loop-index
invariant-loop-index l = place_in l.index (drop l.index l.blocks) l.addr ≡ place_in 0 l.blocks l.addr
