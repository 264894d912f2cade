use Rattle.std.proofs.Common.{◌≡◌, drop}
use Rattle.tz_mem.specs.Blocks.{run_in}
use Rattle.tz_mem.proofs.block.run_of.Given as goal

abbrev pub invariant-loop-index : goal.invariant-loop-index
invariant-loop-index l = run_in l.index (drop l.index l.blocks) l.addr l.last ≡ run_in 0 l.blocks l.addr l.last
