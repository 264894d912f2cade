use Rattle.std.proofs.Common.{subst}
use Rattle.tz_mem.specs.Values.{MemoryValue}
use Rattle.tz_mem.specs.Difference.{IsFilled}
use Rattle.tz_mem.proofs.Ranges.{filled}
use Rattle.tz_mem.proofs.memory.Memory.know_filled.Goals as goal

pub returns : goal.returns
returns c = subst (λ (m : MemoryValue). IsFilled m) c.self.view_is (filled c.self.inside.blocks.items)
