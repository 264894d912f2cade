use Rattle.std.proofs.Common.{◌≡◌, take}
use Rattle.tz_sem.specs.Local.{local_of, with_local}
use Rattle.tz_sem.specs.LoadStore.{filled}
use Rattle.tz_loadstore.proofs.many.fill.Given as goal

abbrev pub invariant-loop-index : goal.invariant-loop-index
invariant-loop-index l = l.core ≡ with_local l.fn.core (filled (local_of l.fn.core) (take l.index l.registers) l.words)
