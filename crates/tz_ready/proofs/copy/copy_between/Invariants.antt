use Rattle.tz_ready.specs.Copies.{IsCopied}
use Rattle.tz_ready.proofs.copy.copy_between.Given as goal

abbrev pub invariant-loop-i : goal.invariant-loop-i
invariant-loop-i g l = IsCopied l.fn.places l.others l.from l.i l.places
