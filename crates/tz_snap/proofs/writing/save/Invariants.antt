use Rattle.std.proofs.Common.{◌≤◌}
use Rattle.tz_snap.specs.StateFile.{file_words}
use Rattle.tz_snap.proofs.Passed.{SoFar}
use Rattle.tz_snap.proofs.writing.save.Given as goal

abbrev pub invariant-loop-index : goal.invariant-loop-index
invariant-loop-index g l = record {
  passed : SoFar (file_words l.machine l.step) (g.O.Sink.written l.fn.out) (g.O.Sink.written l.out) (g.O.Sink.space l.fn.out) (g.O.Sink.space l.out) l.held.items l.index;
  later : g.O.Sink.faults l.fn.out ≤ g.O.Sink.faults l.out;
}
