use Rattle.std.proofs.Common.{◌≤◌, drop}
use Rattle.tz_show.specs.Dump.{ranges_text}
use Rattle.tz_tell.proofs.Texts.{Sent}
use Rattle.tz_show.proofs.memory.put_ranges.Given as goal

abbrev pub invariant-loop-range : goal.invariant-loop-range
invariant-loop-range g l = record {
  sent : Sent (ranges_text l.bus.state l.ranges) (g.O.Sink.written l.fn.out) (g.O.Sink.written l.out) (g.O.Sink.space l.fn.out) (g.O.Sink.space l.out) (ranges_text l.bus.state (drop l.range-index l.ranges));
  later : g.O.Sink.faults l.fn.out ≤ g.O.Sink.faults l.out;
}
