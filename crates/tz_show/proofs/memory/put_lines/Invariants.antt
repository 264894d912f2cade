use Rattle.std.proofs.Common.{◌≤◌, Ok}
use Rattle.tz_model.specs.Outside.{Put}
use Rattle.tz_show.specs.Dump.{dump_line}
use Rattle.tz_show.specs.Rows.{texts_below}
use Rattle.tz_show.proofs.memory.put_lines.Given as goal

abbrev pub invariant-loop-k : goal.invariant-loop-k
invariant-loop-k g l = record {
  put : Put (g.O.Sink.written l.fn.out) (g.O.Sink.written l.out) (g.O.Sink.space l.fn.out) (g.O.Sink.space l.out) (texts_below (dump_line l.bus.state l.range) l.k) (Ok tt);
  later : g.O.Sink.faults l.fn.out ≤ g.O.Sink.faults l.out;
}
