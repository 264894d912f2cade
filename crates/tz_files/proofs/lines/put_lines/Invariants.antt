use Rattle.std.proofs.Common.{◌≤◌, length}
use Rattle.tz_text.proofs.Sending.{Sent}
use Rattle.tz_files.proofs.lines.put_lines.Given as goal

abbrev pub invariant-lines : goal.invariant-lines
invariant-lines g l = record {
  sent : Sent l.fn.text (g.O.Sink.written l.fn.out) (g.O.Sink.written l.out) (g.O.Sink.space l.fn.out) (g.O.Sink.space l.out) l.rest;
  later : g.O.Sink.faults l.fn.out ≤ g.O.Sink.faults l.out;
}

abbrev pub decreases-lines : goal.decreases-lines
decreases-lines g l = length l.rest
