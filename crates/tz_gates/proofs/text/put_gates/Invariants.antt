use Rattle.std.proofs.Common.{◌≡◌, ◌≤◌, []}
use Rattle.tz_text.proofs.Sending.{Sent}
use Rattle.tz_gates.specs.GatesText.{gates_text}
use Rattle.tz_gates.proofs.Lines.{lines_left}
use Rattle.tz_gates.proofs.text.put_gates.Given as goal

abbrev pub invariant-loop-index : goal.invariant-loop-index
invariant-loop-index g l = record {
  sent : Sent (gates_text l.gates l.hits l.unlisted) (g.O.Sink.written l.fn.out) (g.O.Sink.written l.out) (g.O.Sink.space l.fn.out) (g.O.Sink.space l.out) (lines_left l.gates l.hits l.unlisted l.index);
  later : g.O.Sink.faults l.fn.out ≤ g.O.Sink.faults l.out;
  empty : l.line.bytes ≡ [];
}
