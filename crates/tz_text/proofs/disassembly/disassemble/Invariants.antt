use Rattle.std.proofs.Common.{◌≡◌, ◌≤◌, [], length}
use Rattle.tz_text.specs.Rests.{LiesBelow, rest_text}
use Rattle.tz_text.specs.Text.{dis_text}
use Rattle.tz_text.proofs.Sending.{Sent}
use Rattle.tz_text.proofs.disassembly.disassemble.Given as goal

abbrev pub invariant-lines : goal.invariant-lines
invariant-lines g l = record {
  sent : Sent (dis_text l.fn.image) (g.O.Sink.written l.fn.out) (g.O.Sink.written l.out) (g.O.Sink.space l.fn.out) (g.O.Sink.space l.out) (rest_text l.rest);
  later : g.O.Sink.faults l.fn.out ≤ g.O.Sink.faults l.out;
  empty : l.line.bytes ≡ [];
  below : LiesBelow l.rest;
}

abbrev pub decreases-lines : goal.decreases-lines
decreases-lines g l = length (rest_text l.rest)
