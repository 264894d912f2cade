use Rattle.std.proofs.Common.{◌≤◌, drop}
use Rattle.tz_tell.proofs.Texts.{Sent}
use Rattle.tz_full.specs.BegunLines.{events_text}
use Rattle.tz_full.proofs.full.put_events.Given as goal

abbrev pub invariant-loop-event : goal.invariant-loop-event
invariant-loop-event g l = record {
  sent : Sent (events_text l.due) (g.O.Sink.written l.fn.out) (g.O.Sink.written l.out) (g.O.Sink.space l.fn.out) (g.O.Sink.space l.out) (events_text (drop l.event-index l.due));
  later : g.O.Sink.faults l.fn.out ≤ g.O.Sink.faults l.out;
}
