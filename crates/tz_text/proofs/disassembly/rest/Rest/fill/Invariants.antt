use Rattle.std.proofs.Common.{◌≡◌, ◌+◌, ◌-◌, length}
use Rattle.tz_text.specs.Rests.{LiesBelow, rest_text}
use Rattle.tz_text.proofs.disassembly.rest.Rest.fill.Given as goal

abbrev pub invariant-reading : goal.invariant-reading
invariant-reading l = record {
  text : rest_text l.self ≡ rest_text l.fn.self;
  below : LiesBelow l.self;
}

abbrev pub decreases-reading : goal.decreases-reading
decreases-reading l = 4 - length l.self.waiting.items + length l.self.segments.now
