use Rattle.std.proofs.Common.{◌≡◌, drop}
use Rattle.tz_text.proofs.disassembly.rest.Rest.take.Given as goal

abbrev pub invariant-loop-taken : goal.invariant-loop-taken
invariant-loop-taken l = record {
  waiting : l.self.waiting.items ≡ drop l._taken l.fn.self.waiting.items;
  at : l.self.at ≡ l.fn.self.at;
  here : l.self.here.now ≡ l.fn.self.here.now;
  segments : l.self.segments.now ≡ l.fn.self.segments.now;
}
