use Rattle.std.proofs.Common.{◌≡◌, ◌-◌, length, take}
use Rattle.tz_state.specs.State.{with_memory}
use Rattle.tz_access.specs.Written.{undone}
use Rattle.tz_access.proofs.bus.Bus.undo.Given as goal

abbrev pub invariant-loop-index : goal.invariant-loop-index
invariant-loop-index l = record {
  told : with_memory l.fn.self.state (undone l.written.items l.fn.self.state.memory) ≡ with_memory l.self.state (undone (take (l.count - l.index) l.written.items) l.self.state.memory);
  count : l.count ≡ length l.written.items;
}
