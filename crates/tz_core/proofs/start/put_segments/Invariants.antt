use Rattle.std.proofs.Common.{◌≡◌, drop}
use Rattle.tz_sem.specs.Boot.{with_segments}
use Rattle.tz_state.specs.State.{with_memory}
use Rattle.tz_core.proofs.start.put_segments.Given as goal

abbrev pub invariant-loop-segment : goal.invariant-loop-segment
invariant-loop-segment l =
    with_memory l.bus.state (with_segments l.bus.state.memory (drop l.segment-index l.segments)) ≡ with_memory l.fn.bus.state (with_segments l.fn.bus.state.memory l.segments)
