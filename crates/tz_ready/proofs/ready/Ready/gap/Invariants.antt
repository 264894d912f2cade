use Rattle.std.proofs.Common.{◌≡◌, ◌⊎◌, ◌-◌, ◌<◌, ◌≤◌, Some}
use Rattle.tz_ready.specs.Links.{queue_of}
use Rattle.tz_ready.specs.Threads.{head_of, behind, IsNext}
use Rattle.tz_ready.proofs.ready.Ready.gap.Given as goal

-- the node reached stands in the list, below the slot, and leads to what was found
abbrev pub invariant-loop-after : goal.invariant-loop-after
invariant-loop-after l = record {
  node : (l.before < 272) ⊎ (l.before ≡ head_of l.fn.queue);
  below : behind l.before ≤ l.slot;
  there : l.before < 272 → queue_of l.self l.before ≡ Some l.fn.queue;
  next : IsNext (queue_of l.self) l.fn.queue (behind l.before) l.after;
}

abbrev pub decreases-loop-after : goal.decreases-loop-after
decreases-loop-after l = 272 - l.after
