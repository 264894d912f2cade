use Rattle.std.proofs.Common.{◌+◌, Some, None, set, length-set, ap, ◌∙◌, sym, subst, arith, ◌≡◌}
use Rattle.tz_ready.specs.Links.{Linked, queue_of}
use Rattle.tz_ready.specs.Threads.{IsLast, IsNext}
use Rattle.tz_ready.specs.declared.queue.Queue.{Queue}
use Rattle.tz_ready.proofs.Tables.{linked_threads, linked_count}
use Rattle.tz_ready.proofs.ready.Ready.link.Goals as goal

pub invariant_of-self : goal.invariant_of-self
invariant_of-self c =
    let h = c.self.invariant in
    let q : Queue = record { level = c.args.level; side = c.args.side } in
    let old = sym c.self.view_is in
    let free = subst (λ (l : Linked). queue_of l c.args.slot ≡ None) old c.requires.free in
    let last = subst (λ (l : Linked). IsLast (queue_of l) q c.args.slot c.gap-gap.result.before) old c.gap-gap.ensures.before in
    let next = subst (λ (l : Linked). IsNext (queue_of l) q (c.args.slot + 1) c.gap-gap.result.after) old c.gap-gap.ensures.after in
    record {
      queues = length-set c.self.inside.queues c.args.slot (Some q) ∙ h.queues;
      after = length-set (set c.self.inside.after c.args.slot c.gap-gap.result.after) c.gap-gap.result.before c.args.slot ∙ length-set c.self.inside.after c.args.slot c.gap-gap.result.after ∙ h.after;
      before = length-set (set c.self.inside.before c.args.slot c.gap-gap.result.before) c.gap-gap.result.after c.args.slot ∙ length-set c.self.inside.before c.args.slot c.gap-gap.result.before ∙ h.before;
      threads = linked_threads c.self.inside.queues c.self.inside.after c.self.inside.before c.self.inside.levels.words c.put.new.self.words c.args.slot c.gap-gap.result.before c.gap-gap.result.after q h.queues h.after h.before c.requires.slot (omega arith) free last next
          (rw c.number.ensures.is at c.put.ensures.set) (rw c.number.ensures.is at c.put.ensures.others) h.threads;
      count = ap (λ n. n + 1) h.count ∙ linked_count c.self.inside.queues c.args.slot q (omega (arith, h.queues)) free;
    }
