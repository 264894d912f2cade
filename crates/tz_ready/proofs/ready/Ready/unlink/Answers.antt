use Rattle.std.proofs.Common.{◌-◌, None, slice_index_or, length-set, ap, ◌∙◌, arith}
use Rattle.tz_ready.specs.Links.{queue_of}
use Rattle.tz_ready.proofs.Tables.{node_few, unlinked_threads, unlinked_count}
use Rattle.tz_ready.proofs.ready.Ready.unlink.Goals as goal

pub bounds-self-inside-before : goal.bounds-self-inside-before
bounds-self-inside-before c =
    let t = c.self.invariant.threads in
    node_few (queue_of c.self.inside.queues) c.in-Some.queue c.args.slot (slice_index_or c.self.inside.before c.args.slot 0) (t.few c.args.slot c.in-Some.queue c.in-Some.is).1 (t.last c.args.slot c.in-Some.queue c.in-Some.is)

pub invariant_of-self : goal.invariant_of-self
invariant_of-self c =
    let h = c.self.invariant in
    record {
      queues = length-set c.self.inside.queues c.args.slot None ∙ h.queues;
      after = length-set c.self.inside.after (slice_index_or c.self.inside.before c.args.slot 0) (slice_index_or c.self.inside.after c.args.slot 0) ∙ h.after;
      before = length-set c.self.inside.before (slice_index_or c.self.inside.after c.args.slot 0) (slice_index_or c.self.inside.before c.args.slot 0) ∙ h.before;
      threads = unlinked_threads c.self.inside.queues c.self.inside.after c.self.inside.before c.self.inside.levels.words c.take_if.new.self.words c.args.slot c.in-Some.queue h.queues h.after h.before c.in-Some.is
          (rw (c.number.ensures.is, c.is_alone.ensures) at c.take_if.ensures.here) (rw c.number.ensures.is at c.take_if.ensures.others) h.threads;
      count = ap (λ n. n - 1) h.count ∙ unlinked_count c.self.inside.queues c.args.slot c.in-Some.queue (omega (arith, h.queues)) c.in-Some.is;
    }
