use Rattle.std.proofs.Common.{Some, None, set-set, ap, ◌∙◌}
use Rattle.tz_ready.specs.Links.{Linked, linked}
use Rattle.tz_ready.specs.declared.queue.Queue.{Queue}
use Rattle.tz_ready.proofs.ready.Ready.move_to.Goals as goal

pub returns : goal.returns
returns c =
    let q : Queue = record { level = c.args.level; side = c.args.side } in
    c.link.ensures ∙ ap (λ (l : Linked). linked l c.args.slot q) c.unlink.ensures ∙ set-set c.args.self.now c.args.slot None (Some q)
