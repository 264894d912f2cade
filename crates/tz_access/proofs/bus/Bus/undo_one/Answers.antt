use Rattle.std.proofs.Common.{take, ap, ◌∙◌, sym}
use Rattle.tz_state.specs.State.{Bus, with_memory}
use Rattle.tz_access.specs.Written.{undone}
use Rattle.tz_access.proofs.Undoing.{undone_next}
use Rattle.tz_access.proofs.bus.Bus.undo_one.Goals as goal

pub returns : goal.returns
returns c =
    let ws = c.args.written.now.items in
    ap (λ (b : Bus). with_memory b (undone (take c.args.index ws) b.memory)) c.put_back.ensures
    ∙ ap (λ m. with_memory c.args.self.now.state m) (sym (undone_next ws c.args.index c.was_at-was.result c.args.self.now.state.memory c.requires c.was_at-was.ensures))
