use Rattle.std.proofs.Common.{◌++◌, ◌∷◌, [], List, ap, ◌∙◌}
use Rattle.tz_state.specs.State.{Bus}
use Rattle.tz_mem.proofs.Places.{every_none}
use Rattle.tz_access.specs.declared.written.Was.{Was}
use Rattle.tz_access.specs.Written.{undone}
use Rattle.tz_access.proofs.Undoing.{undone_store}
use Rattle.tz_access.proofs.bus.Bus.write_into.Goals as goal

-- What isn't mapped takes no writes.
pub returns-in-Err-clause-refused : goal.returns-in-Err-clause-refused
returns-in-Err-clause-refused c = every_none c.args.self.now.state.board.regions c.args.addr c.args.size c.in-Err.ensures

pub returns-in-Ok-write-clause-noted : goal.returns-in-Ok-write-clause-noted
returns-in-Ok-write-clause-noted c =
    let was : Was = record { addr = c.args.addr; size = c.args.size; value = c.in-Ok.was } in
    ap (λ (ws : List Was). undone ws c.write.new.self.state.memory) c.push.ensures.items
    ∙ ap (λ (b : Bus). undone (c.args.list.now.items ++ was ∷ []) b.memory) c.in-Ok-write.ensures.written
    ∙ undone_store c.args.list.now.items c.args.self.now.state.memory c.args.size c.args.addr c.args.value c.in-Ok.was c.in-Ok.ensures.1
    c.know_bytes.ensures.first c.know_bytes.ensures.second c.know_bytes.ensures.third c.know_bytes.ensures.fourth
