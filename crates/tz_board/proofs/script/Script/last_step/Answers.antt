use Rattle.std.proofs.Common.{◌∙◌, ap, sym}
use Rattle.tz_board.specs.Scripts.{last_step}
use Rattle.tz_board.proofs.Opening.{last_moment, no_moment}
use Rattle.tz_board.proofs.script.Script.last_step.Goals as goal

pub returns-in-Some : goal.returns-in-Some
returns-in-Some c =
    let item = rw c.deref.ensures.value at c.in-Some.ensures.item in
    sym (last_moment c.self.inside.moments.items c.in-Some.last.now c.self.invariant.0 item.3.0 item.1) ∙ ap (last_step 0) c.self.view_is

pub returns-in-None : goal.returns-in-None
returns-in-None c =
    let item = rw c.deref.ensures.value at c.in-None.ensures.item in
    sym (no_moment c.self.inside.moments.items item.3) ∙ ap (last_step 0) c.self.view_is
