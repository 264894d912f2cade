use Rattle.std.proofs.Common.{◌∙◌, sym}
use Rattle.tz_board.proofs.Opening.{opens_last, opens_new}
use Rattle.tz_board.proofs.script.open_moment.Goals as goal

pub returns-then-last-step : goal.returns-then-last-step
returns-then-last-step c =
    opens_last c.args.moments.now.items c.pop.new.self.items c.args.step c.in-Some.last c.in-Some.ensures.items c.requires.kept c.if-last-step.true

pub returns-in_ok-push-in-Some : goal.returns-in_ok-push-in-Some
returns-in_ok-push-in-Some c =
    let same = c.in_ok-push-in-Some.ensures.items ∙ sym c.in-Some.ensures.items in
    rw same
    (opens_new c.args.moments.now.items c.pop.new.self.items c.in-Some.last c.new_moment-in-Some.result c.args.step c.in-Some.ensures.items c.requires.kept c.requires.order
    c.if-last-step.false c.new_moment-in-Some.ensures.step c.new_moment-in-Some.ensures.events)
