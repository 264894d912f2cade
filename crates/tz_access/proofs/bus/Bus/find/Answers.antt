use Rattle.std.specs.Prelude.{IfSome}
use Rattle.std.proofs.Common.{subst}
use Rattle.tz_access.specs.Seen.{BusValue}
use Rattle.tz_access.specs.LookUps.{Tells, guards_by, guards_of}
use Rattle.tz_access.proofs.LookUps.{found_tells}
use Rattle.tz_access.proofs.bus.Bus.find.Goals as goal

-- What is found was seen, whichever row of places it stands in.
pub returns-clause-told : goal.returns-clause-told
returns-clause-told c =
    let i = c.self.inside in
    subst (λ (b : BusValue). IfSome c.find.result (λ k. Tells (guards_of b.state) c.args.who c.args.addr k)) c.self.view_is
    (found_tells (guards_by i.board i.sau.sau i.mpu_s.mpu i.mpu_ns.mpu) i.kept c.args.who c.args.addr c.find.result c.self.invariant.4 c.self.invariant.5 c.find.ensures.held)
