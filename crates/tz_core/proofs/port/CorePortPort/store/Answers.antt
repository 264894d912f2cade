use Rattle.std.proofs.Common.{◌≡◌, ◌-◌, ap, ◌∙◌, arith}
use Rattle.std.proofs.lemmas.Grind.{common_steps}
use Rattle.tz_state.specs.Access.{access}
use Rattle.tz_state.specs.SystemRegisters.{SystemState}
use Rattle.tz_access.specs.Written.{noted_count}
use Rattle.tz_core.proofs.Private.{private_aligned}
use Rattle.tz_core.proofs.Unwritten.{write_kept}
use Rattle.tz_core.proofs.port.CorePortPort.store.Goals as goal

-- The call that closes each, by name: a body that is refused is then told without a search for what to offer.
pub returns-in-Err-clause-answer : goal.returns-in-Err-clause-answer
unfolding access
returns-in-Err-clause-answer c = grind (arith, private_aligned)

pub returns-in-Err-clause-fault : goal.returns-in-Err-clause-fault
unfolding access
returns-in-Err-clause-fault c = grind (arith, private_aligned)

pub returns-in-Ok-Memory-clause-answer : goal.returns-in-Ok-Memory-clause-answer
unfolding access
returns-in-Ok-Memory-clause-answer c = grind (arith, private_aligned)

pub returns-in-Ok-System-clause-answer : goal.returns-in-Ok-System-clause-answer
unfolding access
returns-in-Ok-System-clause-answer c = grind (arith, private_aligned)

-- What stores overwrote is noted, and no more of it than 18.
pub returns-in-Err-clause-lent : goal.returns-in-Err-clause-lent
returns-in-Err-clause-lent c =
    let few : noted_count c.store.new.written - 18 ≡ noted_count c.args.self.now.written.now - 18 = omega (arith, c.requires, c.store.ensures.few) in
    grind (arith, common_steps, few)

pub returns-in-Ok-Memory-clause-lent : goal.returns-in-Ok-Memory-clause-lent
returns-in-Ok-Memory-clause-lent c =
    let few : noted_count c.store.new.written - 18 ≡ noted_count c.args.self.now.written.now - 18 = omega (arith, c.requires, c.store.ensures.few) in
    grind (arith, common_steps, few)

pub returns-in-Ok-System-clause-lent : goal.returns-in-Ok-System-clause-lent
returns-in-Ok-System-clause-lent c =
    let few : noted_count c.store.new.written - 18 ≡ noted_count c.args.self.now.written.now - 18 = omega (arith, c.requires, c.store.ensures.few) in
    let registers : SystemState = record { ipsr = c.args.self.now.ipsr; status = c.args.self.now.status; exceptions = c.args.self.now.exceptions.now; bus = c.store.new.self.state } in
    let memory : c.write.new.self.bus.now.state.memory ≡ c.store.new.self.state.memory =
    ap (λ (s : SystemState). s.bus.memory) c.write.ensures.state ∙ write_kept c.args.self.now.asker.side registers c.args.addr c.args.size c.cut_to-cut.result in
    grind (arith, common_steps, few, memory)
