use Rattle.std.proofs.Common.{◌≡◌, ap, ◌∙◌, arith}
use Rattle.std.proofs.lemmas.Grind.{common_steps}
use Rattle.tz_state.specs.State.{Bus}
use Rattle.tz_state.specs.SystemRegisters.{SystemState}
use Rattle.tz_core.proofs.Unwritten.{read_kept}
use Rattle.tz_core.proofs.port.CorePortPort.load.Goals as goal

-- A read of a system register writes no memory.
pub returns-in-Ok-None-clause-lent : goal.returns-in-Ok-None-clause-lent
returns-in-Ok-None-clause-lent c =
    let registers : SystemState = record { ipsr = c.args.self.now.ipsr; status = c.args.self.now.status; exceptions = c.args.self.now.exceptions.now; bus = c.load.new.self.state } in
    let memory : c.read.new.self.bus.now.state.memory ≡ c.args.self.now.bus.now.state.memory =
    ap (λ (s : SystemState). s.bus.memory) c.read.ensures.state
    ∙ ap (λ (b : Bus). b.memory) (read_kept c.args.self.now.asker.side registers c.args.addr ∙ c.load.ensures.kept) in
    grind (arith, common_steps, memory)
