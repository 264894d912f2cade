use Rattle.std.proofs.Common.{◌≡◌, None, Some, Ok, false, arith}
use Rattle.std.proofs.lemmas.Grind.{common_steps}
use Rattle.tz_state.specs.Access.{is_private}
use Rattle.tz_state.specs.Memory.{value_at}
use Rattle.tz_sem.specs.Local.{finished_in, local_of}
use Rattle.tz_sem.specs.LoadStore.{based, extended_to, place_of, refusal_of, register_loaded}
use Rattle.tz_core.proofs.OneRegister.{load_verdict, load_faults, load_leaves}
use Rattle.tz_core.proofs.running.Machine.load_one.Goals as goal

-- The load of memory, and the one that faults, by what the bus answers.
pub returns-in-Ok-Some-clause-does : goal.returns-in-Ok-Some-clause-does
returns-in-Ok-Some-clause-does c =
    let s = c.args.self.now in
    let unrefused : refusal_of c.args.address.now (local_of s.core) ≡ None = grind (arith, common_steps) in
    let permitted : load_verdict s c.args.size c.args.rt c.args.address.now c.args.user ≡ None = grind (arith, common_steps) in
    let of_memory : is_private (place_of c.args.address.now (local_of s.core)) ≡ false = grind (arith, common_steps) in
    let finishes : finished_in s.core (register_loaded c.args.rt (based c.args.address.now (local_of s.core)) (extended_to c.args.signed c.args.size (value_at s.bus.memory c.args.size (place_of c.args.address.now (local_of s.core))))) ≡ (c.finish_load.new.core, Ok c.finish_load.result) = grind (arith, common_steps) in
    let does = load_leaves s c.args.size c.args.signed c.args.rt c.args.address.now c.args.user c.finish_load.new.core (Ok c.finish_load.result) unrefused permitted of_memory finishes in
    grind (arith, common_steps, does)

pub returns-in-Err-clause-does : goal.returns-in-Err-clause-does
returns-in-Err-clause-does c =
    let s = c.args.self.now in
    let unrefused : refusal_of c.args.address.now (local_of s.core) ≡ None = grind (arith, common_steps) in
    let faults : load_verdict s c.args.size c.args.rt c.args.address.now c.args.user ≡ Some c.in-Err.fault = grind (arith, common_steps) in
    let does = load_faults s c.args.size c.args.signed c.args.rt c.args.address.now c.args.user c.in-Err.fault unrefused faults in
    grind (arith, common_steps, does)
