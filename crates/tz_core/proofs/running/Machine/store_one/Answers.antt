use Rattle.std.proofs.Common.{◌≡◌, None, Some, false, arith}
use Rattle.std.proofs.lemmas.Grind.{common_steps}
use Rattle.tz_state.specs.Access.{is_private}
use Rattle.tz_sem.specs.Local.{local_of}
use Rattle.tz_sem.specs.LoadStore.{place_of, refusal_of}
use Rattle.tz_core.proofs.OneRegister.{store_verdict, store_faults, store_leaves}
use Rattle.tz_core.proofs.running.Machine.store_one.Goals as goal

-- The store to memory, and the one that faults, by what the bus answers.
pub returns-in-Ok-Memory-clause-does : goal.returns-in-Ok-Memory-clause-does
returns-in-Ok-Memory-clause-does c =
    let s = c.args.self.now in
    let unrefused : refusal_of c.args.address.now (local_of s.core) ≡ None = grind (arith, common_steps) in
    let permitted : store_verdict s c.args.size c.args.address.now c.args.user ≡ None = grind (arith, common_steps) in
    let of_memory : is_private (place_of c.args.address.now (local_of s.core)) ≡ false = grind (arith, common_steps) in
    let does = store_leaves s c.args.size c.args.rt c.args.address.now c.args.user unrefused permitted of_memory in
    grind (arith, common_steps, does)

pub returns-in-Err-clause-does : goal.returns-in-Err-clause-does
returns-in-Err-clause-does c =
    let s = c.args.self.now in
    let unrefused : refusal_of c.args.address.now (local_of s.core) ≡ None = grind (arith, common_steps) in
    let faults : store_verdict s c.args.size c.args.address.now c.args.user ≡ Some c.in-Err.fault = grind (arith, common_steps) in
    let does = store_faults s c.args.size c.args.rt c.args.address.now c.args.user c.in-Err.fault unrefused faults in
    grind (arith, common_steps, does)
