use Rattle.std.proofs.Common.{refl}
use Rattle.tz_sem.specs.Boot.{boot}
use Rattle.tz_gates.specs.Gates.{gates_of}
use Rattle.tz_gates.proofs.Exact.{no_others}
use Rattle.tz_gates.proofs.Finding.{finds_gates}
use Rattle.tz_gates.proofs.Starting.{boot_even, boot_regions}
use Rattle.tz_gates.proofs.laws.gates_hold.Goals as goal

pub returns-clause-found : goal.returns-clause-found
returns-clause-found c = λ b secure nonsecure is. finds_gates (boot b secure nonsecure) (boot_regions b secure nonsecure is)

pub returns-clause-exact : goal.returns-clause-exact
returns-clause-exact c = λ b secure nonsecure events n is keeps.
    let s = boot b secure nonsecure in
    no_others s (gates_of s) events s n (boot_regions b secure nonsecure is) refl keeps (boot_even b secure nonsecure)

pub returns-clause-even : goal.returns-clause-even
returns-clause-even c = λ b secure nonsecure. boot_even b secure nonsecure
