use Rattle.std.proofs.Common.{◌≡◌, List, arith, refl, subst, sym, ℕ, ◌^◌}
use Rattle.std.specs.List.Sorted.{IsStrictlyIncreasing}
use Rattle.tz_model.specs.declared.board.Region.{Region}
use Rattle.tz_gates.specs.Gates.{gates_of}
use Rattle.tz_gates.specs.Scanned.{IsGap}
use Rattle.tz_gates.specs.Stays.{FindsGates}
use Rattle.tz_gates.proofs.Finding.{finds_gates}
use Rattle.tz_gates.proofs.Listed.{gates_ascend}
use Rattle.tz_gates.proofs.Scanning.{scanned_end}
use Rattle.tz_gates.proofs.listing.gates_in.Goals as goal

pub spans-init : goal.spans-init
spans-init c = record { scanned = c.new-scan.ensures c.args.machine.now; block = refl; low = omega arith }

-- no region is left: all gates are found
all_found : (c : goal.In_default) → c.spans.scan.gates.items ≡ gates_of c.args.machine.now
all_found c =
    let same : c.deref.result.now ≡ c.args.machine.now.bus.board.regions = cc in
    let gap : IsGap c.args.machine.now.bus.board.regions c.spans.from (2 ^ 32) = subst (λ (rs : List Region). IsGap rs c.spans.from (2 ^ 32)) same c.in_default.ensures in
    scanned_end c.args.machine.now c.spans.from c.spans.scan.gates.items c.spans.scan.half (let b = c.spans.invariant.block in omega arith) (let l = c.spans.invariant.low in omega arith) gap
    c.spans.invariant.scanned

pub returns-clause-gates : goal.returns-clause-gates
returns-clause-gates c = all_found c

pub returns-clause-ascending : goal.returns-clause-ascending
returns-clause-ascending c = subst IsStrictlyIncreasing (sym (all_found c)) (gates_ascend c.args.machine.now)

pub returns-clause-found : goal.returns-clause-found
returns-clause-found c = subst (λ (gates : List ℕ). FindsGates c.args.machine.now gates) (sym (all_found c)) (finds_gates c.args.machine.now c.know_regions.ensures)
