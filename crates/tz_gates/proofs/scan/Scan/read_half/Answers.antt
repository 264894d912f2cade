use Rattle.std.proofs.Common.{ap, arith, sym, ◌∙◌}
use Rattle.std.proofs.lemmas.Bool.{and_parts}
use Rattle.tz_gates.specs.declared.scan.Scan.{Scan}
use Rattle.tz_gates.proofs.Scanning.{scanned_push, scanned_same}
use Rattle.tz_gates.proofs.scan.Scan.read_half.Goals as goal
use Rattle.tz_gates.proofs.scan.Scan.read_half.Goals.{then-ends_gate+in_ok-push, else-ends_gate}

pub returns : goal.returns
returns c = elim c.if-ends_gate.branch [
  | then-ends_gate+in_ok-push w ↦
      let both = and_parts c.is_gate_half-half.result c.args.self.now.half (sym c.ends_gate.ensures ∙ w.if-ends_gate.true) in
      scanned_push c.args.machine.now c.args.addr c.args.self.now.gates.items c.if-ends_gate.self.gates.items c.is_gate_half-half.result c.args.self.now.half c.requires.even (omega arith)
      c.is_gate_half-half.ensures both.0 both.1 (ap (λ (x : Scan). x.gates.items) w.self-is ∙ w.in_ok-push.ensures.items) c.requires.scanned
  | else-ends_gate w ↦
      scanned_same c.args.machine.now c.args.addr c.args.self.now.gates.items c.if-ends_gate.self.gates.items c.is_gate_half-half.result c.args.self.now.half c.requires.even (omega arith)
      c.is_gate_half-half.ensures (sym c.ends_gate.ensures ∙ w.if-ends_gate.false) (ap (λ (x : Scan). x.gates.items) w.self-is) c.requires.scanned
]
