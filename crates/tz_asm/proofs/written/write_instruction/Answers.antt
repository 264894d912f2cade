use Rattle.std.proofs.Common.{◌≡◌, ◌∙◌, ◌++◌, List, Option, Ok, Err, ap, subst, sym, ℕ}
use Rattle.tz_asm.specs.Places.{places_in}
use Rattle.tz_asm.specs.Written.{InstructionWrites, code_bytes, uncoded}
use Rattle.tz_asm.specs.Views.{views}
use Rattle.tz_asm.specs.Coded.{Coded}
use Rattle.tz_asm.proofs.Bytes.{coded_writes}
use Rattle.tz_asm.proofs.Telling.{Tells-along}
use Rattle.tz_asm.proofs.written.write_instruction.Goals as goal

pub returns-in-Ok-push_code-clause-ok : goal.returns-in-Ok-push_code-clause-ok
returns-in-Ok-push_code-clause-ok c =
    let mnemonic = c.args.mnemonic.now in
    let operands = views c.args.operands.now in
    let IsCoded : Option ℕ → Type 0 = λ address. Coded mnemonic operands c.args.place address (Ok c.in-Ok.code) in
    coded_writes c.args.line (places_in c.args.places.now) c.args.place c.args.width mnemonic operands c.label_value-label.result (Ok c.in-Ok.code) (Ok c.push_code.new.bytes.items)
    c.label_value-label.ensures (subst IsCoded (sym c.as_address.ensures) c.in-Ok.ensures)
    (ap Ok (c.in-Ok-push_code.ensures ∙ ap (λ (xs : List ℕ). xs ++ code_bytes c.args.width c.in-Ok.code) c.requires))

pub returns-in-Err-clause-err : goal.returns-in-Err-clause-err
returns-in-Err-clause-err c =
    let mnemonic = c.args.mnemonic.now in
    let operands = views c.args.operands.now in
    let IsCoded : Option ℕ → Type 0 = λ address. Coded mnemonic operands c.args.place address (Err c.in-Err.cause) in
    Tells-along c.error_of.result (λ r. uncoded c.args.line c.label_value-label.result c.in-Err.cause ≡ r)
    (λ r. InstructionWrites c.args.line (places_in c.args.places.now) c.args.place c.args.width mnemonic operands (Err r))
    (λ r is. coded_writes c.args.line (places_in c.args.places.now) c.args.place c.args.width mnemonic operands c.label_value-label.result (Err c.in-Err.cause) (Err r)
    c.label_value-label.ensures (subst IsCoded (sym c.as_address.ensures) c.in-Err.ensures) (ap Err (sym is)))
    c.error_of.ensures
