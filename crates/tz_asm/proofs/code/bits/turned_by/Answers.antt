use Rattle.std.proofs.Common.{◌/◌, ◌%◌, ◌∙◌, ap, sym}
use Rattle.tz_asm.proofs.BitLemmas.{turn_above, turn_below, turn_first, turn_rest}
use Rattle.tz_asm.proofs.code.bits.turned_by.Goals as goal

pub returns-then-byte-lt128-clause-bits : goal.returns-then-byte-lt128-clause-bits
returns-then-byte-lt128-clause-bits c =
    let n = c.args.constant in
    sym (turn_below n c.args.turn (n / c.args.scale) c.requires.least c.requires.most (ap (λ s. n / s) c.requires.scale) c.if-byte-lt128.true)

pub returns-then-byte-gt255-clause-bits : goal.returns-then-byte-gt255-clause-bits
returns-then-byte-gt255-clause-bits c =
    let n = c.args.constant in
    sym (turn_above n c.args.turn (n / c.args.scale) c.requires.least c.requires.most (ap (λ s. n / s) c.requires.scale) c.if-byte-gt255.true)

pub returns-then-constant-scale-ne0-clause-bits : goal.returns-then-constant-scale-ne0-clause-bits
returns-then-constant-scale-ne0-clause-bits c =
    let n = c.args.constant in
    sym (turn_rest n c.args.turn c.requires.least c.requires.most (λ e. c.if-constant-scale-ne0.true (ap (λ s. n % s) c.requires.scale ∙ e)))

pub returns-clause-bits : goal.returns-clause-bits
returns-clause-bits c =
    let n = c.args.constant in
    sym (turn_first n c.args.turn (n / c.args.scale) c.requires.least c.requires.most (ap (λ s. n / s) c.requires.scale) c.if-byte-lt128.false c.if-byte-gt255.false (sym (ap (λ s. n % s) c.requires.scale) ∙ c.if-constant-scale-ne0.false))
