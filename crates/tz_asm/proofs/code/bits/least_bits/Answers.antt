use Rattle.std.proofs.Common.{None, Some, refl, sym}
use Rattle.tz_asm.proofs.BitLemmas.{least_other, least_small}
use Rattle.tz_asm.proofs.code.bits.least_bits.Goals as goal
use Rattle.tz_asm.specs.Bits.{least_from}

pub returns-then-constant-lt256-clause-bits : goal.returns-then-constant-lt256-clause-bits
returns-then-constant-lt256-clause-bits c = sym (least_small c.args.constant c.if-constant-lt256.true)

pub returns-in-Some-clause-bits : goal.returns-in-Some-clause-bits
returns-in-Some-clause-bits c =
    let n = c.args.constant in
    least_other n (Some c.in-Some.bits) (least_from n 512 256) (least_from n 768 256) (least_from n 1024 3072) c.if-constant-lt256.false c.in-Some.ensures.bits refl refl refl

pub returns-in-Some-high_copies-clause-bits : goal.returns-in-Some-high_copies-clause-bits
returns-in-Some-high_copies-clause-bits c =
    let n = c.args.constant in
    least_other n None (Some c.in-Some-high_copies.bits) (least_from n 768 256) (least_from n 1024 3072) c.if-constant-lt256.false c.in-None.ensures.bits c.in-Some-high_copies.ensures.bits refl refl

pub returns-in-Some-all_copies-clause-bits : goal.returns-in-Some-all_copies-clause-bits
returns-in-Some-all_copies-clause-bits c =
    let n = c.args.constant in
    least_other n None None (Some c.in-Some-all_copies.bits) (least_from n 1024 3072) c.if-constant-lt256.false c.in-None.ensures.bits c.in-None-high_copies.ensures.bits c.in-Some-all_copies.ensures.bits refl

pub returns-in-None-all_copies-clause-bits : goal.returns-in-None-all_copies-clause-bits
returns-in-None-all_copies-clause-bits c =
    least_other c.args.constant None None None c.turned.result c.if-constant-lt256.false c.in-None.ensures.bits c.in-None-high_copies.ensures.bits c.in-None-all_copies.ensures.bits c.turned.ensures.bits
