use Rattle.std.proofs.Common.{sym}
use Rattle.tz_asm.proofs.BitLemmas.{all_first, all_none}
use Rattle.tz_asm.proofs.code.bits.all_copies.Goals as goal

pub returns-then-constant-byte-clause-bits : goal.returns-then-constant-byte-clause-bits
returns-then-constant-byte-clause-bits c = sym (all_first c.args.constant c.requires c.if-constant-byte.true)

pub returns-else-constant-byte-clause-bits : goal.returns-else-constant-byte-clause-bits
returns-else-constant-byte-clause-bits c = sym (all_none c.args.constant c.if-constant-byte.false)
