use Rattle.std.proofs.Common.{◌≡◌, ◌<◌, ◌^◌, None, Some, sym, ◌∙◌, subst, arith}
use Rattle.std.specs.Prelude.{unwrap_or}
use Rattle.std.specs.FinMap.{get}
use Rattle.tz_mem.specs.Blocks.{memory_of}
use Rattle.tz_mem.proofs.Bytes.{get_memory_of}
use Rattle.tz_mem.proofs.numbers.know_byte.Goals as goal

pub returns-in-Some : goal.returns-in-Some
returns-in-Some c =
    let there : get (memory_of c.args.blocks.now) c.args.addr ≡ Some c.in-Some.byte = get_memory_of c.args.blocks.now c.args.addr ∙ sym c.in-Some.ensures in
    subst (λ o. unwrap_or o 0 < 2 ^ 8) (sym there) c.know_small.ensures

pub returns-in-None : goal.returns-in-None
returns-in-None c =
    let none : get (memory_of c.args.blocks.now) c.args.addr ≡ None = get_memory_of c.args.blocks.now c.args.addr ∙ sym c.in-None.ensures in
    subst (λ o. unwrap_or o 0 < 2 ^ 8) (sym none) (omega arith)
