use Rattle.std.proofs.Common.{◌≡◌, ◌+◌, ◌^◌, ◌<◌, arith}
use Rattle.tz_mem.specs.Blocks.{more_of}
use Rattle.tz_mem.proofs.Places.{whole_if}
use Rattle.tz_mem.proofs.numbers.whole_of.Goals as goal

pub returns-in-Some : goal.returns-in-Some
returns-in-Some c =
    let fits : c.args.addr + more_of c.args.size < 2 ^ 32 = omega (arith, c.in-Some.ensures, c.more_of.ensures) in
    let last : c.in-Some.last ≡ c.args.addr + more_of c.args.size = omega (arith, c.in-Some.ensures, c.more_of.ensures) in
    whole_if _ _ _ _ _ fits last c.run_of.ensures
