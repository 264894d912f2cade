use Rattle.std.proofs.Common.{◌≡◌, ◌+◌, ◌-◌, ◌^◌, ◌<◌, ◌≤◌, ap, sym, ◌∙◌, subst, arith, length}
use Rattle.std.proofs.lemmas.Bool.Decides.{nat_tests}
use Rattle.tz_mem.specs.Blocks.{BlockValue, more_of, IsRun}
use Rattle.tz_mem.proofs.Ranges.{run_there}
use Rattle.tz_mem.proofs.numbers.likely_whole.Goals as goal

pub returns-then-holds_all : goal.returns-then-holds_all
returns-then-holds_all c =
    let k = c.index-blocks-likely.result in
    let fits : c.args.addr + more_of c.args.size < 2 ^ 32 = omega (arith, c.in-Some.ensures, c.more_of.ensures) in
    let last : c.in-Some.last ≡ c.args.addr + more_of c.args.size = omega (arith, c.in-Some.ensures, c.more_of.ensures) in
    let there : c.args.likely < length c.args.blocks.now = first_of (omega (arith, c.if-likely-blocks.true), grind (arith, nat_tests)) in
    let below : c.args.addr ≤ c.in-Some.last = omega (arith, last) in
    let run : IsRun c.args.blocks.now c.args.addr c.in-Some.last c.args.likely (c.args.addr - k.base) =
    run_there c.args.blocks.now c.args.addr c.in-Some.last c.args.likely k c.requires there c.index-blocks-likely.is below (sym c.holds_all.ensures ∙ c.if-holds_all.true) in
    let base = ap (λ (x : BlockValue). c.args.addr - x.base) c.block.view_is in (
      fits,
      subst (λ j. IsRun c.args.blocks.now c.args.addr (c.args.addr + more_of c.args.size) c.args.likely j) (sym base)
          (subst (λ x. IsRun c.args.blocks.now c.args.addr x c.args.likely (c.args.addr - k.base)) last run),
    )
