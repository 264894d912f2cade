use Rattle.std.proofs.Common.{ℕ, sym}
use Rattle.std.specs.Cmp.{nat_cmp_is}
use Rattle.std.proofs.lemmas.Bool.{le-leb, leb-true}
use Rattle.std.proofs.lemmas.Cmp.{ranked}
use Rattle.std.proofs.lemmas.Map.Keys.{ge_from_not_lt}
use Rattle.std.specs.declared.cmp.Ordering.TheVariants.{Less}
use Rattle.tz_elf.proofs.Taken.{AreFree-last, Last, last-AreFree}
use Rattle.tz_elf.proofs.placed.are_free.Goals as goal
use Rattle.std.proofs.Common.{arith, rules, tests}
use Rattle.std.proofs.lemmas.Grind.{common_steps, elements}

pub returns-in-Some : goal.returns-in-Some
returns-in-Some c =
    let r = c.args.ranges.now in
    let range = c.range.ensures.in_range tt in
    let entry : ℕ × ℕ = (c.in-Some.field-0-0.now, c.in-Some.end.now) in
    let inside = range.3 entry _ c.in-Some.ensures.steps in
    let last : Last r c.args.past c.in-Some.field-0-0.now c.in-Some.end.now = record {
      has = inside.1;
      below = ranked c.in-Some.field-0-0.now c.args.past Less (sym inside.0.1);
      last = λ q below some. ge_from_not_lt c.in-Some.field-0-0.now q (range.4 entry _ c.in-Some.ensures.steps q (tt, sym (nat_cmp_is q c.args.past Less below)) some);
    } in (
      λ ends. AreFree-last r c.args.first c.args.past c.in-Some.field-0-0.now c.in-Some.end.now c.requires last (leb-true c.in-Some.end.now c.args.first ends),
      λ free. le-leb c.in-Some.end.now c.args.first (last-AreFree r c.args.first c.args.past c.in-Some.field-0-0.now c.in-Some.end.now last free),
    )

-- What the tactics try, by name: a body that is refused is then told without a search for what to offer.
pub returns-in-None : goal.returns-in-None
returns-in-None c = first_of (assumption, search (tests, rules), grind (arith, common_steps), grind (arith, elements))
