use Rattle.std.proofs.Common.{◌≡◌, ◌+◌, length, subst, Err, arith}
use Rattle.tz_encode.proofs.Searching.{code_stays, none_yet}
use Rattle.tz_encode.proofs.search.find.Goals as goal
use Rattle.tz_encode.specs.Search.{Found}
use Rattle.tz_table.proofs.Data.{count_of_rows}
use Rattle.tz_table.specs.Table.{rows}
use Rattle.std.proofs.Common.{rules, tests}
use Rattle.std.proofs.lemmas.Grind.{common_steps, elements}

pub loop-index-init : goal.loop-index-init
loop-index-init c = λ i e. none_yet c.args.width i

pub try_next-requires : goal.try_next-requires
try_next-requires c = omega (arith, count_of_rows)

pub returns-in-Ok : goal.returns-in-Ok
returns-in-Ok c = λ i e. code_stays c.args.width i (c.loop-index.index + 1) (length rows) c.in-Ok.halves (c.in-Ok.ensures i e (c.loop-index.invariant i e))

pub returns : goal.returns
returns c = λ i e.
    let all : c.loop-index.index ≡ length rows = omega arith in
    subst (λ k. Found rows c.args.width i k (Err c.loop-index.blamed)) all (c.loop-index.invariant i e)

-- What the tactics try, by name: a body that is refused is then told without a search for what to offer.
pub loop-index-preserved : goal.loop-index-preserved
loop-index-preserved c = first_of (assumption, search (tests, rules), grind (arith, common_steps), grind (arith, elements))
