use Rattle.std.proofs.Common.{◌∙◌, ◌+◌, ◌<◌, ap, arith, length}
use Rattle.tz_table.specs.declared.units.Size.TheVariants.{Half}
use Rattle.tz_mem.specs.Blocks.{BlockValue, number_in}
use Rattle.tz_mem.proofs.Places.{index_of_run, end_of_run}
use Rattle.tz_mem.proofs.Runs.{run_code}
use Rattle.tz_mem.proofs.code.code_by_walk.Goals as goal
use Rattle.std.proofs.Common.{rules, tests}
use Rattle.std.proofs.lemmas.Grind.{common_steps, elements}

pub bounds-blocks-index : goal.bounds-blocks-index
bounds-blocks-index c = index_of_run _ _ _ _ _ c.in-Some.ensures.1

pub offset_bounds-blocks-index : goal.offset_bounds-blocks-index
offset_bounds-blocks-index c =
    let within : c.in-Some.index < length c.args.blocks.now = index_of_run _ _ _ _ _ c.in-Some.ensures.1 in
    omega arith

pub code_in-both-requires : goal.code_in-both-requires
code_in-both-requires c =
    let end = end_of_run _ _ _ _ _ c.index-blocks-index.result c.in-Some.ensures.1 c.index-blocks-index.is in
    omega (arith, end, ap length (c.deref.ensures.value ∙ ap (λ (x : BlockValue). x.bytes) c.block.view_is))

pub returns-in-Some : goal.returns-in-Some
returns-in-Some c =
    let bytes = c.deref.ensures.value ∙ ap (λ (x : BlockValue). x.bytes) c.block.view_is in
    run_code _ _ _ _ _ _ c.index-blocks-index.result c.in-Some.ensures.0 c.in-Some.ensures.1 c.index-blocks-index.is
    (c.code_in-both.ensures.first ∙ ap (λ xs. number_in xs c.in-Some.offset Half) bytes)
    (c.code_in-both.ensures.second ∙ ap (λ xs. number_in xs (c.in-Some.offset + 2) Half) bytes)

-- What the tactics try, by name: a body that is refused is then told without a search for what to offer.
pub returns-in-None : goal.returns-in-None
returns-in-None c = first_of (assumption, search (tests, rules), grind (arith, common_steps), grind (arith, elements))
