-- The block that holds the whole access decides, and its bytes are replaced.
use Rattle.std.proofs.Common.{◌∙◌, ◌<◌, ap, sym, arith, length}
use Rattle.tz_state.specs.Access.{takes_writes}
use Rattle.tz_mem.specs.Blocks.{BlockValue}
use Rattle.tz_mem.proofs.Places.{index_of_run, end_of_run}
use Rattle.tz_mem.proofs.Runs.{run_number, run_writable}
use Rattle.tz_mem.proofs.Written.{run_written}
use Rattle.tz_mem.proofs.numbers.write_by_walk.Goals as goal

pub bounds-blocks-index : goal.bounds-blocks-index
bounds-blocks-index c = index_of_run _ _ _ _ _ c.in-Some.ensures.1

pub offset_bounds-blocks-index : goal.offset_bounds-blocks-index
offset_bounds-blocks-index c =
    let within : c.in-Some.index < length c.args.blocks.now = index_of_run _ _ _ _ _ c.in-Some.ensures.1 in
    omega arith

pub put-requires : goal.put-requires
put-requires c =
    let end = end_of_run _ _ _ _ _ c.index-blocks-index.result c.in-Some.ensures.1 c.index-blocks-index.is in
    omega (arith, end, ap (λ (k : BlockValue). length k.bytes) c.index-blocks-index.is)

pub returns-then-not-takes_writes-clause-refused : goal.returns-then-not-takes_writes-clause-refused
returns-then-not-takes_writes-clause-refused c =
    run_writable _ _ _ _ c.args.size c.index-blocks-index.result c.in-Some.ensures.0 c.in-Some.ensures.1 c.index-blocks-index.is
    ∙ ap (λ (k : BlockValue). takes_writes k.kind) c.index-blocks-index.is ∙ sym c.if-not-takes_writes.ensures

pub returns-then-not-takes_writes-clause-cause : goal.returns-then-not-takes_writes-clause-cause
returns-then-not-takes_writes-clause-cause c =
    let mapped = run_number _ _ _ _ c.args.size c.index-blocks-index.result c.in-Some.ensures.0 c.in-Some.ensures.1 c.index-blocks-index.is in (
      mapped.0,
      run_writable _ _ _ _ c.args.size c.index-blocks-index.result c.in-Some.ensures.0 c.in-Some.ensures.1 c.index-blocks-index.is
          ∙ ap (λ (k : BlockValue). takes_writes k.kind) c.index-blocks-index.is ∙ sym c.if-not-takes_writes.ensures,
    )

pub returns-clause-written : goal.returns-clause-written
returns-clause-written c = run_written _ _ _ _ _ _ _ _ c.in-Some.ensures.0 c.in-Some.ensures.1 c.index-blocks-index.is c.put.ensures

pub returns-clause-takes : goal.returns-clause-takes
returns-clause-takes c =
    run_writable _ _ _ _ c.args.size c.index-blocks-index.result c.in-Some.ensures.0 c.in-Some.ensures.1 c.index-blocks-index.is
    ∙ ap (λ (k : BlockValue). takes_writes k.kind) c.index-blocks-index.is ∙ sym c.if-not-takes_writes.ensures
