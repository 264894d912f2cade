use Rattle.std.proofs.Common.{option_map}
use Rattle.tz_syntax.specs.Rows.{row_view}
use Rattle.tz_asm.proofs.RowLemmas.{no_row, row_gives, row_passes}
use Rattle.tz_asm.proofs.code.coded.code_of.Goals as goal
use Rattle.tz_asm.specs.Front.{views}
use Rattle.tz_asm.specs.Index.{named_at}
use Rattle.tz_asm.specs.Pieces.{Site}
use Rattle.tz_asm.specs.CodeViews.{progress_view}

pub returns-in-Some-answer : goal.returns-in-Some-answer
returns-in-Some-answer c =
    let mnemonic = c.args.mnemonic.now in
    let site : Site = record { place = c.args.place; label = c.unwrap_or.result } in
    c.loop-row.invariant c.in-Some-answer.answer
    (row_gives (named_at mnemonic c.loop-row.places.now) (named_at mnemonic c.in-Some.later.now) (row_view c.in-Some.row.now) mnemonic (views c.args.operands.now) site c.args.label (option_map progress_view c.row_read-read.result) c.in-Some-answer.answer c.in-Some.ensures.row c.row_read-read.ensures c.in-Some-answer.ensures)

pub loop-row-preserved : goal.loop-row-preserved
loop-row-preserved c =
    let mnemonic = c.args.mnemonic.now in
    let site : Site = record { place = c.args.place; label = c.unwrap_or.result } in
    λ result h.
    c.loop-row.invariant result
    (row_passes (named_at mnemonic c.loop-row.places.now) (named_at mnemonic c.in-Some.later.now) (row_view c.in-Some.row.now) mnemonic (views c.args.operands.now) site c.args.label (option_map progress_view c.row_read-read.result) c.in-Some.ensures.row c.row_read-read.ensures c.in_default-answer.ensures result h)

pub returns : goal.returns
returns c =
    let mnemonic = c.args.mnemonic.now in
    let site : Site = record { place = c.args.place; label = c.unwrap_or.result } in
    c.loop-row.invariant _ (no_row (named_at mnemonic c.loop-row.places.now) mnemonic (views c.args.operands.now) site c.args.label c.in_default.ensures.row)
