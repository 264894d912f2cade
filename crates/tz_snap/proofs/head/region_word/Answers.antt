use Rattle.std.proofs.Common.{◌∙◌, ap, Some, sym, arith}
use Rattle.tz_snap.proofs.HeadWords.{base_read, size_read, kind_read, side_read, none_read}
use Rattle.tz_snap.proofs.head.region_word.Goals as goal

pub returns-then-regions-place : goal.returns-then-regions-place
returns-then-regions-place c = sym (none_read c.args.regions.now c.args.index (omega arith))

pub returns-in-0 : goal.returns-in-0
returns-in-0 c = base_read c.args.regions.now c.args.index _ (omega arith) (omega arith)

pub returns-in-1 : goal.returns-in-1
returns-in-1 c = size_read c.args.regions.now c.args.index _ (omega arith) (omega arith)

pub returns-in-2 : goal.returns-in-2
returns-in-2 c = ap Some c.kind_number.ensures ∙ kind_read c.args.regions.now c.args.index _ (omega arith) (omega arith)

pub returns-in_default : goal.returns-in_default
returns-in_default c = ap Some c.side_number.ensures ∙ side_read c.args.regions.now c.args.index _ (omega arith) (omega arith)
