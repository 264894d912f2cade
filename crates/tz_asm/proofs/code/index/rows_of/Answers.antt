use Rattle.tz_asm.proofs.PartLemmas.{part_rows, parts_are}
use Rattle.tz_asm.proofs.code.index.rows_of.Goals as goal

pub returns : goal.returns
returns c = part_rows _ c.args.word.now c.part_at.result.now c.part_of.result c.part_at.ensures c.part_of.ensures.part c.part_of.ensures.within parts_are
