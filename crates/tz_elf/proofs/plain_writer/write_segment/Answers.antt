use Rattle.std.proofs.Common.{arith}
use Rattle.tz_elf.proofs.Written.{lines_text-next, lines_text-none, written-all, written-more}
use Rattle.tz_elf.proofs.plain_writer.write_segment.Goals as goal

pub loop-at-preserved : goal.loop-at-preserved
loop-at-preserved c =
    let end = c.min-end.ensures in
    record {
      within = omega arith;
      text = written-more _ c.loop-at.text.items c.write_line.new.text.items _ _ _ c.loop-at.invariant.text c.in_ok-write_line.ensures
          (lines_text-next c.segment.inside.base c.loop-at.at c.min-end.result c.as_slice-bytes.result.now c.loop-at-test.true end);
    }

pub returns-clause-text : goal.returns-clause-text
returns-clause-text c =
    written-all _ c.loop-at.text.items _ c.loop-at.invariant.text (lines_text-none _ c.loop-at.at _ _ c.loop-at-test.false)
