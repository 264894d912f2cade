use Rattle.std.proofs.Common.{◌∙◌, arith, sym}
use Rattle.tz_fields.specs.ReadWords.{words_of}
use Rattle.tz_snap.specs.StateFile.{board_words}
use Rattle.tz_snap.proofs.Lists.{compared_other, compared_same}
use Rattle.tz_snap.proofs.reading.has_board.Goals as goal

pub returns-then-ne : goal.returns-then-ne
returns-then-ne c =
    sym (compared_other (board_words c.args.board.now) (words_of c.args.bytes.now) c.loop-index.index c.word_at.result c.board_word.result c.ne.result (omega arith) c.word_at.ensures c.board_word.ensures c.ne.ensures c.if-ne.true)
    ∙ c.loop-index.invariant

pub loop-index-preserved : goal.loop-index-preserved
loop-index-preserved c =
    sym (compared_same (board_words c.args.board.now) (words_of c.args.bytes.now) c.loop-index.index c.word_at.result c.board_word.result c.ne.result (omega arith) c.word_at.ensures c.board_word.ensures c.ne.ensures c.if-ne.false)
    ∙ c.loop-index.invariant
