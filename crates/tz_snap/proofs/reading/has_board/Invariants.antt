use Rattle.std.proofs.Common.{◌≡◌, drop}
use Rattle.tz_fields.specs.ReadWords.{words_of}
use Rattle.tz_snap.specs.StateFile.{board_words, begins_with}
use Rattle.tz_snap.proofs.reading.has_board.Given as goal

-- what is left of both decides
abbrev pub invariant-loop-index : goal.invariant-loop-index
invariant-loop-index l =
    begins_with (drop l.index (board_words l.board)) (drop l.index (drop 2 (words_of l.bytes))) ≡ begins_with (board_words l.board) (drop 2 (words_of l.bytes))
