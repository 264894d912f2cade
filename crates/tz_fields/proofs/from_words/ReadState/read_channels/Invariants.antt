use Rattle.std.proofs.Common.{◌≡◌, ◌+◌, drop}
use Rattle.tz_fields.specs.Fields.{channel_fields}
use Rattle.tz_fields.specs.StateWords.{field_count, slot_count}
use Rattle.tz_fields.specs.ReadWords.{read_channels, words_of}
use Rattle.tz_fields.proofs.from_words.ReadState.read_channels.Given as goal

abbrev pub invariant-loop-index : goal.invariant-loop-index
invariant-loop-index l =
    read_channels (channel_fields l.board.mover) (drop (field_count l.board + slot_count l.board) (words_of l.bytes)) (field_count l.board + slot_count l.board) l.fn.self
    ≡ read_channels (drop l.index (channel_fields l.board.mover)) (drop l.index (drop (field_count l.board + slot_count l.board) (words_of l.bytes))) (field_count l.board + slot_count l.board + l.index) l.self
