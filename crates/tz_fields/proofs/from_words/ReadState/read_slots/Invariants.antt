use Rattle.std.proofs.Common.{◌≡◌, ◌+◌, drop}
use Rattle.tz_fields.specs.Fields.{slot_places}
use Rattle.tz_fields.specs.StateWords.{field_count}
use Rattle.tz_fields.specs.ReadWords.{read_slots, words_of}
use Rattle.tz_fields.proofs.from_words.ReadState.read_slots.Given as goal

abbrev pub invariant-loop-index : goal.invariant-loop-index
invariant-loop-index l =
    read_slots (slot_places l.board.interrupts) (drop (field_count l.board) (words_of l.bytes)) (field_count l.board) l.fn.self
    ≡ read_slots (drop l.index (slot_places l.board.interrupts)) (drop l.index (drop (field_count l.board) (words_of l.bytes))) (field_count l.board + l.index) l.self
