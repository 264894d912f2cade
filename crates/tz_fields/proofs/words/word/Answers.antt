use Rattle.std.proofs.Common.{◌≡◌, ◌-◌, Some, sym, ap, ◌∙◌, arith}
use Rattle.tz_model.specs.Board.{BoardValue}
use Rattle.tz_fields.specs.StateWords.{field_count, slot_count, channel_count}
use Rattle.tz_fields.proofs.Indexed.{slot_told, channel_told, memory_told}
use Rattle.tz_fields.proofs.words.word.Goals as goal

pub returns-then-index-fields-2 : goal.returns-then-index-fields-2
returns-then-index-fields-2 c =
    let board : c.board-board.result.now ≡ c.args.state.now.bus.board = c.board-board.ensures in
    let fields : c.field_count-fields.result ≡ field_count c.args.state.now.bus.board = rw board at c.field_count-fields.ensures.is in
    ap Some c.slot_word.ensures
    ∙ sym (slot_told c.args.state.now c.args.index (c.args.index - c.field_count-fields.result) c.slot_place.result (omega (arith, fields, c.if-index-fields.false))
    (rw board at c.slot_place.ensures.is))

pub returns-then-behind-channels : goal.returns-then-behind-channels
returns-then-behind-channels c =
    let board : c.board-board.result.now ≡ c.args.state.now.bus.board = c.board-board.ensures in
    let fields : c.field_count-fields.result ≡ field_count c.args.state.now.bus.board = rw board at c.field_count-fields.ensures.is in
    let slots : c.slot_count-slots.result ≡ slot_count c.args.state.now.bus.board = rw board at c.slot_count-slots.ensures.is in
    ap Some c.channel_word.ensures
    ∙ sym (channel_told c.args.state.now c.args.index (c.args.index - c.field_count-fields.result - c.slot_count-slots.result) c.channel_field.result
    (omega (arith, fields, slots, c.if-index-fields.false, c.if-index-fields-2.false)) (rw board at c.channel_field.ensures))

pub returns : goal.returns
returns c =
    let board : c.board-board.result.now ≡ c.args.state.now.bus.board = c.board-board.ensures in
    let fields : c.field_count-fields.result ≡ field_count c.args.state.now.bus.board = rw board at c.field_count-fields.ensures.is in
    let slots : c.slot_count-slots.result ≡ slot_count c.args.state.now.bus.board = rw board at c.slot_count-slots.ensures.is in
    let channels : c.channel_count-channels.result ≡ channel_count c.args.state.now.bus.board = rw board at c.channel_count-channels.ensures.is in
    let told = memory_told c.args.state.now c.args.index (c.args.index - c.field_count-fields.result - c.slot_count-slots.result - c.channel_count-channels.result)
    (omega (arith, fields, slots, channels, c.if-index-fields.false, c.if-index-fields-2.false, c.if-behind-channels.false)) in
    let regions : c.deref.result.now ≡ c.args.state.now.bus.board.regions =
    c.deref.ensures.value ∙ ap (λ (b : BoardValue). b.regions) c.board.view_is ∙ ap (λ (b : BoardValue). b.regions) board
    in
    (rw regions at c.memory_word.ensures) ∙ sym told
