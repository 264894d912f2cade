use Rattle.std.proofs.Common.{◌≡◌, ◌+◌, ◌≤◌, ℕ, true, false, List, length, drop, refl, sym, ap, ◌∙◌, arith}
use Rattle.std.specs.Prelude.{Err}
use Rattle.tz_fields.specs.Fields.{slot_places}
use Rattle.tz_fields.specs.StateWords.{field_count}
use Rattle.tz_fields.specs.ReadWords.{words_of, slot_fits, read_slots}
use Rattle.tz_fields.proofs.Order.{length_slots}
use Rattle.tz_fields.proofs.Reading.{slot_read, slot_refused, slots_end, past_first}
use Rattle.tz_fields.proofs.from_words.ReadState.read_slots.Goals as goal

pub returns-then-not-put_slot : goal.returns-then-not-put_slot
returns-then-not-put_slot c =
    let not : slot_fits c.loop-index.self c.slot_place.result c.word_at-word.result ≡ false = sym c.put_slot.ensures.fits ∙ c.if-not-put_slot.true in
    let ws : List ℕ = drop (field_count c.args.board.now) (words_of c.args.bytes.now) in
    let at = past_first (words_of c.args.bytes.now) c.field_count-first.result (field_count c.args.board.now) c.loop-index.index c.word_at-word.result c.field_count-first.ensures.is c.word_at-word.ensures in
    c.loop-index.invariant
    ∙ slot_refused (slot_places c.args.board.now.interrupts) ws c.loop-index.index (field_count c.args.board.now + c.loop-index.index) c.slot_place.result c.word_at-word.result c.loop-index.self c.slot_place.ensures.is at not
    ∙ ap (λ k. Err (k + c.loop-index.index)) (sym c.field_count-first.ensures.is)

pub loop-index-preserved : goal.loop-index-preserved
loop-index-preserved c =
    let is : slot_fits c.loop-index.self c.slot_place.result c.word_at-word.result ≡ true = sym c.put_slot.ensures.fits ∙ c.if-not-put_slot.false in
    let ws : List ℕ = drop (field_count c.args.board.now) (words_of c.args.bytes.now) in
    let at = past_first (words_of c.args.bytes.now) c.field_count-first.result (field_count c.args.board.now) c.loop-index.index c.word_at-word.result c.field_count-first.ensures.is c.word_at-word.ensures in
    c.loop-index.invariant
    ∙ slot_read (slot_places c.args.board.now.interrupts) ws c.loop-index.index (c.loop-index.index + 1) (field_count c.args.board.now + c.loop-index.index) (field_count c.args.board.now + (c.loop-index.index + 1))
    c.slot_place.result c.word_at-word.result c.loop-index.self refl (omega arith) c.slot_place.ensures.is at is
    ∙ ap (λ s. read_slots (drop (c.loop-index.index + 1) (slot_places c.args.board.now.interrupts)) (drop (c.loop-index.index + 1) ws) (field_count c.args.board.now + (c.loop-index.index + 1)) s) (sym c.put_slot.ensures.put)

pub returns : goal.returns
returns c =
    let all : length (slot_places c.args.board.now.interrupts) ≤ c.loop-index.index = omega (arith, length_slots c.args.board.now.interrupts, c.slot_count-index-end.ensures.is, c.loop-index-test.false) in
    c.loop-index.invariant
    ∙ slots_end (slot_places c.args.board.now.interrupts) (drop c.loop-index.index (drop (field_count c.args.board.now) (words_of c.args.bytes.now))) c.loop-index.index (field_count c.args.board.now + c.loop-index.index) c.loop-index.self all
