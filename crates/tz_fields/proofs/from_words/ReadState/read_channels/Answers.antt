use Rattle.std.proofs.Common.{◌≡◌, ◌+◌, ◌≤◌, ℕ, true, false, List, length, drop, refl, sym, ap, ◌∙◌, arith}
use Rattle.std.specs.Prelude.{Err}
use Rattle.tz_fields.specs.Fields.{channel_fields}
use Rattle.tz_fields.specs.StateWords.{field_count, slot_count}
use Rattle.tz_fields.specs.ReadWords.{words_of, channel_fits, read_channels}
use Rattle.tz_fields.proofs.Indexed.{length_channels}
use Rattle.tz_fields.proofs.Reading.{channel_read, channel_refused, channels_end, past_first}
use Rattle.tz_fields.proofs.from_words.ReadState.read_channels.Goals as goal

pub returns-then-not-put_channel : goal.returns-then-not-put_channel
returns-then-not-put_channel c =
    let not : channel_fits c.loop-index.self c.channel_field.result c.word_at-word.result ≡ false = sym c.put_channel.ensures.fits ∙ c.if-not-put_channel.true in
    let n : ℕ = field_count c.args.board.now + slot_count c.args.board.now in
    let first : c.field_count.result + c.slot_count.result ≡ n = omega (arith, c.field_count.ensures.is, c.slot_count.ensures.is) in
    let ws : List ℕ = drop n (words_of c.args.bytes.now) in
    let at = past_first (words_of c.args.bytes.now) (c.field_count.result + c.slot_count.result) n c.loop-index.index c.word_at-word.result first c.word_at-word.ensures in
    c.loop-index.invariant
    ∙ channel_refused (channel_fields c.args.board.now.mover) ws c.loop-index.index (n + c.loop-index.index) c.channel_field.result c.word_at-word.result c.loop-index.self c.channel_field.ensures at not
    ∙ ap (λ k. Err (k + c.loop-index.index)) (sym first)

pub loop-index-preserved : goal.loop-index-preserved
loop-index-preserved c =
    let is : channel_fits c.loop-index.self c.channel_field.result c.word_at-word.result ≡ true = sym c.put_channel.ensures.fits ∙ c.if-not-put_channel.false in
    let n : ℕ = field_count c.args.board.now + slot_count c.args.board.now in
    let first : c.field_count.result + c.slot_count.result ≡ n = omega (arith, c.field_count.ensures.is, c.slot_count.ensures.is) in
    let ws : List ℕ = drop n (words_of c.args.bytes.now) in
    let at = past_first (words_of c.args.bytes.now) (c.field_count.result + c.slot_count.result) n c.loop-index.index c.word_at-word.result first c.word_at-word.ensures in
    c.loop-index.invariant
    ∙ channel_read (channel_fields c.args.board.now.mover) ws c.loop-index.index (c.loop-index.index + 1) (n + c.loop-index.index) (n + (c.loop-index.index + 1))
    c.channel_field.result c.word_at-word.result c.loop-index.self refl (omega arith) c.channel_field.ensures at is
    ∙ ap (λ s. read_channels (drop (c.loop-index.index + 1) (channel_fields c.args.board.now.mover)) (drop (c.loop-index.index + 1) ws) (n + (c.loop-index.index + 1)) s) (sym c.put_channel.ensures.put)

pub returns : goal.returns
returns c =
    let n : ℕ = field_count c.args.board.now + slot_count c.args.board.now in
    let all : length (channel_fields c.args.board.now.mover) ≤ c.loop-index.index = omega (arith, length_channels c.args.board.now, c.channel_count-index-end.ensures.is, c.loop-index-test.false) in
    c.loop-index.invariant
    ∙ channels_end (channel_fields c.args.board.now.mover) (drop c.loop-index.index (drop n (words_of c.args.bytes.now))) c.loop-index.index (n + c.loop-index.index) c.loop-index.self all
