use Rattle.std.proofs.Common.{◌≡◌, ◌+◌, ◌≤◌, true, false, length, drop, refl, sym, ap, ◌∙◌, arith}
use Rattle.tz_fields.specs.Fields.{fields}
use Rattle.tz_fields.specs.ReadWords.{words_of, fits, read_fields}
use Rattle.tz_fields.proofs.Order.{length_fields}
use Rattle.tz_fields.proofs.Reading.{field_read, field_refused, fields_end}
use Rattle.tz_fields.proofs.from_words.ReadState.read_fields.Goals as goal

pub returns-then-not-put_field : goal.returns-then-not-put_field
returns-then-not-put_field c =
    let not : fits c.loop-index.self c.field_at.result c.word_at-word.result ≡ false = sym c.put_field.ensures.fits ∙ c.if-not-put_field.true in
    c.loop-index.invariant.told ∙ field_refused (fields c.args.board.now) (words_of c.args.bytes.now) c.loop-index.index c.field_at.result c.word_at-word.result c.loop-index.self c.field_at.ensures c.word_at-word.ensures not

pub loop-index-preserved : goal.loop-index-preserved
loop-index-preserved c =
    let is : fits c.loop-index.self c.field_at.result c.word_at-word.result ≡ true = sym c.put_field.ensures.fits ∙ c.if-not-put_field.false in
    record {
      told = c.loop-index.invariant.told
          ∙ field_read (fields c.args.board.now) (words_of c.args.bytes.now) c.loop-index.index (c.loop-index.index + 1) c.field_at.result c.word_at-word.result c.loop-index.self refl c.field_at.ensures c.word_at-word.ensures is
          ∙ ap (λ s. read_fields (drop (c.loop-index.index + 1) (fields c.args.board.now)) (drop (c.loop-index.index + 1) (words_of c.args.bytes.now)) (c.loop-index.index + 1) s) (sym c.put_field.ensures.put);
      fresh = c.put_field.ensures.fresh;
    }

pub returns : goal.returns
returns c =
    let all : length (fields c.args.board.now) ≤ c.loop-index.index = omega (arith, length_fields c.args.board.now, c.field_count-index-end.ensures.is, c.loop-index-test.false) in
    c.loop-index.invariant.told ∙ fields_end (fields c.args.board.now) (drop c.loop-index.index (words_of c.args.bytes.now)) c.loop-index.index c.loop-index.index c.loop-index.self all
