use Rattle.std.proofs.Common.{◌≡◌, ◌∙◌, ap, sym, true}
use Rattle.std.specs.Result.{result_ok}
use Rattle.tz_words.specs.Counts.{is_count}
use Rattle.tz_words.proofs.Numbers.{parse-count}
use Rattle.tz_words.proofs.counts.count_in.Goals as goal

pub returns-then-is_count : goal.returns-then-is_count
returns-then-is_count c =
    let number : is_count c.args.word.now ≡ true = sym c.is_count.ensures ∙ c.if-is_count.true in
    c.ok.ensures.value ∙ ap result_ok (parse-count c.args.word.now c.parse.result c.parse.ensures.value.0 number) ∙ rw number
