use Rattle.std.proofs.Common.{◌≡◌, ◌∙◌, ◌==◌, sym, get_or, length, true, rules, arith}
use Rattle.std.specs.Str.{chars}
use Rattle.std.proofs.lemmas.Str.{chars_from_encodes}
use Rattle.tz_words.proofs.Cuts.{hyphened-from}
use Rattle.tz_words.proofs.show.is_hyphened.Goals as goal

pub returns-then-starts_with : goal.returns-then-starts_with
returns-then-starts_with c =
    let first : (get_or c.args.word.now 0 0 == 45) ≡ true = sym (c.starts_with.ensures.byte (omega arith) (omega arith) (λ w o h. h)) ∙ c.if-starts_with.true in
    let counted : c.count.result ≡ length (chars c.args.word.now) = search (rules, chars_from_encodes) in
    hyphened-from c.args.word.now c.count.result counted first
