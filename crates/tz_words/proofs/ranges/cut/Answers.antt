use Rattle.std.proofs.Common.{◌∙◌, sym, ap, Some, None}
use Rattle.std.proofs.lemmas.Str.Pattern.{split_parts}
use Rattle.tz_words.specs.Ranges.{cut_at}
use Rattle.tz_words.proofs.Cuts.{cut_at-at, cut_at-without}
use Rattle.tz_words.proofs.ranges.cut.Goals as goal

pub returns-in-Some : goal.returns-in-Some
returns-in-Some c =
    let parts = split_parts c.args.at c.args.word.now (Some (c.in-Some.before, c.in-Some.behind)) c.in-Some.ensures.cases c.requires in
    sym (ap (cut_at c.args.at) parts.0 ∙ cut_at-at c.args.at c.in-Some.before.now c.in-Some.behind.now parts.1)

pub returns-in-None : goal.returns-in-None
returns-in-None c =
    let lacks = split_parts c.args.at c.args.word.now None c.in-None.ensures.cases c.requires in
    sym (cut_at-without c.args.at c.args.word.now lacks)
