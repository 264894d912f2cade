use Rattle.std.proofs.Common.{◌∙◌, ap₂}
use Rattle.std.proofs.lemmas.Result.{IfOk-weaker}
use Rattle.clap.specs.Words.{with_rule}
use Rattle.tz_words.proofs.leaf.leaf.Goals as goal

pub returns : goal.returns
returns c =
    let is = c.option_arg.ensures.option in
    IfOk-weaker c.arg-2.result _ _ (λ m h. record {
      leaf = is.leaf;
      app = h.shape c.option_arg.ensures.local
          ∙ ap₂ with_rule (c.in_ok-arg.ensures.shape c.words_arg.ensures.local ∙ ap₂ with_rule c.bare.ensures c.words_arg.ensures.rule) is.rule;
      named = is.named;
      values = is.values;
    }) c.arg-2.ensures
