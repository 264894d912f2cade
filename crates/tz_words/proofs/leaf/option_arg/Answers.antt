use Rattle.std.proofs.Common.{rules, ◌∙◌, refl, ap, false}
use Rattle.clap.specs.ValueTests.{accepts}
use Rattle.clap.specs.declared.builder.value_parser.ValueParser.{ValueParser}
use Rattle.tz_words.proofs.WordAnswers.{any_named}
use Rattle.tz_words.proofs.leaf.option_arg.Goals as goal

pub returns-clause-option : goal.returns-clause-option
returns-clause-option c =
    let given = c.value_parser.ensures.given in
    record {
      leaf = record { option = c.args.option.now; parser = given.0 };
      rule = search rules;
      named = refl;
      values = λ v. ap (λ (q : ValueParser). accepts false q v) given.2 ∙ any_named c.args.values.now v;
    }
