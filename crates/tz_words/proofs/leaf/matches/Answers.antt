use Rattle.std.proofs.Common.{◌≡◌, ◌∙◌, sym, ap, map, true, subst, inl, inr}
use Rattle.clap.specs.Words.{App, IsAmong, kind_of}
use Rattle.std.specs.Prelude.{string_bytes}
use Rattle.clap.specs.Faults.{fault_of, is_simple_and_free}
use Rattle.clap.specs.Simple.{is_simple, matches_of}
use Rattle.tz_words.specs.Leaf.{are_positional, is_name, is_one_of, with_one}
use Rattle.tz_words.specs.Parts.{AnyWord, parts_of}
use Rattle.tz_words.proofs.WordAnswers.{taken, refused}
use Rattle.tz_words.proofs.leaf.matches.Goals as goal
use Rattle.std.proofs.Common.{arith, rules, tests}
use Rattle.std.proofs.lemmas.Grind.{common_steps, elements}

pub returns-in-Ok-try_get_matches_from : goal.returns-in-Ok-try_get_matches_from
returns-in-Ok-try_get_matches_from c =
    let is = c.in-Ok.ensures in
    let words = map string_bytes c.args.words.now in
    let names = map (λ s. s.now) c.args.values.now in
    let none = c.in-Ok-try_get_matches_from.ensures.kinds (ap is_simple_and_free is.app) in
    let rows = c.in-Ok-try_get_matches_from.ensures.matches (ap is_simple is.app) in
    let plain : are_positional is.leaf.option names ≡ true = ap (λ o. are_positional o names) is.named ∙ c.requires.values in
    let named : is_name is.leaf.option ≡ true = ap is_name is.named ∙ c.requires.option in
    taken is.leaf names named plain is.values words c.in-Ok-try_get_matches_from.found (sym (ap (λ (a : App). fault_of a words) is.app) ∙ none) (rows.0 ∙ ap (λ (a : App). matches_of a words) is.app)
    ∙ ap (λ o. with_one (is_one_of names) (parts_of o AnyWord words)) is.named

pub returns : goal.returns
returns c =
    let is = c.in-Ok.ensures in
    let words = map string_bytes c.args.words.now in
    let names = map (λ s. s.now) c.args.values.now in
    let kinds = c.in-Err-try_get_matches_from.ensures.kinds (ap is_simple_and_free is.app) in
    let plain : are_positional is.leaf.option names ≡ true = ap (λ o. are_positional o names) is.named ∙ c.requires.values in
    let named : is_name is.leaf.option ≡ true = ap is_name is.named ∙ c.requires.option in
    elim kinds [
      | inl memory ↦ absurd (c.in_default.not-OutOfMemory (c.kind.ensures ∙ memory))
      | inr among ↦ refused is.leaf names named plain is.values words _ (subst (λ (a : App). IsAmong (kind_of c.in-Err-try_get_matches_from.error) (fault_of a words)) is.app among)
          ∙ ap (λ o. with_one (is_one_of names) (parts_of o AnyWord words)) is.named
    ]

-- What the tactics try, by name: a body that is refused is then told without a search for what to offer.
pub returns-in-Err : goal.returns-in-Err
returns-in-Err c = first_of (assumption, search (tests, rules), grind (arith, common_steps), grind (arith, elements))

pub returns-in-OutOfMemory : goal.returns-in-OutOfMemory
returns-in-OutOfMemory c = first_of (assumption, search (tests, rules), grind (arith, common_steps), grind (arith, elements))
