use Rattle.std.proofs.Common.{◌≡◌, ◌∙◌, refl, sym, ap, [], ◌∷◌, codes, map}
use Rattle.std.specs.Prelude.{option_and_then, option_map, string_bytes}
use Rattle.std.specs.Borrow.{Bor}
use Rattle.tz_model.specs.declared.report.View.TheVariants.{Ns, All}
use Rattle.tz_words.specs.Commands.{Back}
use Rattle.tz_words.specs.Found.{parts_in}
use Rattle.tz_words.specs.Parts.{AnyWord, Text, parts_of}
use Rattle.tz_words.specs.Back.{back_parts, back_with}
use Rattle.tz_words.proofs.Choices.{chosen-with_one}
use Rattle.tz_words.proofs.back.back_command.Goals as goal

pub returns-in-Ok-Some : goal.returns-in-Ok-Some
returns-in-Ok-Some c =
    let names = map (λ (s : Bor Text). s.now) c.as_slice.result.now in
    let same : names ≡ codes "ns" ∷ codes "all" ∷ [] = ap (map (λ (s : Bor Text). s.now)) c.as_slice.ensures in
    c.back_found.ensures ∙ ap (option_map Back) (ap (option_and_then back_parts) (ap (option_map parts_in) (sym c.in-Ok-Some.field-0-is) ∙ c.in-Ok-Some.ensures)
    ∙ chosen-with_one (codes "ns") (codes "all") Ns All back_with (λ words. refl) names same (parts_of (codes "view") AnyWord (map string_bytes c.args.words.now)))
