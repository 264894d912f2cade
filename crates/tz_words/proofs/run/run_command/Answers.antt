use Rattle.std.proofs.Common.{◌≡◌, ◌∙◌, refl, sym, ap, [], ◌∷◌, codes, map}
use Rattle.std.specs.Prelude.{option_and_then, option_map, string_bytes}
use Rattle.std.specs.Borrow.{Bor}
use Rattle.tz_model.specs.declared.report.View.TheVariants.{Ns}
use Rattle.tz_words.specs.declared.start.Work.TheVariants.{Trace}
use Rattle.tz_words.specs.Commands.{run_parts, run_with, shown_works}
use Rattle.tz_words.specs.Found.{parts_in}
use Rattle.tz_words.specs.Parts.{AnyWord, Text, parts_of}
use Rattle.tz_words.proofs.Choices.{chosen_in-with_one}
use Rattle.tz_words.proofs.run.run_command.Goals as goal

pub returns-in-Ok-Some : goal.returns-in-Ok-Some
returns-in-Ok-Some c =
    let names = map (λ (s : Bor Text). s.now) c.as_slice.result.now in
    let same : names ≡ codes "ns" ∷ codes "all" ∷ codes "full" ∷ [] = ap (map (λ (s : Bor Text). s.now)) c.as_slice.ensures in
    c.run_found.ensures ∙ ap (option_and_then run_parts) (ap (option_map parts_in) (sym c.in-Ok-Some.field-0-is) ∙ c.in-Ok-Some.ensures)
    ∙ chosen_in-with_one shown_works (Trace Ns) run_with (λ words. refl) names same (parts_of (codes "view") AnyWord (map string_bytes c.args.words.now))
