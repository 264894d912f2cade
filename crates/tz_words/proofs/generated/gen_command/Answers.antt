use Rattle.std.proofs.Common.{◌≡◌, ◌∙◌, refl, sym, ap, [], map}
use Rattle.std.specs.Prelude.{option_and_then, option_map, string_bytes}
use Rattle.std.specs.Borrow.{Bor}
use Rattle.tz_words.specs.Commands.{Gen}
use Rattle.tz_words.specs.Found.{parts_in}
use Rattle.tz_words.specs.Parts.{AnyWord, Text, parts_of}
use Rattle.tz_words.specs.GenWords.{gen_parts, gen_with}
use Rattle.tz_words.proofs.NoOption.{told-with_none}
use Rattle.tz_words.proofs.generated.gen_command.Goals as goal

pub returns-in-Ok-Some : goal.returns-in-Ok-Some
returns-in-Ok-Some c =
    let names = map (λ (s : Bor Text). s.now) c.as_slice.result.now in
    let same : names ≡ [] = ap (map (λ (s : Bor Text). s.now)) c.as_slice.ensures in
    c.gen_found.ensures ∙ ap (option_map Gen) (ap (option_and_then gen_parts) (ap (option_map parts_in) (sym c.in-Ok-Some.field-0-is) ∙ c.in-Ok-Some.ensures)
    ∙ told-with_none gen_with (λ value values words. refl) names same (parts_of [] AnyWord (map string_bytes c.args.words.now)))
