use Rattle.std.proofs.Common.{◌≡◌, ◌∙◌, refl, sym, ap, [], map}
use Rattle.std.specs.Prelude.{option_and_then, option_map, string_bytes}
use Rattle.std.specs.Borrow.{Bor}
use Rattle.tz_words.specs.Commands.{command_with}
use Rattle.tz_words.specs.Found.{parts_in}
use Rattle.tz_words.specs.Parts.{AnyWord, Text, parts_of}
use Rattle.tz_words.specs.StartWords.{StartWords, bare_with, start_parts}
use Rattle.tz_words.proofs.NoOption.{told-with_none}
use Rattle.tz_words.proofs.start.start_command.Goals as goal

pub returns-in-Ok-Some : goal.returns-in-Ok-Some
returns-in-Ok-Some c =
    let names = map (λ (s : Bor Text). s.now) c.as_slice.result.now in
    let same : names ≡ [] = ap (map (λ (s : Bor Text). s.now)) c.as_slice.ensures in
    c.start_found.ensures ∙ ap (option_map (λ (s : StartWords). command_with s c.args.work)) (ap (option_and_then start_parts) (ap (option_map parts_in) (sym c.in-Ok-Some.field-0-is) ∙ c.in-Ok-Some.ensures)
    ∙ told-with_none bare_with (λ value values words. refl) names same (parts_of [] AnyWord (map string_bytes c.args.words.now)))
