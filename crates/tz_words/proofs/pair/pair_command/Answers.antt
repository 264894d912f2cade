use Rattle.std.proofs.Common.{◌≡◌, ◌∙◌, refl, sym, ap, [], map}
use Rattle.std.specs.Prelude.{option_and_then, option_map, string_bytes}
use Rattle.std.specs.Borrow.{Bor}
use Rattle.tz_words.specs.Commands.{Pair}
use Rattle.tz_words.specs.Found.{parts_in}
use Rattle.tz_words.specs.Parts.{AnyWord, Text, parts_of}
use Rattle.tz_words.specs.Pair.{pair_parts, pair_with}
use Rattle.tz_words.proofs.NoOption.{told-with_none}
use Rattle.tz_words.proofs.pair.pair_command.Goals as goal

pub returns-in-Ok-Some : goal.returns-in-Ok-Some
returns-in-Ok-Some c =
    let names = map (λ (s : Bor Text). s.now) c.as_slice.result.now in
    let same : names ≡ [] = ap (map (λ (s : Bor Text). s.now)) c.as_slice.ensures in
    c.pair_found.ensures ∙ ap (option_map Pair) (ap (option_and_then pair_parts) (ap (option_map parts_in) (sym c.in-Ok-Some.field-0-is) ∙ c.in-Ok-Some.ensures)
    ∙ told-with_none pair_with (λ value values words. refl) names same (parts_of [] AnyWord (map string_bytes c.args.words.now)))
