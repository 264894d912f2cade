use Rattle.std.proofs.Common.{◌≡◌, ◌∙◌, refl, sym, ap, [], ◌∷◌, codes, map}
use Rattle.std.specs.Prelude.{option_and_then, option_map, string_bytes}
use Rattle.std.specs.Borrow.{Bor}
use Rattle.tz_words.specs.declared.asm.Form.TheVariants.{Hex}
use Rattle.tz_words.specs.Commands.{Asm}
use Rattle.tz_words.specs.Found.{parts_in}
use Rattle.tz_words.specs.Parts.{AnyWord, Text, parts_of}
use Rattle.tz_words.specs.Asm.{asm_parts, asm_with, forms}
use Rattle.tz_words.proofs.Choices.{chosen_in-with_one}
use Rattle.tz_words.proofs.asm.asm_command.Goals as goal

pub returns-in-Ok-Some : goal.returns-in-Ok-Some
returns-in-Ok-Some c =
    let names = map (λ (s : Bor Text). s.now) c.as_slice.result.now in
    let same : names ≡ codes "hex" ∷ codes "elf" ∷ codes "list" ∷ [] = ap (map (λ (s : Bor Text). s.now)) c.as_slice.ensures in
    c.asm_found.ensures ∙ ap (option_map Asm) (ap (option_and_then asm_parts) (ap (option_map parts_in) (sym c.in-Ok-Some.field-0-is) ∙ c.in-Ok-Some.ensures)
    ∙ chosen_in-with_one forms Hex asm_with (λ words. refl) names same (parts_of (codes "form") AnyWord (map string_bytes c.args.words.now)))
