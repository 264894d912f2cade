use Rattle.std.proofs.Common.{◌≡◌, drop, map, Global}
use Rattle.std.specs.String.{string_bytes}
use Rattle.tz_words.specs.ShowWords.{no_parts, show_parts_in, with_words}
use Rattle.tz_words.proofs.show.show_command.Given as goal

-- the words that are left give with the parts so far what all words give
abbrev pub invariant-loop-word : goal.invariant-loop-word
invariant-loop-word l = with_words (map (string_bytes {Z = Global}) (drop l.word-index l.words)) (show_parts_in l.parts) ≡ with_words (map (string_bytes {Z = Global}) l.words) no_parts
