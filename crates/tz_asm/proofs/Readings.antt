-- A line, read from its tokens.
use Rattle.std.proofs.Common.{◌≡◌, ℕ, refl, List, Some}
use Rattle.tz_asm.specs.Reading.{at_line, said}
use Rattle.tz_asm.specs.SourceLines.{line_of, source_line}
use Rattle.tz_asm.specs.Texts.{line_read}
use Rattle.tz_asm.specs.Views.{found_view, views}
use Rattle.tz_asm.specs.declared.reading.EndingKind.{EndingKind}
use Rattle.tz_syntax.specs.declared.token.Token.{Token}

pub said-of : (line : ℕ) (text : List ℕ) (items slice : List Token) (found : EndingKind) (bytes chars : List ℕ) → line_read text ≡ Some (views items, found_view found bytes) → slice ≡ items
    → chars ≡ bytes → said line text ≡ at_line line (line_of (views slice) (found_view found chars))
unfolding said source_line
said-of line text items slice found bytes chars read same also = rw (same, also, read) refl
