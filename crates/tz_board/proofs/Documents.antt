-- The document in bytes that are UTF-8, and in bytes that aren't.
use Rattle.std.proofs.Common.{◌≡◌, ℕ, Bool, true, false, refl, List, Option, None}
use Rattle.std.specs.Str.{is_utf8, IsUtf8}
use Rattle.std.proofs.lemmas.Str.{IsUtf8-from_is_utf8, is_utf8-from_IsUtf8}
use Rattle.toml.specs.Data.{Members}
use Rattle.toml.specs.Parse.{parse_document}
use Rattle.tz_board.specs.Boards.{document_of}

pub document_of-not_utf8 : (bytes : List ℕ) → (IsUtf8 bytes → ⊥) → document_of bytes ≡ None
unfolding document_of
document_of-not_utf8 bytes h = by_test (is_utf8 bytes) refl
  where
    by_test : (b : Bool) → is_utf8 bytes ≡ b → document_of bytes ≡ None
    by_test true e = absurd (h (IsUtf8-from_is_utf8 bytes e))
    by_test false e = rw e

pub document_of-utf8 : (bytes : List ℕ) (ms : Option Members) → IsUtf8 bytes → parse_document bytes ≡ ms → document_of bytes ≡ ms
unfolding document_of
document_of-utf8 bytes ms h e = rw (is_utf8-from_IsUtf8 bytes h, e)
