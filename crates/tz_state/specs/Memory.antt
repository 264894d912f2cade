-- Bytes by address, and numbers of one, two and four bytes among them, the low byte first.
use Rattle.std.specs.Prelude.{ℕ, ◌+◌, ◌%◌, ◌^◌, Bool, ◌&&◌, List, [], ◌∷◌, unwrap_or, is_some, if◌then◌else◌, slice_index}
use Rattle.std.specs.FinMap.{FinMap, get, insert}
use Rattle.std.specs.Ordering.{nat_cmp}
use Rattle.std.specs.Int.{w16, w32, from_le_bytes, to_le_bytes}
use Rattle.tz_table.specs.declared.units.Size.{Size}
use Rattle.tz_table.specs.declared.units.Size.TheVariants.{Byte, Half, Word}
use Rattle.tz_model.specs.Words.{wrap}

abbrev pub Memory : Type 0
Memory = FinMap nat_cmp ℕ

-- a test of each byte of an access
abbrev pub every : (ℕ → Bool) → ℕ → Size → Bool
every p a Byte = p a
every p a Half = p a && p (wrap (a + 1))
every p a Word = p a && (p (wrap (a + 1)) && (p (wrap (a + 2)) && p (wrap (a + 3))))

-- the byte of an address, and 0 where the map has none
abbrev pub byte_at : Memory → ℕ → ℕ
byte_at m a = unwrap_or (get m a) 0

-- the halfword at an address, its low byte first
unfoldable pub half_at : Memory → ℕ → ℕ
half_at m a = from_le_bytes w16 (byte_at m a ∷ byte_at m (wrap (a + 1)) ∷ [])

-- the word at an address, its low byte first
unfoldable pub word_at : Memory → ℕ → ℕ
word_at m a =
    from_le_bytes w32 (byte_at m a ∷ byte_at m (wrap (a + 1)) ∷ byte_at m (wrap (a + 2)) ∷ byte_at m (wrap (a + 3)) ∷ [])

-- a number of a size at an address
abbrev pub value_at : Memory → Size → ℕ → ℕ
value_at m Byte a = byte_at m a
value_at m Half a = half_at m a
value_at m Word a = word_at m a

-- a byte of the map replaced; an address that isn't in the map stays out of it
unfoldable pub with_byte : Memory → ℕ → ℕ → Memory
with_byte m a b = if is_some (get m a) then insert m a b else m

-- the low halfword of a number written at an address
unfoldable pub with_half : Memory → ℕ → ℕ → Memory
with_half m a n =
    let bytes = to_le_bytes w16 n in
    with_byte (with_byte m a (slice_index bytes 0)) (wrap (a + 1)) (slice_index bytes 1)

-- a word written at an address
unfoldable pub with_word : Memory → ℕ → ℕ → Memory
with_word m a n =
    let bytes = to_le_bytes w32 n in
    let low = with_byte (with_byte m a (slice_index bytes 0)) (wrap (a + 1)) (slice_index bytes 1) in
    with_byte (with_byte low (wrap (a + 2)) (slice_index bytes 2)) (wrap (a + 3)) (slice_index bytes 3)

-- a number of a size written at an address
abbrev pub with_value : Memory → Size → ℕ → ℕ → Memory
with_value m Byte a n = with_byte m a (n % 2 ^ 8)
with_value m Half a n = with_half m a (n % 2 ^ 16)
with_value m Word a n = with_word m a n

-- bytes put from an address on; an image's segments never wrap
unfoldable pub with_bytes : Memory → ℕ → List ℕ → Memory
with_bytes m a [] = m
with_bytes m a (b ∷ bs) = with_bytes (with_byte m a b) (wrap (a + 1)) bs
