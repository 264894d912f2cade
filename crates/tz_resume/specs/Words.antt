-- Words in a row of memory.
use Rattle.std.specs.Prelude.{◌≡◌, ◌≢◌, ℕ, zero, suc, ◌+◌, ◌^◌, ◌<◌, true, List, [], ◌∷◌, is_some}
use Rattle.std.specs.FinMap.{get}
use Rattle.tz_model.specs.Words.{wrap}
use Rattle.tz_state.specs.Memory.{Memory, byte_at, word_at}
use Rattle.tz_state.specs.Access.{is_mapped}
use Rattle.tz_state.specs.State.{Bus}

-- so many words from an address up
unfoldable pub words_at : Memory → ℕ → ℕ → List ℕ
words_at m a zero = []
words_at m a (suc n) = word_at m a ∷ words_at m (wrap (a + 4)) n

-- each fits 32 bits
abbrev pub AreWords : List ℕ → Type 0
AreWords [] = Unit
AreWords (w ∷ ws) = (w < 2 ^ 32) × AreWords ws

-- none of so many bytes from an address up
abbrev pub IsOutside : ℕ → ℕ → ℕ → Type 0
IsOutside a n q = (k : ℕ) → k < n → q ≢ wrap (a + k)

-- so many bytes from an address up are the same in both
abbrev pub SameBytes : ℕ → ℕ → Memory → Memory → Type 0
SameBytes a n m m' = (k : ℕ) → k < n → byte_at m' (wrap (a + k)) ≡ byte_at m (wrap (a + k))

-- each byte of the board's regions is in the map
abbrev pub IsWhole : Bus → Type 0
IsWhole b = (q : ℕ) → is_mapped b.board.regions q ≡ true → is_some (get b.memory q) ≡ true
