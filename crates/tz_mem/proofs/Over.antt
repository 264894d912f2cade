-- The bytes of a number, put from its address on.
use Rattle.std.proofs.Common.{◌≡◌, ℕ, ◌+◌, refl, arith}
use Rattle.std.specs.Int.{to_le_bytes, w16, w32}
use Rattle.tz_state.specs.Memory.{Memory}
use Rattle.tz_model.specs.Words.{wrap}
use Rattle.tz_state.specs.Memory.{with_half, with_word, with_bytes}

pub half_over : (m : Memory) (a n : ℕ) → with_bytes m a (to_le_bytes w16 n) ≡ with_half m a n
unfolding with_bytes with_half
half_over m a n = refl

pub word_over : (m : Memory) (a n : ℕ) → with_bytes m a (to_le_bytes w32 n) ≡ with_word m a n
unfolding with_bytes with_word
word_over m a n =
    let third : wrap (wrap (a + 1) + 1) ≡ wrap (a + 2) = omega arith in
    let fourth : wrap (wrap (a + 2) + 1) ≡ wrap (a + 3) = omega arith in
    rw (third, fourth) refl
