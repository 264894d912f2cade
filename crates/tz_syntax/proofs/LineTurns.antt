-- The first line of a text, with or without its line feed.
use Rattle.std.proofs.Common.{◌≡◌, ◌≢◌, ◌<◌, ◌+◌, ◌==◌, ℕ, true, false, zero, suc, refl, ap, arith, List, [], ◌∷◌, length, take, drop, get_or, eq-eqb}
use Rattle.std.proofs.lemmas.Bool.{ne_eqb}
use Rattle.tz_syntax.specs.Lines.{onto_first_line, lines_of}

-- the first line, and the lines behind its line feed
pub lines_of-feed : (text : List ℕ) (k : ℕ) → k < length text → ((j : ℕ) → j < k → get_or text j 0 ≢ 10) → get_or text k 0 ≡ 10
    → lines_of text ≡ take k text ∷ lines_of (drop (k + 1) text)
unfolding lines_of
lines_of-feed [] k h before found = absurd (omega arith)
lines_of-feed (b ∷ rest) zero h before found =
    let feed : (b == 10) ≡ true = eq-eqb b 10 found in
    rw feed refl
lines_of-feed (b ∷ rest) (suc k) h before found =
    let other : (b == 10) ≡ false = ne_eqb b 10 (before 0 (omega arith)) in
    let next : suc k + 1 ≡ suc (k + 1) = omega arith in
    let more = lines_of-feed rest k (omega arith) (λ j l. before (suc j) (omega arith)) found in
    rw (other, next) (ap (onto_first_line b) more)

-- a text without a line feed is one line
pub lines_of-last : (text : List ℕ) → 0 < length text → ((j : ℕ) → j < length text → get_or text j 0 ≢ 10) → lines_of text ≡ text ∷ lines_of []
unfolding lines_of
lines_of-last [] h before = absurd (omega arith)
lines_of-last (b ∷ []) h before =
    let other : (b == 10) ≡ false = ne_eqb b 10 (before 0 (omega arith)) in
    rw other refl
lines_of-last (b ∷ c ∷ rest) h before =
    let other : (b == 10) ≡ false = ne_eqb b 10 (before 0 (omega arith)) in
    let more = lines_of-last (c ∷ rest) (omega arith) (λ j l. before (suc j) (omega arith)) in
    rw other (ap (onto_first_line b) more)
