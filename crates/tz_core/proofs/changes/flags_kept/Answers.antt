use Rattle.std.proofs.Common.{◌≡◌, ℕ, ◌+◌, ◌*◌, ◌^◌, ◌≤◌, Bool, true, false, ◌&&◌, refl, arith}
use mathlib.Core.Bool.{beq}
use Rattle.tz_regs.specs.Special.{number_of}
use Rattle.tz_core.proofs.changes.flags_kept.Goals as goal

few : (x : Bool) → number_of x ≤ 1
few true = omega arith
few false = omega arith

same : (x y : Bool) → number_of x ≡ number_of y → beq x y ≡ true
same true true e = refl
same false false e = refl
same true false e = absurd (omega arith)
same false true e = absurd (omega arith)

-- a word tells its bits
bits_of_word : (n z c v q m y b u p : ℕ) → n ≤ 1 → z ≤ 1 → c ≤ 1 → v ≤ 1 → q ≤ 1 → m ≤ 1 → y ≤ 1 → b ≤ 1 → u ≤ 1 → p ≤ 1
    → 2 ^ 31 * n + 2 ^ 30 * z + 2 ^ 29 * c + 2 ^ 28 * v + 2 ^ 27 * q ≡ 2 ^ 31 * m + 2 ^ 30 * y + 2 ^ 29 * b + 2 ^ 28 * u + 2 ^ 27 * p
    → (n ≡ m) × (z ≡ y) × (c ≡ b) × (v ≡ u) × (q ≡ p)
bits_of_word n z c v q m y b u p hn hz hc hv hq hm hy hb hu hp e = (omega arith, omega arith, omega arith, omega arith, omega arith)

all : (n z c v q : Bool) → n ≡ true → z ≡ true → c ≡ true → v ≡ true → q ≡ true → (((n && z) && c) && v) && q ≡ true
all n z c v q hn hz hc hv hq = rw (hn, hz, hc, hv, hq)

pub returns-clause-differ : goal.returns-clause-differ
returns-clause-differ c = λ differ word.
    let b = c.args.before.now in
    let a = c.args.after.now in
    let t = bits_of_word (number_of b.n) (number_of b.z) (number_of b.c) (number_of b.v) (number_of b.q) (number_of a.n) (number_of a.z) (number_of a.c) (number_of a.v) (number_of a.q)
    (few b.n) (few b.z) (few b.c) (few b.v) (few b.q) (few a.n) (few a.z) (few a.c) (few a.v) (few a.q) word in
    let kept = all _ _ _ _ _ (same b.n a.n t.0) (same b.z a.z t.1) (same b.c a.c t.2) (same b.v a.v t.3) (same b.q a.q t.4) in
    cc
