-- Words that are cut, and numbers in hexadecimal digits.
use Rattle.std.proofs.Common.{◌≡◌, ◌==◌, ◌&&◌, ℕ, ◌^◌, ◌<◌, ◌≤◌, Bool, true, List, [], ◌∷◌, ◌++◌, length, get_or, Some, None, refl, ap, ◌∙◌, subst, arith}
use Rattle.std.specs.Prelude.{nat_lt}
use Rattle.std.specs.Str.{chars}
use Rattle.std.proofs.lemmas.Bool.Decides.{nat_tests}
use Rattle.std.proofs.Math.Nat.{pow-le-pow_right}
use Rattle.clap.proofs.CutLemmas.{Lacks, list_any-Lacks, list_any-at, before_first-Lacks, before_first-at, after_first-at}
use Rattle.tz_words.specs.Parts.{Text, are_several, is_hyphened}
use Rattle.tz_words.specs.Ranges.{cut_at}

pub cut_at-at : (c : ℕ) (xs ys : Text) → Lacks c xs → cut_at c (xs ++ c ∷ ys) ≡ (xs, Some ys)
cut_at-at c xs ys h = rw (before_first-at c xs ys h, list_any-at c xs ys, after_first-at c xs ys h)

pub cut_at-without : (c : ℕ) (text : Text) → Lacks c text → cut_at c text ≡ (text, None)
cut_at-without c text h = rw (before_first-Lacks c text h, list_any-Lacks c text h)

-- ---- numbers

-- up to seven digits leave room for one more
pub few_digits : (n k : ℕ) → n < 16 ^ k → k ≤ 7 → n < 268435456
few_digits n k small few =
    let most : 16 ^ k ≤ 16 ^ 7 = pow-le-pow_right {n = 16} (omega arith) few in
    omega (arith, small, most)

-- ---- words that look like options

several-length : (cs : List ℕ) → nat_lt 1 (length cs) ≡ are_several cs
several-length [] = refl
several-length (c ∷ []) = refl
several-length (c ∷ d ∷ more) = grind (arith, nat_tests)

hyphened-by : (word : Text) → ((get_or word 0 0 == 45) && nat_lt 1 (length (chars word))) ≡ is_hyphened word
hyphened-by [] = refl
hyphened-by (c ∷ rest) = ap (λ (b : Bool). (c == 45) && b) (several-length (chars (c ∷ rest)))

pub hyphened-from : (word : Text) (n : ℕ) → n ≡ length (chars word) → (get_or word 0 0 == 45) ≡ true → nat_lt 1 n ≡ is_hyphened word
hyphened-from word n e first = subst (λ (b : Bool). (b && nat_lt 1 n) ≡ is_hyphened word) first (ap (λ (k : ℕ). (get_or word 0 0 == 45) && nat_lt 1 k) e ∙ hyphened-by word)
