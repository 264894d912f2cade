-- The pieces of names are the names between a space and `=`.
use Rattle.std.proofs.Common.{◌≡◌, ℕ, zero, suc, ◌-◌, ◌<◌, ◌≤◌, Bool, true, false, ◌&&◌, T, eqb, List, [], ◌∷◌, ◌++◌, get_or, take, slice_get, None, ap, ◌∙◌, refl, inl, inr, arith, eq-zero-or-pos, eqb→eq, codes}
use Rattle.std.proofs.lemmas.Bool.Decides.{nat_tests}
use Rattle.std.proofs.lemmas.List.{get_or_default}
use Rattle.std.proofs.lemmas.Option.{slice_get_past}
use lib.Ieee.Fits.{and_l, and_r}
use Rattle.tz_syntax.specs.Names.{registers, register_text}
use Rattle.tz_text.specs.Line.{change_name}
use Rattle.tz_text.specs.declared.names.TheConstants.{NAMES}

-- whether two lists of numbers are the same
abbrev same : List ℕ → List ℕ → Bool
same [] [] = true
same [] (y ∷ ys) = false
same (x ∷ xs) [] = false
same (x ∷ xs) (y ∷ ys) = eqb x y && same xs ys

same→eq : (xs ys : List ℕ) → T (same xs ys) → xs ≡ ys
same→eq [] [] t = refl
same→eq [] (y ∷ ys) t = absurd t
same→eq (x ∷ xs) [] t = absurd t
same→eq (x ∷ xs) (y ∷ ys) t =
    ap (λ (k : ℕ). k ∷ xs) (eqb→eq _ _ (and_l _ (same xs ys) t)) ∙ ap (λ (ks : List ℕ). y ∷ ks) (same→eq xs ys (and_r _ (same xs ys) t))

abbrev pub between : ℕ → List ℕ
between k = codes " " ++ change_name k ++ codes "="

abbrev none : List ℕ × ℕ
none = ([], 0)

-- the names of numbers below one
abbrev are_named : ℕ → Bool
are_named zero = true
are_named (suc k) = same (take (get_or NAMES k none).1 (get_or NAMES k none).0) (between k) && are_named k

below : (n k : ℕ) → T (are_named n) → k < n → take (get_or NAMES k none).1 (get_or NAMES k none).0 ≡ between k
below zero k t h = absurd (omega arith)
below (suc n) k t h =
    elim (eq-zero-or-pos (n - k)) [
      | inl z ↦ let e : k ≡ n = omega arith in rw e (same→eq (take (get_or NAMES n none).1 (get_or NAMES n none).0) (between n) (and_l _ (are_named n) t))
      | inr g ↦ below n k (and_r _ (are_named n) t) (omega arith)
    ]

pub named_at : (k : ℕ) (d : List ℕ × ℕ) → k < 16 → take (get_or NAMES k d).1 (get_or NAMES k d).0 ≡ between k
unfolding register_text
named_at k d h = rw (get_or_default NAMES k d none h) (below 16 k tt h)

-- no other number has a name
pub unnamed : (k : ℕ) → 16 ≤ k → codes " =" ≡ between k
unfolding register_text
unnamed k h = let none : slice_get registers k ≡ None = slice_get_past registers k h in grind (arith, nat_tests, none)
