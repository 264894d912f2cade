-- The digits of a number before its last one, with that behind them; and codes as numbers.
use Rattle.std.proofs.Common.{◌≡◌, ℕ, ◌+◌, ◌/◌, ◌%◌, ◌^◌, ◌<◌, [], ◌∷◌, ◌++◌, Option, Some, None, refl, sym, ap, ◌∙◌, inl, inr, arith, eq-zero-or-pos}
use Rattle.std.proofs.lemmas.Fmt.{decimal_digit, decimal_step}
use Rattle.std.proofs.lemmas.Bool.Decides.{nat_tests}
use Rattle.std.specs.Fmt.{decimal}
use Rattle.tz_table.specs.declared.units.Code.{Code}
use Rattle.tz_text.specs.Kept.{upper_of, number_of}
use Rattle.tz_text.specs.Number.{tens_text}

some_tens : (tens : ℕ) → 0 < tens → tens_text tens ≡ decimal tens
some_tens tens h = grind (arith, nat_tests)

pub by_tens : (n : ℕ) → n < 2 ^ 32 → tens_text (n / 10) ++ ((48 + n % 10) ∷ []) ≡ decimal n
by_tens n h =
    elim (eq-zero-or-pos (n / 10)) [
      | inl z ↦ let m : n % 10 ≡ n = omega arith in rw (z, m, decimal_digit n (omega arith))
      | inr g ↦ rw (some_tens (n / 10) g) (sym (decimal_step n (omega arith) (omega arith)))
    ]

pub upper_pos : (second : Option ℕ) → 0 < upper_of second
upper_pos None = omega arith
upper_pos (Some second) = omega arith

same_second : (a b : Option ℕ) → upper_of a ≡ upper_of b → a ≡ b
same_second None None e = refl
same_second None (Some b) e = absurd (omega arith)
same_second (Some a) None e = absurd (omega arith)
same_second (Some a) (Some b) e = let s : a ≡ b = omega arith in ap Some s

-- a number is that of one code
pub same_code : (a b : Code) → a.first < 65536 → b.first < 65536 → number_of a ≡ number_of b → a ≡ b
same_code a b la lb e =
    let first : a.first ≡ b.first = omega arith in
    let upper : upper_of a.second ≡ upper_of b.second = omega arith in
    let code : ℕ → Option ℕ → Code = λ f s. record { first = f; second = s } in
    ap (λ (f : ℕ). code f a.second) first ∙ ap (code b.first) (same_second a.second b.second upper)
