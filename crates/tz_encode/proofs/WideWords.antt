-- Offsets of far branches, sizes of loads and addresses that are written back.
use Rattle.std.proofs.Common.{◌≡◌, ℕ, zero, suc, ◌+◌, ◌-◌, ◌*◌, ◌%◌, ◌<◌, ◌^◌, false, List, [], ◌∷◌, refl, ◌∙◌, ap, arith}
use Rattle.std.specs.Prelude.{ℤ, pos, ◌==◌}
use Rattle.std.proofs.lemmas.Bool.{eqb-false}
use Rattle.tz_bits.specs.Values.{size_number, address_number, address_first, address_second, address_third}
use Rattle.tz_table.specs.Fields.{bits}
use Rattle.tz_table.specs.Terms.{size_of, indexed}
use Rattle.tz_encode.proofs.FieldWords.{size_word}
use Rattle.tz_encode.specs.Numbers.{far}
use Rattle.tz_encode.proofs.Codings.{far_of_parts}

-- ---- far offsets

-- S:J:K:rest by its parts
far_word : (s j k a b : ℕ) → s < 2 → j < 2 → k < 2 → a < 1024 → b < 2048 → far (s * 2 ^ 24 + j * 2 ^ 23 + k * 2 ^ 22 + a * 2 ^ 12 + b * 2 ^ 1) ≡ s * 2 ^ 24 + (1 - (j + s) % 2) * 2 ^ 23 + (1 - (k + s) % 2) * 2 ^ 22 + a * 2 ^ 12 + b * 2
unfolding far_of_parts
far_word s j k a b hs hj hk ha hb =
    let n = s * 2 ^ 24 + j * 2 ^ 23 + k * 2 ^ 22 + a * 2 ^ 12 + b * 2 ^ 1 in
    let top : bits n 24 1 ≡ s = omega arith in
    let second : bits n 23 1 ≡ j = omega arith in
    let third : bits n 22 1 ≡ k = omega arith in
    let rest : n % 2 ^ 22 ≡ a * 2 ^ 12 + b * 2 = omega arith in
    ap (λ x. far_of_parts x (bits n 23 1) (bits n 22 1) (n % 2 ^ 22)) top
    ∙ ap (λ x. far_of_parts s x (bits n 22 1) (n % 2 ^ 22)) second
    ∙ ap (λ x. far_of_parts s j x (n % 2 ^ 22)) third
    ∙ ap (λ x. far_of_parts s j k x) rest
    ∙ omega arith

-- ---- loads and stores

-- a size is of three
pub size_left : (n : ℕ) → n < 4 → (n == 3) ≡ false → size_number (size_of n) ≡ n
size_left n h k = let e = eqb-false n 3 k in size_word n (omega arith)

-- an offset from PC
pub at_6_offset : {a b c d g h : ℤ} {m n : ℤ} {zs : List ℤ} → m ≡ n → a ∷ b ∷ c ∷ d ∷ g ∷ h ∷ m ∷ zs ≡ a ∷ b ∷ c ∷ d ∷ g ∷ h ∷ n ∷ zs
at_6_offset {a} {b} {c} {d} {g} {h} {m} {n} {zs} e = ap (λ k. a ∷ b ∷ c ∷ d ∷ g ∷ h ∷ k ∷ zs) e

-- an address that is written back, before or after the access
pub back_load : (p rn : ℕ) (o z x rt : ℤ) → p < 2 → pos 58 ∷ z ∷ x ∷ pos (address_number (indexed p 1 rn o)) ∷ pos 0 ∷ rt ∷ address_first (indexed p 1 rn o) ∷ address_second (indexed p 1 rn o) ∷ address_third (indexed p 1 rn o) ∷ [] ≡ pos 58 ∷ z ∷ x ∷ pos (p + 2) ∷ pos 0 ∷ rt ∷ pos rn ∷ o ∷ pos 0 ∷ []
back_load zero rn o z x rt h = refl
back_load (suc zero) rn o z x rt h = refl
back_load (suc (suc p)) rn o z x rt h = absurd (omega arith)

pub back_store : (p rn : ℕ) (o z rt : ℤ) → p < 2 → pos 59 ∷ z ∷ pos (address_number (indexed p 1 rn o)) ∷ pos 0 ∷ pos 0 ∷ rt ∷ address_first (indexed p 1 rn o) ∷ address_second (indexed p 1 rn o) ∷ address_third (indexed p 1 rn o) ∷ [] ≡ pos 59 ∷ z ∷ pos (p + 2) ∷ pos 0 ∷ pos 0 ∷ rt ∷ pos rn ∷ o ∷ pos 0 ∷ []
back_store zero rn o z rt h = refl
back_store (suc zero) rn o z rt h = refl
back_store (suc (suc p)) rn o z rt h = absurd (omega arith)
