-- The answer of a row's slots, one slot after the other.
use Rattle.std.proofs.Common.{◌≡◌, ℕ, zero, suc, ◌+◌, ◌%◌, ◌<◌, Bool, true, false, List, [], ◌∷◌, ◌++◌, length, take, drop, get_or, Some, None, Result, Ok, Err, ℤ, pos, int_eq, refl, sym, ap, ap₂, ◌∙◌, arith, add-one}
use Rattle.std.specs.Prelude.{◌==◌, if◌then◌else◌}
use Rattle.std.proofs.lemmas.List.{drop_more, take_more}
use Rattle.std.proofs.lemmas.Bool.{and_parts}
use Rattle.std.proofs.lemmas.Bool.Decides.{nat_tests}
use Rattle.tz_encode.specs.Slots.{parts_in, placed}
use Rattle.tz_encode.specs.Numbers.{number_for, takes, taken, code_bits, answer, sound}
use Rattle.tz_encode.specs.declared.slot.Half.TheVariants.{First, Second}
use Rattle.tz_encode.specs.declared.slot.CodeSlot.{CodeSlot}

-- what the slots from place k on give, after what the values before it have made of the code
abbrev pub going : ℕ → ℕ → ℕ → List ℤ → List CodeSlot → List ℤ → Result (ℕ × ℕ) ℕ
going k f s e [] zs = Ok (f, s)
going k f s e (t ∷ ts) [] = Err k
going k f s e (t ∷ ts) (z ∷ zs) = if takes t e z then going (k + 1) ((f + placed First (parts_in t.parts) (number_for t.coding e z)) % 65536) ((s + placed Second (parts_in t.parts) (number_for t.coding e z)) % 65536) (e ++ z ∷ []) ts zs else Err k

-- n of m slots took values, which add x and y to the code; the places begin at k
abbrev pub ended : ℕ → ℕ → ℕ → ℕ → ℕ → ℕ → ℕ → Result (ℕ × ℕ) ℕ
ended n m k f s x y = if n == m then Ok ((f + x) % 65536, (s + y) % 65536) else Err (k + n)

step : (b : Bool) (n m k f s p q x y : ℕ) → (if b then ended n m (k + 1) ((f + p) % 65536) ((s + q) % 65536) x y else Err k) ≡ ended (if b then 1 + n else 0) (suc m) k f s (p + x) (q + y)
step true n m k f s p q x y = grind (arith, nat_tests)
step false n m k f s p q x y = grind (arith, nat_tests)

pub going_is : (k f s : ℕ) (e : List ℤ) (ts : List CodeSlot) (zs : List ℤ) → f < 65536 → s < 65536 → going k f s e ts zs ≡ ended (taken e ts zs) (length ts) k f s (code_bits First e ts zs) (code_bits Second e ts zs)
going_is k f s e [] zs hf hs = grind (arith, nat_tests)
going_is k f s e (t ∷ ts) [] hf hs = grind (arith, nat_tests)
going_is k f s e (t ∷ ts) (z ∷ zs) hf hs =
    let n : ℕ = number_for t.coding e z in
    let p : ℕ = placed First (parts_in t.parts) n in
    let q : ℕ = placed Second (parts_in t.parts) n in
    let next = going_is (k + 1) ((f + p) % 65536) ((s + q) % 65536) (e ++ z ∷ []) ts zs (omega arith) (omega arith) in
    ap (λ r. if takes t e z then r else Err k) next
    ∙ step (takes t e z) (taken (e ++ z ∷ []) ts zs) (length ts) k f s p q (code_bits First (e ++ z ∷ []) ts zs) (code_bits Second (e ++ z ∷ []) ts zs)

none_if : (b : Bool) (n : ℕ) → None ≡ (if b then Some n else None) → b ≡ false
none_if true n e = cc
none_if false n e = refl

some_if : (b : Bool) (m n : ℕ) → Some m ≡ (if b then Some n else None) → (b ≡ true) × (m ≡ n)
some_if true m n e = (refl, cc)
some_if false m n e = cc

added : (a b r : ℕ) → r ≡ b % 65536 → (a + b) % 65536 ≡ (a + r) % 65536
added a b r e = omega arith

-- a slot that doesn't take its value ends it
pub going_stop : (k f s n : ℕ) (ts : List CodeSlot) (vs : List ℤ) (d : CodeSlot) → k < length ts → k + 1 < length vs → None ≡ (if takes (get_or ts k d) (take (k + 1) vs) (get_or vs (k + 1) (pos 0)) then Some n else None) → going (k + 1) f s (take (k + 1) vs) (drop k ts) (drop (k + 1) vs) ≡ Err (k + 1)
going_stop k f s n ts vs d ht hv e =
    let t : CodeSlot = get_or ts k d in
    let z : ℤ = get_or vs (k + 1) (pos 0) in
    let not_taken : takes t (take (k + 1) vs) z ≡ false = none_if (takes t (take (k + 1) vs) z) n e in
    ap₂ (going (k + 1) f s (take (k + 1) vs)) (drop_more ts k d ht) (drop_more vs (k + 1) (pos 0) hv)
    ∙ ap (λ b. if b then going (k + 1 + 1) ((f + placed First (parts_in t.parts) (number_for t.coding (take (k + 1) vs) z)) % 65536) ((s + placed Second (parts_in t.parts) (number_for t.coding (take (k + 1) vs) z)) % 65536) (take (k + 1) vs ++ z ∷ []) (drop (k + 1) ts) (drop (k + 1 + 1) vs) else Err (k + 1)) not_taken

-- a slot that takes its value leaves the rest
pub going_on : (k f s m p q : ℕ) (ts : List CodeSlot) (vs : List ℤ) (d : CodeSlot) → k < length ts → k + 1 < length vs → Some m ≡ (if takes (get_or ts k d) (take (k + 1) vs) (get_or vs (k + 1) (pos 0)) then Some (number_for (get_or ts k d).coding (take (k + 1) vs) (get_or vs (k + 1) (pos 0))) else None) → p ≡ placed First (parts_in (get_or ts k d).parts) m % 65536 → q ≡ placed Second (parts_in (get_or ts k d).parts) m % 65536 → going (k + 1) f s (take (k + 1) vs) (drop k ts) (drop (k + 1) vs) ≡ going (k + 1 + 1) ((f + p) % 65536) ((s + q) % 65536) (take (k + 1 + 1) vs) (drop (k + 1) ts) (drop (k + 1 + 1) vs)
going_on k f s m p q ts vs d ht hv e ep eq =
    let t : CodeSlot = get_or ts k d in
    let z : ℤ = get_or vs (k + 1) (pos 0) in
    let n : ℕ = number_for t.coding (take (k + 1) vs) z in
    let some = some_if (takes t (take (k + 1) vs) z) m n e in
    let first_is : (f + placed First (parts_in t.parts) n) % 65536 ≡ (f + p) % 65536 = added f (placed First (parts_in t.parts) n) p (ep ∙ ap (λ x. placed First (parts_in t.parts) x % 65536) some.1) in
    let second_is : (s + placed Second (parts_in t.parts) n) % 65536 ≡ (s + q) % 65536 = added s (placed Second (parts_in t.parts) n) q (eq ∙ ap (λ x. placed Second (parts_in t.parts) x % 65536) some.1) in
    let more : take (k + 1) vs ++ z ∷ [] ≡ take (k + 1 + 1) vs = sym (take_more vs (k + 1) (pos 0) hv) in
    ap₂ (going (k + 1) f s (take (k + 1) vs)) (drop_more ts k d ht) (drop_more vs (k + 1) (pos 0) hv)
    ∙ ap (λ b. if b then going (k + 1 + 1) ((f + placed First (parts_in t.parts) n) % 65536) ((s + placed Second (parts_in t.parts) n) % 65536) (take (k + 1) vs ++ z ∷ []) (drop (k + 1) ts) (drop (k + 1 + 1) vs) else Err (k + 1)) some.0
    ∙ ap₂ (λ x y. going (k + 1 + 1) x y (take (k + 1) vs ++ z ∷ []) (drop (k + 1) ts) (drop (k + 1 + 1) vs)) first_is second_is
    ∙ ap (λ v. going (k + 1 + 1) ((f + p) % 65536) ((s + q) % 65536) v (drop (k + 1) ts) (drop (k + 1 + 1) vs)) more

-- the variant is the right one
pub going_from : (form f s : ℕ) (ts : List CodeSlot) (vs : List ℤ) → 0 < length vs → f < 65536 → s < 65536 → int_eq (pos form) (get_or vs 0 (pos 0)) ≡ true → answer form f s ts vs ≡ going 1 f s (take 1 vs) ts (drop 1 vs)
going_from form f s ts [] h hf hs e = absurd (omega arith)
going_from form f s ts (z ∷ zs) h hf hs e =
    ap (λ b. if b then ended (taken (z ∷ []) ts zs) (length ts) 1 f s (code_bits First (z ∷ []) ts zs) (code_bits Second (z ∷ []) ts zs) else Err 0) e
    ∙ sym (going_is 1 f s (z ∷ []) ts zs hf hs)

sound-suc : (k : ℕ) (ts : List CodeSlot) → sound (drop k ts) ≡ true → sound (drop (suc k) ts) ≡ true
sound-suc k [] e = refl
sound-suc zero (t ∷ ts) e = (and_parts _ _ e).1
sound-suc (suc k) (t ∷ ts) e = sound-suc k ts e

pub sound_on : (k : ℕ) (ts : List CodeSlot) → sound (drop k ts) ≡ true → sound (drop (k + 1) ts) ≡ true
sound_on k ts e = rw add-one (sound-suc k ts e)
