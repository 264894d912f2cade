-- The one of least rank among those that are ready: what holds of it and of all others below a bound.
use Rattle.std.proofs.Common.{◌≡◌, ◌≢◌, ◌⊎◌, inl, inr, ℕ, zero, suc, ◌<◌, ◌≤◌, Bool, true, false, cond, Option, Some, None, refl, sym, subst, arith}
use Rattle.std.specs.Prelude.{nat_lt}
use Rattle.std.proofs.lemmas.Bool.Decides.{nat_tests}
use Rattle.tz_state.specs.Least.{lower_of, least_below}

-- one of those below n is ready, and no other that is has a lower rank
pub record IsLeast (ready : ℕ → Bool) (rank : ℕ → ℕ) (n b : ℕ) : Type 0 where
  pub below : b < n
  pub is_ready : ready b ≡ true
  pub least : (j : ℕ) → j < n → ready j ≡ true → rank b ≤ rank j

last_or_below : (j n : ℕ) → j < suc n → (j ≡ n) ⊎ (j < n)
last_or_below j n h = grind arith

moved : (ready : ℕ → Bool) (j n : ℕ) (t : Bool) → j ≡ n → ready n ≡ t → ready j ≡ t
moved ready j n t e r = cc

-- what holds of those below n that are ready, and of n, holds of all below n + 1
spread : (ready : ℕ → Bool) (rank : ℕ → ℕ) (n low : ℕ) → (ready n ≡ true → low ≤ rank n) → ((j : ℕ) → j < n → ready j ≡ true → low ≤ rank j) →
    (j : ℕ) → j < suc n → ready j ≡ true → low ≤ rank j
spread ready rank n low last below j h r = elim (last_or_below j n h) [
  | inl e ↦ (let P : ℕ → Type 0 = λ k. ready k ≡ true → low ≤ rank k in subst P (sym e) last r)
  | inr l ↦ below j l r
]

none_with : (ready : ℕ → Bool) (rank : ℕ → ℕ) (n : ℕ) (r : Bool) (o : Option ℕ) → ready n ≡ r → (o ≡ None → (j : ℕ) → j < n → ready j ≡ false) →
    cond r (Some (lower_of rank n o)) o ≡ None → (j : ℕ) → j < suc n → ready j ≡ false
none_with ready rank n true o r below e j h = cc
none_with ready rank n false o r below e j h = elim (last_or_below j n h) [ inl k ↦ moved ready j n false k r | inr l ↦ below e j l ]

pub none_below : (ready : ℕ → Bool) (rank : ℕ → ℕ) (n : ℕ) → least_below ready rank n ≡ None → (j : ℕ) → j < n → ready j ≡ false
unfolding least_below
none_below ready rank zero e j h = absurd (omega arith)
none_below ready rank (suc n) e j h = none_with ready rank n (ready n) (least_below ready rank n) refl (none_below ready rank n) e j h

is_least_with : (ready : ℕ → Bool) (rank : ℕ → ℕ) (n c b : ℕ) (t : Bool) → nat_lt (rank n) (rank c) ≡ t → ready n ≡ true → IsLeast ready rank n c → cond t n c ≡ b → IsLeast ready rank (suc n) b
is_least_with ready rank n c b true l r k e =
    let lower : rank n < rank c = grind (arith, nat_tests) in
    let P : ℕ → Type 0 = λ x. IsLeast ready rank (suc n) x in
    subst P e (record {
      below = omega arith;
      is_ready = r;
      least = spread ready rank n (rank n) (λ _. omega arith) (λ j h q. omega (arith, k.least j h q));
    })
is_least_with ready rank n c b false l r k e =
    let higher : rank c ≤ rank n = grind (arith, nat_tests) in
    let P : ℕ → Type 0 = λ x. IsLeast ready rank (suc n) x in
    subst P e (record {
      below = omega (arith, k.below);
      is_ready = k.is_ready;
      least = spread ready rank n (rank c) (λ _. higher) k.least;
    })

least_with : (ready : ℕ → Bool) (rank : ℕ → ℕ) (n b : ℕ) (r : Bool) (o : Option ℕ) → ready n ≡ r → (o ≡ None → (j : ℕ) → j < n → ready j ≡ false) →
    ((c : ℕ) → o ≡ Some c → IsLeast ready rank n c) → cond r (Some (lower_of rank n o)) o ≡ Some b → IsLeast ready rank (suc n) b
least_with ready rank n b false o r none some e =
    let k = some b e in
    record {
      below = omega (arith, k.below);
      is_ready = k.is_ready;
      least = spread ready rank n (rank b) (λ q. cc) k.least;
    }
least_with ready rank n b true None r none some e =
    let P : ℕ → Type 0 = λ x. IsLeast ready rank (suc n) x in
    let last : n ≡ b = cc in
    subst P last (record {
      below = omega arith;
      is_ready = r;
      least = spread ready rank n (rank n) (λ _. omega arith) (λ j h q. contradicted (ready j) (none refl j h) q);
    }) where
      contradicted : (t : Bool) → t ≡ false → t ≡ true → {x y : ℕ} → x ≤ y
      contradicted t f g = absurd cc
least_with ready rank n b true (Some c) r none some e = is_least_with ready rank n c b (nat_lt (rank n) (rank c)) refl r (some c refl) (cc)

pub least_found : (ready : ℕ → Bool) (rank : ℕ → ℕ) (n b : ℕ) → least_below ready rank n ≡ Some b → IsLeast ready rank n b
unfolding least_below
least_found ready rank zero b e = cc
least_found ready rank (suc n) b e =
    least_with ready rank n b (ready n) (least_below ready rank n) refl (none_below ready rank n) (λ c. least_found ready rank n c) e

-- where no two are of one rank, the least is the only one
pub least_is : (ready : ℕ → Bool) (rank : ℕ → ℕ) (n b : ℕ) → b < n → ready b ≡ true → ((j : ℕ) → j < n → ready j ≡ true → j ≢ b → rank b < rank j) → least_below ready rank n ≡ Some b
least_is ready rank n b h r least = go (least_below ready rank n) refl where
  same : (c : ℕ) → IsLeast ready rank n c → (c ≡ b) ⊎ (c ≢ b) → least_below ready rank n ≡ Some c → least_below ready rank n ≡ Some b
  same c k (inl e) f = cc
  same c k (inr d) f = absurd (omega (arith, k.least b h r, least c k.below k.is_ready d))

  compared : (c : ℕ) → (c ≡ b) ⊎ (c ≢ b)
  compared c = grind arith

  go : (o : Option ℕ) → least_below ready rank n ≡ o → least_below ready rank n ≡ Some b
  go None f = let no : ready b ≡ false = none_below ready rank n f b h in cc
  go (Some c) f = same c (least_found ready rank n c f) (compared c) f
