-- How long a name is, and that the names are the data's.
use Rattle.std.proofs.Common.{◌≡◌, ℕ, zero, suc, ◌≤◌, ◌<◌, ◌-◌, true, List, [], ◌∷◌, length, refl, nat_le, slice_get, map, arith, ap}
use Rattle.std.specs.List.{list_all}
use Rattle.tz_syntax.specs.Names.{or_nothing, registers, conditions, shifts, specials, nonsecure_specials, register_text, condition_text, shift_name, special_text}
use Rattle.tz_syntax.specs.declared.names.TheConstants.{REGISTERS, CONDITIONS, SHIFTS, SPECIALS, NONSECURE_SPECIALS}

pub name_fits : (names : List (List ℕ)) (m k : ℕ) → list_all (λ t. nat_le (length t) m) names ≡ true → length (or_nothing (slice_get names k)) ≤ m
name_fits [] m k h = grind arith
name_fits (t ∷ ts) m zero h = grind arith
name_fits (t ∷ ts) m (suc k) h = grind (arith, name_fits ts m k)

pub registers_are : map (λ name. name.now) REGISTERS ≡ registers
registers_are = refl

pub conditions_are : map (λ name. name.now) CONDITIONS ≡ conditions
conditions_are = refl

pub shifts_are : map (λ name. name.now) SHIFTS ≡ shifts
shifts_are = refl

pub specials_are : map (λ name. name.now) SPECIALS ≡ specials
specials_are = refl

pub nonsecure_specials_are : map (λ name. name.now) NONSECURE_SPECIALS ≡ nonsecure_specials
nonsecure_specials_are = refl

pub register_text_is : (names : List (List ℕ)) (k : ℕ) → names ≡ registers → or_nothing (slice_get names k) ≡ register_text k
unfolding register_text
register_text_is names k h = ap (λ xs. or_nothing (slice_get xs k)) h

pub condition_text_is : (names : List (List ℕ)) (k : ℕ) → names ≡ conditions → or_nothing (slice_get names k) ≡ condition_text k
unfolding condition_text
condition_text_is names k h = ap (λ xs. or_nothing (slice_get xs k)) h

pub shift_name_is : (names : List (List ℕ)) (k : ℕ) → names ≡ shifts → or_nothing (slice_get names k) ≡ shift_name k
unfolding shift_name
shift_name_is names k h = ap (λ xs. or_nothing (slice_get xs k)) h

pub special_text_below : (names : List (List ℕ)) (k : ℕ) → names ≡ specials → k < 0x88 → or_nothing (slice_get names k) ≡ special_text k
unfolding special_text
special_text_below names k h l = grind (arith, h)

pub special_text_above : (names : List (List ℕ)) (k : ℕ) → names ≡ nonsecure_specials → 0x88 ≤ k → or_nothing (slice_get names (k - 0x88)) ≡ special_text k
unfolding special_text
special_text_above names k h l = grind (arith, h)

pub special_text_fits : (k : ℕ) → length (special_text k) ≤ 12
unfolding special_text
special_text_fits k = grind (arith, name_fits specials 12 k refl, name_fits nonsecure_specials 12 (k - 0x88) refl)
