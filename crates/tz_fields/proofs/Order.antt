-- What stands at an index of the lists of fields, of slots and of all words.
use Rattle.std.proofs.Common.{◌≡◌, ℕ, zero, suc, ◌+◌, ◌-◌, ◌*◌, ◌<◌, ◌≤◌, List, [], ◌∷◌, ◌++◌, length, Some, slice_get, refl, ap, ◌∙◌, arith}
use Rattle.std.specs.Prelude.{map}
use Rattle.std.specs.List.{range_with_len}
use Rattle.std.specs.Option.{option_map}
use Rattle.std.proofs.lemmas.List.{length-append, length-map}
use Rattle.std.proofs.lemmas.Option.{slice_get-map}
use Rattle.tz_table.specs.declared.units.Side.{Side}
use Rattle.tz_table.specs.declared.units.Side.TheVariants.{Secure, NonSecure}
use Rattle.tz_model.specs.Board.{BoardValue}
use Rattle.tz_fields.specs.declared.fields.Field.{Field}
use Rattle.tz_fields.specs.declared.fields.Field.TheVariants.{Running, Banked, Shared}
use Rattle.tz_fields.specs.declared.fields.RunningField.{RunningField}
use Rattle.tz_fields.specs.declared.fields.BankedField.{BankedField}
use Rattle.tz_fields.specs.declared.fields.BankedField.TheVariants.{MpuRbar, MpuRlar}
use Rattle.tz_fields.specs.declared.fields.SharedField.{SharedField}
use Rattle.tz_fields.specs.declared.fields.SharedField.TheVariants.{SauRbar, SauRlar}
use Rattle.tz_fields.specs.Fields.{running_fields, banked_first, banked_last, banked_fields, mpu_region_fields, shared_first, shared_last, shared_fields, sau_region_fields, fields, system_places, slot_places}

-- ---- lists one behind the other

pub at_left : {X : Type 0} (xs ys : List X) (k : ℕ) (x : X) → slice_get xs k ≡ Some x → slice_get (xs ++ ys) k ≡ Some x
at_left [] ys k x e = absurd cc
at_left (y ∷ xs) ys zero x e = e
at_left (y ∷ xs) ys (suc k) x e = at_left xs ys k x e

pub at_right : {X : Type 0} (xs ys : List X) (i k : ℕ) → i ≡ length xs + k → slice_get (xs ++ ys) i ≡ slice_get ys k
at_right [] ys i k e = let same : i ≡ k = omega arith in ap (slice_get ys) same
at_right (x ∷ xs) ys zero k e = absurd (omega arith)
at_right (x ∷ xs) ys (suc i) k e = at_right xs ys i k (omega arith)

pub at_mapped : {X Y : Type 0} (f : X → Y) (xs : List X) (k : ℕ) (x : X) → slice_get xs k ≡ Some x → slice_get (map f xs) k ≡ Some (f x)
at_mapped f xs k x e = slice_get-map f xs k ∙ ap (option_map f) e

pub at_range : (a n k : ℕ) → k < n → slice_get (range_with_len a n) k ≡ Some (a + k)
at_range a zero k l = absurd (omega arith)
at_range a (suc n) zero l = ap Some (omega arith)
at_range a (suc n) (suc k) l = let same : a + 1 + k ≡ a + suc k = omega arith in at_range (a + 1) n k (omega arith) ∙ ap Some same

pub length_range : (a n : ℕ) → length (range_with_len a n) ≡ n
length_range a zero = refl
length_range a (suc n) = ap suc (length_range (a + 1) n)

-- ---- regions

pub length_mpu : (k n : ℕ) → length (mpu_region_fields k n) ≡ 2 * n
unfolding mpu_region_fields
length_mpu k zero = refl
length_mpu k (suc n) = let h = length_mpu (k + 1) n in omega (arith, h)

pub length_sau : (k n : ℕ) → length (sau_region_fields k n) ≡ 2 * n
unfolding sau_region_fields
length_sau k zero = refl
length_sau k (suc n) = let h = length_sau (k + 1) n in omega (arith, h)

pub mpu_rbar_at : (k n i j r : ℕ) → j ≡ 2 * i → i < n → r ≡ k + i → slice_get (mpu_region_fields k n) j ≡ Some (MpuRbar r)
unfolding mpu_region_fields
mpu_rbar_at k zero i j r e l f = absurd (omega arith)
mpu_rbar_at k (suc n) zero zero r e l f = let same : k ≡ r = omega arith in ap (λ x. Some (MpuRbar x)) same
mpu_rbar_at k (suc n) zero (suc j) r e l f = absurd (omega arith)
mpu_rbar_at k (suc n) (suc i) zero r e l f = absurd (omega arith)
mpu_rbar_at k (suc n) (suc i) (suc zero) r e l f = absurd (omega arith)
mpu_rbar_at k (suc n) (suc i) (suc (suc j)) r e l f = mpu_rbar_at (k + 1) n i j r (omega arith) (omega arith) (omega arith)

pub mpu_rlar_at : (k n i j r : ℕ) → j ≡ 2 * i + 1 → i < n → r ≡ k + i → slice_get (mpu_region_fields k n) j ≡ Some (MpuRlar r)
unfolding mpu_region_fields
mpu_rlar_at k zero i j r e l f = absurd (omega arith)
mpu_rlar_at k (suc n) i zero r e l f = absurd (omega arith)
mpu_rlar_at k (suc n) zero (suc zero) r e l f = let same : k ≡ r = omega arith in ap (λ x. Some (MpuRlar x)) same
mpu_rlar_at k (suc n) zero (suc (suc j)) r e l f = absurd (omega arith)
mpu_rlar_at k (suc n) (suc i) (suc zero) r e l f = absurd (omega arith)
mpu_rlar_at k (suc n) (suc i) (suc (suc j)) r e l f = mpu_rlar_at (k + 1) n i j r (omega arith) (omega arith) (omega arith)

pub sau_rbar_at : (k n i j r : ℕ) → j ≡ 2 * i → i < n → r ≡ k + i → slice_get (sau_region_fields k n) j ≡ Some (SauRbar r)
unfolding sau_region_fields
sau_rbar_at k zero i j r e l f = absurd (omega arith)
sau_rbar_at k (suc n) zero zero r e l f = let same : k ≡ r = omega arith in ap (λ x. Some (SauRbar x)) same
sau_rbar_at k (suc n) zero (suc j) r e l f = absurd (omega arith)
sau_rbar_at k (suc n) (suc i) zero r e l f = absurd (omega arith)
sau_rbar_at k (suc n) (suc i) (suc zero) r e l f = absurd (omega arith)
sau_rbar_at k (suc n) (suc i) (suc (suc j)) r e l f = sau_rbar_at (k + 1) n i j r (omega arith) (omega arith) (omega arith)

pub sau_rlar_at : (k n i j r : ℕ) → j ≡ 2 * i + 1 → i < n → r ≡ k + i → slice_get (sau_region_fields k n) j ≡ Some (SauRlar r)
unfolding sau_region_fields
sau_rlar_at k zero i j r e l f = absurd (omega arith)
sau_rlar_at k (suc n) i zero r e l f = absurd (omega arith)
sau_rlar_at k (suc n) zero (suc zero) r e l f = let same : k ≡ r = omega arith in ap (λ x. Some (SauRlar x)) same
sau_rlar_at k (suc n) zero (suc (suc j)) r e l f = absurd (omega arith)
sau_rlar_at k (suc n) (suc i) (suc zero) r e l f = absurd (omega arith)
sau_rlar_at k (suc n) (suc i) (suc (suc j)) r e l f = sau_rlar_at (k + 1) n i j r (omega arith) (omega arith) (omega arith)

-- ---- what a side has, and what both share

pub banked_before : (n i : ℕ) (f : BankedField) → slice_get banked_first i ≡ Some f → slice_get (banked_fields n) i ≡ Some f
unfolding banked_fields
banked_before n i f e = at_left banked_first (mpu_region_fields 0 n ++ banked_last) i f e

pub banked_region : (n i j : ℕ) (f : BankedField) → i ≡ 18 + j → slice_get (mpu_region_fields 0 n) j ≡ Some f → slice_get (banked_fields n) i ≡ Some f
unfolding banked_fields
banked_region n i j f e g =
    at_right banked_first (mpu_region_fields 0 n ++ banked_last) i j e ∙ at_left (mpu_region_fields 0 n) banked_last j f g

pub banked_behind : (n i j : ℕ) (f : BankedField) → i ≡ 18 + 2 * n + j → slice_get banked_last j ≡ Some f → slice_get (banked_fields n) i ≡ Some f
unfolding banked_fields
banked_behind n i j f e g =
    let size = length_mpu 0 n in
    at_right banked_first (mpu_region_fields 0 n ++ banked_last) i (2 * n + j) (omega arith)
    ∙ at_right (mpu_region_fields 0 n) banked_last (2 * n + j) j (omega (arith, size)) ∙ g

pub shared_before : (n i : ℕ) (f : SharedField) → slice_get shared_first i ≡ Some f → slice_get (shared_fields n) i ≡ Some f
unfolding shared_fields
shared_before n i f e = at_left shared_first (sau_region_fields 0 n ++ shared_last) i f e

pub shared_region : (n i j : ℕ) (f : SharedField) → i ≡ 2 + j → slice_get (sau_region_fields 0 n) j ≡ Some f → slice_get (shared_fields n) i ≡ Some f
unfolding shared_fields
shared_region n i j f e g =
    at_right shared_first (sau_region_fields 0 n ++ shared_last) i j e ∙ at_left (sau_region_fields 0 n) shared_last j f g

pub shared_behind : (n i j : ℕ) (f : SharedField) → i ≡ 2 + 2 * n + j → slice_get shared_last j ≡ Some f → slice_get (shared_fields n) i ≡ Some f
unfolding shared_fields
shared_behind n i j f e g =
    let size = length_sau 0 n in
    at_right shared_first (sau_region_fields 0 n ++ shared_last) i (2 * n + j) (omega arith)
    ∙ at_right (sau_region_fields 0 n) shared_last (2 * n + j) j (omega (arith, size)) ∙ g

pub length_banked : (n : ℕ) → length (banked_fields n) ≡ 21 + 2 * n
unfolding banked_fields
length_banked n =
    let size = length_mpu 0 n in
    let both : length (mpu_region_fields 0 n ++ banked_last) ≡ 2 * n + 3 = length-append (mpu_region_fields 0 n) banked_last ∙ omega (arith, size) in
    omega (arith, both)

pub length_shared : (n : ℕ) → length (shared_fields n) ≡ 9 + 2 * n
unfolding shared_fields
length_shared n =
    let size = length_sau 0 n in
    let both : length (sau_region_fields 0 n ++ shared_last) ≡ 2 * n + 7 = length-append (sau_region_fields 0 n) shared_last ∙ omega (arith, size) in
    omega (arith, both)

-- ---- all fields

behind_secure : BoardValue → List Field
behind_secure b = map (Banked NonSecure) (banked_fields b.mpu_nonsecure) ++ map Shared (shared_fields b.sau_regions)

behind_running : BoardValue → List Field
behind_running b = map (Banked Secure) (banked_fields b.mpu_secure) ++ behind_secure b

size_banked : (side : Side) (n : ℕ) → length (map (Banked side) (banked_fields n)) ≡ 21 + 2 * n
size_banked side n = length-map (banked_fields n) (Banked side) ∙ length_banked n

pub running_here : (b : BoardValue) (i : ℕ) (f : RunningField) → slice_get running_fields i ≡ Some f → slice_get (fields b) i ≡ Some (Running f)
unfolding fields behind_running behind_secure
running_here b i f e = at_left (map Running running_fields) (behind_running b) i (Running f) (at_mapped Running running_fields i f e)

past_running : (b : BoardValue) (i j : ℕ) → i ≡ 22 + j → slice_get (fields b) i ≡ slice_get (behind_running b) j
unfolding fields behind_running behind_secure
past_running b i j e = at_right (map Running running_fields) (behind_running b) i j e

past_secure : (b : BoardValue) (i j : ℕ) → i ≡ 43 + 2 * b.mpu_secure + j → slice_get (fields b) i ≡ slice_get (behind_secure b) j
unfolding behind_running
past_secure b i j e =
    let size = size_banked Secure b.mpu_secure in
    past_running b i (21 + 2 * b.mpu_secure + j) (omega arith)
    ∙ at_right (map (Banked Secure) (banked_fields b.mpu_secure)) (behind_secure b) (21 + 2 * b.mpu_secure + j) j (omega (arith, size))

pub secure_here : (b : BoardValue) (i j : ℕ) (f : BankedField) → i ≡ 22 + j → slice_get (banked_fields b.mpu_secure) j ≡ Some f → slice_get (fields b) i ≡ Some (Banked Secure f)
unfolding behind_running
secure_here b i j f e g =
    past_running b i j e
    ∙ at_left (map (Banked Secure) (banked_fields b.mpu_secure)) (behind_secure b) j (Banked Secure f) (at_mapped (Banked Secure) (banked_fields b.mpu_secure) j f g)

pub nonsecure_here : (b : BoardValue) (i j : ℕ) (f : BankedField) → i ≡ 43 + 2 * b.mpu_secure + j → slice_get (banked_fields b.mpu_nonsecure) j ≡ Some f → slice_get (fields b) i ≡ Some (Banked NonSecure f)
unfolding behind_secure
nonsecure_here b i j f e g =
    past_secure b i j e
    ∙ at_left (map (Banked NonSecure) (banked_fields b.mpu_nonsecure)) (map Shared (shared_fields b.sau_regions)) j (Banked NonSecure f)
    (at_mapped (Banked NonSecure) (banked_fields b.mpu_nonsecure) j f g)

pub shared_here : (b : BoardValue) (i j : ℕ) (f : SharedField) → i ≡ 64 + 2 * b.mpu_secure + 2 * b.mpu_nonsecure + j → slice_get (shared_fields b.sau_regions) j ≡ Some f → slice_get (fields b) i ≡ Some (Shared f)
unfolding behind_secure
shared_here b i j f e g =
    let size = size_banked NonSecure b.mpu_nonsecure in
    past_secure b i (21 + 2 * b.mpu_nonsecure + j) (omega arith)
    ∙ at_right (map (Banked NonSecure) (banked_fields b.mpu_nonsecure)) (map Shared (shared_fields b.sau_regions)) (21 + 2 * b.mpu_nonsecure + j) j (omega (arith, size))
    ∙ at_mapped Shared (shared_fields b.sau_regions) j f g

pub length_fields : (b : BoardValue) → length (fields b) ≡ 73 + 2 * (b.mpu_secure + b.mpu_nonsecure + b.sau_regions)
unfolding fields
length_fields b =
    let s = size_banked Secure b.mpu_secure in
    let ns = size_banked NonSecure b.mpu_nonsecure in
    let both : length (map Shared (shared_fields b.sau_regions)) ≡ 9 + 2 * b.sau_regions = length-map (shared_fields b.sau_regions) Shared ∙ length_shared b.sau_regions in
    let behind = length-append (map (Banked NonSecure) (banked_fields b.mpu_nonsecure)) (map Shared (shared_fields b.sau_regions)) in
    let more = length-append (map (Banked Secure) (banked_fields b.mpu_secure)) (map (Banked NonSecure) (banked_fields b.mpu_nonsecure) ++ map Shared (shared_fields b.sau_regions)) in
    omega (arith, s, ns, both, behind, more)

-- ---- slots

pub system_here : (n i p : ℕ) → slice_get system_places i ≡ Some p → slice_get (slot_places n) i ≡ Some p
unfolding slot_places
system_here n i p e = at_left system_places (range_with_len 32 n) i p e

pub interrupt_here : (n i p : ℕ) → 15 ≤ i → i < 15 + n → p ≡ i + 17 → slice_get (slot_places n) i ≡ Some p
unfolding slot_places
interrupt_here n i p low high e =
    let j : ℕ = i - 15 in
    let same : 32 + j ≡ p = omega arith in
    at_right system_places (range_with_len 32 n) i j (omega arith) ∙ at_range 32 n j (omega arith) ∙ ap Some same

pub length_slots : (n : ℕ) → length (slot_places n) ≡ 15 + n
unfolding slot_places
length_slots n = let h = length_range 32 n in omega (arith, h)
