-- The limits of rows of 32 bits that load and store one register, as their slots have them: z is the size,
-- x the sign.
use Rattle.std.proofs.Common.{◌≡◌, ℕ, ◌<◌, Bool, true, false, not, ◌&&◌, ◌||◌, refl, sym, ◌∙◌, ap}
use Rattle.std.specs.Prelude.{◌==◌, nat_lt, if◌then◌else◌}
use Rattle.std.proofs.lemmas.Bool.{and_parts, eqb-true, agree_below_at}
use Rattle.tz_table.specs.Limits.{plain, not_pc, can_load, can_store, can_load_back, can_store_back, can_load_index, can_store_index}
use Rattle.tz_encode.proofs.Regrouping.{pc_not_plain}
use Rattle.tz_encode.proofs.Tautologies.{always_3, always_4, always_5}

size_test : (z : ℕ) → z < 4 → not (z == 3) ≡ nat_lt z 3
size_test z h = agree_below_at (λ z. not (z == 3)) (λ z. nat_lt z 3) 4 z refl h

-- ---- a byte for PC, which belongs to preloads, is refused anyway

byte_pc : (z rt : ℕ) → (z == 0 && rt == 15) ≡ true → can_load z rt ≡ false
byte_pc z rt h =
    let x = and_parts (z == 0) (rt == 15) h in
    ap (λ n. n == 2 || plain rt) (eqb-true z 0 x.0) ∙ pc_not_plain rt x.1

without_last_3 : (a b e x : Bool) → (e ≡ true → x ≡ false) → (if (a || (b || e)) then false else x) ≡ (if (a || b) then false else x)
without_last_3 true b e x h = refl
without_last_3 false true e x h = refl
without_last_3 false false true x h = sym (h refl)
without_last_3 false false false x h = refl

without_last_4 : (a b c e x : Bool) → (e ≡ true → x ≡ false) → (if (a || (b || (c || e))) then false else x) ≡ (if (a || (b || c)) then false else x)
without_last_4 true b c e x h = refl
without_last_4 false b c e x h = without_last_3 b c e x h

-- ---- loads

pub load_limits : (z x rt rn : ℕ) → z < 4 → (if (z == 3 || ((x == 1 && z == 2) || (rn == 15 || (z == 0 && rt == 15)))) then false else can_load z rt) ≡ (nat_lt z 3 && (not (x == 1 && z == 2) && (can_load z rt && (not_pc rn && true))))
load_limits z x rt rn h =
    without_last_4 (z == 3) (x == 1 && z == 2) (rn == 15) (z == 0 && rt == 15) (can_load z rt) (byte_pc z rt)
    ∙ always_4 (λ a b c l. if (a || (b || c)) then false else l) (λ a b c l. not a && (not b && (l && (not c && true)))) refl (z == 3) (x == 1 && z == 2) (rn == 15) (can_load z rt)
    ∙ ap (λ a. a && (not (x == 1 && z == 2) && (can_load z rt && (not_pc rn && true)))) (size_test z h)

pub load_index_limits : (z x rt rn rm : ℕ) → z < 4 → (if (z == 3 || ((x == 1 && z == 2) || (rn == 15 || (z == 0 && rt == 15)))) then false else can_load_index z rt rm) ≡ (nat_lt z 3 && (not (x == 1 && z == 2) && (can_load z rt && (not_pc rn && (plain rm && true)))))
load_index_limits z x rt rn rm h =
    without_last_4 (z == 3) (x == 1 && z == 2) (rn == 15) (z == 0 && rt == 15) (can_load_index z rt rm) (λ e. ap (λ l. l && plain rm) (byte_pc z rt e))
    ∙ always_5 (λ a b c l m. if (a || (b || c)) then false else (l && m)) (λ a b c l m. not a && (not b && (l && (not c && (m && true))))) refl (z == 3) (x == 1 && z == 2) (rn == 15) (can_load z rt) (plain rm)
    ∙ ap (λ a. a && (not (x == 1 && z == 2) && (can_load z rt && (not_pc rn && (plain rm && true))))) (size_test z h)

pub load_literal_limits : (z x rt : ℕ) → z < 4 → (if (z == 3 || ((x == 1 && z == 2) || (z == 0 && rt == 15))) then false else can_load z rt) ≡ (nat_lt z 3 && (not (x == 1 && z == 2) && (can_load z rt && true)))
load_literal_limits z x rt h =
    without_last_3 (z == 3) (x == 1 && z == 2) (z == 0 && rt == 15) (can_load z rt) (byte_pc z rt)
    ∙ always_3 (λ a b l. if (a || b) then false else l) (λ a b l. not a && (not b && (l && true))) refl (z == 3) (x == 1 && z == 2) (can_load z rt)
    ∙ ap (λ a. a && (not (x == 1 && z == 2) && (can_load z rt && true))) (size_test z h)

pub load_user_limits : (z x rt rn : ℕ) → z < 4 → (if (z == 3 || ((x == 1 && z == 2) || rn == 15)) then false else plain rt) ≡ (nat_lt z 3 && (not (x == 1 && z == 2) && (plain rt && (not_pc rn && true))))
load_user_limits z x rt rn h =
    always_4 (λ a b c l. if (a || (b || c)) then false else l) (λ a b c l. not a && (not b && (l && (not c && true)))) refl (z == 3) (x == 1 && z == 2) (rn == 15) (plain rt)
    ∙ ap (λ a. a && (not (x == 1 && z == 2) && (plain rt && (not_pc rn && true)))) (size_test z h)

pub load_back_limits : (z x rt rn : ℕ) → z < 4 → (if (z == 3 || ((x == 1 && z == 2) || rn == 15)) then false else can_load_back z rt rn) ≡ (nat_lt z 3 && (not (x == 1 && z == 2) && (can_load z rt && ((not_pc rn && not (rn == rt)) && true))))
load_back_limits z x rt rn h =
    always_5 (λ a b c l m. if (a || (b || c)) then false else (l && not m)) (λ a b c l m. not a && (not b && (l && ((not c && not m) && true)))) refl (z == 3) (x == 1 && z == 2) (rn == 15) (can_load z rt) (rn == rt)
    ∙ ap (λ a. a && (not (x == 1 && z == 2) && (can_load z rt && ((not_pc rn && not (rn == rt)) && true)))) (size_test z h)

-- ---- stores

pub store_limits : (z rn : ℕ) (l : Bool) → z < 4 → (if (z == 3 || rn == 15) then false else l) ≡ (nat_lt z 3 && (l && (not_pc rn && true)))
store_limits z rn l h =
    always_3 (λ a c l. if (a || c) then false else l) (λ a c l. not a && (l && (not c && true))) refl (z == 3) (rn == 15) l
    ∙ ap (λ a. a && (l && (not_pc rn && true))) (size_test z h)

pub store_index_limits : (z rt rn rm : ℕ) → z < 4 → (if (z == 3 || rn == 15) then false else can_store_index z rt rm) ≡ (nat_lt z 3 && (can_store z rt && (not_pc rn && (plain rm && true))))
store_index_limits z rt rn rm h =
    always_4 (λ a c l m. if (a || c) then false else (l && m)) (λ a c l m. not a && (l && (not c && (m && true)))) refl (z == 3) (rn == 15) (can_store z rt) (plain rm)
    ∙ ap (λ a. a && (can_store z rt && (not_pc rn && (plain rm && true)))) (size_test z h)

pub store_back_limits : (z rt rn : ℕ) → z < 4 → (if (z == 3 || rn == 15) then false else can_store_back z rt rn) ≡ (nat_lt z 3 && (can_store z rt && ((not_pc rn && not (rn == rt)) && true)))
store_back_limits z rt rn h =
    always_4 (λ a c l m. if (a || c) then false else (l && not m)) (λ a c l m. not a && (l && ((not c && not m) && true))) refl (z == 3) (rn == 15) (can_store z rt) (rn == rt)
    ∙ ap (λ a. a && (can_store z rt && ((not_pc rn && not (rn == rt)) && true))) (size_test z h)
