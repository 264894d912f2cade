-- The rows of 32 bits that move several registers and pairs.
use Rattle.std.proofs.Common.{◌≡◌, ℕ, zero, suc, ◌+◌, ◌*◌, ◌<◌, true, false, not, ◌&&◌, ◌||◌, [], ◌∷◌, refl, sym, ◌∙◌, ap, arith}
use Rattle.std.specs.Prelude.{ℤ, pos, nat_abs, ◌==◌, nat_le, count_ones, if◌then◌else◌}
use Rattle.std.proofs.lemmas.Bool.{eqb-true, or_parts}
use Rattle.tz_bits.specs.Values.{address_number, address_first, address_second, address_third}
use Rattle.tz_table.specs.Fields.{bits}
use Rattle.tz_table.specs.Patterns.{second}
use Rattle.tz_table.specs.Terms.{indexed}
use Rattle.tz_table.specs.Limits.{plain, not_pc, not_zero, is_listed, can_move_many, can_store_pair, can_load_pair, can_load_pair_literal}
use Rattle.tz_table.specs.MultipleRows.{ldm_w, stm_w, ldmdb, stmdb, ldrd, strd, ldrd_literal}
use Rattle.tz_table.proofs.Scans.{holds_parts}
use Rattle.tz_encode.specs.Slots.{parts_in}
use Rattle.tz_encode.proofs.Reading.{Reads, shape, slot, read, read_all, fixed_field, cube_of_row}
use Rattle.tz_encode.proofs.Slots.{fill, bits_taken}
use Rattle.tz_encode.proofs.FieldWords.{bool_word, at_2, at_6, at_7, at_8, sign_word}
use Rattle.tz_encode.proofs.Regrouping.{move_many, eqb_swap}
use Rattle.tz_encode.proofs.Tautologies.{always_3, always_4, always_5}
use Rattle.tz_encode.proofs.Choosing.{two_without, many_taken, other, other_passes, third, third_taken}

-- the list in the second halfword, of which bit 13 is 0
load_list : (s : ℕ) → s < 65536 → (bits s 13 1 == 0) ≡ true → bits s 15 1 * 32768 + bits s 14 1 * 16384 + bits s 0 13 ≡ s
load_list s h z = let low : bits s 13 1 ≡ 0 = eqb-true _ _ z in omega arith

store_list : (s : ℕ) → s < 65536 → (bits s 13 1 == 0) ≡ true → (bits s 15 1 == 0) ≡ true → bits s 14 1 * 16384 + bits s 0 13 ≡ s
store_list s h z y = let low : bits s 13 1 ≡ 0 = eqb-true _ _ z in let high : bits s 15 1 ≡ 0 = eqb-true _ _ y in omega arith

many_limits : (w rn m n : ℕ) → m ≡ n → can_move_many w rn n ≡ (not_pc rn && ((nat_le 2 (count_ones m) && not (is_listed m 14 && is_listed m 15) && not (w == 1 && is_listed m rn)) && true))
many_limits w rn m n e = ap (can_move_many w rn) (sym e) ∙ move_many (not_pc rn) _ _ _

pub ldm_w_reads : Reads ldm_w 62 (shape 72)
unfolding lib.Count.ones
ldm_w_reads =
    read ldm_w 62 (shape 72) (λ f s c. at_2 (bool_word f 5) ∙ at_6 (sym (load_list s c.second_fits (fixed_field ldm_w (second 13 1 0) f s refl (cube_of_row ldm_w f s c)))))
    (λ f s a b c. many_limits (bits f 5 1) (bits f 0 4) _ s (load_list s b (fixed_field ldm_w (second 13 1 0) f s refl c)))
    (fill (shape 72) (pos 62 ∷ []) (λ a _ b _ c _ d _ rn h.
    let fits = bits_taken (slot 72 4) (pos 62 ∷ a ∷ b ∷ c ∷ d ∷ []) rn h in
    ((pos (two_without (nat_abs rn)), many_taken (parts_in (slot 72 5).parts) (nat_abs b == 1) (nat_abs rn) refl refl (omega arith)), λ list _ x _ y _. tt)))

pub stm_w_reads : Reads stm_w 63 (shape 73)
unfolding lib.Count.ones
stm_w_reads =
    read stm_w 63 (shape 73) (λ f s c. at_2 (bool_word f 5) ∙ at_6 (sym (store_list s c.second_fits (fixed_field stm_w (second 13 1 0) f s refl (cube_of_row stm_w f s c)) (fixed_field stm_w (second 15 1 0) f s refl (cube_of_row stm_w f s c)))))
    (λ f s a b c. many_limits (bits f 5 1) (bits f 0 4) _ s (store_list s b (fixed_field stm_w (second 13 1 0) f s refl c) (fixed_field stm_w (second 15 1 0) f s refl c)))
    (fill (shape 73) (pos 63 ∷ []) (λ a _ b _ c _ d _ rn h.
    let fits = bits_taken (slot 73 4) (pos 63 ∷ a ∷ b ∷ c ∷ d ∷ []) rn h in
    ((pos (two_without (nat_abs rn)), many_taken (parts_in (slot 73 5).parts) (nat_abs b == 1) (nat_abs rn) refl refl (omega arith)), λ list _ x _ y _. tt)))

pub ldmdb_reads : Reads ldmdb 62 (shape 74)
unfolding lib.Count.ones
ldmdb_reads =
    read ldmdb 62 (shape 74) (λ f s c. at_2 (bool_word f 5) ∙ at_6 (sym (load_list s c.second_fits (fixed_field ldmdb (second 13 1 0) f s refl (cube_of_row ldmdb f s c)))))
    (λ f s a b c. many_limits (bits f 5 1) (bits f 0 4) _ s (load_list s b (fixed_field ldmdb (second 13 1 0) f s refl c)))
    (fill (shape 74) (pos 62 ∷ []) (λ a _ b _ c _ d _ rn h.
    let fits = bits_taken (slot 74 4) (pos 62 ∷ a ∷ b ∷ c ∷ d ∷ []) rn h in
    ((pos (two_without (nat_abs rn)), many_taken (parts_in (slot 74 5).parts) (nat_abs b == 1) (nat_abs rn) refl refl (omega arith)), λ list _ x _ y _. tt)))

pub stmdb_reads : Reads stmdb 63 (shape 75)
unfolding lib.Count.ones
stmdb_reads =
    read stmdb 63 (shape 75) (λ f s c. at_2 (bool_word f 5) ∙ at_6 (sym (store_list s c.second_fits (fixed_field stmdb (second 13 1 0) f s refl (cube_of_row stmdb f s c)) (fixed_field stmdb (second 15 1 0) f s refl (cube_of_row stmdb f s c)))))
    (λ f s a b c. many_limits (bits f 5 1) (bits f 0 4) _ s (store_list s b (fixed_field stmdb (second 13 1 0) f s refl c) (fixed_field stmdb (second 15 1 0) f s refl c)))
    (fill (shape 75) (pos 63 ∷ []) (λ a _ b _ c _ d _ rn h.
    let fits = bits_taken (slot 75 4) (pos 63 ∷ a ∷ b ∷ c ∷ d ∷ []) rn h in
    ((pos (two_without (nat_abs rn)), many_taken (parts_in (slot 75 5).parts) (nat_abs b == 1) (nat_abs rn) refl refl (omega arith)), λ list _ x _ y _. tt)))

-- ---- pairs

indexed_values : (k p w rn rt rt2 : ℕ) (o : ℤ) → p < 2 → w < 2 → (p == 0 && w == 0) ≡ false → pos k ∷ pos (address_number (indexed p w rn o)) ∷ address_third (indexed p w rn o) ∷ pos 0 ∷ pos 0 ∷ pos rt ∷ pos rt2 ∷ address_first (indexed p w rn o) ∷ address_second (indexed p w rn o) ∷ [] ≡ pos k ∷ pos (w * 2 + p) ∷ pos 0 ∷ pos 0 ∷ pos 0 ∷ pos rt ∷ pos rt2 ∷ pos rn ∷ o ∷ []
indexed_values k zero zero rn rt rt2 o a b c = cc
indexed_values k (suc zero) zero rn rt rt2 o a b c = refl
indexed_values k zero (suc zero) rn rt rt2 o a b c = refl
indexed_values k (suc zero) (suc zero) rn rt rt2 o a b c = refl
indexed_values k (suc (suc p)) w rn rt rt2 o a b c = absurd (omega arith)
indexed_values k p (suc (suc w)) rn rt rt2 o a b c = absurd (omega arith)

-- the limits of a pair to load, where its base is not written back and where it is
load_fixed : (rn rt rt2 : ℕ) → (if rn == 15 then false else can_load_pair 0 rn rt rt2) ≡ (plain rt && ((plain rt2 && not (rt2 == rt)) && ((not_pc rn && true) && true)))
load_fixed rn rt rt2 =
    always_4 (λ a b c e. if c then false else (a && b && true && not e)) (λ a b c e. a && ((b && not e) && ((not c && true) && true))) refl (plain rt) (plain rt2) (rn == 15) (rt == rt2)
    ∙ ap (λ e. plain rt && ((plain rt2 && not e) && ((not_pc rn && true) && true))) (eqb_swap rt rt2)

load_back : (rn rt rt2 : ℕ) → (if rn == 15 then false else can_load_pair 1 rn rt rt2) ≡ (plain rt && ((plain rt2 && not (rt2 == rt)) && ((not_pc rn && not (rn == rt || rn == rt2)) && true)))
load_back rn rt rt2 =
    always_5 (λ a b c d e. if c then false else (a && b && not d && not e)) (λ a b c d e. a && ((b && not e) && ((not c && not d) && true))) refl (plain rt) (plain rt2) (rn == 15) (rn == rt || rn == rt2) (rt == rt2)
    ∙ ap (λ e. plain rt && ((plain rt2 && not e) && ((not_pc rn && not (rn == rt || rn == rt2)) && true))) (eqb_swap rt rt2)

load_pair_limits : (p w rn rt rt2 : ℕ) → p < 2 → w < 2 → (if ((p == 0 && w == 0) || rn == 15) then false else can_load_pair w rn rt rt2) ≡ (not_zero (w * 2 + p) && (plain rt && ((plain rt2 && not (rt2 == rt)) && ((not_pc rn && not (nat_le 2 (w * 2 + p) && (rn == rt || rn == rt2))) && true))))
load_pair_limits zero zero rn rt rt2 a b = refl
load_pair_limits (suc zero) zero rn rt rt2 a b = load_fixed rn rt rt2
load_pair_limits zero (suc zero) rn rt rt2 a b = load_back rn rt rt2
load_pair_limits (suc zero) (suc zero) rn rt rt2 a b = load_back rn rt rt2
load_pair_limits (suc (suc p)) w rn rt rt2 a b = absurd (omega arith)
load_pair_limits p (suc (suc w)) rn rt rt2 a b = absurd (omega arith)

-- the same of a pair to store
store_fixed : (rn rt rt2 : ℕ) → (if rn == 15 then false else can_store_pair 0 rn rt rt2) ≡ (plain rt && (plain rt2 && ((not_pc rn && true) && true)))
store_fixed rn rt rt2 =
    always_3 (λ a b c. if c then false else (a && b && true)) (λ a b c. a && (b && ((not c && true) && true))) refl (plain rt) (plain rt2) (rn == 15)

store_back : (rn rt rt2 : ℕ) → (if rn == 15 then false else can_store_pair 1 rn rt rt2) ≡ (plain rt && (plain rt2 && ((not_pc rn && not (rn == rt || rn == rt2)) && true)))
store_back rn rt rt2 =
    always_4 (λ a b c d. if c then false else (a && b && not d)) (λ a b c d. a && (b && ((not c && not d) && true))) refl (plain rt) (plain rt2) (rn == 15) (rn == rt || rn == rt2)

store_pair_limits : (p w rn rt rt2 : ℕ) → p < 2 → w < 2 → (if ((p == 0 && w == 0) || rn == 15) then false else can_store_pair w rn rt rt2) ≡ (not_zero (w * 2 + p) && (plain rt && (plain rt2 && ((not_pc rn && not (nat_le 2 (w * 2 + p) && (rn == rt || rn == rt2))) && true))))
store_pair_limits zero zero rn rt rt2 a b = refl
store_pair_limits (suc zero) zero rn rt rt2 a b = store_fixed rn rt rt2
store_pair_limits zero (suc zero) rn rt rt2 a b = store_back rn rt rt2
store_pair_limits (suc zero) (suc zero) rn rt rt2 a b = store_back rn rt rt2
store_pair_limits (suc (suc p)) w rn rt rt2 a b = absurd (omega arith)
store_pair_limits p (suc (suc w)) rn rt rt2 a b = absurd (omega arith)

not_both_zero : (p w rn : ℕ) → ((p == 0 && w == 0) || rn == 15) ≡ false → (p == 0 && w == 0) ≡ false
not_both_zero p w rn h = (or_parts (p == 0 && w == 0) (rn == 15) h).0

pub ldrd_reads : Reads ldrd 60 (shape 76)
ldrd_reads =
    read ldrd 60 (shape 76)
    (λ f s c.
    indexed_values 60 (bits f 8 1) (bits f 5 1) (bits f 0 4) (bits s 12 4) (bits s 8 4) _ (omega arith) (omega arith) (not_both_zero (bits f 8 1) (bits f 5 1) (bits f 0 4) (holds_parts ldrd f s c.held).2)
    ∙ at_8 (sign_word (bits f 7 1) (bits s 0 8 * 4) (omega arith)))
    (λ f s a b c. load_pair_limits (bits f 8 1) (bits f 5 1) (bits f 0 4) (bits s 12 4) (bits s 8 4) (omega arith) (omega arith))
    (fill (shape 76) (pos 60 ∷ []) (λ a _ b _ c _ d _ rt h.
    let fits = bits_taken (slot 76 4) (pos 60 ∷ a ∷ b ∷ c ∷ d ∷ []) rt h in (
      (pos (other (nat_abs rt)), other_passes plain (nat_abs rt) refl refl),
      λ rt2 k.
          let fits2 = bits_taken (slot 76 5) (pos 60 ∷ a ∷ b ∷ c ∷ d ∷ rt ∷ []) rt2 k in
          ((pos (third (nat_abs rt) (nat_abs rt2)), third_taken (nat_abs rt) (nat_abs rt2) (nat_le 2 (nat_abs a)) (omega arith) (omega arith)), λ rn _ x _. tt),
    )))

pub strd_reads : Reads strd 61 (shape 77)
strd_reads =
    read strd 61 (shape 77)
    (λ f s c.
    indexed_values 61 (bits f 8 1) (bits f 5 1) (bits f 0 4) (bits s 12 4) (bits s 8 4) _ (omega arith) (omega arith) (not_both_zero (bits f 8 1) (bits f 5 1) (bits f 0 4) (holds_parts strd f s c.held).2)
    ∙ at_8 (sign_word (bits f 7 1) (bits s 0 8 * 4) (omega arith)))
    (λ f s a b c. store_pair_limits (bits f 8 1) (bits f 5 1) (bits f 0 4) (bits s 12 4) (bits s 8 4) (omega arith) (omega arith))
    (fill (shape 77) (pos 61 ∷ []) (λ a _ b _ c _ d _ rt h rt2 k.
    let fits = bits_taken (slot 77 4) (pos 61 ∷ a ∷ b ∷ c ∷ d ∷ []) rt h in
    let fits2 = bits_taken (slot 77 5) (pos 61 ∷ a ∷ b ∷ c ∷ d ∷ rt ∷ []) rt2 k in
    ((pos (third (nat_abs rt) (nat_abs rt2)), third_taken (nat_abs rt) (nat_abs rt2) (nat_le 2 (nat_abs a)) (omega arith) (omega arith)), λ rn _ x _. tt)))

literal_limits : (rt rt2 : ℕ) → can_load_pair_literal rt rt2 ≡ (plain rt && ((plain rt2 && not (rt2 == rt)) && true))
literal_limits rt rt2 =
    always_3 (λ a b e. a && b && not e) (λ a b e. a && ((b && not e) && true)) refl (plain rt) (plain rt2) (rt == rt2)
    ∙ ap (λ e. plain rt && ((plain rt2 && not e) && true)) (eqb_swap rt rt2)

pub ldrd_literal_reads : Reads ldrd_literal 60 (shape 78)
ldrd_literal_reads =
    read_all ldrd_literal 60 (shape 78) (λ f s. at_7 (sign_word (bits f 7 1) (bits s 0 8 * 4) (omega arith))) (λ f s. literal_limits (bits s 12 4) (bits s 8 4))
    (fill (shape 78) (pos 60 ∷ []) (λ a _ b _ c _ d _ rt _. ((pos (other (nat_abs rt)), other_passes plain (nat_abs rt) refl refl), λ rt2 _ x _ y _. tt)))
