-- What the codes that begin with 1110100 mean, leaf by leaf of the decoder.
use Rattle.std.proofs.Common.{◌≡◌, ◌≢◌, ℕ, Bool, true, false, [], ◌∷◌, refl}
use Rattle.std.specs.Prelude.{◌+◌, ◌*◌, pos, if◌then◌else◌}
use Rattle.std.proofs.lemmas.Bool.{and_from, or_from, eq-eqb, ne_eqb}
use Rattle.tz_decode.proofs.Zeros.{not_both_zero}
use Rattle.tz_table.specs.Fields.{bits}
use Rattle.tz_table.specs.Patterns.{first, second}
use Rattle.tz_table.specs.Terms.{is_one, plus_or_minus, indexed}
use Rattle.tz_table.specs.Limits.{plain_base, can_move_many, can_store_pair, can_load_pair, can_load_pair_literal, can_store_exclusive, can_branch_table}
use Rattle.tz_table.specs.Table.{rows, refusals, decode_of}
use Rattle.tz_table.proofs.Scans.{known_by}
use Rattle.tz_table.specs.declared.Decoded.TheVariants.{One, Undefined}
use Rattle.tz_table.specs.declared.Width.TheVariants.{Wide}
use Rattle.tz_table.specs.declared.Insn.TheVariants as insns
use Rattle.tz_table.specs.declared.Size.TheVariants as sizes
use Rattle.tz_table.specs.declared.Address.TheVariants as addresses

-- ---- 1110100

pub multiples_zero : (f s : ℕ) → bits f 9 7 ≡ 116 → bits f 6 1 ≡ 0 → bits f 7 2 ≡ 0 → decode_of f s ≡ Undefined Wide
unfolding rows decode_of
multiples_zero f s h0 h1 h2 = known_by refusals rows (first 9 7 116 ∷ first 6 1 0 ∷ first 7 2 0 ∷ []) ([]) f s (and_from _ _ (eq-eqb _ _ h0) (and_from _ _ (eq-eqb _ _ h1) (eq-eqb _ _ h2))) refl

pub multiples_three : (f s : ℕ) → bits f 9 7 ≡ 116 → bits f 6 1 ≡ 0 → bits f 7 2 ≡ 3 → decode_of f s ≡ Undefined Wide
unfolding rows decode_of
multiples_three f s h0 h1 h2 = known_by refusals rows (first 9 7 116 ∷ first 6 1 0 ∷ first 7 2 3 ∷ []) ([]) f s (and_from _ _ (eq-eqb _ _ h0) (and_from _ _ (eq-eqb _ _ h1) (eq-eqb _ _ h2))) refl

pub ruleset multiples = (multiples_zero, multiples_three)

-- ---- 1110100010, upwards, and 1110100100, downwards

pub several_load : (down : Bool) (f s : ℕ) → bits f 6 10 ≡ (if down then 932 else 930) → bits s 13 1 ≡ 0 → bits f 4 1 ≡ 1 → decode_of f s ≡ (if can_move_many (bits f 5 1) (bits f 0 4) s then One (insns.LoadMany (bits f 0 4) s down (is_one (bits f 5 1))) Wide else Undefined Wide)
unfolding rows decode_of
several_load false f s h0 h1 h2 = known_by refusals rows (first 6 10 930 ∷ second 13 1 0 ∷ first 4 1 1 ∷ []) ([]) f s (and_from _ _ (eq-eqb _ _ h0) (and_from _ _ (eq-eqb _ _ h1) (eq-eqb _ _ h2))) refl
several_load true f s h0 h1 h2 = known_by refusals rows (first 6 10 932 ∷ second 13 1 0 ∷ first 4 1 1 ∷ []) ([]) f s (and_from _ _ (eq-eqb _ _ h0) (and_from _ _ (eq-eqb _ _ h1) (eq-eqb _ _ h2))) refl

pub several_store : (down : Bool) (f s : ℕ) → bits f 6 10 ≡ (if down then 932 else 930) → bits s 13 1 ≡ 0 → bits f 4 1 ≡ 0 → bits s 15 1 ≡ 0 → decode_of f s ≡ (if can_move_many (bits f 5 1) (bits f 0 4) s then One (insns.StoreMany (bits f 0 4) s down (is_one (bits f 5 1))) Wide else Undefined Wide)
unfolding rows decode_of
several_store false f s h0 h1 h2 h3 = known_by refusals rows (first 6 10 930 ∷ second 13 1 0 ∷ first 4 1 0 ∷ second 15 1 0 ∷ []) ([]) f s (and_from _ _ (eq-eqb _ _ h0) (and_from _ _ (eq-eqb _ _ h1) (and_from _ _ (eq-eqb _ _ h2) (eq-eqb _ _ h3)))) refl
several_store true f s h0 h1 h2 h3 = known_by refusals rows (first 6 10 932 ∷ second 13 1 0 ∷ first 4 1 0 ∷ second 15 1 0 ∷ []) ([]) f s (and_from _ _ (eq-eqb _ _ h0) (and_from _ _ (eq-eqb _ _ h1) (and_from _ _ (eq-eqb _ _ h2) (eq-eqb _ _ h3)))) refl

pub several_sp : (down : Bool) (f s : ℕ) → bits f 6 10 ≡ (if down then 932 else 930) → bits s 13 1 ≢ 0 → decode_of f s ≡ Undefined Wide
unfolding rows decode_of
several_sp false f s h0 h1 = known_by refusals rows (first 6 10 930 ∷ []) ((second 13 1 0 ∷ []) ∷ []) f s (eq-eqb _ _ h0) (ne_eqb _ _ h1)
several_sp true f s h0 h1 = known_by refusals rows (first 6 10 932 ∷ []) ((second 13 1 0 ∷ []) ∷ []) f s (eq-eqb _ _ h0) (ne_eqb _ _ h1)

pub several_pc : (down : Bool) (f s : ℕ) → bits f 6 10 ≡ (if down then 932 else 930) → bits f 4 1 ≡ 0 → bits s 15 1 ≢ 0 → decode_of f s ≡ Undefined Wide
unfolding rows decode_of
several_pc false f s h0 h1 h2 = known_by refusals rows (first 6 10 930 ∷ first 4 1 0 ∷ []) ((second 15 1 0 ∷ []) ∷ []) f s (and_from _ _ (eq-eqb _ _ h0) (eq-eqb _ _ h1)) (ne_eqb _ _ h2)
several_pc true f s h0 h1 h2 = known_by refusals rows (first 6 10 932 ∷ first 4 1 0 ∷ []) ((second 15 1 0 ∷ []) ∷ []) f s (and_from _ _ (eq-eqb _ _ h0) (eq-eqb _ _ h1)) (ne_eqb _ _ h2)

pub ruleset several = (several_load, several_store)

-- ---- loads of pairs

pub load_pair_ldrd : (f s : ℕ) → bits f 9 7 ≡ 116 → bits f 6 1 ≡ 1 → bits f 4 1 ≡ 1 → bits f 0 4 ≢ 15 → bits f 8 1 + bits f 5 1 ≢ 0 → decode_of f s ≡ (if can_load_pair (bits f 5 1) (bits f 0 4) (bits s 12 4) (bits s 8 4) then One (insns.LoadPair (bits s 12 4) (bits s 8 4) (indexed (bits f 8 1) (bits f 5 1) (bits f 0 4) (plus_or_minus (bits f 7 1) (bits s 0 8 * 4)))) Wide else Undefined Wide)
unfolding rows decode_of
load_pair_ldrd f s h0 h1 h2 h3 h4 = known_by refusals rows (first 9 7 116 ∷ first 6 1 1 ∷ first 4 1 1 ∷ []) ((first 0 4 15 ∷ []) ∷ (first 8 1 0 ∷ first 5 1 0 ∷ []) ∷ []) f s (and_from _ _ (eq-eqb _ _ h0) (and_from _ _ (eq-eqb _ _ h1) (eq-eqb _ _ h2))) (or_from _ _ (ne_eqb _ _ h3) (not_both_zero _ _ h4))

pub ruleset load_pair = (load_pair_ldrd)

-- ---- loads of pairs relative to PC

pub literal_pair_ldrd_literal : (f s : ℕ) → bits f 9 7 ≡ 116 → bits f 6 1 ≡ 1 → bits f 4 1 ≡ 1 → bits f 8 1 ≡ 1 → bits f 5 1 ≡ 0 → bits f 0 4 ≡ 15 → decode_of f s ≡ (if can_load_pair_literal (bits s 12 4) (bits s 8 4) then One (insns.LoadPair (bits s 12 4) (bits s 8 4) (addresses.Literal (plus_or_minus (bits f 7 1) (bits s 0 8 * 4)))) Wide else Undefined Wide)
unfolding rows decode_of
literal_pair_ldrd_literal f s h0 h1 h2 h3 h4 h5 = known_by refusals rows (first 9 7 116 ∷ first 6 1 1 ∷ first 4 1 1 ∷ first 8 1 1 ∷ first 5 1 0 ∷ first 0 4 15 ∷ []) ([]) f s (and_from _ _ (eq-eqb _ _ h0) (and_from _ _ (eq-eqb _ _ h1) (and_from _ _ (eq-eqb _ _ h2) (and_from _ _ (eq-eqb _ _ h3) (and_from _ _ (eq-eqb _ _ h4) (eq-eqb _ _ h5)))))) refl

pub ruleset literal_pair = (literal_pair_ldrd_literal)

-- ---- the Secure gateway

pub gateway_first : (f s : ℕ) → bits f 9 7 ≡ 116 → bits f 6 1 ≡ 1 → bits f 4 1 ≡ 1 → bits f 5 1 ≡ 1 → bits f 0 4 ≡ 15 → bits f 0 16 ≢ 59775 → decode_of f s ≡ Undefined Wide
unfolding rows decode_of
gateway_first f s h0 h1 h2 h3 h4 h5 = known_by refusals rows (first 9 7 116 ∷ first 6 1 1 ∷ first 4 1 1 ∷ first 5 1 1 ∷ first 0 4 15 ∷ []) ((first 0 16 59775 ∷ []) ∷ []) f s (and_from _ _ (eq-eqb _ _ h0) (and_from _ _ (eq-eqb _ _ h1) (and_from _ _ (eq-eqb _ _ h2) (and_from _ _ (eq-eqb _ _ h3) (eq-eqb _ _ h4))))) (ne_eqb _ _ h5)

pub gateway_second : (f s : ℕ) → bits f 0 16 ≡ 59775 → bits s 0 16 ≢ 59775 → decode_of f s ≡ Undefined Wide
unfolding rows decode_of
gateway_second f s h0 h1 = known_by refusals rows (first 0 16 59775 ∷ []) ((second 0 16 59775 ∷ []) ∷ []) f s (eq-eqb _ _ h0) (ne_eqb _ _ h1)

pub gateway_sg : (f s : ℕ) → bits f 0 16 ≡ 59775 → bits s 0 16 ≡ 59775 → decode_of f s ≡ One (insns.SecureGateway) Wide
unfolding rows decode_of
gateway_sg f s h0 h1 = known_by refusals rows (first 0 16 59775 ∷ second 0 16 59775 ∷ []) ([]) f s (and_from _ _ (eq-eqb _ _ h0) (eq-eqb _ _ h1)) refl

pub ruleset gateway = (gateway_first, gateway_second, gateway_sg)

-- ---- stores of pairs

pub store_pair_strd : (f s : ℕ) → bits f 9 7 ≡ 116 → bits f 6 1 ≡ 1 → bits f 4 1 ≡ 0 → bits f 0 4 ≢ 15 → bits f 8 1 + bits f 5 1 ≢ 0 → decode_of f s ≡ (if can_store_pair (bits f 5 1) (bits f 0 4) (bits s 12 4) (bits s 8 4) then One (insns.StorePair (bits s 12 4) (bits s 8 4) (indexed (bits f 8 1) (bits f 5 1) (bits f 0 4) (plus_or_minus (bits f 7 1) (bits s 0 8 * 4)))) Wide else Undefined Wide)
unfolding rows decode_of
store_pair_strd f s h0 h1 h2 h3 h4 = known_by refusals rows (first 9 7 116 ∷ first 6 1 1 ∷ first 4 1 0 ∷ []) ((first 0 4 15 ∷ []) ∷ (first 8 1 0 ∷ first 5 1 0 ∷ []) ∷ []) f s (and_from _ _ (eq-eqb _ _ h0) (and_from _ _ (eq-eqb _ _ h1) (eq-eqb _ _ h2))) (or_from _ _ (ne_eqb _ _ h3) (not_both_zero _ _ h4))

pub store_pair_pc : (f s : ℕ) → bits f 9 7 ≡ 116 → bits f 6 1 ≡ 1 → bits f 4 1 ≡ 0 → bits f 0 4 ≡ 15 → bits f 8 1 + bits f 5 1 ≢ 0 → decode_of f s ≡ Undefined Wide
unfolding rows decode_of
store_pair_pc f s h0 h1 h2 h3 h4 = known_by refusals rows (first 9 7 116 ∷ first 6 1 1 ∷ first 4 1 0 ∷ first 0 4 15 ∷ []) ((first 8 1 0 ∷ first 5 1 0 ∷ []) ∷ []) f s (and_from _ _ (eq-eqb _ _ h0) (and_from _ _ (eq-eqb _ _ h1) (and_from _ _ (eq-eqb _ _ h2) (eq-eqb _ _ h3)))) (not_both_zero _ _ h4)

pub ruleset store_pair = (store_pair_strd, store_pair_pc)

-- ---- 111010000100

pub store_exclusive_strex : (f s : ℕ) → bits f 4 12 ≡ 3716 → bits s 12 4 ≢ 15 → decode_of f s ≡ (if can_store_exclusive (bits s 8 4) (bits s 12 4) (bits f 0 4) then One (insns.StoreExclusive sizes.Word false (bits s 8 4) (bits s 12 4) (bits f 0 4) (pos (bits s 0 8 * 4))) Wide else Undefined Wide)
unfolding rows decode_of
store_exclusive_strex f s h0 h1 = known_by refusals rows (first 4 12 3716 ∷ []) ((second 12 4 15 ∷ []) ∷ []) f s (eq-eqb _ _ h0) (ne_eqb _ _ h1)

pub ruleset store_exclusive = (store_exclusive_strex)

-- ---- 111010000100 with 1111

pub test_target_tt : (f s : ℕ) → bits f 4 12 ≡ 3716 → bits s 12 4 ≡ 15 → bits s 0 6 ≡ 0 → decode_of f s ≡ (if plain_base (bits s 8 4) (bits f 0 4) then One (insns.TestTarget (is_one (bits s 7 1)) (is_one (bits s 6 1)) (bits s 8 4) (bits f 0 4)) Wide else Undefined Wide)
unfolding rows decode_of
test_target_tt f s h0 h1 h2 = known_by refusals rows (first 4 12 3716 ∷ second 12 4 15 ∷ second 0 6 0 ∷ []) ([]) f s (and_from _ _ (eq-eqb _ _ h0) (and_from _ _ (eq-eqb _ _ h1) (eq-eqb _ _ h2))) refl

pub test_target_low : (f s : ℕ) → bits f 4 12 ≡ 3716 → bits s 12 4 ≡ 15 → bits s 0 6 ≢ 0 → decode_of f s ≡ Undefined Wide
unfolding rows decode_of
test_target_low f s h0 h1 h2 = known_by refusals rows (first 4 12 3716 ∷ second 12 4 15 ∷ []) ((second 0 6 0 ∷ []) ∷ []) f s (and_from _ _ (eq-eqb _ _ h0) (eq-eqb _ _ h1)) (ne_eqb _ _ h2)

pub ruleset test_target = (test_target_tt, test_target_low)

-- ---- 111010000101

pub load_exclusive_ldrex : (f s : ℕ) → bits f 4 12 ≡ 3717 → bits s 8 4 ≡ 15 → decode_of f s ≡ (if plain_base (bits s 12 4) (bits f 0 4) then One (insns.LoadExclusive sizes.Word false (bits s 12 4) (bits f 0 4) (pos (bits s 0 8 * 4))) Wide else Undefined Wide)
unfolding rows decode_of
load_exclusive_ldrex f s h0 h1 = known_by refusals rows (first 4 12 3717 ∷ second 8 4 15 ∷ []) ([]) f s (and_from _ _ (eq-eqb _ _ h0) (eq-eqb _ _ h1)) refl

pub load_exclusive_ones : (f s : ℕ) → bits f 4 12 ≡ 3717 → bits s 8 4 ≢ 15 → decode_of f s ≡ Undefined Wide
unfolding rows decode_of
load_exclusive_ones f s h0 h1 = known_by refusals rows (first 4 12 3717 ∷ []) ((second 8 4 15 ∷ []) ∷ []) f s (eq-eqb _ _ h0) (ne_eqb _ _ h1)

pub ruleset load_exclusive = (load_exclusive_ldrex, load_exclusive_ones)

-- ---- 111010001100

pub store_ordered_ones : (f s : ℕ) → bits f 4 12 ≡ 3724 → bits s 8 4 ≢ 15 → decode_of f s ≡ Undefined Wide
unfolding rows decode_of
store_ordered_ones f s h0 h1 = known_by refusals rows (first 4 12 3724 ∷ []) ((second 8 4 15 ∷ []) ∷ []) f s (eq-eqb _ _ h0) (ne_eqb _ _ h1)

pub store_ordered_strexb : (f s : ℕ) → bits f 4 12 ≡ 3724 → bits s 8 4 ≡ 15 → bits s 4 4 ≡ 4 → decode_of f s ≡ (if can_store_exclusive (bits s 0 4) (bits s 12 4) (bits f 0 4) then One (insns.StoreExclusive sizes.Byte false (bits s 0 4) (bits s 12 4) (bits f 0 4) (pos 0)) Wide else Undefined Wide)
unfolding rows decode_of
store_ordered_strexb f s h0 h1 h2 = known_by refusals rows (first 4 12 3724 ∷ second 8 4 15 ∷ second 4 4 4 ∷ []) ([]) f s (and_from _ _ (eq-eqb _ _ h0) (and_from _ _ (eq-eqb _ _ h1) (eq-eqb _ _ h2))) refl

pub store_ordered_strexh : (f s : ℕ) → bits f 4 12 ≡ 3724 → bits s 8 4 ≡ 15 → bits s 4 4 ≡ 5 → decode_of f s ≡ (if can_store_exclusive (bits s 0 4) (bits s 12 4) (bits f 0 4) then One (insns.StoreExclusive sizes.Half false (bits s 0 4) (bits s 12 4) (bits f 0 4) (pos 0)) Wide else Undefined Wide)
unfolding rows decode_of
store_ordered_strexh f s h0 h1 h2 = known_by refusals rows (first 4 12 3724 ∷ second 8 4 15 ∷ second 4 4 5 ∷ []) ([]) f s (and_from _ _ (eq-eqb _ _ h0) (and_from _ _ (eq-eqb _ _ h1) (eq-eqb _ _ h2))) refl

pub store_ordered_stlexb : (f s : ℕ) → bits f 4 12 ≡ 3724 → bits s 8 4 ≡ 15 → bits s 4 4 ≡ 12 → decode_of f s ≡ (if can_store_exclusive (bits s 0 4) (bits s 12 4) (bits f 0 4) then One (insns.StoreExclusive sizes.Byte true (bits s 0 4) (bits s 12 4) (bits f 0 4) (pos 0)) Wide else Undefined Wide)
unfolding rows decode_of
store_ordered_stlexb f s h0 h1 h2 = known_by refusals rows (first 4 12 3724 ∷ second 8 4 15 ∷ second 4 4 12 ∷ []) ([]) f s (and_from _ _ (eq-eqb _ _ h0) (and_from _ _ (eq-eqb _ _ h1) (eq-eqb _ _ h2))) refl

pub store_ordered_stlexh : (f s : ℕ) → bits f 4 12 ≡ 3724 → bits s 8 4 ≡ 15 → bits s 4 4 ≡ 13 → decode_of f s ≡ (if can_store_exclusive (bits s 0 4) (bits s 12 4) (bits f 0 4) then One (insns.StoreExclusive sizes.Half true (bits s 0 4) (bits s 12 4) (bits f 0 4) (pos 0)) Wide else Undefined Wide)
unfolding rows decode_of
store_ordered_stlexh f s h0 h1 h2 = known_by refusals rows (first 4 12 3724 ∷ second 8 4 15 ∷ second 4 4 13 ∷ []) ([]) f s (and_from _ _ (eq-eqb _ _ h0) (and_from _ _ (eq-eqb _ _ h1) (eq-eqb _ _ h2))) refl

pub store_ordered_stlex : (f s : ℕ) → bits f 4 12 ≡ 3724 → bits s 8 4 ≡ 15 → bits s 4 4 ≡ 14 → decode_of f s ≡ (if can_store_exclusive (bits s 0 4) (bits s 12 4) (bits f 0 4) then One (insns.StoreExclusive sizes.Word true (bits s 0 4) (bits s 12 4) (bits f 0 4) (pos 0)) Wide else Undefined Wide)
unfolding rows decode_of
store_ordered_stlex f s h0 h1 h2 = known_by refusals rows (first 4 12 3724 ∷ second 8 4 15 ∷ second 4 4 14 ∷ []) ([]) f s (and_from _ _ (eq-eqb _ _ h0) (and_from _ _ (eq-eqb _ _ h1) (eq-eqb _ _ h2))) refl

pub store_ordered_other : (f s : ℕ) → bits f 4 12 ≡ 3724 → bits s 8 4 ≡ 15 → bits s 4 4 ≢ 4 → bits s 4 4 ≢ 5 → bits s 4 4 ≢ 8 → bits s 4 4 ≢ 9 → bits s 4 4 ≢ 10 → bits s 4 4 ≢ 12 → bits s 4 4 ≢ 13 → bits s 4 4 ≢ 14 → decode_of f s ≡ Undefined Wide
unfolding rows decode_of
store_ordered_other f s h0 h1 h2 h3 h4 h5 h6 h7 h8 h9 = known_by refusals rows (first 4 12 3724 ∷ second 8 4 15 ∷ []) ((second 4 4 4 ∷ []) ∷ (second 4 4 5 ∷ []) ∷ (second 4 4 8 ∷ []) ∷ (second 4 4 9 ∷ []) ∷ (second 4 4 10 ∷ []) ∷ (second 4 4 12 ∷ []) ∷ (second 4 4 13 ∷ []) ∷ (second 4 4 14 ∷ []) ∷ []) f s (and_from _ _ (eq-eqb _ _ h0) (eq-eqb _ _ h1)) (or_from _ _ (ne_eqb _ _ h2) (or_from _ _ (ne_eqb _ _ h3) (or_from _ _ (ne_eqb _ _ h4) (or_from _ _ (ne_eqb _ _ h5) (or_from _ _ (ne_eqb _ _ h6) (or_from _ _ (ne_eqb _ _ h7) (or_from _ _ (ne_eqb _ _ h8) (ne_eqb _ _ h9))))))))

pub ruleset store_ordered = (store_ordered_ones, store_ordered_strexb, store_ordered_strexh, store_ordered_stlexb, store_ordered_stlexh, store_ordered_stlex, store_ordered_other)

-- ---- store-release

pub store_release_ones : (f s : ℕ) → bits f 4 12 ≡ 3724 → bits s 8 4 ≡ 15 → bits s 6 2 ≡ 2 → bits s 0 4 ≢ 15 → decode_of f s ≡ Undefined Wide
unfolding rows decode_of
store_release_ones f s h0 h1 h2 h3 = known_by refusals rows (first 4 12 3724 ∷ second 8 4 15 ∷ second 6 2 2 ∷ []) ((second 0 4 15 ∷ []) ∷ []) f s (and_from _ _ (eq-eqb _ _ h0) (and_from _ _ (eq-eqb _ _ h1) (eq-eqb _ _ h2))) (ne_eqb _ _ h3)

pub store_release_stlb : (f s : ℕ) → bits f 4 12 ≡ 3724 → bits s 8 4 ≡ 15 → bits s 0 4 ≡ 15 → bits s 6 2 ≡ 2 → bits s 4 2 ≡ 0 → decode_of f s ≡ (if plain_base (bits s 12 4) (bits f 0 4) then One (insns.StoreRelease sizes.Byte (bits s 12 4) (bits f 0 4)) Wide else Undefined Wide)
unfolding rows decode_of
store_release_stlb f s h0 h1 h2 h3 h4 = known_by refusals rows (first 4 12 3724 ∷ second 8 4 15 ∷ second 0 4 15 ∷ second 6 2 2 ∷ second 4 2 0 ∷ []) ([]) f s (and_from _ _ (eq-eqb _ _ h0) (and_from _ _ (eq-eqb _ _ h1) (and_from _ _ (eq-eqb _ _ h2) (and_from _ _ (eq-eqb _ _ h3) (eq-eqb _ _ h4))))) refl

pub store_release_stlh : (f s : ℕ) → bits f 4 12 ≡ 3724 → bits s 8 4 ≡ 15 → bits s 0 4 ≡ 15 → bits s 6 2 ≡ 2 → bits s 4 2 ≡ 1 → decode_of f s ≡ (if plain_base (bits s 12 4) (bits f 0 4) then One (insns.StoreRelease sizes.Half (bits s 12 4) (bits f 0 4)) Wide else Undefined Wide)
unfolding rows decode_of
store_release_stlh f s h0 h1 h2 h3 h4 = known_by refusals rows (first 4 12 3724 ∷ second 8 4 15 ∷ second 0 4 15 ∷ second 6 2 2 ∷ second 4 2 1 ∷ []) ([]) f s (and_from _ _ (eq-eqb _ _ h0) (and_from _ _ (eq-eqb _ _ h1) (and_from _ _ (eq-eqb _ _ h2) (and_from _ _ (eq-eqb _ _ h3) (eq-eqb _ _ h4))))) refl

pub store_release_stl : (f s : ℕ) → bits f 4 12 ≡ 3724 → bits s 8 4 ≡ 15 → bits s 0 4 ≡ 15 → bits s 6 2 ≡ 2 → bits s 4 2 ≡ 2 → decode_of f s ≡ (if plain_base (bits s 12 4) (bits f 0 4) then One (insns.StoreRelease sizes.Word (bits s 12 4) (bits f 0 4)) Wide else Undefined Wide)
unfolding rows decode_of
store_release_stl f s h0 h1 h2 h3 h4 = known_by refusals rows (first 4 12 3724 ∷ second 8 4 15 ∷ second 0 4 15 ∷ second 6 2 2 ∷ second 4 2 2 ∷ []) ([]) f s (and_from _ _ (eq-eqb _ _ h0) (and_from _ _ (eq-eqb _ _ h1) (and_from _ _ (eq-eqb _ _ h2) (and_from _ _ (eq-eqb _ _ h3) (eq-eqb _ _ h4))))) refl

pub ruleset store_release = (store_release_ones, store_release_stlb, store_release_stlh, store_release_stl)

-- ---- 111010001101

pub load_ordered_ones : (f s : ℕ) → bits f 4 12 ≡ 3725 → bits s 8 4 ≡ 15 → bits s 0 4 ≢ 15 → decode_of f s ≡ Undefined Wide
unfolding rows decode_of
load_ordered_ones f s h0 h1 h2 = known_by refusals rows (first 4 12 3725 ∷ second 8 4 15 ∷ []) ((second 0 4 15 ∷ []) ∷ []) f s (and_from _ _ (eq-eqb _ _ h0) (eq-eqb _ _ h1)) (ne_eqb _ _ h2)

pub load_ordered_ldrexb : (f s : ℕ) → bits f 4 12 ≡ 3725 → bits s 8 4 ≡ 15 → bits s 0 4 ≡ 15 → bits s 4 4 ≡ 4 → decode_of f s ≡ (if plain_base (bits s 12 4) (bits f 0 4) then One (insns.LoadExclusive sizes.Byte false (bits s 12 4) (bits f 0 4) (pos 0)) Wide else Undefined Wide)
unfolding rows decode_of
load_ordered_ldrexb f s h0 h1 h2 h3 = known_by refusals rows (first 4 12 3725 ∷ second 8 4 15 ∷ second 0 4 15 ∷ second 4 4 4 ∷ []) ([]) f s (and_from _ _ (eq-eqb _ _ h0) (and_from _ _ (eq-eqb _ _ h1) (and_from _ _ (eq-eqb _ _ h2) (eq-eqb _ _ h3)))) refl

pub load_ordered_ldrexh : (f s : ℕ) → bits f 4 12 ≡ 3725 → bits s 8 4 ≡ 15 → bits s 0 4 ≡ 15 → bits s 4 4 ≡ 5 → decode_of f s ≡ (if plain_base (bits s 12 4) (bits f 0 4) then One (insns.LoadExclusive sizes.Half false (bits s 12 4) (bits f 0 4) (pos 0)) Wide else Undefined Wide)
unfolding rows decode_of
load_ordered_ldrexh f s h0 h1 h2 h3 = known_by refusals rows (first 4 12 3725 ∷ second 8 4 15 ∷ second 0 4 15 ∷ second 4 4 5 ∷ []) ([]) f s (and_from _ _ (eq-eqb _ _ h0) (and_from _ _ (eq-eqb _ _ h1) (and_from _ _ (eq-eqb _ _ h2) (eq-eqb _ _ h3)))) refl

pub load_ordered_ldab : (f s : ℕ) → bits f 4 12 ≡ 3725 → bits s 8 4 ≡ 15 → bits s 0 4 ≡ 15 → bits s 4 4 ≡ 8 → decode_of f s ≡ (if plain_base (bits s 12 4) (bits f 0 4) then One (insns.LoadAcquire sizes.Byte (bits s 12 4) (bits f 0 4)) Wide else Undefined Wide)
unfolding rows decode_of
load_ordered_ldab f s h0 h1 h2 h3 = known_by refusals rows (first 4 12 3725 ∷ second 8 4 15 ∷ second 0 4 15 ∷ second 4 4 8 ∷ []) ([]) f s (and_from _ _ (eq-eqb _ _ h0) (and_from _ _ (eq-eqb _ _ h1) (and_from _ _ (eq-eqb _ _ h2) (eq-eqb _ _ h3)))) refl

pub load_ordered_ldah : (f s : ℕ) → bits f 4 12 ≡ 3725 → bits s 8 4 ≡ 15 → bits s 0 4 ≡ 15 → bits s 4 4 ≡ 9 → decode_of f s ≡ (if plain_base (bits s 12 4) (bits f 0 4) then One (insns.LoadAcquire sizes.Half (bits s 12 4) (bits f 0 4)) Wide else Undefined Wide)
unfolding rows decode_of
load_ordered_ldah f s h0 h1 h2 h3 = known_by refusals rows (first 4 12 3725 ∷ second 8 4 15 ∷ second 0 4 15 ∷ second 4 4 9 ∷ []) ([]) f s (and_from _ _ (eq-eqb _ _ h0) (and_from _ _ (eq-eqb _ _ h1) (and_from _ _ (eq-eqb _ _ h2) (eq-eqb _ _ h3)))) refl

pub load_ordered_lda : (f s : ℕ) → bits f 4 12 ≡ 3725 → bits s 8 4 ≡ 15 → bits s 0 4 ≡ 15 → bits s 4 4 ≡ 10 → decode_of f s ≡ (if plain_base (bits s 12 4) (bits f 0 4) then One (insns.LoadAcquire sizes.Word (bits s 12 4) (bits f 0 4)) Wide else Undefined Wide)
unfolding rows decode_of
load_ordered_lda f s h0 h1 h2 h3 = known_by refusals rows (first 4 12 3725 ∷ second 8 4 15 ∷ second 0 4 15 ∷ second 4 4 10 ∷ []) ([]) f s (and_from _ _ (eq-eqb _ _ h0) (and_from _ _ (eq-eqb _ _ h1) (and_from _ _ (eq-eqb _ _ h2) (eq-eqb _ _ h3)))) refl

pub load_ordered_ldaexb : (f s : ℕ) → bits f 4 12 ≡ 3725 → bits s 8 4 ≡ 15 → bits s 0 4 ≡ 15 → bits s 4 4 ≡ 12 → decode_of f s ≡ (if plain_base (bits s 12 4) (bits f 0 4) then One (insns.LoadExclusive sizes.Byte true (bits s 12 4) (bits f 0 4) (pos 0)) Wide else Undefined Wide)
unfolding rows decode_of
load_ordered_ldaexb f s h0 h1 h2 h3 = known_by refusals rows (first 4 12 3725 ∷ second 8 4 15 ∷ second 0 4 15 ∷ second 4 4 12 ∷ []) ([]) f s (and_from _ _ (eq-eqb _ _ h0) (and_from _ _ (eq-eqb _ _ h1) (and_from _ _ (eq-eqb _ _ h2) (eq-eqb _ _ h3)))) refl

pub load_ordered_ldaexh : (f s : ℕ) → bits f 4 12 ≡ 3725 → bits s 8 4 ≡ 15 → bits s 0 4 ≡ 15 → bits s 4 4 ≡ 13 → decode_of f s ≡ (if plain_base (bits s 12 4) (bits f 0 4) then One (insns.LoadExclusive sizes.Half true (bits s 12 4) (bits f 0 4) (pos 0)) Wide else Undefined Wide)
unfolding rows decode_of
load_ordered_ldaexh f s h0 h1 h2 h3 = known_by refusals rows (first 4 12 3725 ∷ second 8 4 15 ∷ second 0 4 15 ∷ second 4 4 13 ∷ []) ([]) f s (and_from _ _ (eq-eqb _ _ h0) (and_from _ _ (eq-eqb _ _ h1) (and_from _ _ (eq-eqb _ _ h2) (eq-eqb _ _ h3)))) refl

pub load_ordered_ldaex : (f s : ℕ) → bits f 4 12 ≡ 3725 → bits s 8 4 ≡ 15 → bits s 0 4 ≡ 15 → bits s 4 4 ≡ 14 → decode_of f s ≡ (if plain_base (bits s 12 4) (bits f 0 4) then One (insns.LoadExclusive sizes.Word true (bits s 12 4) (bits f 0 4) (pos 0)) Wide else Undefined Wide)
unfolding rows decode_of
load_ordered_ldaex f s h0 h1 h2 h3 = known_by refusals rows (first 4 12 3725 ∷ second 8 4 15 ∷ second 0 4 15 ∷ second 4 4 14 ∷ []) ([]) f s (and_from _ _ (eq-eqb _ _ h0) (and_from _ _ (eq-eqb _ _ h1) (and_from _ _ (eq-eqb _ _ h2) (eq-eqb _ _ h3)))) refl

pub load_ordered_other : (f s : ℕ) → bits f 4 12 ≡ 3725 → bits s 8 4 ≡ 15 → bits s 0 4 ≡ 15 → bits s 4 4 ≢ 4 → bits s 4 4 ≢ 5 → bits s 4 4 ≢ 8 → bits s 4 4 ≢ 9 → bits s 4 4 ≢ 10 → bits s 4 4 ≢ 12 → bits s 4 4 ≢ 13 → bits s 4 4 ≢ 14 → decode_of f s ≡ Undefined Wide
unfolding rows decode_of
load_ordered_other f s h0 h1 h2 h3 h4 h5 h6 h7 h8 h9 h10 = known_by refusals rows (first 4 12 3725 ∷ second 8 4 15 ∷ second 0 4 15 ∷ []) ((second 4 4 4 ∷ []) ∷ (second 4 4 5 ∷ []) ∷ (second 4 4 8 ∷ []) ∷ (second 4 4 9 ∷ []) ∷ (second 4 4 10 ∷ []) ∷ (second 4 4 12 ∷ []) ∷ (second 4 4 13 ∷ []) ∷ (second 4 4 14 ∷ []) ∷ []) f s (and_from _ _ (eq-eqb _ _ h0) (and_from _ _ (eq-eqb _ _ h1) (eq-eqb _ _ h2))) (or_from _ _ (ne_eqb _ _ h3) (or_from _ _ (ne_eqb _ _ h4) (or_from _ _ (ne_eqb _ _ h5) (or_from _ _ (ne_eqb _ _ h6) (or_from _ _ (ne_eqb _ _ h7) (or_from _ _ (ne_eqb _ _ h8) (or_from _ _ (ne_eqb _ _ h9) (ne_eqb _ _ h10))))))))

pub ruleset load_ordered = (load_ordered_ones, load_ordered_ldrexb, load_ordered_ldrexh, load_ordered_ldab, load_ordered_ldah, load_ordered_lda, load_ordered_ldaexb, load_ordered_ldaexh, load_ordered_ldaex, load_ordered_other)

-- ---- table branches

pub table_branch_tbb : (f s : ℕ) → bits f 4 12 ≡ 3725 → bits s 5 11 ≡ 1920 → decode_of f s ≡ (if can_branch_table (bits f 0 4) (bits s 0 4) then One (insns.TableBranch (is_one (bits s 4 1)) (bits f 0 4) (bits s 0 4)) Wide else Undefined Wide)
unfolding rows decode_of
table_branch_tbb f s h0 h1 = known_by refusals rows (first 4 12 3725 ∷ second 5 11 1920 ∷ []) ([]) f s (and_from _ _ (eq-eqb _ _ h0) (eq-eqb _ _ h1)) refl

pub table_branch_other : (f s : ℕ) → bits f 4 12 ≡ 3725 → bits s 8 4 ≢ 15 → bits s 5 11 ≢ 1920 → decode_of f s ≡ Undefined Wide
unfolding rows decode_of
table_branch_other f s h0 h1 h2 = known_by refusals rows (first 4 12 3725 ∷ []) ((second 8 4 15 ∷ []) ∷ (second 5 11 1920 ∷ []) ∷ []) f s (eq-eqb _ _ h0) (or_from _ _ (ne_eqb _ _ h1) (ne_eqb _ _ h2))

pub ruleset table_branch = (table_branch_tbb, table_branch_other)
