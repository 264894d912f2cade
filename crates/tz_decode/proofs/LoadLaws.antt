-- What the codes that load and store one register mean, leaf by leaf of the decoder.
use Rattle.std.proofs.Common.{◌≡◌, ◌≢◌, ℕ, true, false, [], ◌∷◌, refl}
use Rattle.std.specs.Prelude.{◌==◌, ◌&&◌, pos, neg_ℤ, if◌then◌else◌}
use Rattle.std.proofs.lemmas.Bool.{and_from, or_from, eq-eqb, ne_eqb}
use Rattle.tz_table.specs.Fields.{bits}
use Rattle.tz_table.specs.Patterns.{first, second}
use Rattle.tz_table.specs.Terms.{is_one, size_of, plus_or_minus, indexed}
use Rattle.tz_table.specs.Limits.{plain, can_load, can_store, can_load_back, can_store_back, can_load_index, can_store_index}
use Rattle.tz_table.specs.Table.{rows, refusals, decode_of}
use Rattle.tz_table.proofs.Scans.{known_by}
use Rattle.tz_table.specs.declared.Decoded.TheVariants.{One, Undefined}
use Rattle.tz_table.specs.declared.Width.TheVariants.{Wide}
use Rattle.tz_table.specs.declared.Insn.TheVariants as insns
use Rattle.tz_table.specs.declared.Address.TheVariants as addresses

-- ---- 1111100

pub transfers_size : (f s : ℕ) → bits f 9 7 ≡ 124 → bits f 5 2 ≡ 3 → decode_of f s ≡ Undefined Wide
unfolding rows decode_of
transfers_size f s h0 h1 = known_by refusals rows (first 9 7 124 ∷ first 5 2 3 ∷ []) ([]) f s (and_from _ _ (eq-eqb _ _ h0) (eq-eqb _ _ h1)) refl

pub transfers_signed_store : (f s : ℕ) → bits f 9 7 ≡ 124 → bits f 4 1 ≡ 0 → bits f 8 1 ≢ 0 → decode_of f s ≡ Undefined Wide
unfolding rows decode_of
transfers_signed_store f s h0 h1 h2 = known_by refusals rows (first 9 7 124 ∷ first 4 1 0 ∷ []) ((first 8 1 0 ∷ []) ∷ []) f s (and_from _ _ (eq-eqb _ _ h0) (eq-eqb _ _ h1)) (ne_eqb _ _ h2)

pub transfers_signed_word : (f s : ℕ) → bits f 9 7 ≡ 124 → bits f 4 1 ≡ 1 → bits f 8 1 ≡ 1 → bits f 5 2 ≡ 2 → decode_of f s ≡ Undefined Wide
unfolding rows decode_of
transfers_signed_word f s h0 h1 h2 h3 = known_by refusals rows (first 9 7 124 ∷ first 4 1 1 ∷ first 8 1 1 ∷ first 5 2 2 ∷ []) ([]) f s (and_from _ _ (eq-eqb _ _ h0) (and_from _ _ (eq-eqb _ _ h1) (and_from _ _ (eq-eqb _ _ h2) (eq-eqb _ _ h3)))) refl

pub ruleset transfers = (transfers_size, transfers_signed_store, transfers_signed_word)

-- ---- stores

pub stores_pc : (f s : ℕ) → bits f 9 7 ≡ 124 → bits f 4 1 ≡ 0 → bits f 8 1 ≡ 0 → bits f 0 4 ≡ 15 → bits f 5 2 ≢ 3 → decode_of f s ≡ Undefined Wide
unfolding rows decode_of
stores_pc f s h0 h1 h2 h3 h4 = known_by refusals rows (first 9 7 124 ∷ first 4 1 0 ∷ first 8 1 0 ∷ first 0 4 15 ∷ []) ((first 5 2 3 ∷ []) ∷ []) f s (and_from _ _ (eq-eqb _ _ h0) (and_from _ _ (eq-eqb _ _ h1) (and_from _ _ (eq-eqb _ _ h2) (eq-eqb _ _ h3)))) (ne_eqb _ _ h4)

pub stores_str_imm12 : (f s : ℕ) → bits f 9 7 ≡ 124 → bits f 4 1 ≡ 0 → bits f 8 1 ≡ 0 → bits f 7 1 ≡ 1 → bits f 5 2 ≢ 3 → bits f 0 4 ≢ 15 → decode_of f s ≡ (if can_store (bits f 5 2) (bits s 12 4) then One (insns.Store (size_of (bits f 5 2)) (bits s 12 4) (addresses.Offset (bits f 0 4) (pos (bits s 0 12))) false) Wide else Undefined Wide)
unfolding rows decode_of
stores_str_imm12 f s h0 h1 h2 h3 h4 h5 = known_by refusals rows (first 9 7 124 ∷ first 4 1 0 ∷ first 8 1 0 ∷ first 7 1 1 ∷ []) ((first 5 2 3 ∷ []) ∷ (first 0 4 15 ∷ []) ∷ []) f s (and_from _ _ (eq-eqb _ _ h0) (and_from _ _ (eq-eqb _ _ h1) (and_from _ _ (eq-eqb _ _ h2) (eq-eqb _ _ h3)))) (or_from _ _ (ne_eqb _ _ h4) (ne_eqb _ _ h5))

pub stores_str_index_w : (f s : ℕ) → bits f 9 7 ≡ 124 → bits f 4 1 ≡ 0 → bits f 8 1 ≡ 0 → bits f 7 1 ≡ 0 → bits s 6 6 ≡ 0 → bits f 5 2 ≢ 3 → bits f 0 4 ≢ 15 → decode_of f s ≡ (if can_store_index (bits f 5 2) (bits s 12 4) (bits s 0 4) then One (insns.Store (size_of (bits f 5 2)) (bits s 12 4) (addresses.Index (bits f 0 4) (bits s 0 4) (bits s 4 2)) false) Wide else Undefined Wide)
unfolding rows decode_of
stores_str_index_w f s h0 h1 h2 h3 h4 h5 h6 = known_by refusals rows (first 9 7 124 ∷ first 4 1 0 ∷ first 8 1 0 ∷ first 7 1 0 ∷ second 6 6 0 ∷ []) ((first 5 2 3 ∷ []) ∷ (first 0 4 15 ∷ []) ∷ []) f s (and_from _ _ (eq-eqb _ _ h0) (and_from _ _ (eq-eqb _ _ h1) (and_from _ _ (eq-eqb _ _ h2) (and_from _ _ (eq-eqb _ _ h3) (eq-eqb _ _ h4))))) (or_from _ _ (ne_eqb _ _ h5) (ne_eqb _ _ h6))

pub stores_other : (f s : ℕ) → bits f 9 7 ≡ 124 → bits f 4 1 ≡ 0 → bits f 8 1 ≡ 0 → bits f 7 1 ≡ 0 → bits s 11 1 ≡ 0 → bits f 5 2 ≢ 3 → bits s 6 6 ≢ 0 → decode_of f s ≡ Undefined Wide
unfolding rows decode_of
stores_other f s h0 h1 h2 h3 h4 h5 h6 = known_by refusals rows (first 9 7 124 ∷ first 4 1 0 ∷ first 8 1 0 ∷ first 7 1 0 ∷ second 11 1 0 ∷ []) ((first 5 2 3 ∷ []) ∷ (second 6 6 0 ∷ []) ∷ []) f s (and_from _ _ (eq-eqb _ _ h0) (and_from _ _ (eq-eqb _ _ h1) (and_from _ _ (eq-eqb _ _ h2) (and_from _ _ (eq-eqb _ _ h3) (eq-eqb _ _ h4))))) (or_from _ _ (ne_eqb _ _ h5) (ne_eqb _ _ h6))

pub ruleset stores = (stores_pc, stores_str_imm12, stores_str_index_w, stores_other)

-- ---- stores at eight bits

pub short_stores_str_back : (f s : ℕ) → bits f 9 7 ≡ 124 → bits f 4 1 ≡ 0 → bits f 8 1 ≡ 0 → bits f 7 1 ≡ 0 → bits s 11 1 ≡ 1 → bits s 8 1 ≡ 1 → bits f 5 2 ≢ 3 → bits f 0 4 ≢ 15 → decode_of f s ≡ (if can_store_back (bits f 5 2) (bits s 12 4) (bits f 0 4) then One (insns.Store (size_of (bits f 5 2)) (bits s 12 4) (indexed (bits s 10 1) 1 (bits f 0 4) (plus_or_minus (bits s 9 1) (bits s 0 8))) false) Wide else Undefined Wide)
unfolding rows decode_of
short_stores_str_back f s h0 h1 h2 h3 h4 h5 h6 h7 = known_by refusals rows (first 9 7 124 ∷ first 4 1 0 ∷ first 8 1 0 ∷ first 7 1 0 ∷ second 11 1 1 ∷ second 8 1 1 ∷ []) ((first 5 2 3 ∷ []) ∷ (first 0 4 15 ∷ []) ∷ []) f s (and_from _ _ (eq-eqb _ _ h0) (and_from _ _ (eq-eqb _ _ h1) (and_from _ _ (eq-eqb _ _ h2) (and_from _ _ (eq-eqb _ _ h3) (and_from _ _ (eq-eqb _ _ h4) (eq-eqb _ _ h5)))))) (or_from _ _ (ne_eqb _ _ h6) (ne_eqb _ _ h7))

pub short_stores_str_negative : (f s : ℕ) → bits f 9 7 ≡ 124 → bits f 4 1 ≡ 0 → bits f 8 1 ≡ 0 → bits f 7 1 ≡ 0 → bits s 8 4 ≡ 12 → bits f 5 2 ≢ 3 → bits f 0 4 ≢ 15 → decode_of f s ≡ (if can_store (bits f 5 2) (bits s 12 4) then One (insns.Store (size_of (bits f 5 2)) (bits s 12 4) (addresses.Offset (bits f 0 4) (neg_ℤ (pos (bits s 0 8)))) false) Wide else Undefined Wide)
unfolding rows decode_of
short_stores_str_negative f s h0 h1 h2 h3 h4 h5 h6 = known_by refusals rows (first 9 7 124 ∷ first 4 1 0 ∷ first 8 1 0 ∷ first 7 1 0 ∷ second 8 4 12 ∷ []) ((first 5 2 3 ∷ []) ∷ (first 0 4 15 ∷ []) ∷ []) f s (and_from _ _ (eq-eqb _ _ h0) (and_from _ _ (eq-eqb _ _ h1) (and_from _ _ (eq-eqb _ _ h2) (and_from _ _ (eq-eqb _ _ h3) (eq-eqb _ _ h4))))) (or_from _ _ (ne_eqb _ _ h5) (ne_eqb _ _ h6))

pub short_stores_strt : (f s : ℕ) → bits f 9 7 ≡ 124 → bits f 4 1 ≡ 0 → bits f 8 1 ≡ 0 → bits f 7 1 ≡ 0 → bits s 8 4 ≡ 14 → bits f 5 2 ≢ 3 → bits f 0 4 ≢ 15 → decode_of f s ≡ (if plain (bits s 12 4) then One (insns.Store (size_of (bits f 5 2)) (bits s 12 4) (addresses.Offset (bits f 0 4) (pos (bits s 0 8))) true) Wide else Undefined Wide)
unfolding rows decode_of
short_stores_strt f s h0 h1 h2 h3 h4 h5 h6 = known_by refusals rows (first 9 7 124 ∷ first 4 1 0 ∷ first 8 1 0 ∷ first 7 1 0 ∷ second 8 4 14 ∷ []) ((first 5 2 3 ∷ []) ∷ (first 0 4 15 ∷ []) ∷ []) f s (and_from _ _ (eq-eqb _ _ h0) (and_from _ _ (eq-eqb _ _ h1) (and_from _ _ (eq-eqb _ _ h2) (and_from _ _ (eq-eqb _ _ h3) (eq-eqb _ _ h4))))) (or_from _ _ (ne_eqb _ _ h5) (ne_eqb _ _ h6))

pub short_stores_zero : (f s : ℕ) → bits f 9 7 ≡ 124 → bits f 4 1 ≡ 0 → bits f 8 1 ≡ 0 → bits f 7 1 ≡ 0 → bits s 11 1 ≡ 1 → bits s 8 1 ≡ 0 → bits s 10 1 ≡ 0 → bits f 5 2 ≢ 3 → decode_of f s ≡ Undefined Wide
unfolding rows decode_of
short_stores_zero f s h0 h1 h2 h3 h4 h5 h6 h7 = known_by refusals rows (first 9 7 124 ∷ first 4 1 0 ∷ first 8 1 0 ∷ first 7 1 0 ∷ second 11 1 1 ∷ second 8 1 0 ∷ second 10 1 0 ∷ []) ((first 5 2 3 ∷ []) ∷ []) f s (and_from _ _ (eq-eqb _ _ h0) (and_from _ _ (eq-eqb _ _ h1) (and_from _ _ (eq-eqb _ _ h2) (and_from _ _ (eq-eqb _ _ h3) (and_from _ _ (eq-eqb _ _ h4) (and_from _ _ (eq-eqb _ _ h5) (eq-eqb _ _ h6))))))) (ne_eqb _ _ h7)

pub ruleset short_stores = (short_stores_str_back, short_stores_str_negative, short_stores_strt, short_stores_zero)

-- ---- loads

pub loads_pld_imm12 : (f s : ℕ) → bits f 9 7 ≡ 124 → bits f 4 1 ≡ 1 → bits f 7 1 ≡ 1 → bits f 5 2 ≡ 0 → bits s 12 4 ≡ 15 → bits f 0 4 ≢ 15 → decode_of f s ≡ One (insns.Preload) Wide
unfolding rows decode_of
loads_pld_imm12 f s h0 h1 h2 h3 h4 h5 = known_by refusals rows (first 9 7 124 ∷ first 4 1 1 ∷ first 7 1 1 ∷ first 5 2 0 ∷ second 12 4 15 ∷ []) ((first 0 4 15 ∷ []) ∷ []) f s (and_from _ _ (eq-eqb _ _ h0) (and_from _ _ (eq-eqb _ _ h1) (and_from _ _ (eq-eqb _ _ h2) (and_from _ _ (eq-eqb _ _ h3) (eq-eqb _ _ h4))))) (ne_eqb _ _ h5)

pub loads_ldr_imm12 : (f s : ℕ) → bits f 9 7 ≡ 124 → bits f 4 1 ≡ 1 → bits f 7 1 ≡ 1 → bits f 5 2 ≢ 3 → bits f 0 4 ≢ 15 → (bits f 8 1 == 1 && bits f 5 2 == 2) ≡ false → (bits f 5 2 == 0 && bits s 12 4 == 15) ≡ false → decode_of f s ≡ (if can_load (bits f 5 2) (bits s 12 4) then One (insns.Load (size_of (bits f 5 2)) (is_one (bits f 8 1)) (bits s 12 4) (addresses.Offset (bits f 0 4) (pos (bits s 0 12))) false) Wide else Undefined Wide)
unfolding rows decode_of
loads_ldr_imm12 f s h0 h1 h2 h3 h4 h5 h6 = known_by refusals rows (first 9 7 124 ∷ first 4 1 1 ∷ first 7 1 1 ∷ []) ((first 5 2 3 ∷ []) ∷ (first 0 4 15 ∷ []) ∷ (first 8 1 1 ∷ first 5 2 2 ∷ []) ∷ (first 5 2 0 ∷ second 12 4 15 ∷ []) ∷ []) f s (and_from _ _ (eq-eqb _ _ h0) (and_from _ _ (eq-eqb _ _ h1) (eq-eqb _ _ h2))) (or_from _ _ (ne_eqb _ _ h3) (or_from _ _ (ne_eqb _ _ h4) (or_from _ _ (h5) (h6))))

pub loads_other : (f s : ℕ) → bits f 9 7 ≡ 124 → bits f 4 1 ≡ 1 → bits f 7 1 ≡ 0 → bits s 11 1 ≡ 0 → bits f 5 2 ≢ 3 → bits f 0 4 ≢ 15 → bits s 6 6 ≢ 0 → (bits f 8 1 == 1 && bits f 5 2 == 2) ≡ false → decode_of f s ≡ Undefined Wide
unfolding rows decode_of
loads_other f s h0 h1 h2 h3 h4 h5 h6 h7 = known_by refusals rows (first 9 7 124 ∷ first 4 1 1 ∷ first 7 1 0 ∷ second 11 1 0 ∷ []) ((first 5 2 3 ∷ []) ∷ (first 0 4 15 ∷ []) ∷ (second 6 6 0 ∷ []) ∷ (first 8 1 1 ∷ first 5 2 2 ∷ []) ∷ []) f s (and_from _ _ (eq-eqb _ _ h0) (and_from _ _ (eq-eqb _ _ h1) (and_from _ _ (eq-eqb _ _ h2) (eq-eqb _ _ h3)))) (or_from _ _ (ne_eqb _ _ h4) (or_from _ _ (ne_eqb _ _ h5) (or_from _ _ (ne_eqb _ _ h6) (h7))))

pub ruleset loads = (loads_pld_imm12, loads_ldr_imm12, loads_other)

-- ---- loads from a sum

pub index_loads_pld_index : (f s : ℕ) → bits f 9 7 ≡ 124 → bits f 4 1 ≡ 1 → bits f 7 1 ≡ 0 → bits s 6 6 ≡ 0 → bits f 5 2 ≡ 0 → bits s 12 4 ≡ 15 → bits f 0 4 ≢ 15 → decode_of f s ≡ (if plain (bits s 0 4) then One (insns.Preload) Wide else Undefined Wide)
unfolding rows decode_of
index_loads_pld_index f s h0 h1 h2 h3 h4 h5 h6 = known_by refusals rows (first 9 7 124 ∷ first 4 1 1 ∷ first 7 1 0 ∷ second 6 6 0 ∷ first 5 2 0 ∷ second 12 4 15 ∷ []) ((first 0 4 15 ∷ []) ∷ []) f s (and_from _ _ (eq-eqb _ _ h0) (and_from _ _ (eq-eqb _ _ h1) (and_from _ _ (eq-eqb _ _ h2) (and_from _ _ (eq-eqb _ _ h3) (and_from _ _ (eq-eqb _ _ h4) (eq-eqb _ _ h5)))))) (ne_eqb _ _ h6)

pub index_loads_ldr_index_w : (f s : ℕ) → bits f 9 7 ≡ 124 → bits f 4 1 ≡ 1 → bits f 7 1 ≡ 0 → bits s 6 6 ≡ 0 → bits f 5 2 ≢ 3 → bits f 0 4 ≢ 15 → (bits f 8 1 == 1 && bits f 5 2 == 2) ≡ false → (bits f 5 2 == 0 && bits s 12 4 == 15) ≡ false → decode_of f s ≡ (if can_load_index (bits f 5 2) (bits s 12 4) (bits s 0 4) then One (insns.Load (size_of (bits f 5 2)) (is_one (bits f 8 1)) (bits s 12 4) (addresses.Index (bits f 0 4) (bits s 0 4) (bits s 4 2)) false) Wide else Undefined Wide)
unfolding rows decode_of
index_loads_ldr_index_w f s h0 h1 h2 h3 h4 h5 h6 h7 = known_by refusals rows (first 9 7 124 ∷ first 4 1 1 ∷ first 7 1 0 ∷ second 6 6 0 ∷ []) ((first 5 2 3 ∷ []) ∷ (first 0 4 15 ∷ []) ∷ (first 8 1 1 ∷ first 5 2 2 ∷ []) ∷ (first 5 2 0 ∷ second 12 4 15 ∷ []) ∷ []) f s (and_from _ _ (eq-eqb _ _ h0) (and_from _ _ (eq-eqb _ _ h1) (and_from _ _ (eq-eqb _ _ h2) (eq-eqb _ _ h3)))) (or_from _ _ (ne_eqb _ _ h4) (or_from _ _ (ne_eqb _ _ h5) (or_from _ _ (h6) (h7))))

pub ruleset index_loads = (index_loads_pld_index, index_loads_ldr_index_w)

-- ---- loads at eight bits

pub short_loads_ldr_back : (f s : ℕ) → bits f 9 7 ≡ 124 → bits f 4 1 ≡ 1 → bits f 7 1 ≡ 0 → bits s 11 1 ≡ 1 → bits s 8 1 ≡ 1 → bits f 5 2 ≢ 3 → bits f 0 4 ≢ 15 → (bits f 8 1 == 1 && bits f 5 2 == 2) ≡ false → decode_of f s ≡ (if can_load_back (bits f 5 2) (bits s 12 4) (bits f 0 4) then One (insns.Load (size_of (bits f 5 2)) (is_one (bits f 8 1)) (bits s 12 4) (indexed (bits s 10 1) 1 (bits f 0 4) (plus_or_minus (bits s 9 1) (bits s 0 8))) false) Wide else Undefined Wide)
unfolding rows decode_of
short_loads_ldr_back f s h0 h1 h2 h3 h4 h5 h6 h7 = known_by refusals rows (first 9 7 124 ∷ first 4 1 1 ∷ first 7 1 0 ∷ second 11 1 1 ∷ second 8 1 1 ∷ []) ((first 5 2 3 ∷ []) ∷ (first 0 4 15 ∷ []) ∷ (first 8 1 1 ∷ first 5 2 2 ∷ []) ∷ []) f s (and_from _ _ (eq-eqb _ _ h0) (and_from _ _ (eq-eqb _ _ h1) (and_from _ _ (eq-eqb _ _ h2) (and_from _ _ (eq-eqb _ _ h3) (eq-eqb _ _ h4))))) (or_from _ _ (ne_eqb _ _ h5) (or_from _ _ (ne_eqb _ _ h6) (h7)))

pub short_loads_ldrt : (f s : ℕ) → bits f 9 7 ≡ 124 → bits f 4 1 ≡ 1 → bits f 7 1 ≡ 0 → bits s 8 4 ≡ 14 → bits f 5 2 ≢ 3 → bits f 0 4 ≢ 15 → (bits f 8 1 == 1 && bits f 5 2 == 2) ≡ false → decode_of f s ≡ (if plain (bits s 12 4) then One (insns.Load (size_of (bits f 5 2)) (is_one (bits f 8 1)) (bits s 12 4) (addresses.Offset (bits f 0 4) (pos (bits s 0 8))) true) Wide else Undefined Wide)
unfolding rows decode_of
short_loads_ldrt f s h0 h1 h2 h3 h4 h5 h6 = known_by refusals rows (first 9 7 124 ∷ first 4 1 1 ∷ first 7 1 0 ∷ second 8 4 14 ∷ []) ((first 5 2 3 ∷ []) ∷ (first 0 4 15 ∷ []) ∷ (first 8 1 1 ∷ first 5 2 2 ∷ []) ∷ []) f s (and_from _ _ (eq-eqb _ _ h0) (and_from _ _ (eq-eqb _ _ h1) (and_from _ _ (eq-eqb _ _ h2) (eq-eqb _ _ h3)))) (or_from _ _ (ne_eqb _ _ h4) (or_from _ _ (ne_eqb _ _ h5) (h6)))

pub short_loads_zero : (f s : ℕ) → bits f 9 7 ≡ 124 → bits f 4 1 ≡ 1 → bits f 7 1 ≡ 0 → bits s 11 1 ≡ 1 → bits s 8 1 ≡ 0 → bits s 10 1 ≡ 0 → bits f 5 2 ≢ 3 → bits f 0 4 ≢ 15 → (bits f 8 1 == 1 && bits f 5 2 == 2) ≡ false → decode_of f s ≡ Undefined Wide
unfolding rows decode_of
short_loads_zero f s h0 h1 h2 h3 h4 h5 h6 h7 h8 = known_by refusals rows (first 9 7 124 ∷ first 4 1 1 ∷ first 7 1 0 ∷ second 11 1 1 ∷ second 8 1 0 ∷ second 10 1 0 ∷ []) ((first 5 2 3 ∷ []) ∷ (first 0 4 15 ∷ []) ∷ (first 8 1 1 ∷ first 5 2 2 ∷ []) ∷ []) f s (and_from _ _ (eq-eqb _ _ h0) (and_from _ _ (eq-eqb _ _ h1) (and_from _ _ (eq-eqb _ _ h2) (and_from _ _ (eq-eqb _ _ h3) (and_from _ _ (eq-eqb _ _ h4) (eq-eqb _ _ h5)))))) (or_from _ _ (ne_eqb _ _ h6) (or_from _ _ (ne_eqb _ _ h7) (h8)))

pub ruleset short_loads = (short_loads_ldr_back, short_loads_ldrt, short_loads_zero)

-- ---- loads downwards

pub negative_loads_pld_negative : (f s : ℕ) → bits f 9 7 ≡ 124 → bits f 4 1 ≡ 1 → bits f 7 1 ≡ 0 → bits s 8 4 ≡ 12 → bits f 5 2 ≡ 0 → bits s 12 4 ≡ 15 → bits f 0 4 ≢ 15 → decode_of f s ≡ One (insns.Preload) Wide
unfolding rows decode_of
negative_loads_pld_negative f s h0 h1 h2 h3 h4 h5 h6 = known_by refusals rows (first 9 7 124 ∷ first 4 1 1 ∷ first 7 1 0 ∷ second 8 4 12 ∷ first 5 2 0 ∷ second 12 4 15 ∷ []) ((first 0 4 15 ∷ []) ∷ []) f s (and_from _ _ (eq-eqb _ _ h0) (and_from _ _ (eq-eqb _ _ h1) (and_from _ _ (eq-eqb _ _ h2) (and_from _ _ (eq-eqb _ _ h3) (and_from _ _ (eq-eqb _ _ h4) (eq-eqb _ _ h5)))))) (ne_eqb _ _ h6)

pub negative_loads_ldr_negative : (f s : ℕ) → bits f 9 7 ≡ 124 → bits f 4 1 ≡ 1 → bits f 7 1 ≡ 0 → bits s 8 4 ≡ 12 → bits f 5 2 ≢ 3 → bits f 0 4 ≢ 15 → (bits f 8 1 == 1 && bits f 5 2 == 2) ≡ false → (bits f 5 2 == 0 && bits s 12 4 == 15) ≡ false → decode_of f s ≡ (if can_load (bits f 5 2) (bits s 12 4) then One (insns.Load (size_of (bits f 5 2)) (is_one (bits f 8 1)) (bits s 12 4) (addresses.Offset (bits f 0 4) (neg_ℤ (pos (bits s 0 8)))) false) Wide else Undefined Wide)
unfolding rows decode_of
negative_loads_ldr_negative f s h0 h1 h2 h3 h4 h5 h6 h7 = known_by refusals rows (first 9 7 124 ∷ first 4 1 1 ∷ first 7 1 0 ∷ second 8 4 12 ∷ []) ((first 5 2 3 ∷ []) ∷ (first 0 4 15 ∷ []) ∷ (first 8 1 1 ∷ first 5 2 2 ∷ []) ∷ (first 5 2 0 ∷ second 12 4 15 ∷ []) ∷ []) f s (and_from _ _ (eq-eqb _ _ h0) (and_from _ _ (eq-eqb _ _ h1) (and_from _ _ (eq-eqb _ _ h2) (eq-eqb _ _ h3)))) (or_from _ _ (ne_eqb _ _ h4) (or_from _ _ (ne_eqb _ _ h5) (or_from _ _ (h6) (h7))))

pub ruleset negative_loads = (negative_loads_pld_negative, negative_loads_ldr_negative)

-- ---- loads relative to PC

pub literals_pld_literal : (f s : ℕ) → bits f 9 7 ≡ 124 → bits f 4 1 ≡ 1 → bits f 0 4 ≡ 15 → bits f 5 2 ≡ 0 → bits s 12 4 ≡ 15 → decode_of f s ≡ One (insns.Preload) Wide
unfolding rows decode_of
literals_pld_literal f s h0 h1 h2 h3 h4 = known_by refusals rows (first 9 7 124 ∷ first 4 1 1 ∷ first 0 4 15 ∷ first 5 2 0 ∷ second 12 4 15 ∷ []) ([]) f s (and_from _ _ (eq-eqb _ _ h0) (and_from _ _ (eq-eqb _ _ h1) (and_from _ _ (eq-eqb _ _ h2) (and_from _ _ (eq-eqb _ _ h3) (eq-eqb _ _ h4))))) refl

pub literals_ldr_literal_w : (f s : ℕ) → bits f 9 7 ≡ 124 → bits f 4 1 ≡ 1 → bits f 0 4 ≡ 15 → bits f 5 2 ≢ 3 → (bits f 8 1 == 1 && bits f 5 2 == 2) ≡ false → (bits f 5 2 == 0 && bits s 12 4 == 15) ≡ false → decode_of f s ≡ (if can_load (bits f 5 2) (bits s 12 4) then One (insns.Load (size_of (bits f 5 2)) (is_one (bits f 8 1)) (bits s 12 4) (addresses.Literal (plus_or_minus (bits f 7 1) (bits s 0 12))) false) Wide else Undefined Wide)
unfolding rows decode_of
literals_ldr_literal_w f s h0 h1 h2 h3 h4 h5 = known_by refusals rows (first 9 7 124 ∷ first 4 1 1 ∷ first 0 4 15 ∷ []) ((first 5 2 3 ∷ []) ∷ (first 8 1 1 ∷ first 5 2 2 ∷ []) ∷ (first 5 2 0 ∷ second 12 4 15 ∷ []) ∷ []) f s (and_from _ _ (eq-eqb _ _ h0) (and_from _ _ (eq-eqb _ _ h1) (eq-eqb _ _ h2))) (or_from _ _ (ne_eqb _ _ h3) (or_from _ _ (h4) (h5)))

pub ruleset literals = (literals_pld_literal, literals_ldr_literal_w)
