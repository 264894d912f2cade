-- What the codes that begin with 1111101 mean, leaf by leaf of the decoder.
use Rattle.std.proofs.Common.{◌≡◌, ◌≢◌, ℕ, true, false, [], ◌∷◌, refl}
use Rattle.std.specs.Prelude.{◌*◌, if◌then◌else◌}
use Rattle.std.proofs.lemmas.Bool.{and_from, or_from, eq-eqb, ne_eqb}
use Rattle.tz_table.specs.Fields.{bits}
use Rattle.tz_table.specs.Patterns.{first, second}
use Rattle.tz_table.specs.Terms.{flags_of, shift_of}
use Rattle.tz_table.specs.Limits.{plain2, plain3, plain4, plain2_same, can_multiply_long}
use Rattle.tz_table.specs.Table.{rows, refusals, decode_of}
use Rattle.tz_table.proofs.Scans.{known_by}
use Rattle.tz_table.specs.declared.Decoded.TheVariants.{One, Undefined}
use Rattle.tz_table.specs.declared.Width.TheVariants.{Wide}
use Rattle.tz_table.specs.declared.Insn.TheVariants as insns
use Rattle.tz_table.specs.declared.ExtendOp.TheVariants as extends
use Rattle.tz_table.specs.declared.ReverseOp.TheVariants as reverses
use Rattle.tz_table.specs.declared.MultiplyOp.TheVariants as multiplies
use Rattle.tz_table.specs.declared.LongOp.TheVariants as longs
use Rattle.tz_table.specs.declared.Flags.TheVariants as flags

-- ---- 1111101

pub arithmetic_unused : (f s : ℕ) → bits f 9 7 ≡ 125 → bits f 7 9 ≡ 500 → bits s 12 4 ≢ 15 → decode_of f s ≡ Undefined Wide
unfolding rows decode_of
arithmetic_unused f s h0 h1 h2 = known_by refusals rows (first 9 7 125 ∷ first 7 9 500 ∷ []) ((second 12 4 15 ∷ []) ∷ []) f s (and_from _ _ (eq-eqb _ _ h0) (eq-eqb _ _ h1)) (ne_eqb _ _ h2)

pub ruleset arithmetic = (arithmetic_unused)

-- ---- 111110100

pub shifts_and_extensions_ones : (f s : ℕ) → bits f 7 9 ≡ 500 → bits s 12 4 ≢ 15 → decode_of f s ≡ Undefined Wide
unfolding rows decode_of
shifts_and_extensions_ones f s h0 h1 = known_by refusals rows (first 7 9 500 ∷ []) ((second 12 4 15 ∷ []) ∷ []) f s (eq-eqb _ _ h0) (ne_eqb _ _ h1)

pub shifts_and_extensions_added : (f s : ℕ) → bits f 7 9 ≡ 500 → bits s 12 4 ≡ 15 → bits s 6 2 ≡ 2 → bits f 0 4 ≢ 15 → decode_of f s ≡ Undefined Wide
unfolding rows decode_of
shifts_and_extensions_added f s h0 h1 h2 h3 = known_by refusals rows (first 7 9 500 ∷ second 12 4 15 ∷ second 6 2 2 ∷ []) ((first 0 4 15 ∷ []) ∷ []) f s (and_from _ _ (eq-eqb _ _ h0) (and_from _ _ (eq-eqb _ _ h1) (eq-eqb _ _ h2))) (ne_eqb _ _ h3)

pub shifts_and_extensions_low : (f s : ℕ) → bits f 7 9 ≡ 500 → bits s 12 4 ≡ 15 → bits s 6 2 ≢ 2 → bits s 4 4 ≢ 0 → decode_of f s ≡ Undefined Wide
unfolding rows decode_of
shifts_and_extensions_low f s h0 h1 h2 h3 = known_by refusals rows (first 7 9 500 ∷ second 12 4 15 ∷ []) ((second 6 2 2 ∷ []) ∷ (second 4 4 0 ∷ []) ∷ []) f s (and_from _ _ (eq-eqb _ _ h0) (eq-eqb _ _ h1)) (or_from _ _ (ne_eqb _ _ h2) (ne_eqb _ _ h3))

pub shifts_and_extensions_shift_reg_w : (f s : ℕ) → bits f 7 9 ≡ 500 → bits s 12 4 ≡ 15 → bits s 4 4 ≡ 0 → decode_of f s ≡ (if plain3 (bits s 8 4) (bits f 0 4) (bits s 0 4) then One (insns.ShiftReg (shift_of (bits f 5 2)) (flags_of (bits f 4 1)) (bits s 8 4) (bits f 0 4) (bits s 0 4)) Wide else Undefined Wide)
unfolding rows decode_of
shifts_and_extensions_shift_reg_w f s h0 h1 h2 = known_by refusals rows (first 7 9 500 ∷ second 12 4 15 ∷ second 4 4 0 ∷ []) ([]) f s (and_from _ _ (eq-eqb _ _ h0) (and_from _ _ (eq-eqb _ _ h1) (eq-eqb _ _ h2))) refl

pub ruleset shifts_and_extensions = (shifts_and_extensions_ones, shifts_and_extensions_added, shifts_and_extensions_low, shifts_and_extensions_shift_reg_w)

-- ---- extensions

pub extensions_sxth_w : (f s : ℕ) → bits f 7 9 ≡ 500 → bits f 0 4 ≡ 15 → bits s 12 4 ≡ 15 → bits s 6 2 ≡ 2 → bits f 4 3 ≡ 0 → decode_of f s ≡ (if plain2 (bits s 8 4) (bits s 0 4) then One (insns.Extend extends.Sxth (bits s 8 4) (bits s 0 4) (bits s 4 2 * 8)) Wide else Undefined Wide)
unfolding rows decode_of
extensions_sxth_w f s h0 h1 h2 h3 h4 = known_by refusals rows (first 7 9 500 ∷ first 0 4 15 ∷ second 12 4 15 ∷ second 6 2 2 ∷ first 4 3 0 ∷ []) ([]) f s (and_from _ _ (eq-eqb _ _ h0) (and_from _ _ (eq-eqb _ _ h1) (and_from _ _ (eq-eqb _ _ h2) (and_from _ _ (eq-eqb _ _ h3) (eq-eqb _ _ h4))))) refl

pub extensions_uxth_w : (f s : ℕ) → bits f 7 9 ≡ 500 → bits f 0 4 ≡ 15 → bits s 12 4 ≡ 15 → bits s 6 2 ≡ 2 → bits f 4 3 ≡ 1 → decode_of f s ≡ (if plain2 (bits s 8 4) (bits s 0 4) then One (insns.Extend extends.Uxth (bits s 8 4) (bits s 0 4) (bits s 4 2 * 8)) Wide else Undefined Wide)
unfolding rows decode_of
extensions_uxth_w f s h0 h1 h2 h3 h4 = known_by refusals rows (first 7 9 500 ∷ first 0 4 15 ∷ second 12 4 15 ∷ second 6 2 2 ∷ first 4 3 1 ∷ []) ([]) f s (and_from _ _ (eq-eqb _ _ h0) (and_from _ _ (eq-eqb _ _ h1) (and_from _ _ (eq-eqb _ _ h2) (and_from _ _ (eq-eqb _ _ h3) (eq-eqb _ _ h4))))) refl

pub extensions_sxtb_w : (f s : ℕ) → bits f 7 9 ≡ 500 → bits f 0 4 ≡ 15 → bits s 12 4 ≡ 15 → bits s 6 2 ≡ 2 → bits f 4 3 ≡ 4 → decode_of f s ≡ (if plain2 (bits s 8 4) (bits s 0 4) then One (insns.Extend extends.Sxtb (bits s 8 4) (bits s 0 4) (bits s 4 2 * 8)) Wide else Undefined Wide)
unfolding rows decode_of
extensions_sxtb_w f s h0 h1 h2 h3 h4 = known_by refusals rows (first 7 9 500 ∷ first 0 4 15 ∷ second 12 4 15 ∷ second 6 2 2 ∷ first 4 3 4 ∷ []) ([]) f s (and_from _ _ (eq-eqb _ _ h0) (and_from _ _ (eq-eqb _ _ h1) (and_from _ _ (eq-eqb _ _ h2) (and_from _ _ (eq-eqb _ _ h3) (eq-eqb _ _ h4))))) refl

pub extensions_uxtb_w : (f s : ℕ) → bits f 7 9 ≡ 500 → bits f 0 4 ≡ 15 → bits s 12 4 ≡ 15 → bits s 6 2 ≡ 2 → bits f 4 3 ≡ 5 → decode_of f s ≡ (if plain2 (bits s 8 4) (bits s 0 4) then One (insns.Extend extends.Uxtb (bits s 8 4) (bits s 0 4) (bits s 4 2 * 8)) Wide else Undefined Wide)
unfolding rows decode_of
extensions_uxtb_w f s h0 h1 h2 h3 h4 = known_by refusals rows (first 7 9 500 ∷ first 0 4 15 ∷ second 12 4 15 ∷ second 6 2 2 ∷ first 4 3 5 ∷ []) ([]) f s (and_from _ _ (eq-eqb _ _ h0) (and_from _ _ (eq-eqb _ _ h1) (and_from _ _ (eq-eqb _ _ h2) (and_from _ _ (eq-eqb _ _ h3) (eq-eqb _ _ h4))))) refl

pub extensions_other : (f s : ℕ) → bits f 7 9 ≡ 500 → bits f 0 4 ≡ 15 → bits s 12 4 ≡ 15 → bits s 6 2 ≡ 2 → bits f 4 3 ≢ 0 → bits f 4 3 ≢ 1 → bits f 4 3 ≢ 4 → bits f 4 3 ≢ 5 → decode_of f s ≡ Undefined Wide
unfolding rows decode_of
extensions_other f s h0 h1 h2 h3 h4 h5 h6 h7 = known_by refusals rows (first 7 9 500 ∷ first 0 4 15 ∷ second 12 4 15 ∷ second 6 2 2 ∷ []) ((first 4 3 0 ∷ []) ∷ (first 4 3 1 ∷ []) ∷ (first 4 3 4 ∷ []) ∷ (first 4 3 5 ∷ []) ∷ []) f s (and_from _ _ (eq-eqb _ _ h0) (and_from _ _ (eq-eqb _ _ h1) (and_from _ _ (eq-eqb _ _ h2) (eq-eqb _ _ h3)))) (or_from _ _ (ne_eqb _ _ h4) (or_from _ _ (ne_eqb _ _ h5) (or_from _ _ (ne_eqb _ _ h6) (ne_eqb _ _ h7))))

pub ruleset extensions = (extensions_sxth_w, extensions_uxth_w, extensions_sxtb_w, extensions_uxtb_w, extensions_other)

-- ---- 111110101

pub reversals_ones : (f s : ℕ) → bits f 7 9 ≡ 501 → bits s 12 4 ≢ 15 → decode_of f s ≡ Undefined Wide
unfolding rows decode_of
reversals_ones f s h0 h1 = known_by refusals rows (first 7 9 501 ∷ []) ((second 12 4 15 ∷ []) ∷ []) f s (eq-eqb _ _ h0) (ne_eqb _ _ h1)

pub reversals_clz : (f s : ℕ) → bits f 7 9 ≡ 501 → bits s 12 4 ≡ 15 → bits f 4 3 ≡ 3 → bits s 4 4 ≡ 8 → decode_of f s ≡ (if plain2_same (bits s 8 4) (bits s 0 4) (bits f 0 4) then One (insns.Reverse reverses.Clz (bits s 8 4) (bits s 0 4)) Wide else Undefined Wide)
unfolding rows decode_of
reversals_clz f s h0 h1 h2 h3 = known_by refusals rows (first 7 9 501 ∷ second 12 4 15 ∷ first 4 3 3 ∷ second 4 4 8 ∷ []) ([]) f s (and_from _ _ (eq-eqb _ _ h0) (and_from _ _ (eq-eqb _ _ h1) (and_from _ _ (eq-eqb _ _ h2) (eq-eqb _ _ h3)))) refl

pub reversals_clz_ones : (f s : ℕ) → bits f 7 9 ≡ 501 → bits s 12 4 ≡ 15 → bits f 4 3 ≡ 3 → bits s 4 4 ≢ 8 → decode_of f s ≡ Undefined Wide
unfolding rows decode_of
reversals_clz_ones f s h0 h1 h2 h3 = known_by refusals rows (first 7 9 501 ∷ second 12 4 15 ∷ first 4 3 3 ∷ []) ((second 4 4 8 ∷ []) ∷ []) f s (and_from _ _ (eq-eqb _ _ h0) (and_from _ _ (eq-eqb _ _ h1) (eq-eqb _ _ h2))) (ne_eqb _ _ h3)

pub reversals_other : (f s : ℕ) → bits f 7 9 ≡ 501 → bits f 4 3 ≢ 1 → bits f 4 3 ≢ 3 → decode_of f s ≡ Undefined Wide
unfolding rows decode_of
reversals_other f s h0 h1 h2 = known_by refusals rows (first 7 9 501 ∷ []) ((first 4 3 1 ∷ []) ∷ (first 4 3 3 ∷ []) ∷ []) f s (eq-eqb _ _ h0) (or_from _ _ (ne_eqb _ _ h1) (ne_eqb _ _ h2))

pub ruleset reversals = (reversals_ones, reversals_clz, reversals_clz_ones, reversals_other)

-- ---- reversals

pub orders_ones : (f s : ℕ) → bits f 7 9 ≡ 501 → bits f 4 3 ≡ 1 → bits s 6 2 ≢ 2 → decode_of f s ≡ Undefined Wide
unfolding rows decode_of
orders_ones f s h0 h1 h2 = known_by refusals rows (first 7 9 501 ∷ first 4 3 1 ∷ []) ((second 6 2 2 ∷ []) ∷ []) f s (and_from _ _ (eq-eqb _ _ h0) (eq-eqb _ _ h1)) (ne_eqb _ _ h2)

pub orders_rev_w : (f s : ℕ) → bits f 7 9 ≡ 501 → bits f 4 3 ≡ 1 → bits s 12 4 ≡ 15 → bits s 6 2 ≡ 2 → bits s 4 2 ≡ 0 → decode_of f s ≡ (if plain2_same (bits s 8 4) (bits s 0 4) (bits f 0 4) then One (insns.Reverse reverses.Rev (bits s 8 4) (bits s 0 4)) Wide else Undefined Wide)
unfolding rows decode_of
orders_rev_w f s h0 h1 h2 h3 h4 = known_by refusals rows (first 7 9 501 ∷ first 4 3 1 ∷ second 12 4 15 ∷ second 6 2 2 ∷ second 4 2 0 ∷ []) ([]) f s (and_from _ _ (eq-eqb _ _ h0) (and_from _ _ (eq-eqb _ _ h1) (and_from _ _ (eq-eqb _ _ h2) (and_from _ _ (eq-eqb _ _ h3) (eq-eqb _ _ h4))))) refl

pub orders_rev16_w : (f s : ℕ) → bits f 7 9 ≡ 501 → bits f 4 3 ≡ 1 → bits s 12 4 ≡ 15 → bits s 6 2 ≡ 2 → bits s 4 2 ≡ 1 → decode_of f s ≡ (if plain2_same (bits s 8 4) (bits s 0 4) (bits f 0 4) then One (insns.Reverse reverses.Rev16 (bits s 8 4) (bits s 0 4)) Wide else Undefined Wide)
unfolding rows decode_of
orders_rev16_w f s h0 h1 h2 h3 h4 = known_by refusals rows (first 7 9 501 ∷ first 4 3 1 ∷ second 12 4 15 ∷ second 6 2 2 ∷ second 4 2 1 ∷ []) ([]) f s (and_from _ _ (eq-eqb _ _ h0) (and_from _ _ (eq-eqb _ _ h1) (and_from _ _ (eq-eqb _ _ h2) (and_from _ _ (eq-eqb _ _ h3) (eq-eqb _ _ h4))))) refl

pub orders_rbit : (f s : ℕ) → bits f 7 9 ≡ 501 → bits f 4 3 ≡ 1 → bits s 12 4 ≡ 15 → bits s 6 2 ≡ 2 → bits s 4 2 ≡ 2 → decode_of f s ≡ (if plain2_same (bits s 8 4) (bits s 0 4) (bits f 0 4) then One (insns.Reverse reverses.Rbit (bits s 8 4) (bits s 0 4)) Wide else Undefined Wide)
unfolding rows decode_of
orders_rbit f s h0 h1 h2 h3 h4 = known_by refusals rows (first 7 9 501 ∷ first 4 3 1 ∷ second 12 4 15 ∷ second 6 2 2 ∷ second 4 2 2 ∷ []) ([]) f s (and_from _ _ (eq-eqb _ _ h0) (and_from _ _ (eq-eqb _ _ h1) (and_from _ _ (eq-eqb _ _ h2) (and_from _ _ (eq-eqb _ _ h3) (eq-eqb _ _ h4))))) refl

pub orders_revsh_w : (f s : ℕ) → bits f 7 9 ≡ 501 → bits f 4 3 ≡ 1 → bits s 12 4 ≡ 15 → bits s 6 2 ≡ 2 → bits s 4 2 ≡ 3 → decode_of f s ≡ (if plain2_same (bits s 8 4) (bits s 0 4) (bits f 0 4) then One (insns.Reverse reverses.Revsh (bits s 8 4) (bits s 0 4)) Wide else Undefined Wide)
unfolding rows decode_of
orders_revsh_w f s h0 h1 h2 h3 h4 = known_by refusals rows (first 7 9 501 ∷ first 4 3 1 ∷ second 12 4 15 ∷ second 6 2 2 ∷ second 4 2 3 ∷ []) ([]) f s (and_from _ _ (eq-eqb _ _ h0) (and_from _ _ (eq-eqb _ _ h1) (and_from _ _ (eq-eqb _ _ h2) (and_from _ _ (eq-eqb _ _ h3) (eq-eqb _ _ h4))))) refl

pub ruleset orders = (orders_ones, orders_rev_w, orders_rev16_w, orders_rbit, orders_revsh_w)

-- ---- 111110110

pub multiplications_high : (f s : ℕ) → bits f 7 9 ≡ 502 → bits f 4 3 ≢ 0 → decode_of f s ≡ Undefined Wide
unfolding rows decode_of
multiplications_high f s h0 h1 = known_by refusals rows (first 7 9 502 ∷ []) ((first 4 3 0 ∷ []) ∷ []) f s (eq-eqb _ _ h0) (ne_eqb _ _ h1)

pub multiplications_low : (f s : ℕ) → bits f 7 9 ≡ 502 → bits s 5 3 ≢ 0 → decode_of f s ≡ Undefined Wide
unfolding rows decode_of
multiplications_low f s h0 h1 = known_by refusals rows (first 7 9 502 ∷ []) ((second 5 3 0 ∷ []) ∷ []) f s (eq-eqb _ _ h0) (ne_eqb _ _ h1)

pub multiplications_mls : (f s : ℕ) → bits f 7 9 ≡ 502 → bits f 4 3 ≡ 0 → bits s 5 3 ≡ 0 → bits s 4 1 ≡ 1 → decode_of f s ≡ (if plain4 (bits s 8 4) (bits f 0 4) (bits s 0 4) (bits s 12 4) then One (insns.Multiply multiplies.Mls flags.Never (bits s 8 4) (bits f 0 4) (bits s 0 4) (bits s 12 4)) Wide else Undefined Wide)
unfolding rows decode_of
multiplications_mls f s h0 h1 h2 h3 = known_by refusals rows (first 7 9 502 ∷ first 4 3 0 ∷ second 5 3 0 ∷ second 4 1 1 ∷ []) ([]) f s (and_from _ _ (eq-eqb _ _ h0) (and_from _ _ (eq-eqb _ _ h1) (and_from _ _ (eq-eqb _ _ h2) (eq-eqb _ _ h3)))) refl

pub multiplications_mul_w : (f s : ℕ) → bits f 7 9 ≡ 502 → bits f 4 3 ≡ 0 → bits s 4 4 ≡ 0 → bits s 12 4 ≡ 15 → decode_of f s ≡ (if plain3 (bits s 8 4) (bits f 0 4) (bits s 0 4) then One (insns.Multiply multiplies.Mul flags.Never (bits s 8 4) (bits f 0 4) (bits s 0 4) 0) Wide else Undefined Wide)
unfolding rows decode_of
multiplications_mul_w f s h0 h1 h2 h3 = known_by refusals rows (first 7 9 502 ∷ first 4 3 0 ∷ second 4 4 0 ∷ second 12 4 15 ∷ []) ([]) f s (and_from _ _ (eq-eqb _ _ h0) (and_from _ _ (eq-eqb _ _ h1) (and_from _ _ (eq-eqb _ _ h2) (eq-eqb _ _ h3)))) refl

pub multiplications_mla : (f s : ℕ) → bits f 7 9 ≡ 502 → bits f 4 3 ≡ 0 → bits s 4 4 ≡ 0 → bits s 12 4 ≢ 15 → decode_of f s ≡ (if plain4 (bits s 8 4) (bits f 0 4) (bits s 0 4) (bits s 12 4) then One (insns.Multiply multiplies.Mla flags.Never (bits s 8 4) (bits f 0 4) (bits s 0 4) (bits s 12 4)) Wide else Undefined Wide)
unfolding rows decode_of
multiplications_mla f s h0 h1 h2 h3 = known_by refusals rows (first 7 9 502 ∷ first 4 3 0 ∷ second 4 4 0 ∷ []) ((second 12 4 15 ∷ []) ∷ []) f s (and_from _ _ (eq-eqb _ _ h0) (and_from _ _ (eq-eqb _ _ h1) (eq-eqb _ _ h2))) (ne_eqb _ _ h3)

pub ruleset multiplications = (multiplications_high, multiplications_low, multiplications_mls, multiplications_mul_w, multiplications_mla)

-- ---- 111110111..0

pub long_multiplications_low : (f s : ℕ) → bits f 7 9 ≡ 503 → bits f 4 1 ≡ 0 → bits s 4 4 ≢ 0 → decode_of f s ≡ Undefined Wide
unfolding rows decode_of
long_multiplications_low f s h0 h1 h2 = known_by refusals rows (first 7 9 503 ∷ first 4 1 0 ∷ []) ((second 4 4 0 ∷ []) ∷ []) f s (and_from _ _ (eq-eqb _ _ h0) (eq-eqb _ _ h1)) (ne_eqb _ _ h2)

pub long_multiplications_smull : (f s : ℕ) → bits f 7 9 ≡ 503 → bits f 4 1 ≡ 0 → bits s 4 4 ≡ 0 → bits f 5 2 ≡ 0 → decode_of f s ≡ (if can_multiply_long (bits s 12 4) (bits s 8 4) (bits f 0 4) (bits s 0 4) then One (insns.MultiplyLong longs.Smull (bits s 12 4) (bits s 8 4) (bits f 0 4) (bits s 0 4)) Wide else Undefined Wide)
unfolding rows decode_of
long_multiplications_smull f s h0 h1 h2 h3 = known_by refusals rows (first 7 9 503 ∷ first 4 1 0 ∷ second 4 4 0 ∷ first 5 2 0 ∷ []) ([]) f s (and_from _ _ (eq-eqb _ _ h0) (and_from _ _ (eq-eqb _ _ h1) (and_from _ _ (eq-eqb _ _ h2) (eq-eqb _ _ h3)))) refl

pub long_multiplications_umull : (f s : ℕ) → bits f 7 9 ≡ 503 → bits f 4 1 ≡ 0 → bits s 4 4 ≡ 0 → bits f 5 2 ≡ 1 → decode_of f s ≡ (if can_multiply_long (bits s 12 4) (bits s 8 4) (bits f 0 4) (bits s 0 4) then One (insns.MultiplyLong longs.Umull (bits s 12 4) (bits s 8 4) (bits f 0 4) (bits s 0 4)) Wide else Undefined Wide)
unfolding rows decode_of
long_multiplications_umull f s h0 h1 h2 h3 = known_by refusals rows (first 7 9 503 ∷ first 4 1 0 ∷ second 4 4 0 ∷ first 5 2 1 ∷ []) ([]) f s (and_from _ _ (eq-eqb _ _ h0) (and_from _ _ (eq-eqb _ _ h1) (and_from _ _ (eq-eqb _ _ h2) (eq-eqb _ _ h3)))) refl

pub long_multiplications_smlal : (f s : ℕ) → bits f 7 9 ≡ 503 → bits f 4 1 ≡ 0 → bits s 4 4 ≡ 0 → bits f 5 2 ≡ 2 → decode_of f s ≡ (if can_multiply_long (bits s 12 4) (bits s 8 4) (bits f 0 4) (bits s 0 4) then One (insns.MultiplyLong longs.Smlal (bits s 12 4) (bits s 8 4) (bits f 0 4) (bits s 0 4)) Wide else Undefined Wide)
unfolding rows decode_of
long_multiplications_smlal f s h0 h1 h2 h3 = known_by refusals rows (first 7 9 503 ∷ first 4 1 0 ∷ second 4 4 0 ∷ first 5 2 2 ∷ []) ([]) f s (and_from _ _ (eq-eqb _ _ h0) (and_from _ _ (eq-eqb _ _ h1) (and_from _ _ (eq-eqb _ _ h2) (eq-eqb _ _ h3)))) refl

pub long_multiplications_umlal : (f s : ℕ) → bits f 7 9 ≡ 503 → bits f 4 1 ≡ 0 → bits s 4 4 ≡ 0 → bits f 5 2 ≡ 3 → decode_of f s ≡ (if can_multiply_long (bits s 12 4) (bits s 8 4) (bits f 0 4) (bits s 0 4) then One (insns.MultiplyLong longs.Umlal (bits s 12 4) (bits s 8 4) (bits f 0 4) (bits s 0 4)) Wide else Undefined Wide)
unfolding rows decode_of
long_multiplications_umlal f s h0 h1 h2 h3 = known_by refusals rows (first 7 9 503 ∷ first 4 1 0 ∷ second 4 4 0 ∷ first 5 2 3 ∷ []) ([]) f s (and_from _ _ (eq-eqb _ _ h0) (and_from _ _ (eq-eqb _ _ h1) (and_from _ _ (eq-eqb _ _ h2) (eq-eqb _ _ h3)))) refl

pub ruleset long_multiplications = (long_multiplications_low, long_multiplications_smull, long_multiplications_umull, long_multiplications_smlal, long_multiplications_umlal)

-- ---- 111110111..1

pub divisions_high : (f s : ℕ) → bits f 7 9 ≡ 503 → bits f 4 1 ≡ 1 → bits s 12 4 ≢ 15 → decode_of f s ≡ Undefined Wide
unfolding rows decode_of
divisions_high f s h0 h1 h2 = known_by refusals rows (first 7 9 503 ∷ first 4 1 1 ∷ []) ((second 12 4 15 ∷ []) ∷ []) f s (and_from _ _ (eq-eqb _ _ h0) (eq-eqb _ _ h1)) (ne_eqb _ _ h2)

pub divisions_low : (f s : ℕ) → bits f 7 9 ≡ 503 → bits f 4 1 ≡ 1 → bits s 4 4 ≢ 15 → decode_of f s ≡ Undefined Wide
unfolding rows decode_of
divisions_low f s h0 h1 h2 = known_by refusals rows (first 7 9 503 ∷ first 4 1 1 ∷ []) ((second 4 4 15 ∷ []) ∷ []) f s (and_from _ _ (eq-eqb _ _ h0) (eq-eqb _ _ h1)) (ne_eqb _ _ h2)

pub divisions_sdiv : (f s : ℕ) → bits f 7 9 ≡ 503 → bits f 4 1 ≡ 1 → bits s 12 4 ≡ 15 → bits s 4 4 ≡ 15 → bits f 5 2 ≡ 0 → decode_of f s ≡ (if plain3 (bits s 8 4) (bits f 0 4) (bits s 0 4) then One (insns.Divide true (bits s 8 4) (bits f 0 4) (bits s 0 4)) Wide else Undefined Wide)
unfolding rows decode_of
divisions_sdiv f s h0 h1 h2 h3 h4 = known_by refusals rows (first 7 9 503 ∷ first 4 1 1 ∷ second 12 4 15 ∷ second 4 4 15 ∷ first 5 2 0 ∷ []) ([]) f s (and_from _ _ (eq-eqb _ _ h0) (and_from _ _ (eq-eqb _ _ h1) (and_from _ _ (eq-eqb _ _ h2) (and_from _ _ (eq-eqb _ _ h3) (eq-eqb _ _ h4))))) refl

pub divisions_udiv : (f s : ℕ) → bits f 7 9 ≡ 503 → bits f 4 1 ≡ 1 → bits s 12 4 ≡ 15 → bits s 4 4 ≡ 15 → bits f 5 2 ≡ 1 → decode_of f s ≡ (if plain3 (bits s 8 4) (bits f 0 4) (bits s 0 4) then One (insns.Divide false (bits s 8 4) (bits f 0 4) (bits s 0 4)) Wide else Undefined Wide)
unfolding rows decode_of
divisions_udiv f s h0 h1 h2 h3 h4 = known_by refusals rows (first 7 9 503 ∷ first 4 1 1 ∷ second 12 4 15 ∷ second 4 4 15 ∷ first 5 2 1 ∷ []) ([]) f s (and_from _ _ (eq-eqb _ _ h0) (and_from _ _ (eq-eqb _ _ h1) (and_from _ _ (eq-eqb _ _ h2) (and_from _ _ (eq-eqb _ _ h3) (eq-eqb _ _ h4))))) refl

pub divisions_other : (f s : ℕ) → bits f 7 9 ≡ 503 → bits f 4 1 ≡ 1 → bits f 5 2 ≢ 0 → bits f 5 2 ≢ 1 → decode_of f s ≡ Undefined Wide
unfolding rows decode_of
divisions_other f s h0 h1 h2 h3 = known_by refusals rows (first 7 9 503 ∷ first 4 1 1 ∷ []) ((first 5 2 0 ∷ []) ∷ (first 5 2 1 ∷ []) ∷ []) f s (and_from _ _ (eq-eqb _ _ h0) (eq-eqb _ _ h1)) (or_from _ _ (ne_eqb _ _ h2) (ne_eqb _ _ h3))

pub ruleset divisions = (divisions_high, divisions_low, divisions_sdiv, divisions_udiv, divisions_other)
