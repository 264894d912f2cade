-- What the codes that begin with 11110 and have 1 in the second halfword mean, leaf by leaf of the decoder.
use Rattle.std.proofs.Common.{◌≡◌, ◌≢◌, ℕ, [], ◌∷◌, refl}
use Rattle.std.specs.Prelude.{◌+◌, ◌*◌, if◌then◌else◌}
use Rattle.std.proofs.lemmas.Bool.{and_from, or_from, eq-eqb, ne_eqb}
use Rattle.tz_table.specs.Fields.{bits}
use Rattle.tz_table.specs.Patterns.{first, second}
use Rattle.tz_table.specs.Terms.{signed_by, far_offset, condition_offset}
use Rattle.tz_table.specs.Limits.{can_name}
use Rattle.tz_table.specs.Table.{rows, refusals, decode_of}
use Rattle.tz_table.proofs.Scans.{known_by}
use Rattle.tz_table.specs.declared.Decoded.TheVariants.{One, Undefined}
use Rattle.tz_table.specs.declared.Width.TheVariants.{Wide}
use Rattle.tz_table.specs.declared.Insn.TheVariants as insns
use Rattle.tz_table.specs.declared.BarrierOp.TheVariants as barriers

-- ---- branches

pub branches_link_exchange : (f s : ℕ) → bits f 11 5 ≡ 30 → bits s 14 2 ≡ 3 → bits s 12 1 ≡ 0 → decode_of f s ≡ Undefined Wide
unfolding rows decode_of
branches_link_exchange f s h0 h1 h2 = known_by refusals rows (first 11 5 30 ∷ second 14 2 3 ∷ second 12 1 0 ∷ []) ([]) f s (and_from _ _ (eq-eqb _ _ h0) (and_from _ _ (eq-eqb _ _ h1) (eq-eqb _ _ h2))) refl

pub branches_branch_w : (f s : ℕ) → bits f 11 5 ≡ 30 → bits s 14 2 ≡ 2 → bits s 12 1 ≡ 1 → decode_of f s ≡ One (insns.Branch (signed_by 16777216 (far_offset f s))) Wide
unfolding rows decode_of
branches_branch_w f s h0 h1 h2 = known_by refusals rows (first 11 5 30 ∷ second 14 2 2 ∷ second 12 1 1 ∷ []) ([]) f s (and_from _ _ (eq-eqb _ _ h0) (and_from _ _ (eq-eqb _ _ h1) (eq-eqb _ _ h2))) refl

pub branches_bl : (f s : ℕ) → bits f 11 5 ≡ 30 → bits s 14 2 ≡ 3 → bits s 12 1 ≡ 1 → decode_of f s ≡ One (insns.BranchLink (signed_by 16777216 (far_offset f s))) Wide
unfolding rows decode_of
branches_bl f s h0 h1 h2 = known_by refusals rows (first 11 5 30 ∷ second 14 2 3 ∷ second 12 1 1 ∷ []) ([]) f s (and_from _ _ (eq-eqb _ _ h0) (and_from _ _ (eq-eqb _ _ h1) (eq-eqb _ _ h2))) refl

pub ruleset branches = (branches_link_exchange, branches_branch_w, branches_bl)

-- ---- conditional branches

pub conditional_bcond_w : (f s : ℕ) → bits f 11 5 ≡ 30 → bits s 14 2 ≡ 2 → bits s 12 1 ≡ 0 → bits f 6 4 ≢ 14 → bits f 6 4 ≢ 15 → decode_of f s ≡ One (insns.BranchIf (bits f 6 4) (signed_by 1048576 (condition_offset f s))) Wide
unfolding rows decode_of
conditional_bcond_w f s h0 h1 h2 h3 h4 = known_by refusals rows (first 11 5 30 ∷ second 14 2 2 ∷ second 12 1 0 ∷ []) ((first 6 4 14 ∷ []) ∷ (first 6 4 15 ∷ []) ∷ []) f s (and_from _ _ (eq-eqb _ _ h0) (and_from _ _ (eq-eqb _ _ h1) (eq-eqb _ _ h2))) (or_from _ _ (ne_eqb _ _ h3) (ne_eqb _ _ h4))

pub ruleset conditional = (conditional_bcond_w)

-- ---- 11110.1110

pub registers_msr : (f s : ℕ) → bits f 4 12 ≡ 3896 → bits s 8 8 ≡ 136 → decode_of f s ≡ (if can_name (bits f 0 4) (bits s 0 8) then One (insns.WriteSpecial (bits f 0 4) (bits s 0 8)) Wide else Undefined Wide)
unfolding rows decode_of
registers_msr f s h0 h1 = known_by refusals rows (first 4 12 3896 ∷ second 8 8 136 ∷ []) ([]) f s (and_from _ _ (eq-eqb _ _ h0) (eq-eqb _ _ h1)) refl

pub registers_msr_ones : (f s : ℕ) → bits f 4 12 ≡ 3896 → bits s 14 2 ≡ 2 → bits s 12 1 ≡ 0 → bits s 8 8 ≢ 136 → decode_of f s ≡ Undefined Wide
unfolding rows decode_of
registers_msr_ones f s h0 h1 h2 h3 = known_by refusals rows (first 4 12 3896 ∷ second 14 2 2 ∷ second 12 1 0 ∷ []) ((second 8 8 136 ∷ []) ∷ []) f s (and_from _ _ (eq-eqb _ _ h0) (and_from _ _ (eq-eqb _ _ h1) (eq-eqb _ _ h2))) (ne_eqb _ _ h3)

pub registers_hint_w : (f s : ℕ) → bits f 0 16 ≡ 62383 → bits s 8 8 ≡ 128 → decode_of f s ≡ One (insns.Hint (bits s 0 8)) Wide
unfolding rows decode_of
registers_hint_w f s h0 h1 = known_by refusals rows (first 0 16 62383 ∷ second 8 8 128 ∷ []) ([]) f s (and_from _ _ (eq-eqb _ _ h0) (eq-eqb _ _ h1)) refl

pub registers_hint_ones : (f s : ℕ) → bits f 0 16 ≡ 62383 → bits s 14 2 ≡ 2 → bits s 12 1 ≡ 0 → bits s 8 8 ≢ 128 → decode_of f s ≡ Undefined Wide
unfolding rows decode_of
registers_hint_ones f s h0 h1 h2 h3 = known_by refusals rows (first 0 16 62383 ∷ second 14 2 2 ∷ second 12 1 0 ∷ []) ((second 8 8 128 ∷ []) ∷ []) f s (and_from _ _ (eq-eqb _ _ h0) (and_from _ _ (eq-eqb _ _ h1) (eq-eqb _ _ h2))) (ne_eqb _ _ h3)

pub registers_other : (f s : ℕ) → bits f 11 5 ≡ 30 → bits s 14 2 ≡ 2 → bits s 12 1 ≡ 0 → bits f 6 4 ≡ 14 → bits f 4 12 ≢ 3896 → bits f 0 16 ≢ 62383 → bits f 0 16 ≢ 62399 → decode_of f s ≡ Undefined Wide
unfolding rows decode_of
registers_other f s h0 h1 h2 h3 h4 h5 h6 = known_by refusals rows (first 11 5 30 ∷ second 14 2 2 ∷ second 12 1 0 ∷ first 6 4 14 ∷ []) ((first 4 12 3896 ∷ []) ∷ (first 0 16 62383 ∷ []) ∷ (first 0 16 62399 ∷ []) ∷ []) f s (and_from _ _ (eq-eqb _ _ h0) (and_from _ _ (eq-eqb _ _ h1) (and_from _ _ (eq-eqb _ _ h2) (eq-eqb _ _ h3)))) (or_from _ _ (ne_eqb _ _ h4) (or_from _ _ (ne_eqb _ _ h5) (ne_eqb _ _ h6)))

pub ruleset registers = (registers_msr, registers_msr_ones, registers_hint_w, registers_hint_ones, registers_other)

-- ---- barriers

pub barrier_codes_ones : (f s : ℕ) → bits f 0 16 ≡ 62399 → bits s 14 2 ≡ 2 → bits s 12 1 ≡ 0 → bits s 8 8 ≢ 143 → decode_of f s ≡ Undefined Wide
unfolding rows decode_of
barrier_codes_ones f s h0 h1 h2 h3 = known_by refusals rows (first 0 16 62399 ∷ second 14 2 2 ∷ second 12 1 0 ∷ []) ((second 8 8 143 ∷ []) ∷ []) f s (and_from _ _ (eq-eqb _ _ h0) (and_from _ _ (eq-eqb _ _ h1) (eq-eqb _ _ h2))) (ne_eqb _ _ h3)

pub barrier_codes_dsb : (f s : ℕ) → bits f 0 16 ≡ 62399 → bits s 8 8 ≡ 143 → bits s 4 4 ≡ 4 → decode_of f s ≡ One (insns.Barrier barriers.Dsb (bits s 0 4)) Wide
unfolding rows decode_of
barrier_codes_dsb f s h0 h1 h2 = known_by refusals rows (first 0 16 62399 ∷ second 8 8 143 ∷ second 4 4 4 ∷ []) ([]) f s (and_from _ _ (eq-eqb _ _ h0) (and_from _ _ (eq-eqb _ _ h1) (eq-eqb _ _ h2))) refl

pub barrier_codes_dmb : (f s : ℕ) → bits f 0 16 ≡ 62399 → bits s 8 8 ≡ 143 → bits s 4 4 ≡ 5 → decode_of f s ≡ One (insns.Barrier barriers.Dmb (bits s 0 4)) Wide
unfolding rows decode_of
barrier_codes_dmb f s h0 h1 h2 = known_by refusals rows (first 0 16 62399 ∷ second 8 8 143 ∷ second 4 4 5 ∷ []) ([]) f s (and_from _ _ (eq-eqb _ _ h0) (and_from _ _ (eq-eqb _ _ h1) (eq-eqb _ _ h2))) refl

pub barrier_codes_isb : (f s : ℕ) → bits f 0 16 ≡ 62399 → bits s 8 8 ≡ 143 → bits s 4 4 ≡ 6 → decode_of f s ≡ One (insns.Barrier barriers.Isb (bits s 0 4)) Wide
unfolding rows decode_of
barrier_codes_isb f s h0 h1 h2 = known_by refusals rows (first 0 16 62399 ∷ second 8 8 143 ∷ second 4 4 6 ∷ []) ([]) f s (and_from _ _ (eq-eqb _ _ h0) (and_from _ _ (eq-eqb _ _ h1) (eq-eqb _ _ h2))) refl

pub barrier_codes_other : (f s : ℕ) → bits f 0 16 ≡ 62399 → bits s 8 8 ≡ 143 → bits s 4 4 ≢ 2 → bits s 4 4 ≢ 4 → bits s 4 4 ≢ 5 → bits s 4 4 ≢ 6 → decode_of f s ≡ Undefined Wide
unfolding rows decode_of
barrier_codes_other f s h0 h1 h2 h3 h4 h5 = known_by refusals rows (first 0 16 62399 ∷ second 8 8 143 ∷ []) ((second 4 4 2 ∷ []) ∷ (second 4 4 4 ∷ []) ∷ (second 4 4 5 ∷ []) ∷ (second 4 4 6 ∷ []) ∷ []) f s (and_from _ _ (eq-eqb _ _ h0) (eq-eqb _ _ h1)) (or_from _ _ (ne_eqb _ _ h2) (or_from _ _ (ne_eqb _ _ h3) (or_from _ _ (ne_eqb _ _ h4) (ne_eqb _ _ h5))))

pub ruleset barrier_codes = (barrier_codes_ones, barrier_codes_dsb, barrier_codes_dmb, barrier_codes_isb, barrier_codes_other)

-- ---- clrex

pub clear_exclusive_clrex : (f s : ℕ) → bits f 0 16 ≡ 62399 → bits s 8 8 ≡ 143 → bits s 4 4 ≡ 2 → bits s 0 4 ≡ 15 → decode_of f s ≡ One (insns.Barrier barriers.Clrex 15) Wide
unfolding rows decode_of
clear_exclusive_clrex f s h0 h1 h2 h3 = known_by refusals rows (first 0 16 62399 ∷ second 8 8 143 ∷ second 4 4 2 ∷ second 0 4 15 ∷ []) ([]) f s (and_from _ _ (eq-eqb _ _ h0) (and_from _ _ (eq-eqb _ _ h1) (and_from _ _ (eq-eqb _ _ h2) (eq-eqb _ _ h3)))) refl

pub clear_exclusive_ones : (f s : ℕ) → bits f 0 16 ≡ 62399 → bits s 8 8 ≡ 143 → bits s 4 4 ≡ 2 → bits s 0 4 ≢ 15 → decode_of f s ≡ Undefined Wide
unfolding rows decode_of
clear_exclusive_ones f s h0 h1 h2 h3 = known_by refusals rows (first 0 16 62399 ∷ second 8 8 143 ∷ second 4 4 2 ∷ []) ((second 0 4 15 ∷ []) ∷ []) f s (and_from _ _ (eq-eqb _ _ h0) (and_from _ _ (eq-eqb _ _ h1) (eq-eqb _ _ h2))) (ne_eqb _ _ h3)

pub ruleset clear_exclusive = (clear_exclusive_clrex, clear_exclusive_ones)

-- ---- 11110.1111

pub hints_mrs : (f s : ℕ) → bits f 0 16 ≡ 62447 → bits s 12 4 ≡ 8 → decode_of f s ≡ (if can_name (bits s 8 4) (bits s 0 8) then One (insns.ReadSpecial (bits s 8 4) (bits s 0 8)) Wide else Undefined Wide)
unfolding rows decode_of
hints_mrs f s h0 h1 = known_by refusals rows (first 0 16 62447 ∷ second 12 4 8 ∷ []) ([]) f s (and_from _ _ (eq-eqb _ _ h0) (eq-eqb _ _ h1)) refl

pub hints_mrs_ones : (f s : ℕ) → bits f 0 16 ≡ 62447 → bits s 14 2 ≡ 2 → bits s 12 1 ≡ 0 → bits s 12 4 ≢ 8 → decode_of f s ≡ Undefined Wide
unfolding rows decode_of
hints_mrs_ones f s h0 h1 h2 h3 = known_by refusals rows (first 0 16 62447 ∷ second 14 2 2 ∷ second 12 1 0 ∷ []) ((second 12 4 8 ∷ []) ∷ []) f s (and_from _ _ (eq-eqb _ _ h0) (and_from _ _ (eq-eqb _ _ h1) (eq-eqb _ _ h2))) (ne_eqb _ _ h3)

pub hints_udf_w : (f s : ℕ) → bits f 4 12 ≡ 3967 → bits s 12 4 ≡ 10 → decode_of f s ≡ One (insns.Undefined (bits f 0 4 * 4096 + bits s 0 12)) Wide
unfolding rows decode_of
hints_udf_w f s h0 h1 = known_by refusals rows (first 4 12 3967 ∷ second 12 4 10 ∷ []) ([]) f s (and_from _ _ (eq-eqb _ _ h0) (eq-eqb _ _ h1)) refl

pub hints_udf_ones : (f s : ℕ) → bits f 4 12 ≡ 3967 → bits s 14 2 ≡ 2 → bits s 12 1 ≡ 0 → bits s 12 4 ≢ 10 → decode_of f s ≡ Undefined Wide
unfolding rows decode_of
hints_udf_ones f s h0 h1 h2 h3 = known_by refusals rows (first 4 12 3967 ∷ second 14 2 2 ∷ second 12 1 0 ∷ []) ((second 12 4 10 ∷ []) ∷ []) f s (and_from _ _ (eq-eqb _ _ h0) (and_from _ _ (eq-eqb _ _ h1) (eq-eqb _ _ h2))) (ne_eqb _ _ h3)

pub hints_other : (f s : ℕ) → bits f 11 5 ≡ 30 → bits s 14 2 ≡ 2 → bits s 12 1 ≡ 0 → bits f 6 4 ≡ 15 → bits f 0 16 ≢ 62447 → bits f 4 12 ≢ 3967 → decode_of f s ≡ Undefined Wide
unfolding rows decode_of
hints_other f s h0 h1 h2 h3 h4 h5 = known_by refusals rows (first 11 5 30 ∷ second 14 2 2 ∷ second 12 1 0 ∷ first 6 4 15 ∷ []) ((first 0 16 62447 ∷ []) ∷ (first 4 12 3967 ∷ []) ∷ []) f s (and_from _ _ (eq-eqb _ _ h0) (and_from _ _ (eq-eqb _ _ h1) (and_from _ _ (eq-eqb _ _ h2) (eq-eqb _ _ h3)))) (or_from _ _ (ne_eqb _ _ h4) (ne_eqb _ _ h5))

pub ruleset hints = (hints_mrs, hints_mrs_ones, hints_udf_w, hints_udf_ones, hints_other)
