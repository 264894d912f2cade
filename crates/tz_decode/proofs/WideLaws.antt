-- What the codes of coprocessors mean.
use Rattle.std.proofs.Common.{◌≡◌, ◌≢◌, ℕ, [], ◌∷◌, refl}
use Rattle.std.specs.Prelude.{if◌then◌else◌}
use Rattle.std.proofs.lemmas.Bool.{and_from, eq-eqb, ne_eqb}
use Rattle.tz_table.specs.Fields.{bits}
use Rattle.tz_table.specs.Patterns.{first, second}
use Rattle.tz_table.specs.Terms.{is_one}
use Rattle.tz_table.specs.Limits.{not_pc}
use Rattle.tz_table.specs.Table.{rows, refusals, decode_of}
use Rattle.tz_table.proofs.Scans.{known_by}
use Rattle.tz_table.specs.declared.Decoded.TheVariants.{One, NoCoprocessor}
use Rattle.tz_table.specs.declared.Width.TheVariants.{Wide}
use Rattle.tz_table.specs.declared.Insn.TheVariants as insns

-- ---- 111111

pub wide_coprocessor : (f s : ℕ) → bits f 10 6 ≡ 63 → decode_of f s ≡ NoCoprocessor
unfolding rows decode_of
wide_coprocessor f s h0 = known_by refusals rows (first 10 6 63 ∷ []) ([]) f s (eq-eqb _ _ h0) refl

pub ruleset wide = (wide_coprocessor)

-- ---- 111011

pub lazy_state_first : (f s : ℕ) → bits f 10 6 ≡ 59 → bits f 5 11 ≢ 1889 → decode_of f s ≡ NoCoprocessor
unfolding rows decode_of
lazy_state_first f s h0 h1 = known_by refusals rows (first 10 6 59 ∷ []) ((first 5 11 1889 ∷ []) ∷ []) f s (eq-eqb _ _ h0) (ne_eqb _ _ h1)

pub lazy_state_second : (f s : ℕ) → bits f 5 11 ≡ 1889 → bits s 0 16 ≢ 2560 → decode_of f s ≡ NoCoprocessor
unfolding rows decode_of
lazy_state_second f s h0 h1 = known_by refusals rows (first 5 11 1889 ∷ []) ((second 0 16 2560 ∷ []) ∷ []) f s (eq-eqb _ _ h0) (ne_eqb _ _ h1)

pub lazy_state_vlstm : (f s : ℕ) → bits f 5 11 ≡ 1889 → bits s 0 16 ≡ 2560 → decode_of f s ≡ (if not_pc (bits f 0 4) then One (insns.LazyState (is_one (bits f 4 1)) (bits f 0 4)) Wide else NoCoprocessor)
unfolding rows decode_of
lazy_state_vlstm f s h0 h1 = known_by refusals rows (first 5 11 1889 ∷ second 0 16 2560 ∷ []) ([]) f s (and_from _ _ (eq-eqb _ _ h0) (eq-eqb _ _ h1)) refl

pub ruleset lazy_state = (lazy_state_first, lazy_state_second, lazy_state_vlstm)
