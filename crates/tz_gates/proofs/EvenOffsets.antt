-- Branches of the instruction table go to even addresses from even ones.
use Rattle.std.proofs.Common.{◌≡◌, ◌≢◌, ℕ, zero, suc, ℤ, pos, negsuc, ◌-◌, ◌*◌, ◌%◌, Bool, true, false, List, [], ◌∷◌, neg_ℤ, refl, subst, arith, inl, inr}
use Rattle.std.specs.Prelude.{◌==◌, nat_lt}
use Rattle.std.specs.List.{list_all}
use Rattle.std.proofs.lemmas.Bool.{and_parts, and_from, cases_Bool, cond_both}
use Rattle.std.proofs.lemmas.Bool.Decides.{nat_tests}
use Rattle.tz_table.specs.Rows.{TableRow, RefusedCodes, holds, refused, scan}
use Rattle.tz_table.specs.NarrowRows as narrow
use Rattle.tz_table.specs.BranchRows as wide
use Rattle.tz_table.specs.Fields.{bits}
use Rattle.tz_table.specs.Patterns.{in_cube}
use Rattle.tz_table.specs.Terms.{signed_by, condition_offset, far_offset}
use Rattle.tz_table.specs.Table.{rows, refusals, decode_of}
use Rattle.tz_table.specs.declared.decoded.Decoded.{Decoded}
use Rattle.tz_table.specs.declared.decoded.Decoded.TheVariants.{One, NoCoprocessor, Undefined}
use Rattle.tz_table.specs.declared.instruction.Insn.{Insn}
use Rattle.tz_table.specs.declared.instruction.Insn.TheVariants as insns
use Rattle.tz_table.specs.declared.units.Width.{Width}
use Rattle.tz_table.specs.declared.units.Width.TheVariants.{Narrow}

-- negsuc n is the number below minus n
abbrev pub is_even_number : ℤ → Bool
is_even_number (pos n) = n % 2 == 0
is_even_number (negsuc n) = n % 2 == 1

-- a branch by a distance goes by an even one
abbrev pub goes_evenly : Insn → Bool
goes_evenly (insns.Branch offset) = is_even_number offset
goes_evenly (insns.BranchIf c offset) = is_even_number offset
goes_evenly (insns.BranchLink offset) = is_even_number offset
goes_evenly (insns.BranchZero nonzero rn offset) = is_even_number offset
goes_evenly insn = true

-- ---- distances

even_pos : (n : ℕ) → n % 2 ≡ 0 → is_even_number (pos n) ≡ true
even_pos n e = grind (arith, nat_tests)

even_neg : (n : ℕ) → n % 2 ≡ 0 → is_even_number (neg_ℤ (pos n)) ≡ true
even_neg zero e = refl
even_neg (suc n) e = let odd : n % 2 ≡ 1 = omega arith in grind (arith, nat_tests)

even_signed : (half n : ℕ) → n % 2 ≡ 0 → is_even_number (signed_by half n) ≡ true
even_signed half n e = cond_both (nat_lt n half) (pos n) (neg_ℤ (pos (2 * half - n))) (λ (z : ℤ). is_even_number z ≡ true) (λ _. even_pos n e) (λ _. even_neg (2 * half - n) (omega arith))

-- ---- rows

even_condition : (f s : ℕ) → condition_offset f s % 2 ≡ 0
even_condition f s = omega arith

even_far : (f s : ℕ) → far_offset f s % 2 ≡ 0
even_far f s = omega arith

cbz_even : (f s : ℕ) → goes_evenly (narrow.cbz.insn f s) ≡ true
cbz_even f s = even_pos _ (omega arith)

bcond_even : (f s : ℕ) → goes_evenly (narrow.bcond.insn f s) ≡ true
bcond_even f s = even_signed 256 (bits f 0 8 * 2) (omega arith)

branch_even : (f s : ℕ) → goes_evenly (narrow.branch.insn f s) ≡ true
branch_even f s = even_signed 2048 (bits f 0 11 * 2) (omega arith)

bcond_w_even : (f s : ℕ) → goes_evenly (wide.bcond_w.insn f s) ≡ true
bcond_w_even f s = even_signed 1048576 (condition_offset f s) (even_condition f s)

branch_w_even : (f s : ℕ) → goes_evenly (wide.branch_w.insn f s) ≡ true
branch_w_even f s = even_signed 16777216 (far_offset f s) (even_far f s)

bl_even : (f s : ℕ) → goes_evenly (wide.bl.insn f s) ≡ true
bl_even f s = even_signed 16777216 (far_offset f s) (even_far f s)

pub all_even : (f s : ℕ) → list_all (λ r. goes_evenly (r.insn f s)) rows ≡ true
unfolding rows
all_even f s =
    and_from _ _ (cbz_even f s)
    (and_from _ _ (bcond_even f s) (and_from _ _ (branch_even f s) (and_from _ _ (bcond_w_even f s) (and_from _ _ (branch_w_even f s) (and_from _ _ (bl_even f s) refl)))))

-- ---- what a code means

abbrev is_refusal : Decoded → Bool
is_refusal (One insn width) = false
is_refusal NoCoprocessor = true
is_refusal (Undefined width) = true

refusal_none : (d : Decoded) (insn : Insn) (width : Width) → is_refusal d ≡ true → d ≢ One insn width
refusal_none (One i w) insn width h e = absurd (cc)
refusal_none NoCoprocessor insn width h e = absurd (cc)
refusal_none (Undefined w) insn width h e = absurd (cc)

refused_none : (rs : List RefusedCodes) (f s : ℕ) (insn : Insn) (width : Width) → list_all (λ r. is_refusal r.answer) rs ≡ true → refused rs f s ≢ One insn width
refused_none [] f s insn width h = refusal_none (Undefined Narrow) insn width refl
refused_none (r ∷ rs) f s insn width h =
    let parts = and_parts (is_refusal r.answer) (list_all (λ (r : RefusedCodes). is_refusal r.answer) rs) h in
    cond_both (in_cube r.cube f s) r.answer (refused rs f s) (λ (d : Decoded). d ≢ One insn width)
    (λ _. refusal_none r.answer insn width parts.0) (λ _. refused_none rs f s insn width parts.1)

scan_even : (rs : List TableRow) (f s : ℕ) (insn : Insn) (width : Width) → list_all (λ r. goes_evenly (r.insn f s)) rs ≡ true → scan refusals rs f s ≡ One insn width → goes_evenly insn ≡ true
scan_even [] f s insn width each e = absurd (refused_none refusals f s insn width refl e)
scan_even (r ∷ rs) f s insn width each e =
    let parts = and_parts (goes_evenly (r.insn f s)) (list_all (λ (q : TableRow). goes_evenly (q.insn f s)) rs) each in
    elim (cases_Bool (holds r f s)) [
      | inl is ↦
          let one : One (r.insn f s) r.width ≡ One insn width = rw is at e in
          let same : r.insn f s ≡ insn = cc in
          subst (λ (i : Insn). goes_evenly i ≡ true) same parts.0
      | inr isnt ↦ scan_even rs f s insn width parts.1 (rw isnt at e)
    ]

pub decoded_even : (f s : ℕ) (insn : Insn) (width : Width) → decode_of f s ≡ One insn width → goes_evenly insn ≡ true
unfolding decode_of
decoded_even f s insn width e = scan_even rows f s insn width (all_even f s) e
