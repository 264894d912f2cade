-- Each instruction that a code means has a text that isn't empty.
use Rattle.std.proofs.Common.{◌≡◌, ◌≢◌, ℕ, Bool, true, false, refl, ap, subst, arith, List, [], ◌∷◌, length, length-append, inl, inr, nat_lt, find, ℤ}
use Rattle.std.specs.List.{list_all, list_any}
use Rattle.std.proofs.lemmas.Bool.{and_parts, cases_Bool, cond_both, ltb-true, or_cases}
use Rattle.tz_bits.specs.Values.{values_of}
use Rattle.tz_table.specs.Patterns.{in_cube}
use Rattle.tz_table.specs.Rows.{RefusedCodes, TableRow, holds, refused, scan}
use Rattle.tz_table.specs.Table.{decode_of, refusals, rows}
use Rattle.tz_table.specs.declared.decoded.Decoded.{Decoded}
use Rattle.tz_table.specs.declared.decoded.Decoded.TheVariants.{One, NoCoprocessor, Undefined}
use Rattle.tz_table.specs.declared.instruction.Insn.{Insn}
use Rattle.tz_table.specs.declared.units.Width.{Width}
use Rattle.tz_table.specs.declared.units.Width.TheVariants.{Narrow}
use Rattle.tz_syntax.specs.Rows.{TextRowValue, fits, row_text}
use Rattle.tz_syntax.specs.Text.{found_text, text_of, texts}
use Rattle.tz_text.proofs.AllSpelled.{all_spelled}
use Rattle.tz_text.proofs.TextGroups.{EachIsSpelled, HasText}

-- ---- the text of a row

abbrev is_named : TextRowValue → Bool
is_named r = nat_lt 0 (length r.mnemonic)

texts_named : list_all is_named texts ≡ true
unfolding texts
texts_named = refl

row_some : (r : TextRowValue) (e : List ℤ) (pc : ℕ) → is_named r ≡ true → row_text r e pc ≢ []
row_some r e pc named none =
    let some = ltb-true 0 (length r.mnemonic) named in
    let long = ap length none in
    let parts = length-append r.mnemonic (row_text (record r { mnemonic = [] }) e pc) in
    absurd (omega (arith, long, parts))

found_some : (p : TextRowValue → Bool) (rows : List TextRowValue) (e : List ℤ) (pc : ℕ) → list_any p rows ≡ true → list_all is_named rows ≡ true → found_text (find p rows) e pc ≢ []
found_some p [] e pc h named = absurd (cc)
found_some p (r ∷ rows) e pc h named =
    let parts = and_parts (is_named r) (list_all is_named rows) named in
    elim (cases_Bool (p r)) [
      | inl is ↦ rw is (row_some r e pc parts.0)
      | inr not ↦ elim (or_cases (p r) (list_any p rows) h) [
        | inl is ↦ absurd (cc)
        | inr more ↦ rw not (found_some p rows e pc more parts.1)
      ]
    ]

text_some : (insn : Insn) (width : Width) (pc : ℕ) → HasText insn width → text_of insn width pc ≢ []
unfolding HasText
text_some insn width pc h = found_some (fits (values_of insn) width) texts (values_of insn) pc h texts_named

-- ---- what a code means

abbrev is_refusal : Decoded → Bool
is_refusal (One insn width) = false
is_refusal NoCoprocessor = true
is_refusal (Undefined width) = true

refusal_none : (d : Decoded) (insn : Insn) (width : Width) → is_refusal d ≡ true → d ≢ One insn width
refusal_none (One i w) insn width h e = absurd (cc)
refusal_none NoCoprocessor insn width h e = absurd (cc)
refusal_none (Undefined w) insn width h e = absurd (cc)

refused_none : (rs : List RefusedCodes) (f s : ℕ) (insn : Insn) (width : Width) → list_all (λ r. is_refusal r.answer) rs ≡ true → refused rs f s ≢ One insn width
refused_none [] f s insn width h = refusal_none (Undefined Narrow) insn width refl
refused_none (r ∷ rs) f s insn width h =
    let parts = and_parts (is_refusal r.answer) (list_all (λ (r : RefusedCodes). is_refusal r.answer) rs) h in
    cond_both (in_cube r.cube f s) r.answer (refused rs f s) (λ (d : Decoded). d ≢ One insn width)
    (λ _. refusal_none r.answer insn width parts.0) (λ _. refused_none rs f s insn width parts.1)

scan_some : (rs : List TableRow) (f s : ℕ) (insn : Insn) (width : Width) → EachIsSpelled rs → scan refusals rs f s ≡ One insn width → HasText insn width
scan_some [] f s insn width each e = absurd (refused_none refusals f s insn width refl e)
scan_some (r ∷ rs) f s insn width each e =
    elim (cases_Bool (holds r f s)) [
      | inl is ↦
          let one : One (r.insn f s) r.width ≡ One insn width = rw is at e in
          let same : r.insn f s ≡ insn = cc in
          let wide : r.width ≡ width = cc in
          subst (λ (i : Insn). HasText i width) same (subst (λ (w : Width). HasText (r.insn f s) w) wide (each.0 f s is))
      | inr not ↦ scan_some rs f s insn width each.1 (rw not at e)
    ]

pub spelled : (first second pc : ℕ) (insn : Insn) (width : Width) → decode_of first second ≡ One insn width → text_of insn width pc ≢ []
unfolding decode_of
spelled first second pc insn width e = text_some insn width pc (scan_some rows first second insn width all_spelled e)
