-- From what the search found to what the table gives.
use Rattle.std.proofs.Common.{◌≡◌, ℕ, suc, ◌+◌, ◌<◌, ◌≤◌, Some, None, Ok, Err, length, take, slice_get, refl, ap, inl, inr, arith}
use Rattle.std.proofs.lemmas.Option.{slice_get_cases, slice_get_within}
use Rattle.tz_encode.proofs.Padding.{all_agree}
use Rattle.tz_encode.specs.Encoded.{EncodedIn, LastBlame, code_of, meaning_of}
use Rattle.tz_encode.specs.Search.{Found}
use Rattle.tz_encode.specs.declared.error.EncodeError.TheVariants.{NoForm, Range}
use Rattle.tz_bits.specs.Values.{names_of, values_of}
use Rattle.tz_bits.specs.declared.names.FieldName.{FieldName}
use Rattle.tz_encode.specs.Codes.{Blames, IsCode, Reaches, seconds}
use Rattle.tz_table.proofs.Apart.{decode_row}
use Rattle.tz_table.specs.Rows.{TableRow}
use Rattle.tz_table.specs.Table.{rows}
use Rattle.tz_table.specs.declared.decoded.Decoded.TheVariants.{One}
use Rattle.tz_table.specs.declared.instruction.Insn.{Insn}
use Rattle.tz_table.specs.declared.units.Width.{Width}
use Rattle.tz_table.specs.declared.units.Width.TheVariants.{Narrow, Wide}

pub encoded_code : (w : Width) (i : Insn) (c : ℕ × ℕ) → Found rows w i (length rows) (Ok c) → EncodedIn rows w i (Ok (code_of w c))
unfolding Found EncodedIn
encoded_code w i c h = (c, (h, refl))

pub encoded_no_form : (w : Width) (i : Insn) → Found rows w i (length rows) (Err None) → EncodedIn rows w i (Err NoForm)
unfolding Found EncodedIn
encoded_no_form w i h = λ k r at x. h.last k r (slice_get_within rows k r at.there) at x

pub encoded_range : (w : Width) (i : Insn) (n : ℕ) (name : FieldName) → Found rows w i (length rows) (Err (Some n)) → slice_get (names_of i) n ≡ Some name → EncodedIn rows w i (Err (Range name))
unfolding Found EncodedIn
encoded_range w i n name h e =
    let last : LastBlame rows w i n = record {
      no_code = λ k r at x. h.no_code k r (slice_get_within rows k r at.there) at x;
      place = h.last.place;
      row = h.last.row;
      at = h.last.at;
      blames = h.last.blames;
      no_form_after = λ k r after at x. h.last.no_form_after k r after (slice_get_within rows k r at.there) at x;
    } in
    (n, (last, e))

-- ---- what is blamed has a name: past the numbers of an instruction, its form tells the values

past_names : (i : Insn) (n : ℕ) → slice_get (names_of i) n ≡ None → length (names_of i) ≤ n
past_names i n e =
    elim (slice_get_cases (names_of i) n).1 [
      | inl x ↦ let there = x.2 in cc
      | inr y ↦ y.0
    ]

not_past : (r : TableRow) (i : Insn) (n : ℕ) → length (names_of i) ≤ n → Blames r i (5 + n) → ⊥
not_past r i n h b =
    let f = b.before.0 in
    let s = b.before.1.0 in
    let x : Reaches r (5 + n) i f s = b.before.1.1 in
    let all : values_of (r.insn f s) ≡ values_of i = all_agree i (r.insn f s) n h x.means in
    b.never f s (record { code = x.code; means = ap (take (suc (5 + n))) all })

pub named : (w : Width) (i : Insn) (n : ℕ) → Found rows w i (length rows) (Err (Some n)) → slice_get (names_of i) n ≡ None → ⊥
unfolding Found
named w i n h e = not_past h.last.row i n (past_names i n e) h.last.blames

-- ---- a code means its instruction

narrow_second : (v : Width) (s : ℕ) → s < seconds v → v ≡ Narrow → s ≡ 0
narrow_second Narrow s h e = omega arith
narrow_second Wide s h e = cc

again_in : (r : TableRow) (w : Width) (i : Insn) (k f s : ℕ) → slice_get rows k ≡ Some r → r.width ≡ w → IsCode r i f s → meaning_of (code_of w (f, s)) ≡ One i w
again_in r Narrow i k f s here e x =
    let none : s ≡ 0 = narrow_second r.width s x.code.second_fits e in
    let found = decode_row f s k r here x.code.held in
    let means = x.means in
    cc
again_in r Wide i k f s here e x =
    let found = decode_row f s k r here x.code.held in
    let means = x.means in
    cc

pub again : (w : Width) (i : Insn) (c : ℕ × ℕ) → Found rows w i (length rows) (Ok c) → meaning_of (code_of w c) ≡ One i w
unfolding Found
again w i c h = again_in h.row w i h.place c.0 c.1 h.at.there h.at.width h.least.code
