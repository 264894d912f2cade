-- A mnemonic fixes the width: its rows have one, and so has each of its codes.
use Rattle.std.proofs.Common.{◌≡◌, ℕ, Bool, true, false, ◌&&◌, if◌then◌else◌, List, [], ◌∷◌, Option, Some, None, Ok, option_map, map, filter, find, is_some, is_none, codes, refl, ap, sym, ◌∙◌, inl, inr, arith}
use Rattle.std.proofs.lemmas.Bool.{and_parts}
use Rattle.std.proofs.lemmas.Slice.Eq.{bytes_eq-Decides}
use Rattle.std.specs.Char.{to_ascii_lowercase}
use Rattle.std.specs.List.{AllByRecursion, list_all}
use Rattle.std.specs.Str.{bytes_eq}
use Rattle.tz_encode.specs.Encoded.{EncodedIn, code_of}
use Rattle.tz_syntax.specs.Rows.{TextRowValue}
use Rattle.tz_syntax.specs.Text.{texts}
use Rattle.tz_table.specs.Rows.{same_width}
use Rattle.tz_table.specs.Table.{rows}
use Rattle.tz_table.specs.declared.instruction.Insn.{Insn}
use Rattle.tz_table.specs.declared.units.Code.{Code}
use Rattle.tz_table.specs.declared.units.Width.{Width}
use Rattle.tz_table.specs.declared.units.Width.TheVariants.{Narrow, Wide}
use Rattle.tz_syntax.specs.Tokens.{TokenValue}
use Rattle.tz_asm.proofs.PartLemmas.{same_behind}
use Rattle.tz_asm.specs.Coded.{CodedBy, Gives, GivesBy, width_of_code}
use Rattle.tz_asm.specs.Mnemonics.{behind, ends_well, first_width, is_named, lettered, texts_of, width_of_word}
use Rattle.tz_asm.specs.Pieces.{Progress, Site}
use Rattle.tz_asm.specs.Rows.{row_read}

-- ---- the mnemonic of a word

small : List ℕ → List ℕ
small word = map to_ascii_lowercase word

plain_name : (m w : List ℕ) → behind m w ≡ Some [] → m ≡ small w
unfolding small
plain_name [] w h = let none : w ≡ [] = cc in rw none refl
plain_name (n ∷ m) [] h = cc
plain_name (n ∷ m) (b ∷ w) h = grind (arith, plain_name m w)

-- `it` for the words that begin so
name_of : List ℕ → List ℕ
name_of w = if is_some (behind (codes "it") w) then codes "it" else small w

-- only `it` has letters behind it, and no other mnemonic begins so
abbrev fine_by : Option (ℕ × ℕ) → List ℕ → Bool
fine_by None m = is_none (behind (codes "it") m)
fine_by (Some places) m = bytes_eq m (codes "it")

named_plain : (m w : List ℕ) (o : Option (List ℕ)) → is_none (behind (codes "it") m) ≡ true → behind m w ≡ o → ends_well None o ≡ true → m ≡ name_of w
unfolding name_of
named_plain m w None f e h = cc
named_plain m w (Some []) f e h =
    let same : is_some (behind (codes "it") m) ≡ is_some (behind (codes "it") w) = same_behind (codes "it") m w e in
    let no : is_some (behind (codes "it") w) ≡ false = grind (arith, same, f) in
    rw no (plain_name m w e)
named_plain m w (Some (b ∷ bytes)) f e h = grind arith

named_lettered : (places : ℕ × ℕ) (m w : List ℕ) (o : Option (List ℕ)) → m ≡ codes "it" → behind m w ≡ o → ends_well (Some places) o ≡ true → m ≡ name_of w
unfolding name_of
named_lettered places m w None same e h = cc
named_lettered places m w (Some bytes) same e h =
    let there : behind (codes "it") w ≡ Some bytes = ap (λ n. behind n w) (sym same) ∙ e in
    rw there same

named_by : (places : Option (ℕ × ℕ)) (m w : List ℕ) → fine_by places m ≡ true → ends_well places (behind m w) ≡ true → m ≡ name_of w
named_by None m w f h = named_plain m w (behind m w) f refl h
named_by (Some places) m w f h = named_lettered places m w (behind m w) ((bytes_eq-Decides m (codes "it")).0 f) refl h

-- ---- the rows of a mnemonic have the width of the first

width_named : List ℕ → Option Width
width_named m = option_map (λ r. r.width) (find (λ r. bytes_eq r.mnemonic m) texts)

abbrev is_width : Option Width → Width → Bool
is_width None w = false
is_width (Some v) w = same_width v w

is_width_same : (o : Option Width) (w : Width) → is_width o w ≡ true → o ≡ Some w
is_width_same None w h = cc
is_width_same (Some Narrow) Narrow h = refl
is_width_same (Some Narrow) Wide h = cc
is_width_same (Some Wide) Narrow h = cc
is_width_same (Some Wide) Wide h = refl

abbrev agrees : TextRowValue → Bool
agrees r = fine_by (lettered r.pieces) r.mnemonic && is_width (width_named r.mnemonic) r.width

all_agree : list_all agrees texts ≡ true
unfolding texts width_named
all_agree = refl

has_width : (w : List ℕ) (r : TextRowValue) → agrees r ≡ true → is_named w r ≡ true → width_named (name_of w) ≡ Some r.width
has_width w r a h =
    let both : (fine_by (lettered r.pieces) r.mnemonic ≡ true) × (is_width (width_named r.mnemonic) r.width ≡ true) = and_parts (fine_by (lettered r.pieces) r.mnemonic) (is_width (width_named r.mnemonic) r.width) a in
    let name : r.mnemonic ≡ name_of w = named_by (lettered r.pieces) r.mnemonic w both.0 h in
    ap width_named (sym name) ∙ is_width_same (width_named r.mnemonic) r.width both.1

-- the width that the rows have
abbrev HasWidth : Option Width → TextRowValue → Type 0
HasWidth o r = o ≡ Some r.width

one_more : (w : List ℕ) (r : TextRowValue) (rs : List TextRowValue) (named : Bool) → is_named w r ≡ named → (is_named w r ≡ true → width_named (name_of w) ≡ Some r.width) → AllByRecursion (HasWidth (width_named (name_of w))) (filter (is_named w) rs) → AllByRecursion (HasWidth (width_named (name_of w))) (filter (is_named w) (r ∷ rs))
one_more w r rs true is h later = rw is (h is, later)
one_more w r rs false is h later = rw is later

all_have_width : (w : List ℕ) (rs : List TextRowValue) → list_all agrees rs ≡ true → AllByRecursion (HasWidth (width_named (name_of w))) (filter (is_named w) rs)
all_have_width w [] h = tt
all_have_width w (r ∷ rs) h =
    let both : (agrees r ≡ true) × (list_all agrees rs ≡ true) = and_parts (agrees r) (list_all agrees rs) h in
    one_more w r rs (is_named w r) refl (has_width w r both.0) (all_have_width w rs both.1)

-- ---- and so have the codes

code_width : (w : Width) (c : ℕ × ℕ) → width_of_code (code_of w c) ≡ w
code_width Narrow c = refl
code_width Wide c = refl

encoded_width : (w : Width) (i : Insn) (code : Code) → EncodedIn rows w i (Ok code) → width_of_code code ≡ w
unfolding EncodedIn
encoded_width w i code x = ap width_of_code x.1.1 ∙ code_width w x.0

given_by_width : (missing : Bool) (p : Progress) (w : Width) (code : Code) → GivesBy missing p w (Ok code) → w ≡ width_of_code code
given_by_width true p w code x = cc
given_by_width false p w code x =
    let same : x.0 ≡ code = cc in
    sym (encoded_width w x.1.1.0.0 x.0 x.1.1.0.1.1) ∙ ap width_of_code same

given_width : (o : Option Progress) (w : Width) (label : Option ℕ) (code : Code) → Gives o w label (Ok code) → w ≡ width_of_code code
given_width None w label code x = absurd x
given_width (Some p) w label code x = given_by_width (p.labelled && is_none label) p w code x

coded_has : (o : Option Width) (rs : List TextRowValue) (mnemonic : List ℕ) (tokens : List TokenValue) (s : Site) (label : Option ℕ) (code : Code) → AllByRecursion (HasWidth o) rs → CodedBy rs mnemonic tokens s label (Ok code) → o ≡ Some (width_of_code code)
unfolding CodedBy
coded_has o [] mnemonic tokens s label code all x = cc
coded_has o (r ∷ rs) mnemonic tokens s label code all x =
    elim x [
      | inl g ↦ all.0 ∙ ap Some (given_width (row_read r mnemonic tokens s) r.width label code g)
      | inr g ↦ coded_has o rs mnemonic tokens s label code all.1 g.1
    ]

first_has : (o : Option Width) (rs : List TextRowValue) (mnemonic : List ℕ) (tokens : List TokenValue) (s : Site) (label : Option ℕ) (code : Code) → AllByRecursion (HasWidth o) rs → CodedBy rs mnemonic tokens s label (Ok code) → first_width rs ≡ o
unfolding CodedBy
first_has o [] mnemonic tokens s label code all x = cc
first_has o (r ∷ rs) mnemonic tokens s label code all x = sym all.0

pub coded_width_is : (mnemonic : List ℕ) (tokens : List TokenValue) (s : Site) (label : Option ℕ) (code : Code) → CodedBy (texts_of mnemonic) mnemonic tokens s label (Ok code) → width_of_word mnemonic ≡ Some (width_of_code code)
unfolding texts_of width_of_word
coded_width_is mnemonic tokens s label code x =
    let all = all_have_width mnemonic texts all_agree in
    first_has (width_named (name_of mnemonic)) (filter (is_named mnemonic) texts) mnemonic tokens s label code all x
    ∙ coded_has (width_named (name_of mnemonic)) (filter (is_named mnemonic) texts) mnemonic tokens s label code all x
