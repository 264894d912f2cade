-- The code of an instruction that has some values, by the search for it and by what a code means.
use Rattle.std.proofs.Common.{◌≡◌, ℕ, Bool, true, false, List, Option, Ok, Err, length, refl, ap, sym, ◌∙◌, subst, ℤ}
use Rattle.std.proofs.lemmas.Option.{slice_get_within}
use Rattle.std.specs.Cmp.Lexicographic.{pointwise}
use Rattle.std.specs.Ordering.{int_eq}
use Rattle.tz_encode.proofs.Outcomes.{again, encoded_code}
use Rattle.tz_encode.proofs.Told.{list_same, same_list}
use Rattle.tz_encode.specs.Encoded.{EncodedIn, FirstCode, code_of, meaning_of}
use Rattle.tz_encode.specs.Search.{Found}
use Rattle.tz_bits.specs.Values.{values_of}
use Rattle.tz_table.specs.Table.{rows}
use Rattle.tz_table.specs.declared.decoded.Decoded.{Decoded}
use Rattle.tz_table.specs.declared.decoded.Decoded.TheVariants.{One, NoCoprocessor, Undefined}
use Rattle.tz_table.specs.declared.instruction.Insn.{Insn}
use Rattle.tz_table.specs.declared.units.Code.{Code}
use Rattle.tz_table.specs.declared.units.Width.{Width}
use Rattle.tz_asm.specs.Coded.{IsCodeOf, is_instruction, means}

-- the instruction that a code means, where it has the values
meant : (d : Decoded) (e : List ℤ) → is_instruction d e ≡ true → (i : Insn) × (values_of i ≡ e)
meant (One i w) e h = (i, same_list (values_of i) e h)
meant NoCoprocessor e h = cc
meant (Undefined w) e h = cc

found_means : (e : List ℤ) (w : Width) (c : ℕ × ℕ) → ((i : Insn) → e ≡ values_of i → Found rows w i (length rows) (Ok c)) → means (code_of w c) e ≡ true → IsCodeOf e w (code_of w c)
found_means e w c found h =
    let i = meant (meaning_of (code_of w c)) e h in
    (i.0, (i.1, encoded_code w i.0 c (found i.0 (sym i.1))))

found_not : (e : List ℤ) (w : Width) (c : ℕ × ℕ) → ((i : Insn) → e ≡ values_of i → Found rows w i (length rows) (Ok c)) → means (code_of w c) e ≡ false → (code : Code) → IsCodeOf e w code → ⊥
found_not e w c found h code x =
    let is : meaning_of (code_of w c) ≡ One x.0 w = again w x.0 c (found x.0 (sym x.1.0)) in
    let same : pointwise int_eq (values_of x.0) e ≡ true = list_same (values_of x.0) e x.1.0 in
    let no : is_instruction (One x.0 w) e ≡ false = sym (ap (λ d. is_instruction d e) is) ∙ h in
    cc

pub not_found : (e : List ℤ) (w : Width) (b : Option ℕ) → ((i : Insn) → e ≡ values_of i → Found rows w i (length rows) (Err b)) → (code : Code) → IsCodeOf e w code → ⊥
unfolding Found EncodedIn
not_found e w b found code x =
    let none = found x.0 (sym x.1.0) in
    let first : FirstCode rows w x.0 x.1.1.0 = x.1.1.1.0 in
    none.no_code first.place first.row (slice_get_within rows first.place first.row first.at.there) first.at (x.1.1.0.0, (x.1.1.0.1, first.least.code))

-- the same of a code that was made of halfwords
pub code_means : (e : List ℤ) (w : Width) (c : ℕ × ℕ) (code : Code) (is : Bool) → code ≡ code_of w c → ((i : Insn) → e ≡ values_of i → Found rows w i (length rows) (Ok c)) → is ≡ means code e → is ≡ true → IsCodeOf e w code
code_means e w c code is same found told right =
    let means_it : means (code_of w c) e ≡ true = ap (λ x. means x e) (sym same) ∙ sym told ∙ right in
    subst (λ x. IsCodeOf e w x) (sym same) (found_means e w c found means_it)

pub code_means_not : (e : List ℤ) (w : Width) (c : ℕ × ℕ) (code : Code) (is : Bool) → code ≡ code_of w c → ((i : Insn) → e ≡ values_of i → Found rows w i (length rows) (Ok c)) → is ≡ means code e → is ≡ false → (other : Code) → IsCodeOf e w other → ⊥
code_means_not e w c code is same found told wrong =
    let means_not : means (code_of w c) e ≡ false = ap (λ x. means x e) (sym same) ∙ sym told ∙ wrong in
    found_not e w c found means_not
