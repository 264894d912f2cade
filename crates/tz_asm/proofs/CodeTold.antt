-- What a statement gives is what is told of it.
use Rattle.std.proofs.Common.{◌≡◌, ℕ, ◌&&◌, Bool, true, false, List, [], ◌∷◌, Option, Some, None, Result, Ok, Err, is_none, option_map, inl, inr, refl, sym, ap, ◌∙◌, subst, ℤ}
use Rattle.std.specs.Prelude.{unwrap_or, if◌then◌else◌}
use Rattle.tz_syntax.specs.Tokens.{TokenValue}
use Rattle.tz_encode.specs.Encoded.{EncodedIn, FirstCode, code_of}
use Rattle.tz_encode.specs.Told.{first_code, code_with}
use Rattle.tz_encode.proofs.Told.{IsTold, means_some, told_of}
use Rattle.tz_bits.specs.Values.{values_of}
use Rattle.tz_syntax.specs.Rows.{TextRowValue}
use Rattle.tz_table.specs.Table.{rows}
use Rattle.tz_table.specs.declared.instruction.Insn.{Insn}
use Rattle.tz_table.specs.declared.units.Code.{Code}
use Rattle.tz_table.specs.declared.units.Width.{Width}
use Rattle.tz_asm.specs.Coded.{Coded, CodedBy, Gives, GivesBy, IsCodeOf, Passes, PassesBy}
use Rattle.tz_asm.specs.Mnemonics.{texts_of}
use Rattle.tz_asm.specs.Pieces.{Progress, Site}
use Rattle.tz_asm.specs.Rows.{row_read}
use Rattle.tz_asm.specs.CodeTold.{answer_of, first_answer, code_told}
use Rattle.tz_asm.specs.declared.code.uncoded.Uncoded.{Uncoded}
use Rattle.tz_asm.specs.declared.code.uncoded.Uncoded.TheVariants.{NoLabel}
use Rattle.tz_asm.proofs.Once.{values_once}

-- a code that is told of some values is one of an instruction that has them
coded : (e : List ℤ) (w : Width) (i : Insn) (c : ℕ × ℕ) → values_of i ≡ e → first_code rows w e ≡ Some c → IsCodeOf e w (code_of w c)
unfolding EncodedIn
coded e w i c same told =
    let first : FirstCode rows w i c = subst (IsTold rows w i) (ap (first_code rows w) same ∙ told) (told_of rows w i) in
    (i, (same, (c, (first, refl))))

-- the code of an instruction that has them is told
code_is : (e : List ℤ) (w : Width) (code : Code) → IsCodeOf e w code → code_with w e ≡ Some code
unfolding code_with EncodedIn
code_is e w code x = by_first (first_code rows w e) refl
  where
    by_first : (o : Option (ℕ × ℕ)) → first_code rows w e ≡ o → option_map (code_of w) (first_code rows w e) ≡ Some code
    by_first (Some c) told = ap (option_map (code_of w)) told ∙ ap Some (values_once e w (code_of w c) code (coded e w x.0 c x.1.0 told) x)
    by_first None told =
        let none : IsTold rows w x.0 None = subst (IsTold rows w x.0) (ap (first_code rows w) x.1.0 ∙ told) (told_of rows w x.0) in
        let c = x.1.1.0 in
        let first : FirstCode rows w x.0 c = x.1.1.1.0 in
        absurd (none first.place first.row first.at (c.0, (c.1, first.least.code)))

-- where none has a code, none is told
code_is_none : (e : List ℤ) (w : Width) → ((code : Code) → IsCodeOf e w code → ⊥) → code_with w e ≡ None
unfolding code_with
code_is_none e w never = by_first (first_code rows w e) refl
  where
    by_first : (o : Option (ℕ × ℕ)) → first_code rows w e ≡ o → option_map (code_of w) (first_code rows w e) ≡ None
    by_first None told = ap (option_map (code_of w)) told
    by_first (Some c) told = let i = means_some rows w e c told in absurd (never (code_of w c) (coded e w i.0 c i.1 told))

-- ---- the answer of a row

abbrev missing_or : (missing held : Bool) (e : List ℤ) (w : Width) → Option (Result Code Uncoded)
missing_or missing held e w = if missing then Some (Err NoLabel) else if held then option_map Ok (code_with w e) else None

gives_by : (missing : Bool) (p : Progress) (w : Width) (result : Result Code Uncoded) → GivesBy missing p w result → missing_or missing p.held p.values w ≡ Some result
gives_by true p w result x = ap Some (sym x)
gives_by false p w result x =
    ap (λ (b : Bool). missing_or false b p.values w) x.1.0 ∙ ap (option_map Ok) (code_is p.values w x.0 x.1.1.0) ∙ ap Some (sym x.1.1.1)

passes_by : (missing : Bool) (p : Progress) (w : Width) → PassesBy missing p w → missing_or missing p.held p.values w ≡ None
passes_by true p w x = absurd x
passes_by false p w x = by_held p.held refl
  where
    by_held : (b : Bool) → p.held ≡ b → missing_or false p.held p.values w ≡ None
    by_held true e = ap (λ (b : Bool). missing_or false b p.values w) e ∙ ap (option_map Ok) (code_is_none p.values w (x e))
    by_held false e = ap (λ (b : Bool). missing_or false b p.values w) e

gives_told : (o : Option Progress) (w : Width) (label : Option ℕ) (result : Result Code Uncoded) → Gives o w label result → answer_of o w label ≡ Some result
gives_told None w label result x = absurd x
gives_told (Some p) w label result x = gives_by (p.labelled && is_none label) p w result x

passes_told : (o : Option Progress) (w : Width) (label : Option ℕ) → Passes o w label → answer_of o w label ≡ None
passes_told None w label x = refl
passes_told (Some p) w label x = passes_by (p.labelled && is_none label) p w x

-- ---- rows

rows_told : (texts : List TextRowValue) (mnemonic : List ℕ) (tokens : List TokenValue) (s : Site) (label : Option ℕ) (result : Result Code Uncoded)
    → CodedBy texts mnemonic tokens s label result → first_answer texts mnemonic tokens s label ≡ result
unfolding CodedBy first_answer
rows_told [] mnemonic tokens s label result x = sym x
rows_told (r ∷ texts) mnemonic tokens s label result x =
    elim x [
      | inl g ↦ ap (λ (o : Option (Result Code Uncoded)). unwrap_or o (first_answer texts mnemonic tokens s label)) (gives_told (row_read r mnemonic tokens s) r.width label result g)
      | inr g ↦ ap (λ (o : Option (Result Code Uncoded)). unwrap_or o (first_answer texts mnemonic tokens s label)) (passes_told (row_read r mnemonic tokens s) r.width label g.0)
          ∙ rows_told texts mnemonic tokens s label result g.1
    ]

-- what a statement gives is what is told
pub is_told : (mnemonic : List ℕ) (tokens : List TokenValue) (place : ℕ) (label : Option ℕ) (result : Result Code Uncoded) → Coded mnemonic tokens place label result
    → code_told mnemonic tokens place label ≡ result
unfolding code_told
is_told mnemonic tokens place label result x = rows_told (texts_of mnemonic) mnemonic tokens (record { place = place; label = unwrap_or label 0 }) label result x
