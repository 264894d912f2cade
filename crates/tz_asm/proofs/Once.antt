-- A statement has one answer.
use Rattle.std.proofs.Common.{◌≡◌, ℕ, ◌+◌, ◌*◌, ◌<◌, Bool, true, false, ◌&&◌, List, [], ◌∷◌, Option, Some, None, Result, Ok, is_none, inl, inr, ap, sym, ◌∙◌, subst, arith, ℤ}
use Rattle.std.proofs.lemmas.Bool.{cases_order}
use Rattle.tz_encode.specs.Encoded.{At, EncodedIn, FirstCode, code_of}
use Rattle.tz_bits.proofs.Back.{same_values}
use Rattle.tz_encode.specs.Codes.{IsLeastCode}
use Rattle.tz_encode.proofs.Places.{seconds_few}
use Rattle.tz_syntax.specs.Rows.{TextRowValue}
use Rattle.tz_table.specs.Rows.{TableRow}
use Rattle.tz_table.specs.Table.{rows}
use Rattle.tz_table.specs.declared.instruction.Insn.{Insn}
use Rattle.tz_table.specs.declared.units.Code.{Code}
use Rattle.tz_table.specs.declared.units.Width.{Width}
use Rattle.tz_table.specs.declared.units.Width.TheVariants.{Narrow, Wide}
use Rattle.tz_syntax.specs.Tokens.{TokenValue}
use Rattle.tz_asm.specs.Coded.{CodedBy, Gives, GivesBy, IsCodeOf, Passes, PassesBy}
use Rattle.tz_asm.specs.Pieces.{Progress, Site}
use Rattle.tz_asm.specs.Rows.{row_read}
use Rattle.tz_asm.specs.declared.code.uncoded.Uncoded.{Uncoded}

same_row : (w : Width) (j k : ℕ) (r s : TableRow) → j ≡ k → At rows w j r → At rows w k s → r ≡ s
same_row w j k r s e x y =
    let a = x.there in
    let b = y.there in
    cc

same_numbers : (a b c d : ℕ) → b < 65536 → d < 65536 → a * 65536 + b ≡ c * 65536 + d → (a ≡ c) × (b ≡ d)
same_numbers a b c d h k e = (omega arith, omega arith)

least_once : (r : TableRow) (i : Insn) (c d : ℕ × ℕ) → IsLeastCode r i c.0 c.1 → IsLeastCode r i d.0 d.1 → (c.0 ≡ d.0) × (c.1 ≡ d.1)
least_once r i c d x y =
    let below = x.least d.0 d.1 y.code in
    let above = y.least c.0 c.1 x.code in
    same_numbers c.0 c.1 d.0 d.1 (seconds_few r.width c.1 x.code.code.second_fits) (seconds_few r.width d.1 y.code.code.second_fits) (omega arith)

same_code : (w : Width) (c d : ℕ × ℕ) → c.0 ≡ d.0 → c.1 ≡ d.1 → code_of w c ≡ code_of w d
same_code Narrow c d e f = cc
same_code Wide c d e f = cc

first_once : (w : Width) (i : Insn) (c d : ℕ × ℕ) → FirstCode rows w i c → FirstCode rows w i d → code_of w c ≡ code_of w d
first_once w i c d x y =
    elim (cases_order x.place y.place) [
      | inl same ↦
          let row = same_row w x.place y.place x.row y.row same x.at y.at in
          let e = least_once x.row i c d x.least (subst (λ r. IsLeastCode r i d.0 d.1) (sym row) y.least) in
          same_code w c d e.0 e.1
      | inr apart ↦ elim apart [
        | inl before ↦ absurd (y.none_before x.place x.row before x.at (c.0, (c.1, x.least.code)))
        | inr after ↦ absurd (x.none_before y.place y.row after y.at (d.0, (d.1, y.least.code)))
      ]
    ]

code_once : (w : Width) (i : Insn) (a b : Code) → EncodedIn rows w i (Ok a) → EncodedIn rows w i (Ok b) → a ≡ b
unfolding EncodedIn
code_once w i a b x y = x.1.1 ∙ first_once w i x.0 y.0 x.1.0 y.1.0 ∙ sym y.1.1

pub values_once : (e : List ℤ) (w : Width) (a b : Code) → IsCodeOf e w a → IsCodeOf e w b → a ≡ b
values_once e w a b x y =
    let same = same_values x.0 y.0 (x.1.0 ∙ sym y.1.0) in
    code_once w y.0 a b (subst (λ i. EncodedIn rows w i (Ok a)) same x.1.1) y.1.1

-- ---- a row answers once, and doesn't pass then

gives_by_once : (missing : Bool) (p : Progress) (w : Width) (a b : Result Code Uncoded) → GivesBy missing p w a → GivesBy missing p w b → a ≡ b
gives_by_once true p w a b x y = x ∙ sym y
gives_by_once false p w a b x y = x.1.1.1 ∙ ap Ok (values_once p.values w x.0 y.0 x.1.1.0 y.1.1.0) ∙ sym y.1.1.1

gives_once : (o : Option Progress) (w : Width) (label : Option ℕ) (a b : Result Code Uncoded) → Gives o w label a → Gives o w label b → a ≡ b
gives_once None w label a b x y = absurd x
gives_once (Some p) w label a b x y = gives_by_once (p.labelled && is_none label) p w a b x y

not_by_both : (missing : Bool) (p : Progress) (w : Width) (a : Result Code Uncoded) → GivesBy missing p w a → PassesBy missing p w → ⊥
not_by_both true p w a x y = y
not_by_both false p w a x y = y x.1.0 x.0 x.1.1.0

not_both : (o : Option Progress) (w : Width) (label : Option ℕ) (a : Result Code Uncoded) → Gives o w label a → Passes o w label → ⊥
not_both None w label a x y = x
not_both (Some p) w label a x y = not_by_both (p.labelled && is_none label) p w a x y

-- so do rows
pub once : (texts : List TextRowValue) (mnemonic : List ℕ) (tokens : List TokenValue) (s : Site) (label : Option ℕ) (a b : Result Code Uncoded) → CodedBy texts mnemonic tokens s label a → CodedBy texts mnemonic tokens s label b → a ≡ b
unfolding CodedBy
once [] mnemonic tokens s label a b x y = x ∙ sym y
once (r ∷ texts) mnemonic tokens s label a b x y =
    let o = row_read r mnemonic tokens s in
    elim x [
      | inl g ↦ elim y [
        | inl h ↦ gives_once o r.width label a b g h
        | inr h ↦ absurd (not_both o r.width label a g h.0)
      ]
      | inr g ↦ elim y [
        | inl h ↦ absurd (not_both o r.width label b h g.0)
        | inr h ↦ once texts mnemonic tokens s label a b g.1 h.1
      ]
    ]
