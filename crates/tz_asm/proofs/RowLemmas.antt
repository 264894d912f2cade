-- The answer of rows, one row after another.
use Rattle.std.proofs.Common.{◌≡◌, ℕ, List, [], ◌∷◌, Option, Result, Err, inl, inr, refl, sym, subst}
use Rattle.tz_syntax.specs.Rows.{TextRowValue}
use Rattle.tz_table.specs.declared.units.Code.{Code}
use Rattle.tz_syntax.specs.Tokens.{TokenValue}
use Rattle.tz_asm.specs.Coded.{CodedBy, Gives, Passes}
use Rattle.tz_asm.specs.Pieces.{Progress, Site}
use Rattle.tz_asm.specs.Rows.{row_read}
use Rattle.tz_asm.specs.declared.code.uncoded.Uncoded.{Uncoded}
use Rattle.tz_asm.specs.declared.code.uncoded.Uncoded.TheVariants.{Range}

pub row_passes : (all rest : List TextRowValue) (r : TextRowValue) (mnemonic : List ℕ) (tokens : List TokenValue) (s : Site) (label : Option ℕ) (o : Option Progress) → all ≡ r ∷ rest → o ≡ row_read r mnemonic tokens s → Passes o r.width label → (result : Result Code Uncoded) → CodedBy rest mnemonic tokens s label result → CodedBy all mnemonic tokens s label result
unfolding CodedBy
row_passes all rest r mnemonic tokens s label o e same p result h =
    let here : CodedBy (r ∷ rest) mnemonic tokens s label result = inr (subst (λ x. Passes x r.width label) same p, h) in
    subst (λ rows. CodedBy rows mnemonic tokens s label result) (sym e) here

pub row_gives : (all rest : List TextRowValue) (r : TextRowValue) (mnemonic : List ℕ) (tokens : List TokenValue) (s : Site) (label : Option ℕ) (o : Option Progress) (result : Result Code Uncoded) → all ≡ r ∷ rest → o ≡ row_read r mnemonic tokens s → Gives o r.width label result → CodedBy all mnemonic tokens s label result
unfolding CodedBy
row_gives all rest r mnemonic tokens s label o result e same g =
    let here : CodedBy (r ∷ rest) mnemonic tokens s label result = inl (subst (λ x. Gives x r.width label result) same g) in
    subst (λ rows. CodedBy rows mnemonic tokens s label result) (sym e) here

pub no_row : (all : List TextRowValue) (mnemonic : List ℕ) (tokens : List TokenValue) (s : Site) (label : Option ℕ) → all ≡ [] → CodedBy all mnemonic tokens s label (Err Range)
unfolding CodedBy
no_row all mnemonic tokens s label e =
    let here : CodedBy [] mnemonic tokens s label (Err Range) = refl in
    subst (λ rows. CodedBy rows mnemonic tokens s label (Err Range)) (sym e) here
