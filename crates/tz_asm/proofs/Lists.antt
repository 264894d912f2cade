-- A list of registers, one register after another.
use Rattle.std.proofs.Common.{◌≡◌, ◌∙◌, ℕ, ◌+◌, List, [], ◌∷◌, Option, Some, None, option_map, drop, ap, sym, refl, arith, pos}
use Rattle.std.proofs.lemmas.List.{drop-drop}
use Rattle.tz_syntax.specs.Tokens.{TokenValue}
use Rattle.tz_syntax.specs.Tokens as values
use Rattle.tz_syntax.specs.declared.token.Token.{Token}
use Rattle.tz_asm.specs.Front.{views}
use Rattle.tz_asm.specs.CodedOperands.{entry_at, list_behind, with_register}

pub list_ends : (list : Option ℕ) (ts more : List TokenValue) (k m : ℕ) → entry_at ts ≡ Some (k, m, more) → m ≡ 125 → list_behind list ts ≡ Some (option_map pos (with_register k list), more)
unfolding list_behind
list_ends list [] more k m h e = cc
list_ends list (values.Word word ∷ []) more k m h e = grind arith
list_ends list (values.Word word ∷ values.Word second ∷ ts) more k m h e = grind arith
list_ends list (values.Word word ∷ values.Number n ∷ ts) more k m h e = grind arith
list_ends list (values.Word word ∷ values.Mark byte ∷ ts) more k m h e = grind arith
list_ends list (values.Number n ∷ ts) more k m h e = cc
list_ends list (values.Mark byte ∷ ts) more k m h e = cc

pub list_goes_on : (list : Option ℕ) (ts more : List TokenValue) (k m : ℕ) → entry_at ts ≡ Some (k, m, more) → m ≡ 44 → list_behind list ts ≡ list_behind (with_register k list) more
unfolding list_behind
list_goes_on list [] more k m h e = cc
list_goes_on list (values.Word word ∷ []) more k m h e = grind arith
list_goes_on list (values.Word word ∷ values.Word second ∷ ts) more k m h e = grind arith
list_goes_on list (values.Word word ∷ values.Number n ∷ ts) more k m h e = grind arith
list_goes_on list (values.Word word ∷ values.Mark byte ∷ ts) more k m h e = grind arith
list_goes_on list (values.Number n ∷ ts) more k m h e = cc
list_goes_on list (values.Mark byte ∷ ts) more k m h e = cc

pub list_breaks : (list : Option ℕ) (ts more : List TokenValue) (k m : ℕ) → entry_at ts ≡ Some (k, m, more) → (m ≡ 125 → ⊥) → (m ≡ 44 → ⊥) → list_behind list ts ≡ None
unfolding list_behind
list_breaks list [] more k m h e f = cc
list_breaks list (values.Word word ∷ []) more k m h e f = grind arith
list_breaks list (values.Word word ∷ values.Word second ∷ ts) more k m h e f = grind arith
list_breaks list (values.Word word ∷ values.Number n ∷ ts) more k m h e f = grind arith
list_breaks list (values.Word word ∷ values.Mark byte ∷ ts) more k m h e f = grind arith
list_breaks list (values.Number n ∷ ts) more k m h e f = cc
list_breaks list (values.Mark byte ∷ ts) more k m h e f = cc

pub list_stops : (list : Option ℕ) (ts : List TokenValue) → entry_at ts ≡ None → list_behind list ts ≡ None
unfolding list_behind
list_stops list [] h = refl
list_stops list (values.Word word ∷ []) h = refl
list_stops list (values.Word word ∷ values.Word second ∷ ts) h = refl
list_stops list (values.Word word ∷ values.Number n ∷ ts) h = refl
list_stops list (values.Word word ∷ values.Mark byte ∷ ts) h = grind arith
list_stops list (values.Number n ∷ ts) h = refl
list_stops list (values.Mark byte ∷ ts) h = refl

-- ---- the same from a place of the tokens on

pub ends_at : (list : Option ℕ) (tokens part rest : List Token) (place k m : ℕ) → part ≡ drop place tokens → entry_at (views part) ≡ Some (k, m, views (drop 2 part)) → m ≡ 125 → rest ≡ drop (place + 2) tokens → list_behind list (views (drop place tokens)) ≡ Some (option_map pos (with_register k list), views rest)
ends_at list tokens part rest place k m h e end behind =
    let same : drop 2 part ≡ rest = ap (drop 2) h ∙ drop-drop 2 place tokens ∙ sym behind in
    ap (λ ts. list_behind list (views ts)) (sym h) ∙ list_ends list (views part) (views (drop 2 part)) k m e end
    ∙ ap (λ ts. Some (option_map pos (with_register k list), views ts)) same

pub goes_on_at : (list : Option ℕ) (tokens part : List Token) (place k m : ℕ) → part ≡ drop place tokens → entry_at (views part) ≡ Some (k, m, views (drop 2 part)) → m ≡ 44 → list_behind list (views (drop place tokens)) ≡ list_behind (with_register k list) (views (drop (place + 2) tokens))
goes_on_at list tokens part place k m h e comma =
    let same : drop 2 part ≡ drop (place + 2) tokens = ap (drop 2) h ∙ drop-drop 2 place tokens in
    ap (λ ts. list_behind list (views ts)) (sym h) ∙ list_goes_on list (views part) (views (drop 2 part)) k m e comma
    ∙ ap (λ ts. list_behind (with_register k list) (views ts)) same

pub breaks_at : (list : Option ℕ) (tokens part : List Token) (place k m : ℕ) → part ≡ drop place tokens → entry_at (views part) ≡ Some (k, m, views (drop 2 part)) → (m ≡ 125 → ⊥) → (m ≡ 44 → ⊥) → list_behind list (views (drop place tokens)) ≡ None
breaks_at list tokens part place k m h e f g = ap (λ ts. list_behind list (views ts)) (sym h) ∙ list_breaks list (views part) (views (drop 2 part)) k m e f g

pub stops_at : (list : Option ℕ) (tokens part : List Token) (place : ℕ) → part ≡ drop place tokens → entry_at (views part) ≡ None → list_behind list (views (drop place tokens)) ≡ None
stops_at list tokens part place h e = ap (λ ts. list_behind list (views ts)) (sym h) ∙ list_stops list (views part) e
