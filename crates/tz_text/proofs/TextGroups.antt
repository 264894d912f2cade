-- The groups of texts, and what is in one of them.
use Rattle.std.proofs.Common.{◌≡◌, ℕ, Bool, true, List, [], ◌∷◌, ◌++◌, inl, inr}
use Rattle.std.specs.List.{list_any}
use Rattle.std.proofs.lemmas.Bool.{or_cases, or_left, or_right}
use Rattle.tz_bits.specs.Values.{values_of}
use Rattle.tz_table.specs.Rows.{TableRow, holds}
use Rattle.tz_table.specs.declared.instruction.Insn.{Insn}
use Rattle.tz_table.specs.declared.units.Width.{Width}
use Rattle.tz_syntax.specs.DataTexts.{constants, registers, other_data}
use Rattle.tz_syntax.specs.MemoryTexts.{loads, stores, pairs, multiples, exclusives}
use Rattle.tz_syntax.specs.OtherTexts.{branches, system}
use Rattle.tz_syntax.specs.Rows.{TextRowValue, fits}
use Rattle.tz_syntax.specs.Text.{texts}

-- a text among these fits an instruction at a width
abbrev pub Among : List TextRowValue → Insn → Width → Type 0
Among rows insn width = list_any (fits (values_of insn) width) rows ≡ true

unfoldable pub HasText : Insn → Width → Type 0
HasText insn width = Among texts insn width

-- the codes of a row of the instruction table mean instructions that have a text
abbrev pub IsSpelled : TableRow → Type 0
IsSpelled r = (f s : ℕ) → holds r f s ≡ true → HasText (r.insn f s) r.width

abbrev pub EachIsSpelled : List TableRow → Type 0
EachIsSpelled [] = Unit {0}
EachIsSpelled (r ∷ rs) = IsSpelled r × EachIsSpelled rs

infixr 5 ◌▹◌
-- one row, and the rows behind it
pub ◌▹◌ : {A B : Type 0} → A → B → A × B
◌▹◌ a b = (a, b)

any_left : (p : TextRowValue → Bool) (xs ys : List TextRowValue) → list_any p xs ≡ true → list_any p (xs ++ ys) ≡ true
any_left p [] ys h = cc
any_left p (x ∷ xs) ys h =
    elim (or_cases (p x) (list_any p xs) h) [
      | inl e ↦ or_left (p x) (list_any p (xs ++ ys)) e
      | inr k ↦ or_right (p x) (list_any p (xs ++ ys)) (any_left p xs ys k)
    ]

any_right : (p : TextRowValue → Bool) (xs ys : List TextRowValue) → list_any p ys ≡ true → list_any p (xs ++ ys) ≡ true
any_right p [] ys h = h
any_right p (x ∷ xs) ys h = or_right (p x) (list_any p (xs ++ ys)) (any_right p xs ys h)

-- ten groups, one behind the other
module _ (p : TextRowValue → Bool) (a b c d e f g h i j : List TextRowValue) where
  abbrev Any : List TextRowValue → Type 0
  Any xs = list_any p xs ≡ true

  abbrev All10 : List TextRowValue
  All10 = a ++ b ++ c ++ d ++ e ++ f ++ g ++ h ++ i ++ j

  upto_9 : Any (a ++ b ++ c ++ d ++ e ++ f ++ g ++ h ++ i) → Any All10
  upto_9 k = any_left p (a ++ b ++ c ++ d ++ e ++ f ++ g ++ h ++ i) j k

  upto_8 : Any (a ++ b ++ c ++ d ++ e ++ f ++ g ++ h) → Any All10
  upto_8 k = upto_9 (any_left p (a ++ b ++ c ++ d ++ e ++ f ++ g ++ h) i k)

  upto_7 : Any (a ++ b ++ c ++ d ++ e ++ f ++ g) → Any All10
  upto_7 k = upto_8 (any_left p (a ++ b ++ c ++ d ++ e ++ f ++ g) h k)

  upto_6 : Any (a ++ b ++ c ++ d ++ e ++ f) → Any All10
  upto_6 k = upto_7 (any_left p (a ++ b ++ c ++ d ++ e ++ f) g k)

  upto_5 : Any (a ++ b ++ c ++ d ++ e) → Any All10
  upto_5 k = upto_6 (any_left p (a ++ b ++ c ++ d ++ e) f k)

  upto_4 : Any (a ++ b ++ c ++ d) → Any All10
  upto_4 k = upto_5 (any_left p (a ++ b ++ c ++ d) e k)

  upto_3 : Any (a ++ b ++ c) → Any All10
  upto_3 k = upto_4 (any_left p (a ++ b ++ c) d k)

  upto_2 : Any (a ++ b) → Any All10
  upto_2 k = upto_3 (any_left p (a ++ b) c k)

  in_1 : Any a → Any All10
  in_1 k = upto_2 (any_left p a b k)

  in_2 : Any b → Any All10
  in_2 k = upto_2 (any_right p a b k)

  in_3 : Any c → Any All10
  in_3 k = upto_3 (any_right p (a ++ b) c k)

  in_4 : Any d → Any All10
  in_4 k = upto_4 (any_right p (a ++ b ++ c) d k)

  in_5 : Any e → Any All10
  in_5 k = upto_5 (any_right p (a ++ b ++ c ++ d) e k)

  in_6 : Any f → Any All10
  in_6 k = upto_6 (any_right p (a ++ b ++ c ++ d ++ e) f k)

  in_7 : Any g → Any All10
  in_7 k = upto_7 (any_right p (a ++ b ++ c ++ d ++ e ++ f) g k)

  in_8 : Any h → Any All10
  in_8 k = upto_8 (any_right p (a ++ b ++ c ++ d ++ e ++ f ++ g) h k)

  in_9 : Any i → Any All10
  in_9 k = upto_9 (any_right p (a ++ b ++ c ++ d ++ e ++ f ++ g ++ h) i k)

  in_10 : Any j → Any All10
  in_10 k = any_right p (a ++ b ++ c ++ d ++ e ++ f ++ g ++ h ++ i) j k

module _ (insn : Insn) (width : Width) where
  pub in_constants : Among constants insn width → HasText insn width
  unfolding HasText texts
  in_constants h = in_1 (fits (values_of insn) width) constants registers other_data loads stores pairs multiples exclusives branches system h

  pub in_registers : Among registers insn width → HasText insn width
  unfolding HasText texts
  in_registers h = in_2 (fits (values_of insn) width) constants registers other_data loads stores pairs multiples exclusives branches system h

  pub in_other_data : Among other_data insn width → HasText insn width
  unfolding HasText texts
  in_other_data h = in_3 (fits (values_of insn) width) constants registers other_data loads stores pairs multiples exclusives branches system h

  pub in_loads : Among loads insn width → HasText insn width
  unfolding HasText texts
  in_loads h = in_4 (fits (values_of insn) width) constants registers other_data loads stores pairs multiples exclusives branches system h

  pub in_stores : Among stores insn width → HasText insn width
  unfolding HasText texts
  in_stores h = in_5 (fits (values_of insn) width) constants registers other_data loads stores pairs multiples exclusives branches system h

  pub in_pairs : Among pairs insn width → HasText insn width
  unfolding HasText texts
  in_pairs h = in_6 (fits (values_of insn) width) constants registers other_data loads stores pairs multiples exclusives branches system h

  pub in_multiples : Among multiples insn width → HasText insn width
  unfolding HasText texts
  in_multiples h = in_7 (fits (values_of insn) width) constants registers other_data loads stores pairs multiples exclusives branches system h

  pub in_exclusives : Among exclusives insn width → HasText insn width
  unfolding HasText texts
  in_exclusives h = in_8 (fits (values_of insn) width) constants registers other_data loads stores pairs multiples exclusives branches system h

  pub in_branches : Among branches insn width → HasText insn width
  unfolding HasText texts
  in_branches h = in_9 (fits (values_of insn) width) constants registers other_data loads stores pairs multiples exclusives branches system h

  pub in_system : Among system insn width → HasText insn width
  unfolding HasText texts
  in_system h = in_10 (fits (values_of insn) width) constants registers other_data loads stores pairs multiples exclusives branches system h
