use Rattle.std.proofs.Common.{◌∙◌, ◌≡◌, ◌≤◌, length, ℕ, List, subst, sym}
use Rattle.tz_syntax.specs.Names.{special_text}
use Rattle.tz_syntax.proofs.NameLemmas.{specials_are, nonsecure_specials_are, special_text_below, special_text_above, special_text_fits}
use Rattle.tz_syntax.proofs.names.special_name.Goals as goal

fits_along : (t : List ℕ) (k : ℕ) → t ≡ special_text k → length t ≤ 12
fits_along t k h = let P : List ℕ → Type 0 = λ x. length x ≤ 12 in subst P (sym h) (special_text_fits k)

pub returns-then-number-lt136-clause-text : goal.returns-then-number-lt136-clause-text
returns-then-number-lt136-clause-text c = c.name_at.ensures ∙ special_text_below _ c.args.number specials_are c.if-number-lt136.true

pub returns-then-number-lt136-clause-short : goal.returns-then-number-lt136-clause-short
returns-then-number-lt136-clause-short c = fits_along _ c.args.number (returns-then-number-lt136-clause-text c)

pub returns-else-number-lt136-clause-text : goal.returns-else-number-lt136-clause-text
returns-else-number-lt136-clause-text c = c.name_at-else-number-lt136.ensures ∙ special_text_above _ c.args.number nonsecure_specials_are c.if-number-lt136.false

pub returns-else-number-lt136-clause-short : goal.returns-else-number-lt136-clause-short
returns-else-number-lt136-clause-short c = fits_along _ c.args.number (returns-else-number-lt136-clause-text c)
