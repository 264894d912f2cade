use Rattle.std.proofs.Common.{◌<◌, ◌≤◌, arith, length, inl, inr}
use Rattle.std.proofs.lemmas.Bool.{cases_lt, ltb-true}
use Rattle.tz_board.proofs.Halving.{all_above, steps_of-at}
use Rattle.tz_board.proofs.script.is_between.Goals as goal

pub returns-clause-none : goal.returns-clause-none
returns-clause-none g c high k within same =
    let inside : c.args.place < length c.args.moments.now = omega (arith, c.if-place-moments.false, c.if-place-moments-2.false) in
    let seen = steps_of-at c.args.moments.now c.args.place c.index-moments-place.result inside in
    let above = all_above c.args.moments.now c.args.step c.args.place c.requires.ascending (rw seen (ltb-true _ _ high)) in
    elim (cases_lt k c.args.place) [
      | inl before ↦ let below = c.is_past.ensures.below c.if-not-is_past.false k before in omega (arith, below, same)
      | inr after ↦ let more = above k after within in omega (arith, more, same)
    ]
