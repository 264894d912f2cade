use Rattle.std.proofs.Common.{◌<◌, ◌-◌, arith, length}
use Rattle.std.proofs.lemmas.Bool.{ltb-true}
use Rattle.tz_board.proofs.Halving.{all_below, steps_of-at}
use Rattle.tz_board.proofs.script.is_past.Goals as goal

pub returns-clause-below : goal.returns-clause-below
returns-clause-below g c low k lt =
    let inside : c.args.place - 1 < length c.args.moments.now = omega (arith, c.requires.within, c.if-place-eq0.false) in
    let seen = steps_of-at c.args.moments.now (c.args.place - 1) c.index-moments-place.result inside in
    all_below c.args.moments.now c.args.step (c.args.place - 1) c.requires.ascending inside (rw seen (ltb-true _ _ low)) k (omega arith)
