use Rattle.std.proofs.Common.{◌<◌, ◌+◌, ◌-◌, ◌/◌, ◌^◌, arith, length, rules, tests}
use Rattle.std.proofs.lemmas.Grind.{common_steps, elements}
use Rattle.tz_board.proofs.Halving.{all_above, all_below, halved, steps_of-at}
use Rattle.tz_board.proofs.script.find.Goals as goal

pub loop-low-preserved-then-here-step-2 : goal.loop-low-preserved-then-here-step-2
loop-low-preserved-then-here-step-2 g c =
    let i = c.loop-low.invariant in
    let inside : c.loop-low.low + (c.loop-low.high - c.loop-low.low) / 2 < length c.args.moments.now = omega arith in
    let seen = steps_of-at c.args.moments.now (c.loop-low.low + (c.loop-low.high - c.loop-low.low) / 2) c.index-moments-middle.result inside in
    let half = halved (c.loop-low.high - c.loop-low.low) (c.args.steps.now + 14) c.loop-low.steps (omega arith) i.few in
    let less : (c.loop-low.high - c.loop-low.low) / 2 < 2 ^ (c.args.steps.now + 14 - c.look.new.self) = rw c.look.ensures half.1 in
    record {
      ordered = omega arith;
      within = i.within;
      below = all_below c.args.moments.now c.args.step (c.loop-low.low + (c.loop-low.high - c.loop-low.low) / 2) c.requires.ascending inside (rw seen c.if-here-step-2.true);
      above = i.above;
      few = omega (arith, less);
      counted = omega arith;
      not_many = omega (arith, half.0);
    }

pub loop-low-preserved : goal.loop-low-preserved
loop-low-preserved g c =
    let i = c.loop-low.invariant in
    let inside : c.loop-low.low + (c.loop-low.high - c.loop-low.low) / 2 < length c.args.moments.now = omega arith in
    let seen = steps_of-at c.args.moments.now (c.loop-low.low + (c.loop-low.high - c.loop-low.low) / 2) c.index-moments-middle.result inside in
    let half = halved (c.loop-low.high - c.loop-low.low) (c.args.steps.now + 14) c.loop-low.steps (omega arith) i.few in
    let less : (c.loop-low.high - c.loop-low.low) / 2 < 2 ^ (c.args.steps.now + 14 - c.look.new.self) = rw c.look.ensures half.1 in
    record {
      ordered = omega arith;
      within = omega arith;
      below = i.below;
      above = all_above c.args.moments.now c.args.step (c.loop-low.low + (c.loop-low.high - c.loop-low.low) / 2) c.requires.ascending (rw seen (omega arith));
      few = omega (arith, less);
      counted = omega arith;
      not_many = omega (arith, half.0);
    }

-- What the tactics try, by name: a body that is refused is then told without a search for what to offer.
pub returns-then-here-step-clause-at : goal.returns-then-here-step-clause-at
returns-then-here-step-clause-at g c = first_of (assumption, grind (arith, common_steps))

pub returns-then-here-step-clause-looks : goal.returns-then-here-step-clause-looks
returns-then-here-step-clause-looks g c = first_of (assumption, search (tests, rules), grind (arith, common_steps), grind (arith, elements))

pub returns-clause-at : goal.returns-clause-at
returns-clause-at g c = first_of (assumption, search (tests, rules), grind (arith, common_steps), grind (arith, elements))

pub returns-clause-looks : goal.returns-clause-looks
returns-clause-looks g c = first_of (assumption, search (tests, rules), grind (arith, common_steps), grind (arith, elements))
