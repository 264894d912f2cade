use Rattle.std.proofs.Common.{◌<◌, ◌+◌, ◌-◌, ◌/◌, ◌^◌, arith, length, get_or}
use Rattle.tz_board.specs.Script.{steps_of}
use Rattle.tz_board.proofs.Halving.{all_above, all_below, halved, steps_of-at}
use Rattle.tz_board.proofs.script.count_up_to.Goals as goal

pub loop-low-preserved-then-moments-middle : goal.loop-low-preserved-then-moments-middle
loop-low-preserved-then-moments-middle g c =
    let i = c.loop-low.invariant in
    let inside : c.loop-low.low + (c.loop-low.high - c.loop-low.low) / 2 < length c.args.moments.now = omega arith in
    let seen = steps_of-at c.args.moments.now (c.loop-low.low + (c.loop-low.high - c.loop-low.low) / 2) c.index-moments-middle.result inside in
    let low : get_or (steps_of c.args.moments.now) (c.loop-low.low + (c.loop-low.high - c.loop-low.low) / 2) 0 < c.args.step + 1 = rw seen (omega arith) in
    let all = all_below c.args.moments.now (c.args.step + 1) (c.loop-low.low + (c.loop-low.high - c.loop-low.low) / 2) c.requires.ascending inside low in
    let half = halved (c.loop-low.high - c.loop-low.low) (c.args.steps.now + 14) c.loop-low.steps (omega arith) i.few in
    let less : (c.loop-low.high - c.loop-low.low) / 2 < 2 ^ (c.args.steps.now + 14 - c.look.new.self) = rw c.look.ensures half.1 in
    record {
      ordered = omega arith;
      within = i.within;
      below = λ k lt. let under = all k lt in omega (arith, under);
      above = i.above;
      few = omega (arith, less);
      counted = omega arith;
      not_many = omega (arith, half.0);
    }

pub loop-low-preserved : goal.loop-low-preserved
loop-low-preserved g c =
    let i = c.loop-low.invariant in
    let inside : c.loop-low.low + (c.loop-low.high - c.loop-low.low) / 2 < length c.args.moments.now = omega arith in
    let seen = steps_of-at c.args.moments.now (c.loop-low.low + (c.loop-low.high - c.loop-low.low) / 2) c.index-moments-middle.result inside in
    let half = halved (c.loop-low.high - c.loop-low.low) (c.args.steps.now + 14) c.loop-low.steps (omega arith) i.few in
    let less : (c.loop-low.high - c.loop-low.low) / 2 < 2 ^ (c.args.steps.now + 14 - c.look.new.self) = rw c.look.ensures half.1 in
    record {
      ordered = omega arith;
      within = omega arith;
      below = i.below;
      above = all_above c.args.moments.now c.args.step (c.loop-low.low + (c.loop-low.high - c.loop-low.low) / 2) c.requires.ascending (rw seen (omega arith));
      few = omega (arith, less);
      counted = omega arith;
      not_many = omega (arith, half.0);
    }
