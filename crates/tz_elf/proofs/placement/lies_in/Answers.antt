use Rattle.std.proofs.Common.{◌≡◌, ◌∙◌, ◌<◌, ◌+◌, ◌-◌, ap, arith}
use Rattle.tz_elf.specs.Placement.{lies_in}
use Rattle.tz_elf.proofs.Regions.{lies_in-none, lies_in-outside, lies_in-skip}
use Rattle.tz_elf.proofs.placement.lies_in.Goals as goal

pub loop-at-preserved : goal.loop-at-preserved
loop-at-preserved c =
    let end = c.from.result + c.args.count in
    let next : c.loop-at.at < c.in-Some.next = c.in-Some.ensures.past in
    let same : c.loop-at.at + (end - c.loop-at.at) - c.in-Some.next ≡ end - c.in-Some.next = omega arith in
    record {
      from = omega arith;
      same = c.loop-at.invariant.same
          ∙ lies_in-skip c.args.regions.now (end - c.loop-at.at) c.loop-at.at c.in-Some.next (omega arith) c.in-Some.ensures.within
          ∙ ap (lies_in c.args.regions.now c.in-Some.next) same;
    }

pub returns-in-None : goal.returns-in-None
returns-in-None c =
    c.loop-at.invariant.same ∙ lies_in-outside c.args.regions.now _ c.loop-at.at (omega arith) c.in-None.ensures.none

pub returns : goal.returns
returns c = c.loop-at.invariant.same ∙ lies_in-none c.args.regions.now c.loop-at.at _ (omega arith)
