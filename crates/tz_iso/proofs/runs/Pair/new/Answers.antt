use Rattle.tz_iso.proofs.Agreement.{linked_starts}
use Rattle.tz_iso.proofs.Stepped.{marked_all}
use Rattle.tz_iso.proofs.runs.Pair.new.Goals as goal

pub invariant_of-result : goal.invariant_of-result
invariant_of-result c = λ none. (
  linked_starts c.args.board.now c.args.first.now c.args.second.now c.args.nonsecure.now _ _ c.in_ok-one.ensures c.in_ok-two.ensures,
  marked_all c.everything.result c.in_ok-one.one c.in_ok-two.two c.everything.ensures.all c.everything.ensures.exceptions,
)
