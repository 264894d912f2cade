use Rattle.std.proofs.Common.{◌≡◌, drop}
use Rattle.std.specs.Cmp.Lexicographic.{pointwise}
use Rattle.tz_state.specs.Difference.{is_same_slot}
use Rattle.tz_nvic.proofs.difference.are_same_slots.Given as goal

-- what is left to compare decides
abbrev pub invariant-loop-index : goal.invariant-loop-index
invariant-loop-index l = pointwise is_same_slot (drop l.index l.slots) (drop l.index l.others) ≡ pointwise is_same_slot l.slots l.others
