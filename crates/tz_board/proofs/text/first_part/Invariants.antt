use Rattle.std.proofs.Common.{◌≡◌, length}
use Rattle.tz_board.specs.Scripts.{parts_of}
use Rattle.tz_board.proofs.text.first_part.Given as goal

abbrev pub invariant-loop-part : goal.invariant-loop-part
invariant-loop-part l = parts_of l.line ≡ parts_of l.rest

abbrev pub decreases-loop-part : goal.decreases-loop-part
decreases-loop-part l = length l.rest
