use Rattle.std.proofs.Common.{arith}
use Rattle.std.proofs.lemmas.Option.{slice_get-get_or}
use Rattle.tz_fields.specs.Fields.{system_places}
use Rattle.tz_fields.proofs.Order.{system_here}
use Rattle.tz_fields.proofs.words.slot_place.Goals as goal

pub returns-then-index-lt15-clause-is : goal.returns-then-index-lt15-clause-is
returns-then-index-lt15-clause-is c =
    system_here c.args.board.now.interrupts c.args.index _ (slice_get-get_or system_places c.args.index _ (omega (arith, c.if-index-lt15.true)))
