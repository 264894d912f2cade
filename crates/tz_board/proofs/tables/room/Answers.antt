-- What the subtraction says, by name: another number is then refused at once.
use Rattle.tz_board.proofs.tables.room.Goals as goal

pub returns : goal.returns
returns c = c.saturating_sub.ensures
