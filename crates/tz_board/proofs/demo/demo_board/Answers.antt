use Rattle.std.proofs.Common.{refl}
use Rattle.tz_board.specs.Demo.{demo}
use Rattle.tz_board.proofs.demo.demo_board.Goals as goal

pub returns : goal.returns
unfolding demo
returns c = rw (c.in_ok-regions.ensures, c.in_ok-sau.ensures) refl
