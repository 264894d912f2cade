use Rattle.std.proofs.Common.{◌≡◌, drop}
use Rattle.tz_state.specs.Regions.{holding}
use Rattle.tz_sau.specs.Holders.{holders_of}
use Rattle.tz_sau.proofs.Holding.{holders_after}
use Rattle.tz_sau.proofs.scan.find_holders.Given as goal

abbrev pub invariant-loop-index : goal.invariant-loop-index
invariant-loop-index l =
    holders_after l.found (holding l.index (drop l.index l.bounds) l.addr) ≡ holders_of (holding 0 l.bounds l.addr)
