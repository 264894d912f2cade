use Rattle.std.proofs.Common.{◌≡◌, drop}
use Rattle.tz_state.specs.Attribution.{idau_side, idau_region}
use Rattle.tz_sau.proofs.idau.idau_word.Given as goal

abbrev pub invariant-loop-index : goal.invariant-loop-index
invariant-loop-index l = record {
  side : idau_side (drop l.index l.regions) l.addr ≡ idau_side l.regions l.addr;
  region : idau_region l.index (drop l.index l.regions) l.addr ≡ idau_region 0 l.regions l.addr;
}
