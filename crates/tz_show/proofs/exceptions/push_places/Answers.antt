use Rattle.std.proofs.Common.{arith}
use Rattle.tz_show.proofs.Texts.{texts_start, texts_step}
use Rattle.tz_show.proofs.exceptions.push_places.Goals as goal

pub loop-index-init : goal.loop-index-init
loop-index-init c = record { bytes = texts_start _ _; len = omega arith }

pub loop-index-preserved : goal.loop-index-preserved
loop-index-preserved c = record {
  bytes = texts_step _ _ _ _ _ c.loop-index.invariant.bytes c.push_exception.ensures.bytes;
  len = let l = c.push_exception.ensures.len in omega (arith, l, c.loop-index.invariant.len);
}
