use Rattle.std.proofs.Common.{arith}
use Rattle.tz_show.proofs.Texts.{texts_start, texts_step}
use Rattle.tz_show.proofs.frames.push_words.Goals as goal

pub loop-k-init : goal.loop-k-init
loop-k-init c = record { bytes = texts_start _ _; len = omega arith }

pub loop-k-preserved : goal.loop-k-preserved
loop-k-preserved c = record {
  bytes = texts_step _ _ _ _ _ c.loop-k.invariant.bytes c.push_frame_word.ensures.bytes;
  len = let l = c.push_frame_word.ensures.len in omega (arith, l, c.loop-k.invariant.len);
}
