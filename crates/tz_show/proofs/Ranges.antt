-- The ranges that are left are the first of them and those behind it.
use Rattle.std.proofs.Common.{◌≡◌, ℕ, ◌+◌, ◌<◌, List, ◌++◌, length, get_or, drop, refl, add-one, drop-cons}
use Rattle.tz_state.specs.State.{Bus}
use Rattle.tz_show.specs.Dump.{range_text, ranges_text}
use Rattle.tz_words.specs.declared.ranges.Range.{Range}

pub ranges_more : (b : Bus) (ranges : List Range) (k : ℕ) (d : Range) → k < length ranges → ranges_text b (drop k ranges) ≡ range_text b (get_or ranges k d) ++ ranges_text b (drop (k + 1) ranges)
unfolding ranges_text
ranges_more b ranges k d l = rw (add-one, drop-cons ranges k d l) refl
