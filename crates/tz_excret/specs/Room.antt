-- How many stores an entry may still make.
use Rattle.std.specs.Prelude.{ℕ, if◌then◌else◌}
use Rattle.tz_frames.specs.declared.entering.Entering.{Entering}

-- the words of the additional frame, as long as it may be written
abbrev pub need : Entering → ℕ
need x = if x.skip then 0 else 10
