-- A region that isn't there has no line.
use Rattle.std.proofs.Common.{◌≡◌, ℕ, ◌≤◌, List, [], length, refl}
use Rattle.std.proofs.lemmas.Option.{slice_get_past}
use Rattle.tz_model.specs.declared.board.Profile.{Profile}
use Rattle.tz_state.specs.declared.units.Bounds.{Bounds}
use Rattle.tz_show.specs.Units.{sau_line, sau_region_text, mpu_line, mpu_region_text}

pub sau_none : (regions : List Bounds) (k : ℕ) → length regions ≤ k → sau_region_text regions k ≡ []
unfolding sau_region_text sau_line
sau_none regions k l = rw (slice_get_past regions k l) refl

pub mpu_none : (profile : Profile) (regions : List Bounds) (k : ℕ) → length regions ≤ k → mpu_region_text profile regions k ≡ []
unfolding mpu_region_text mpu_line
mpu_none profile regions k l = rw (slice_get_past regions k l) refl
