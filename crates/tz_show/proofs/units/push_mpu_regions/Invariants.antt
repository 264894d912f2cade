use Rattle.std.proofs.Common.{◌≡◌, ◌≤◌, ◌+◌, ◌*◌, ◌++◌}
use Rattle.arrayvec.specs.ArrayString.{array_string_len}
use Rattle.tz_show.specs.Units.{mpu_region_text}
use Rattle.tz_show.specs.Rows.{texts_below}
use Rattle.tz_show.proofs.units.push_mpu_regions.Given as goal

abbrev pub invariant-loop-k : goal.invariant-loop-k
invariant-loop-k l = record {
  bytes : l.text.bytes ≡ l.fn.text.bytes ++ texts_below (mpu_region_text l.profile l.mpu.mpu.regions) l.k;
  len : array_string_len l.text ≤ array_string_len l.fn.text + 54 * l.k;
}
