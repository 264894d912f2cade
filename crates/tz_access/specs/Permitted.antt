-- What an MPU permits, by the kind of an access.
use Rattle.std.specs.Prelude.{Bool}
use Rattle.tz_state.specs.declared.request.Kind.{Kind}
use Rattle.tz_state.specs.declared.request.Kind.TheVariants.{Read, Write, Fetch}
use Rattle.tz_mpu.specs.declared.permission.Permitted.{Permitted}

abbrev pub permitted_by : Kind → Permitted → Bool
permitted_by Read p = p.read
permitted_by Write p = p.write
permitted_by Fetch p = p.execute
