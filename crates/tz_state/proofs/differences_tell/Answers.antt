use Rattle.std.proofs.Common.{ap, sym, ◌∙◌}
use Rattle.tz_state.specs.Attribution.{SauState}
use Rattle.tz_state.specs.Protection.{MpuState}
use Rattle.tz_state.specs.Slots.{ExceptionsValue}
use Rattle.tz_state.specs.Difference.{sau_differs, mpu_differs, exceptions_differ}
use Rattle.tz_state.proofs.Difference.{same_sau, sau_itself, same_mpu, mpu_itself, same_exceptions, exceptions_itself, same_bytes, bytes_alike}
use Rattle.tz_state.proofs.differences_tell.Goals as goal

pub returns : goal.returns
returns c = record {
  sau = λ u v. (same_sau u v, λ e. ap (λ (x : SauState). sau_differs u x) (sym e) ∙ sau_itself u);
  mpu = λ m n. (same_mpu m n, λ e. ap (λ (x : MpuState). mpu_differs m x) (sym e) ∙ mpu_itself m);
  exceptions = λ e f s ns. (λ d. same_exceptions e f d s ns, λ is. ap (λ (x : ExceptionsValue). exceptions_differ e x) (sym is) ∙ exceptions_itself e);
  bytes = λ b c. (same_bytes b c, bytes_alike b c);
}
