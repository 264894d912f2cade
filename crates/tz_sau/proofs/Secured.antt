-- The more secure of two attributions.
use Rattle.std.proofs.Common.{◌≡◌, refl}
use Rattle.tz_model.specs.declared.board.RegionSide.{RegionSide}
use Rattle.tz_model.specs.declared.board.RegionSide.TheVariants.{Secure, Nsc, NonSecure}
use Rattle.tz_state.specs.Attribution.{more_secure}

-- beside Secure nothing counts
pub secure_stays : (side : RegionSide) → more_secure side Secure ≡ Secure
secure_stays Secure = refl
secure_stays Nsc = refl
secure_stays NonSecure = refl
