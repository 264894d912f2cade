-- The masks of both sides, and the priority that each one that is set counts as.
use Rattle.std.specs.Prelude.{ℕ, ◌==◌, not, Bool, List, ◌++◌, codes}
use Rattle.std.specs.Fmt.{signed_decimal}
use Rattle.tz_table.specs.declared.units.Side.{Side}
use Rattle.tz_table.specs.declared.units.Side.TheVariants.{Secure, NonSecure}
use Rattle.tz_regs.specs.declared.parts.Masks.{Masks}
use Rattle.tz_regs.specs.declared.parts.SideMasks.{SideMasks}
use Rattle.tz_regs.specs.Special.{number_of}
use Rattle.tz_state.specs.Slots.{ExceptionsValue}
use Rattle.tz_state.specs.Execution.{manual_priority, basepri_priority, primask_priority, faultmask_priority}
use Rattle.tz_show.specs.Rows.{cell, where_so}

-- a mask; 0 masks nothing
unfoldable pub mask_row : List ℕ → ℕ → ℕ → List ℕ
mask_row head value priority =
    cell head value ++ where_so (not (value == 0)) (codes " counts as " ++ signed_decimal (manual_priority priority)) ++ codes "\n"

unfoldable pub primask_row : ExceptionsValue → Side → Bool → List ℕ → List ℕ
primask_row e side set head = mask_row head (number_of set) (primask_priority e side set)

unfoldable pub basepri_row : ExceptionsValue → Side → ℕ → List ℕ → List ℕ
basepri_row e side byte head = mask_row head byte (basepri_priority e side byte)

unfoldable pub faultmask_row : ExceptionsValue → Side → Bool → List ℕ → List ℕ
faultmask_row e side set head = mask_row head (number_of set) (faultmask_priority e side set)

-- the three of a side, by what stands before each
unfoldable pub side_masks_text : ExceptionsValue → Side → SideMasks → List ℕ → List ℕ → List ℕ → List ℕ
side_masks_text e side m primask basepri faultmask =
    primask_row e side m.primask primask ++ basepri_row e side m.basepri basepri ++ faultmask_row e side m.faultmask faultmask

unfoldable pub masks_text : ExceptionsValue → Masks → List ℕ
masks_text e m =
    codes "\nMasks\n" ++ side_masks_text e Secure m.s (codes "  PRIMASK_S    ") (codes "  BASEPRI_S    ") (codes "  FAULTMASK_S  ")
    ++ side_masks_text e NonSecure m.ns (codes "  PRIMASK_NS   ") (codes "  BASEPRI_NS   ") (codes "  FAULTMASK_NS ")
