-- Both timers, and the regions of the SAU and of both MPUs that are enabled, each with what it says of its addresses.
use Rattle.std.specs.Prelude.{ℕ, ◌+◌, ◌*◌, ◌/◌, ◌%◌, ◌==◌, true, false, if◌then◌else◌, List, ◌++◌, codes, decimal}
use Rattle.tz_table.specs.declared.units.Side.{Side}
use Rattle.tz_table.specs.declared.units.Side.TheVariants.{Secure, NonSecure}
use Rattle.tz_model.specs.declared.board.Profile.{Profile}
use Rattle.tz_state.specs.declared.units.Bounds.{Bounds}
use Rattle.tz_state.specs.declared.slot.Timer.{Timer}
use Rattle.tz_state.specs.Attribution.{SauState, is_nsc}
use Rattle.tz_state.specs.Protection.{MpuState, may_read, may_write, has_pxn}
use Rattle.tz_state.specs.Regions.{is_enabled}
use Rattle.tz_state.specs.State.{Bus, mpu_of}
use Rattle.tz_state.specs.Slots.{ExceptionsValue}
use Rattle.tz_state.specs.UnitRegisters.{bounds_at}
use Rattle.tz_syntax.specs.Digits.{hex_word}
use Rattle.tz_show.specs.declared.bits.BitNames.TheVariants.{SystCsr, SauCtrl, MpuCtrl}
use Rattle.tz_show.specs.Rows.{pair_row, row, where_so, texts_below}

-- ---- timers

-- the Secure and the Non-secure one
unfoldable pub timer_rows : Timer → Timer → List ℕ
timer_rows s ns =
    row (codes "  SYST_CSR_S  ") s.csr SystCsr ++ pair_row (codes "  SYST_RVR_S  ") s.rvr (codes "  SYST_CVR_S  ") s.cvr
    ++ row (codes "  SYST_CSR_NS ") ns.csr SystCsr ++ pair_row (codes "  SYST_RVR_NS ") ns.rvr (codes "  SYST_CVR_NS ") ns.cvr

unfoldable pub timers_text : ExceptionsValue → List ℕ
timers_text e = codes "\nSysTick\n" ++ timer_rows e.timer_s e.timer_ns

-- ---- regions

-- the number of a region, its first address and its last
unfoldable pub span_text : ℕ → Bounds → List ℕ
span_text k r = codes "  " ++ decimal k ++ codes "  " ++ hex_word (r.rbar / 32 * 32) ++ codes "-" ++ hex_word (r.rlar / 32 * 32 + 31)

-- how the SAU attributes a region
unfoldable pub sau_words : Bounds → List ℕ
sau_words r = if is_nsc r then codes "  Secure, callable\n" else codes "  Non-secure\n"

-- a region that is off isn't listed
unfoldable pub sau_line : ℕ → Bounds → List ℕ
sau_line k r = where_so (is_enabled r) (span_text k r ++ sau_words r)

unfoldable pub sau_region_text : List Bounds → ℕ → List ℕ
sau_region_text regions k = sau_line k (bounds_at regions k)

-- what an MPU permits: reads and writes or reads alone, of any code or of privileged code; and where code doesn't run
unfoldable pub mpu_words : Profile → Bounds → List ℕ
mpu_words profile r =
    (if may_write r true then codes "  rw" else codes "  ro") ++ (if may_read r false then codes " any" else codes " privileged")
    ++ where_so (r.rbar % 2 == 1) (codes " xn") ++ where_so (has_pxn profile r) (codes " pxn") ++ codes "\n"

unfoldable pub mpu_line : Profile → ℕ → Bounds → List ℕ
mpu_line profile k r = where_so (is_enabled r) (span_text k r ++ mpu_words profile r)

unfoldable pub mpu_region_text : Profile → List Bounds → ℕ → List ℕ
mpu_region_text profile regions k = mpu_line profile k (bounds_at regions k)

-- a board has at most 8 regions of the SAU
unfoldable pub sau_text : SauState → List ℕ
sau_text u = codes "\nSAU\n" ++ row (codes "  SAU_CTRL    ") u.ctrl SauCtrl ++ texts_below (sau_region_text u.regions) 8

-- and 16 of an MPU
unfoldable pub mpu_text : Profile → MpuState → List ℕ → List ℕ
mpu_text profile m head = row head m.ctrl MpuCtrl ++ texts_below (mpu_region_text profile m.regions) 16

-- that of a side
unfoldable pub side_mpu_text : Bus → Side → List ℕ → List ℕ
side_mpu_text b side head = mpu_text b.board.profile (mpu_of side b) head

unfoldable pub mpus_text : Bus → List ℕ
mpus_text b = codes "\nMPU\n" ++ side_mpu_text b Secure (codes "  MPU_CTRL_S  ") ++ side_mpu_text b NonSecure (codes "  MPU_CTRL_NS ")
