-- The fault registers: which faults there were, bit by bit, and the addresses of those that have one.
use Rattle.std.specs.Prelude.{ℕ, List, ◌++◌, codes}
use Rattle.tz_regs.specs.declared.parts.Status.{Status}
use Rattle.tz_show.specs.declared.bits.BitNames.TheVariants.{Ufsr, Mmfsr, Bfsr, Hfsr, Sfsr, Plain}
use Rattle.tz_show.specs.Rows.{row}

-- those that each side has
unfoldable pub banked_faults_text : Status → List ℕ
banked_faults_text t =
    row (codes "  UFSR_S   ") t.s.ufsr Ufsr ++ row (codes "  UFSR_NS  ") t.ns.ufsr Ufsr ++ row (codes "  MMFSR_S  ") t.s.mmfsr Mmfsr
    ++ row (codes "  MMFAR_S  ") t.s.mmfar Plain ++ row (codes "  MMFSR_NS ") t.ns.mmfsr Mmfsr ++ row (codes "  MMFAR_NS ") t.ns.mmfar Plain

-- those that there are once
unfoldable pub other_faults_text : Status → List ℕ
other_faults_text t =
    row (codes "  BFSR     ") t.bus.bfsr Bfsr ++ row (codes "  BFAR     ") t.bus.bfar Plain ++ row (codes "  HFSR     ") t.bus.hfsr Hfsr
    ++ row (codes "  SFSR     ") t.security.sfsr Sfsr ++ row (codes "  SFAR     ") t.security.sfar Plain

unfoldable pub faults_text : Status → List ℕ
faults_text t = codes "\nFaults\n" ++ banked_faults_text t ++ other_faults_text t
