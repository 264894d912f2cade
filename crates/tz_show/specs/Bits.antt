-- The bits that a page names where they are set, by the register that has them (DDI0553, chapter D1.2, and EXC_RETURN).
use Rattle.std.specs.Prelude.{ℕ, suc, ◌+◌, ◌^◌, List, [], ◌∷◌, codes, length}
use Rattle.tz_regs.specs.FaultBits.{iaccviol, daccviol, munstkerr, mstkerr, mmarvalid, ibuserr, preciserr, unstkerr, stkerr, bfarvalid, undefinstr, invstate, invpc, nocp, stkof, unaligned, divbyzero, vecttbl, forced, debugevt, invep, invis, inver, auviol, invtran, sfarvalid}
use Rattle.tz_regs.specs.RegisterBits.{ccr_unalign_trp, ccr_div_0_trp, control_spsel, apsr_q, apsr_v, apsr_c, apsr_z, apsr_n}
use Rattle.tz_state.specs.MoverBits.{mover_go, mover_done, mover_error, mover_ie}
use Rattle.tz_state.specs.SysTickBits.{syst_csr_enable, syst_csr_tickint, syst_csr_clksource, syst_csr_countflag}
use Rattle.tz_state.specs.UnitBits.{sau_ctrl_allns, mpu_ctrl_hfnmiena, mpu_ctrl_privdefena}
use Rattle.tz_frames.specs.ReturnBits.{exc_return_es, exc_return_spsel, exc_return_mode, exc_return_ftype, exc_return_dcrs, exc_return_s}
use Rattle.tz_show.specs.declared.bits.Bit.{Bit}
use Rattle.tz_show.specs.declared.bits.BitNames.{BitNames}
use Rattle.tz_show.specs.declared.bits.BitNames.TheVariants.{Apsr, Control, Ccr, Ufsr, Mmfsr, Bfsr, Hfsr, Sfsr, SystCsr, MoverCtrl, SauCtrl, MpuCtrl, ExcReturn, Plain}

-- the word that has a bit alone, and its name
pub record BitName : Type 0 where
  pub mask : ℕ
  pub name : List ℕ

abbrev pub bit : ℕ → List ℕ → BitName
bit mask name = record { mask = mask; name = name }

-- N, Z, C, V, Q, as a line of flags has them
abbrev pub apsr_names : List BitName
apsr_names =
    bit (2 ^ apsr_n) (codes "N") ∷ bit (2 ^ apsr_z) (codes "Z") ∷ bit (2 ^ apsr_c) (codes "C") ∷ bit (2 ^ apsr_v) (codes "V")
    ∷ bit (2 ^ apsr_q) (codes "Q") ∷ []

abbrev pub control_names : List BitName
control_names = bit (2 ^ 0) (codes "nPRIV") ∷ bit (2 ^ control_spsel) (codes "SPSEL") ∷ []

abbrev pub ccr_names : List BitName
ccr_names = bit (2 ^ ccr_unalign_trp) (codes "UNALIGN_TRP") ∷ bit (2 ^ ccr_div_0_trp) (codes "DIV_0_TRP") ∷ []

abbrev pub ufsr_names : List BitName
ufsr_names =
    bit undefinstr (codes "UNDEFINSTR") ∷ bit invstate (codes "INVSTATE") ∷ bit invpc (codes "INVPC") ∷ bit nocp (codes "NOCP")
    ∷ bit stkof (codes "STKOF") ∷ bit unaligned (codes "UNALIGNED") ∷ bit divbyzero (codes "DIVBYZERO") ∷ []

abbrev pub mmfsr_names : List BitName
mmfsr_names =
    bit iaccviol (codes "IACCVIOL") ∷ bit daccviol (codes "DACCVIOL") ∷ bit munstkerr (codes "MUNSTKERR")
    ∷ bit mstkerr (codes "MSTKERR") ∷ bit mmarvalid (codes "MMARVALID") ∷ []

abbrev pub bfsr_names : List BitName
bfsr_names =
    bit ibuserr (codes "IBUSERR") ∷ bit preciserr (codes "PRECISERR") ∷ bit unstkerr (codes "UNSTKERR")
    ∷ bit stkerr (codes "STKERR") ∷ bit bfarvalid (codes "BFARVALID") ∷ []

abbrev pub hfsr_names : List BitName
hfsr_names = bit vecttbl (codes "VECTTBL") ∷ bit forced (codes "FORCED") ∷ bit debugevt (codes "DEBUGEVT") ∷ []

abbrev pub sfsr_names : List BitName
sfsr_names =
    bit invep (codes "INVEP") ∷ bit invis (codes "INVIS") ∷ bit inver (codes "INVER") ∷ bit auviol (codes "AUVIOL")
    ∷ bit invtran (codes "INVTRAN") ∷ bit sfarvalid (codes "SFARVALID") ∷ []

abbrev pub syst_csr_names : List BitName
syst_csr_names =
    bit (2 ^ syst_csr_enable) (codes "ENABLE") ∷ bit (2 ^ syst_csr_tickint) (codes "TICKINT")
    ∷ bit (2 ^ syst_csr_clksource) (codes "CLKSOURCE") ∷ bit (2 ^ syst_csr_countflag) (codes "COUNTFLAG") ∷ []

-- IRQ is a number, which the value shows
abbrev pub mover_ctrl_names : List BitName
mover_ctrl_names =
    bit (2 ^ mover_go) (codes "GO") ∷ bit (2 ^ mover_done) (codes "DONE") ∷ bit (2 ^ mover_error) (codes "ERROR") ∷ bit (2 ^ mover_ie) (codes "IE") ∷ []

abbrev pub sau_ctrl_names : List BitName
sau_ctrl_names = bit (2 ^ 0) (codes "ENABLE") ∷ bit (2 ^ sau_ctrl_allns) (codes "ALLNS") ∷ []

abbrev pub mpu_ctrl_names : List BitName
mpu_ctrl_names =
    bit (2 ^ 0) (codes "ENABLE") ∷ bit (2 ^ mpu_ctrl_hfnmiena) (codes "HFNMIENA") ∷ bit (2 ^ mpu_ctrl_privdefena) (codes "PRIVDEFENA") ∷ []

abbrev pub exc_return_names : List BitName
exc_return_names =
    bit (2 ^ exc_return_es) (codes "ES") ∷ bit (2 ^ exc_return_spsel) (codes "SPSEL") ∷ bit (2 ^ exc_return_mode) (codes "Mode")
    ∷ bit (2 ^ exc_return_ftype) (codes "FType") ∷ bit (2 ^ exc_return_dcrs) (codes "DCRS") ∷ bit (2 ^ exc_return_s) (codes "S") ∷ []

-- the bits of a register by name; none of a plain one
abbrev pub bits_of : BitNames → List BitName
bits_of Apsr = apsr_names
bits_of Control = control_names
bits_of Ccr = ccr_names
bits_of Ufsr = ufsr_names
bits_of Mmfsr = mmfsr_names
bits_of Bfsr = bfsr_names
bits_of Hfsr = hfsr_names
bits_of Sfsr = sfsr_names
bits_of SystCsr = syst_csr_names
bits_of MoverCtrl = mover_ctrl_names
bits_of SauCtrl = sau_ctrl_names
bits_of MpuCtrl = mpu_ctrl_names
bits_of ExcReturn = exc_return_names
bits_of Plain = []

-- ---- tables as the program has them

abbrev pub bit_view : Bit → BitName
bit_view b = record { mask = b.mask; name = b.name.now }

-- how many bytes a name takes with the space before it, and how many all names of a table take
abbrev pub name_most : BitName → ℕ
name_most b = suc (length b.name)

abbrev pub names_most : List BitName → ℕ
names_most [] = 0
names_most (b ∷ bs) = name_most b + names_most bs
