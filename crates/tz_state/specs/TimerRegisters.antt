-- SYST_CSR, SYST_RVR, SYST_CVR and SYST_CALIB of a timer (DDI0553, chapter D1.2).
use Rattle.std.specs.Prelude.{ℕ, ◌%◌, ◌^◌, bit_and, bit_or}
use Rattle.tz_state.specs.declared.slot.Timer.{Timer}
use Rattle.tz_state.specs.declared.register.TimerRegister.{TimerRegister}
use Rattle.tz_state.specs.declared.register.TimerRegister.TheVariants.{Csr, Rvr, Cvr, Calib}
use Rattle.tz_state.specs.SysTickBits.{syst_csr_countflag}

abbrev pub timer_value : Timer → TimerRegister → ℕ
timer_value t Csr = t.csr
timer_value t Rvr = t.rvr
timer_value t Cvr = t.cvr
timer_value t Calib = 0

-- SYST_CSR without COUNTFLAG
abbrev pub unflagged : ℕ → ℕ
unflagged csr = csr % 2 ^ syst_csr_countflag

-- a read of SYST_CSR clears COUNTFLAG
abbrev pub timer_read : Timer → TimerRegister → Timer
timer_read t Csr = record t { csr = unflagged t.csr }
timer_read t Rvr = t
timer_read t Cvr = t
timer_read t Calib = t

-- a write of SYST_CSR keeps COUNTFLAG, and one of SYST_CVR clears it, and makes CVR 0 whatever is written
abbrev pub timer_written : Timer → TimerRegister → ℕ → Timer
timer_written t Csr value = record t { csr = bit_or (value % 8) (bit_and t.csr (2 ^ syst_csr_countflag)) }
timer_written t Rvr value = record t { rvr = value % 2 ^ 24 }
timer_written t Cvr value = record t { csr = unflagged t.csr; cvr = 0 }
timer_written t Calib value = t
