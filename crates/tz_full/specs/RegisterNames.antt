-- The names of the system registers (DDI0553, chapter D1.2), and what an address in the private space is called.
use Rattle.std.specs.Prelude.{ℕ, ◌==◌, Bool, true, if◌then◌else◌, List, [], ◌++◌, codes, decimal, Option, Some, None}
use Rattle.tz_model.specs.AddressMap.{scs_first, scs_last, scs_ns_first, scs_ns_last}
use Rattle.tz_model.specs.Board.{within}
use Rattle.tz_state.specs.declared.register.Register.{Register}
use Rattle.tz_state.specs.declared.register.Register.TheVariants.{Ictr, Stir, Timer, Bits, Priorities, Control, Fault, Mover, Mpu, Sau}
use Rattle.tz_state.specs.declared.register.TimerRegister.{TimerRegister}
use Rattle.tz_state.specs.declared.register.TimerRegister.TheVariants as syst
use Rattle.tz_state.specs.declared.register.Bank.{Bank}
use Rattle.tz_state.specs.declared.register.Bank.TheVariants as nvic
use Rattle.tz_state.specs.declared.register.ControlRegister.{ControlRegister}
use Rattle.tz_state.specs.declared.register.ControlRegister.TheVariants as scb
use Rattle.tz_state.specs.declared.register.FaultRegister.{FaultRegister}
use Rattle.tz_state.specs.declared.register.FaultRegister.TheVariants as fault
use Rattle.tz_state.specs.declared.register.MoverRegister.{MoverRegister}
use Rattle.tz_state.specs.declared.register.MoverRegister.TheVariants as channel
use Rattle.tz_state.specs.declared.units.MpuRegister.{MpuRegister}
use Rattle.tz_state.specs.declared.units.MpuRegister.TheVariants as mpu
use Rattle.tz_state.specs.declared.units.SauRegister.{SauRegister}
use Rattle.tz_state.specs.declared.units.SauRegister.TheVariants as sau
use Rattle.tz_state.specs.Views.{in_window}

abbrev pub timer_name : TimerRegister → List ℕ
timer_name syst.Csr = codes "SYST_CSR"
timer_name syst.Rvr = codes "SYST_RVR"
timer_name syst.Cvr = codes "SYST_CVR"
timer_name syst.Calib = codes "SYST_CALIB"

abbrev pub bank_name : Bank → List ℕ
bank_name nvic.Enable = codes "NVIC_ISER"
bank_name nvic.Disable = codes "NVIC_ICER"
bank_name nvic.Pend = codes "NVIC_ISPR"
bank_name nvic.Unpend = codes "NVIC_ICPR"
bank_name nvic.Active = codes "NVIC_IABR"
bank_name nvic.Target = codes "NVIC_ITNS"

abbrev pub control_name : ControlRegister → List ℕ
control_name scb.Cpuid = codes "CPUID"
control_name scb.Icsr = codes "ICSR"
control_name scb.Vtor = codes "VTOR"
control_name scb.Aircr = codes "AIRCR"
control_name scb.Ccr = codes "CCR"
control_name scb.Shpr1 = codes "SHPR1"
control_name scb.Shpr2 = codes "SHPR2"
control_name scb.Shpr3 = codes "SHPR3"
control_name scb.Shcsr = codes "SHCSR"

abbrev pub fault_name : FaultRegister → List ℕ
fault_name fault.Cfsr = codes "CFSR"
fault_name fault.Hfsr = codes "HFSR"
fault_name fault.Mmfar = codes "MMFAR"
fault_name fault.Bfar = codes "BFAR"
fault_name fault.Sfsr = codes "SFSR"
fault_name fault.Sfar = codes "SFAR"

-- (own)
abbrev pub mover_name : MoverRegister → List ℕ
mover_name channel.Src = codes "MOVER_SRC"
mover_name channel.Dst = codes "MOVER_DST"
mover_name channel.Count = codes "MOVER_COUNT"
mover_name channel.Ctrl = codes "MOVER_CTRL"

-- the aliases 1 to 3 reach the regions behind that of MPU_RNR
abbrev pub alias_name : ℕ → List ℕ
alias_name alias = if alias == 0 then [] else if alias == 1 then codes "_A1" else if alias == 2 then codes "_A2" else codes "_A3"

abbrev pub mpu_name : MpuRegister → List ℕ
mpu_name mpu.Type = codes "MPU_TYPE"
mpu_name mpu.Ctrl = codes "MPU_CTRL"
mpu_name mpu.Rnr = codes "MPU_RNR"
mpu_name (mpu.Rbar alias) = codes "MPU_RBAR" ++ alias_name alias
mpu_name (mpu.Rlar alias) = codes "MPU_RLAR" ++ alias_name alias
mpu_name mpu.Mair0 = codes "MPU_MAIR0"
mpu_name mpu.Mair1 = codes "MPU_MAIR1"

abbrev pub sau_name : SauRegister → List ℕ
sau_name sau.Ctrl = codes "SAU_CTRL"
sau_name sau.Type = codes "SAU_TYPE"
sau_name sau.Rnr = codes "SAU_RNR"
sau_name sau.Rbar = codes "SAU_RBAR"
sau_name sau.Rlar = codes "SAU_RLAR"

-- the arrays of the NVIC are numbered by words
abbrev pub register_name : Register → List ℕ
register_name Ictr = codes "ICTR"
register_name Stir = codes "STIR"
register_name (Timer r) = timer_name r
register_name (Bits bank word) = bank_name bank ++ decimal word
register_name (Priorities word) = codes "NVIC_IPR" ++ decimal word
register_name (Control r) = control_name r
register_name (Fault r) = fault_name r
register_name (Mover r) = mover_name r
register_name (Mpu r) = mpu_name r
register_name (Sau r) = sau_name r

-- a register is there: those of the mover where the board has one
abbrev pub is_there : Bool → Register → Bool
is_there mover (Mover r) = mover
is_there mover register = true

-- a register by its name, and what stands behind it
abbrev pub named : Bool → Option Register → List ℕ → List ℕ
named mover None suffix = codes "reserved"
named mover (Some register) suffix = if is_there mover register then register_name register ++ suffix else codes "reserved"

-- the register whose word holds an address, with _NS where the alias of the Non-secure view has it
unfoldable pub name_at : Bool → ℕ → List ℕ
name_at mover a =
    if within scs_first scs_last a then named mover (in_window scs_first a) []
    else if within scs_ns_first scs_ns_last a then named mover (in_window scs_ns_first a) (codes "_NS")
    else codes "reserved"
