-- Where the system registers stand: by their offsets from 0xE000E000 (DDI0553, chapter D1.2).
use Rattle.std.specs.Prelude.{ℕ, ◌+◌, ◌/◌, ◌%◌, ◌==◌, nat_lt, if◌then◌else◌, List, [], ◌∷◌, Option, Some, None}
use Rattle.tz_state.specs.declared.register.Register.{Register}
use Rattle.tz_state.specs.declared.register.Register.TheVariants.{Ictr, Stir, Timer, Bits, Priorities, Control, Fault, Mover, Mpu, Sau}
use Rattle.tz_state.specs.declared.register.TimerRegister.TheVariants as syst
use Rattle.tz_state.specs.declared.register.Bank.TheVariants as nvic
use Rattle.tz_state.specs.declared.register.ControlRegister.TheVariants as scb
use Rattle.tz_state.specs.declared.register.FaultRegister.TheVariants as fault
use Rattle.tz_state.specs.declared.register.MoverRegister.TheVariants as channel
use Rattle.tz_state.specs.declared.units.MpuRegister.TheVariants as mpu
use Rattle.tz_state.specs.declared.units.SauRegister.TheVariants as sau

-- an offset and the register there
abbrev pub RegisterRow : Type 0
RegisterRow = ℕ × Register

-- the register at an offset
abbrev pub register_in : List RegisterRow → ℕ → Option Register
register_in [] a = None
register_in (row ∷ rows) a = if a == row.0 then Some row.1 else register_in rows a

abbrev pub timer_rows : List RegisterRow
timer_rows =
    (0x004, Ictr)
    ∷ (0x010, Timer syst.Csr)
    ∷ (0x014, Timer syst.Rvr)
    ∷ (0x018, Timer syst.Cvr)
    ∷ (0x01C, Timer syst.Calib)
    ∷ []

-- the arrays of the NVIC by blocks of 128 bytes, of which each word has its number
abbrev pub nvic_rows : ℕ → List RegisterRow
nvic_rows word =
    (2, Bits nvic.Enable word)
    ∷ (3, Bits nvic.Disable word)
    ∷ (4, Bits nvic.Pend word)
    ∷ (5, Bits nvic.Unpend word)
    ∷ (6, Bits nvic.Active word)
    ∷ (7, Bits nvic.Target word)
    ∷ (8, Priorities word)
    ∷ (9, Priorities (32 + word))
    ∷ []

-- (own) the page of the mover
abbrev pub mover_rows : List RegisterRow
mover_rows =
    (0xC00, Mover channel.Src)
    ∷ (0xC04, Mover channel.Dst)
    ∷ (0xC08, Mover channel.Count)
    ∷ (0xC0C, Mover channel.Ctrl)
    ∷ []

abbrev pub control_rows : List RegisterRow
control_rows =
    (0xD00, Control scb.Cpuid)
    ∷ (0xD04, Control scb.Icsr)
    ∷ (0xD08, Control scb.Vtor)
    ∷ (0xD0C, Control scb.Aircr)
    ∷ (0xD14, Control scb.Ccr)
    ∷ (0xD18, Control scb.Shpr1)
    ∷ (0xD1C, Control scb.Shpr2)
    ∷ (0xD20, Control scb.Shpr3)
    ∷ (0xD24, Control scb.Shcsr)
    ∷ (0xD28, Fault fault.Cfsr)
    ∷ (0xD2C, Fault fault.Hfsr)
    ∷ (0xD34, Fault fault.Mmfar)
    ∷ (0xD38, Fault fault.Bfar)
    ∷ []

abbrev pub mpu_rows : List RegisterRow
mpu_rows =
    (0xD90, Mpu mpu.Type)
    ∷ (0xD94, Mpu mpu.Ctrl)
    ∷ (0xD98, Mpu mpu.Rnr)
    ∷ (0xD9C, Mpu (mpu.Rbar 0))
    ∷ (0xDA0, Mpu (mpu.Rlar 0))
    ∷ (0xDA4, Mpu (mpu.Rbar 1))
    ∷ (0xDA8, Mpu (mpu.Rlar 1))
    ∷ (0xDAC, Mpu (mpu.Rbar 2))
    ∷ (0xDB0, Mpu (mpu.Rlar 2))
    ∷ (0xDB4, Mpu (mpu.Rbar 3))
    ∷ (0xDB8, Mpu (mpu.Rlar 3))
    ∷ (0xDC0, Mpu mpu.Mair0)
    ∷ (0xDC4, Mpu mpu.Mair1)
    ∷ []

abbrev pub sau_rows : List RegisterRow
sau_rows =
    (0xDD0, Sau sau.Ctrl)
    ∷ (0xDD4, Sau sau.Type)
    ∷ (0xDD8, Sau sau.Rnr)
    ∷ (0xDDC, Sau sau.Rbar)
    ∷ (0xDE0, Sau sau.Rlar)
    ∷ (0xDE4, Fault fault.Sfsr)
    ∷ (0xDE8, Fault fault.Sfar)
    ∷ (0xF00, Stir)
    ∷ []

-- the register whose word has an offset
abbrev pub register_at : ℕ → Option Register
register_at a =
    if nat_lt a 0x100 then register_in timer_rows a
    else if nat_lt a 0xC00 then register_in (nvic_rows (a % 128 / 4)) (a / 128)
    else if nat_lt a 0xD00 then register_in mover_rows a
    else if nat_lt a 0xD90 then register_in control_rows a
    else if nat_lt a 0xDD0 then register_in mpu_rows a
    else register_in sau_rows a
