-- The fields of a state that have a word of their own, in the order of their words: what runs, the Secure side, the
-- Non-secure side, what both share; behind the slots the channels of a mover.
use Rattle.std.specs.Prelude.{ℕ, zero, suc, ◌+◌, Bool, true, false, List, [], ◌∷◌, ◌++◌, map}
use Rattle.std.specs.List.{range_with_len}
use Rattle.tz_table.specs.declared.units.Side.TheVariants.{Secure, NonSecure}
use Rattle.tz_model.specs.Board.{BoardValue}
use Rattle.tz_state.specs.declared.register.MoverRegister.TheVariants.{Src, Dst, Count, Ctrl}
use Rattle.tz_fields.specs.declared.fields.ChannelField.{ChannelField}
use Rattle.tz_fields.specs.declared.fields.Field.{Field}
use Rattle.tz_fields.specs.declared.fields.Field.TheVariants.{Running, Banked, Shared}
use Rattle.tz_fields.specs.declared.fields.RunningField.{RunningField}
use Rattle.tz_fields.specs.declared.fields.RunningField.TheVariants as run
use Rattle.tz_fields.specs.declared.fields.BankedField.{BankedField}
use Rattle.tz_fields.specs.declared.fields.BankedField.TheVariants.{Msp, Psp, Msplim, Psplim, Primask, Basepri, Faultmask, Control, Vtor, Ccr, Ufsr, Mmfsr, Mmfar, Prigroup, MpuCtrl, MpuRnr, Mair0, Mair1, MpuRbar, MpuRlar, SystCsr, SystRvr, SystCvr}
use Rattle.tz_fields.specs.declared.fields.SharedField.{SharedField}
use Rattle.tz_fields.specs.declared.fields.SharedField.TheVariants.{SauCtrl, SauRnr, SauRbar, SauRlar, Sfsr, Sfar, Bfsr, Bfar, Hfsr, Pris, Bfhfnmins}
use Rattle.tz_state.specs.Slots.{first_interrupt_place}

-- whose code runs, its registers, and the monitor
abbrev pub running_fields : List RunningField
running_fields =
    run.Side ∷ run.Locked ∷ run.Sleep ∷ run.Event
    ∷ run.General 0 ∷ run.General 1 ∷ run.General 2 ∷ run.General 3 ∷ run.General 4 ∷ run.General 5 ∷ run.General 6
    ∷ run.General 7 ∷ run.General 8 ∷ run.General 9 ∷ run.General 10 ∷ run.General 11 ∷ run.General 12
    ∷ run.Lr ∷ run.Pc ∷ run.Xpsr ∷ run.MonitorSize ∷ run.MonitorAddress ∷ []

-- RBAR and RLAR of n regions, the first of which is k
unfoldable pub mpu_region_fields : ℕ → ℕ → List BankedField
mpu_region_fields k zero = []
mpu_region_fields k (suc n) = MpuRbar k ∷ MpuRlar k ∷ mpu_region_fields (k + 1) n

unfoldable pub sau_region_fields : ℕ → ℕ → List SharedField
sau_region_fields k zero = []
sau_region_fields k (suc n) = SauRbar k ∷ SauRlar k ∷ sau_region_fields (k + 1) n

abbrev pub banked_first : List BankedField
banked_first =
    Msp ∷ Psp ∷ Msplim ∷ Psplim ∷ Primask ∷ Basepri ∷ Faultmask ∷ Control ∷ Vtor ∷ Ccr ∷ Ufsr ∷ Mmfsr ∷ Mmfar ∷ Prigroup
    ∷ MpuCtrl ∷ MpuRnr ∷ Mair0 ∷ Mair1 ∷ []

abbrev pub banked_last : List BankedField
banked_last = SystCsr ∷ SystRvr ∷ SystCvr ∷ []

-- what a side has, with so many regions of its MPU
unfoldable pub banked_fields : ℕ → List BankedField
banked_fields regions = banked_first ++ (mpu_region_fields 0 regions ++ banked_last)

abbrev pub shared_first : List SharedField
shared_first = SauCtrl ∷ SauRnr ∷ []

abbrev pub shared_last : List SharedField
shared_last = Sfsr ∷ Sfar ∷ Bfsr ∷ Bfar ∷ Hfsr ∷ Pris ∷ Bfhfnmins ∷ []

-- what both sides share, with so many regions of the SAU
unfoldable pub shared_fields : ℕ → List SharedField
shared_fields regions = shared_first ++ (sau_region_fields 0 regions ++ shared_last)

-- all of them
unfoldable pub fields : BoardValue → List Field
fields b =
    map Running running_fields
    ++ (map (Banked Secure) (banked_fields b.mpu_secure)
    ++ (map (Banked NonSecure) (banked_fields b.mpu_nonsecure)
    ++ map Shared (shared_fields b.sau_regions)))

-- the places of the slots of the system: NMI, HardFault and MemManage of both sides, BusFault, UsageFault of both,
-- SecureFault, and SVCall, PendSV and SysTick of both
abbrev pub system_places : List ℕ
system_places = 4 ∷ 6 ∷ 7 ∷ 8 ∷ 9 ∷ 10 ∷ 12 ∷ 13 ∷ 14 ∷ 22 ∷ 23 ∷ 28 ∷ 29 ∷ 30 ∷ 31 ∷ []

-- the places of all slots: by number, and of one number the Secure slot first
unfoldable pub slot_places : ℕ → List ℕ
slot_places interrupts = system_places ++ range_with_len first_interrupt_place interrupts

-- the registers of both channels, of a board that has a mover
abbrev pub channel_fields : Bool → List ChannelField
channel_fields false = []
channel_fields true =
    record { side = Secure; register = Src } ∷ record { side = Secure; register = Dst }
    ∷ record { side = Secure; register = Count } ∷ record { side = Secure; register = Ctrl }
    ∷ record { side = NonSecure; register = Src } ∷ record { side = NonSecure; register = Dst }
    ∷ record { side = NonSecure; register = Count } ∷ record { side = NonSecure; register = Ctrl } ∷ []
