-- A state from its words. A word is in range where it is a value that its field can hold: written to the field, of which
-- each keeps the bits that it has, it reads back.
use Rattle.std.specs.Prelude.{ℕ, zero, suc, ◌+◌, ◌*◌, ◌/◌, ◌%◌, ◌^◌, ◌<◌, ◌≡◌, ◌==◌, Bool, false, not, ◌&&◌, nat_lt, if◌then◌else◌, List, [], ◌∷◌, length, drop, slice_get, slice_set, bit_and, Option, Some, None, is_some, Result, Ok, Err, ⊤}
use Rattle.std.specs.FinMap.{get}
use Rattle.std.specs.Int.{w32, from_le_bytes}
use Rattle.tz_table.specs.declared.units.Side.{Side}
use Rattle.tz_table.specs.declared.units.Side.TheVariants.{Secure, NonSecure}
use Rattle.tz_table.specs.declared.units.Size.TheVariants.{Byte, Half, Word}
use Rattle.tz_model.specs.declared.board.Region.{Region}
use Rattle.tz_model.specs.declared.channel.Channel.{Channel}
use Rattle.tz_model.specs.declared.report.Sleep.{Sleep}
use Rattle.tz_model.specs.declared.report.Sleep.TheVariants.{Awake, Wfi, Wfe}
use Rattle.tz_model.specs.Board.{BoardValue}
use Rattle.tz_model.specs.Words.{even_of}
use Rattle.tz_regs.specs.declared.parts.Registers.{Registers}
use Rattle.tz_regs.specs.declared.parts.Status.{Status}
use Rattle.tz_regs.specs.Banks.{stacks_of, with_stacks, masks_of, with_masks, status_of, with_status}
use Rattle.tz_regs.specs.FaultBits.{mmfsr_bits, bfsr_bits, ufsr_bits, hfsr_bits, sfsr_bits}
use Rattle.tz_regs.specs.RegisterBits.{ccr_bits, control_spsel}
use Rattle.tz_regs.specs.Registers.{word_aligned}
use Rattle.tz_regs.specs.Reset.{no_channel, reset_core}
use Rattle.tz_regs.specs.Special.{apsr_from}
use Rattle.tz_frames.specs.ReturnBits.{retpsr_it_high, retpsr_t, retpsr_it_low}
use Rattle.tz_frames.specs.Registers.{number_in}
use Rattle.tz_state.specs.declared.request.Exclusive.{Exclusive}
use Rattle.tz_state.specs.declared.slot.SlotState.{SlotState}
use Rattle.tz_state.specs.declared.register.MoverRegister.{MoverRegister}
use Rattle.tz_state.specs.declared.register.MoverRegister.TheVariants.{Src, Dst, Count, Ctrl}
use Rattle.tz_state.specs.declared.units.MpuRegister.TheVariants as mpu
use Rattle.tz_state.specs.declared.units.SauRegister.TheVariants as sau
use Rattle.tz_state.specs.Access.{is_mapped}
use Rattle.tz_state.specs.Memory.{Memory, byte_at, with_word}
use Rattle.tz_state.specs.SlotChanges.{with_prigroup, with_timer, is_fault_side_held}
use Rattle.tz_state.specs.Slots.{places, first_interrupt_place, idle, at, with_slot, is_place, exception_number, is_always_enabled, has_fixed_priority, timer_of, reset_exceptions}
use Rattle.tz_state.specs.State.{State, mpu_of, with_mpu, with_core, with_bus, with_exceptions, with_registers, with_monitor}
use Rattle.tz_state.specs.SysTickBits.{syst_csr_bits}
use Rattle.tz_state.specs.MoverBits.{mover_ctrl_bits}
use Rattle.tz_state.specs.UnitRegisters.{with_rbar, with_rlar, with_sau_value, with_mpu_value, rlar_bits, reset_bus}
use Rattle.tz_state.specs.Zeros.{zero_memory}
use Rattle.tz_fields.specs.declared.from_words.WordsError.{WordsError}
use Rattle.tz_fields.specs.declared.from_words.WordsError.TheVariants.{Value, Memory as NoMemory}
use Rattle.tz_fields.specs.declared.fields.ChannelField.{ChannelField}
use Rattle.tz_fields.specs.declared.fields.Field.{Field}
use Rattle.tz_fields.specs.declared.fields.Field.TheVariants.{Running, Banked, Shared}
use Rattle.tz_fields.specs.declared.fields.RunningField.{RunningField}
use Rattle.tz_fields.specs.declared.fields.RunningField.TheVariants as run
use Rattle.tz_fields.specs.declared.fields.BankedField.{BankedField}
use Rattle.tz_fields.specs.declared.fields.BankedField.TheVariants.{Msp, Psp, Msplim, Psplim, Primask, Basepri, Faultmask, Control, Vtor, Ccr, Ufsr, Mmfsr, Mmfar, Prigroup, MpuCtrl, MpuRnr, Mair0, Mair1, MpuRbar, MpuRlar, SystCsr, SystRvr, SystCvr}
use Rattle.tz_fields.specs.declared.fields.SharedField.{SharedField}
use Rattle.tz_fields.specs.declared.fields.SharedField.TheVariants.{SauCtrl, SauRnr, SauRbar, SauRlar, Sfsr, Sfar, Bfsr, Bfar, Hfsr, Pris, Bfhfnmins}
use Rattle.tz_fields.specs.Fields.{fields, slot_places, channel_fields}
use Rattle.tz_fields.specs.StateWords.{word_of, slot_word, channel_word, held_address, field_count, slot_count, channel_count}

-- ---- numbers as values

-- bit 0 of a word
abbrev pub is_set : ℕ → Bool
is_set w = w % 2 == 1

abbrev pub side_from : ℕ → Side
side_from w = if is_set w then NonSecure else Secure

abbrev pub sleep_from : ℕ → Sleep
sleep_from w = if w == 0 then Awake else if w == 1 then Wfi else Wfe

-- what the monitor holds with a size in bytes; with any other number it holds nothing
abbrev pub held_from : ℕ → ℕ → Option Exclusive
held_from addr w =
    if w == 1 then Some (record { addr = addr; size = Byte })
    else if w == 2 then Some (record { addr = addr; size = Half })
    else if w == 4 then Some (record { addr = addr; size = Word })
    else None

abbrev pub with_held_address : Option Exclusive → ℕ → Option Exclusive
with_held_address None w = None
with_held_address (Some e) w = Some (record e { addr = w })

-- the bits of xPSR
abbrev pub with_psr : Registers → ℕ → Registers
with_psr r w =
    record r {
      apsr = apsr_from w;
      it = w / 2 ^ retpsr_it_low % 4 + 4 * (w / 2 ^ retpsr_it_high % 64);
      t = is_set (w / 2 ^ retpsr_t);
      ipsr = number_in w;
    }

-- ---- a field written: it keeps the bits that it has

abbrev pub with_general : Registers → ℕ → ℕ → Registers
with_general r k w = record r { general = slice_set r.general k w }

abbrev pub running_written : State → RunningField → ℕ → State
running_written s run.Side w = with_core s (record s.core { run = record s.core.run { side = side_from w } })
running_written s run.Locked w = with_core s (record s.core { run = record s.core.run { locked = is_set w } })
running_written s run.Sleep w = with_core s (record s.core { run = record s.core.run { sleep = sleep_from w } })
running_written s run.Event w = with_core s (record s.core { event = is_set w })
running_written s (run.General k) w = with_registers s (with_general s.core.registers k w)
running_written s run.Lr w = with_registers s (record s.core.registers { lr = w })
running_written s run.Pc w = with_registers s (record s.core.registers { pc = even_of w })
running_written s run.Xpsr w = with_registers s (with_psr s.core.registers w)
running_written s run.MonitorSize w = with_bus s (with_monitor s.bus (held_from (held_address s.bus.monitor) w))
running_written s run.MonitorAddress w = with_bus s (with_monitor s.bus (with_held_address s.bus.monitor w))

abbrev pub banked_written : State → Side → BankedField → ℕ → State
banked_written s side Msp w = with_core s (with_stacks side s.core (record (stacks_of side s.core) { msp = word_aligned w }))
banked_written s side Psp w = with_core s (with_stacks side s.core (record (stacks_of side s.core) { psp = word_aligned w }))
banked_written s side Msplim w = with_core s (with_stacks side s.core (record (stacks_of side s.core) { msplim = w / 8 * 8 }))
banked_written s side Psplim w = with_core s (with_stacks side s.core (record (stacks_of side s.core) { psplim = w / 8 * 8 }))
banked_written s side Primask w =
    with_core s (record s.core { masks = with_masks side s.core.masks (record (masks_of side s.core.masks) { primask = is_set w }) })
banked_written s side Basepri w =
    with_core s (record s.core { masks = with_masks side s.core.masks (record (masks_of side s.core.masks) { basepri = w % 256 }) })
banked_written s side Faultmask w =
    with_core s (record s.core { masks = with_masks side s.core.masks (record (masks_of side s.core.masks) { faultmask = is_set w }) })
banked_written s side Control w =
    with_core s (with_stacks side s.core (record (stacks_of side s.core) { npriv = is_set w; spsel = is_set (w / 2 ^ control_spsel) }))
banked_written s side Vtor w = with_core s (with_status side s.core (record (status_of side s.core) { vtor = w / 128 * 128 }))
banked_written s side Ccr w = with_core s (with_status side s.core (record (status_of side s.core) { ccr = bit_and w ccr_bits }))
banked_written s side Ufsr w = with_core s (with_status side s.core (record (status_of side s.core) { ufsr = bit_and w ufsr_bits }))
banked_written s side Mmfsr w = with_core s (with_status side s.core (record (status_of side s.core) { mmfsr = bit_and w mmfsr_bits }))
banked_written s side Mmfar w = with_core s (with_status side s.core (record (status_of side s.core) { mmfar = w }))
banked_written s side Prigroup w = with_exceptions s (with_prigroup s.exceptions side (w % 8))
banked_written s side MpuCtrl w = with_bus s (with_mpu s.bus side (with_mpu_value s.bus.board.profile (mpu_of side s.bus) mpu.Ctrl w))
banked_written s side MpuRnr w = with_bus s (with_mpu s.bus side (with_mpu_value s.bus.board.profile (mpu_of side s.bus) mpu.Rnr w))
banked_written s side Mair0 w = with_bus s (with_mpu s.bus side (with_mpu_value s.bus.board.profile (mpu_of side s.bus) mpu.Mair0 w))
banked_written s side Mair1 w = with_bus s (with_mpu s.bus side (with_mpu_value s.bus.board.profile (mpu_of side s.bus) mpu.Mair1 w))
banked_written s side (MpuRbar k) w =
    with_bus s (with_mpu s.bus side (record (mpu_of side s.bus) { regions = with_rbar (mpu_of side s.bus).regions k w }))
banked_written s side (MpuRlar k) w =
    with_bus s (with_mpu s.bus side (record (mpu_of side s.bus) { regions = with_rlar (mpu_of side s.bus).regions k (rlar_bits s.bus.board.profile w) }))
banked_written s side SystCsr w =
    with_exceptions s (with_timer s.exceptions side (record (timer_of s.exceptions side) { csr = bit_and w syst_csr_bits }))
banked_written s side SystRvr w = with_exceptions s (with_timer s.exceptions side (record (timer_of s.exceptions side) { rvr = w % 2 ^ 24 }))
banked_written s side SystCvr w = with_exceptions s (with_timer s.exceptions side (record (timer_of s.exceptions side) { cvr = w % 2 ^ 24 }))

abbrev pub with_shared_status : State → Status → State
with_shared_status s status = with_core s (record s.core { status = status })

abbrev pub shared_written : State → SharedField → ℕ → State
shared_written s SauCtrl w = with_bus s (record s.bus { sau = with_sau_value s.bus.sau sau.Ctrl w })
shared_written s SauRnr w = with_bus s (record s.bus { sau = with_sau_value s.bus.sau sau.Rnr w })
shared_written s (SauRbar k) w =
    with_bus s (record s.bus { sau = record s.bus.sau { regions = with_rbar s.bus.sau.regions k (w / 32 * 32) } })
shared_written s (SauRlar k) w =
    with_bus s (record s.bus { sau = record s.bus.sau { regions = with_rlar s.bus.sau.regions k (w / 32 * 32 + w % 4) } })
shared_written s Sfsr w =
    with_shared_status s (record s.core.status { security = record s.core.status.security { sfsr = bit_and w sfsr_bits } })
shared_written s Sfar w = with_shared_status s (record s.core.status { security = record s.core.status.security { sfar = w } })
shared_written s Bfsr w = with_shared_status s (record s.core.status { bus = record s.core.status.bus { bfsr = bit_and w bfsr_bits } })
shared_written s Bfar w = with_shared_status s (record s.core.status { bus = record s.core.status.bus { bfar = w } })
shared_written s Hfsr w = with_shared_status s (record s.core.status { bus = record s.core.status.bus { hfsr = bit_and w hfsr_bits } })
shared_written s Pris w = with_exceptions s (record s.exceptions { pris = is_set w })
shared_written s Bfhfnmins w = with_exceptions s (record s.exceptions { bfhfnmins = is_set w })

abbrev pub written : State → Field → ℕ → State
written s (Running f) w = running_written s f w
written s (Banked side f) w = banked_written s side f w
written s (Shared f) w = shared_written s f w

-- ---- a slot written

-- what is always enabled needs no bit kept; NMI and HardFault have priority 0; numbers of the system have no target
abbrev pub slot_from : ℕ → ℕ → SlotState
slot_from i w =
    record {
      pending = is_set (w / 2 ^ 8);
      active = is_set (w / 2 ^ 9);
      enabled = not (is_always_enabled (exception_number i)) && is_set (w / 2 ^ 10);
      priority = if has_fixed_priority (exception_number i) then 0 else w % 2 ^ 8;
      target = if nat_lt i first_interrupt_place then Secure else side_from (w / 2 ^ 11);
    }

abbrev pub slot_written : State → ℕ → ℕ → State
slot_written s i w = with_exceptions s (with_slot s.exceptions i (slot_from i w))

-- ---- a register of a channel written

-- all its bits; what a write by software keeps of CTRL is less
abbrev pub channel_put : Channel → MoverRegister → ℕ → Channel
channel_put c Src w = record c { src = word_aligned w }
channel_put c Dst w = record c { dst = word_aligned w }
channel_put c Count w = record c { count = w % 2 ^ 16 }
channel_put c Ctrl w = record c { ctrl = bit_and w mover_ctrl_bits }

abbrev pub channel_written : State → ChannelField → ℕ → State
channel_written s f w =
    with_core s (with_status f.side s.core (record (status_of f.side s.core) { channel = channel_put (status_of f.side s.core).channel f.register w }))

-- ---- which words are in range

abbrev pub fits : State → Field → ℕ → Bool
fits s f w = word_of (written s f w) f == w

abbrev pub slot_fits : State → ℕ → ℕ → Bool
slot_fits s i w = slot_word (slot_written s i w).exceptions i == w

abbrev pub channel_fits : State → ChannelField → ℕ → Bool
channel_fits s f w = channel_word (channel_written s f w) f == w

-- ---- reading

-- fields from their words, the first of which has this index among all: the state, or the index of the first word out of
-- range
unfoldable pub read_fields : List Field → List ℕ → ℕ → State → Result State ℕ
read_fields [] ws k s = Ok s
read_fields (f ∷ fs) [] k s = Ok s
read_fields (f ∷ fs) (w ∷ ws) k s = if fits s f w then read_fields fs ws (k + 1) (written s f w) else Err k

-- slots by their places likewise
unfoldable pub read_slots : List ℕ → List ℕ → ℕ → State → Result State ℕ
read_slots [] ws k s = Ok s
read_slots (i ∷ is) [] k s = Ok s
read_slots (i ∷ is) (w ∷ ws) k s = if slot_fits s i w then read_slots is ws (k + 1) (slot_written s i w) else Err k

-- registers of channels likewise
unfoldable pub read_channels : List ChannelField → List ℕ → ℕ → State → Result State ℕ
read_channels [] ws k s = Ok s
read_channels (f ∷ fs) [] k s = Ok s
read_channels (f ∷ fs) (w ∷ ws) k s = if channel_fits s f w then read_channels fs ws (k + 1) (channel_written s f w) else Err k

-- n words put from an address on
unfoldable pub with_words : Memory → ℕ → ℕ → List ℕ → Memory
with_words m a zero ws = m
with_words m a (suc n) [] = m
with_words m a (suc n) (w ∷ ws) = with_words (with_word m a w) (a + 4) n ws

-- those of regions; each word is in range
unfoldable pub with_regions : Memory → List Region → List ℕ → Memory
with_regions m [] ws = m
with_regions m (r ∷ rs) ws = with_regions (with_words m r.base (r.size / 4) ws) rs (drop (r.size / 4) ws)

-- a state of the board to read into: all fields are replaced
abbrev pub blank : BoardValue → Memory → State
blank b m = record { core = reset_core 0 0 0 0 false; exceptions = reset_exceptions b.interrupts; bus = reset_bus b m }

abbrev pub and_slots : BoardValue → List ℕ → Result State ℕ → Result State ℕ
and_slots b ws (Err k) = Err k
and_slots b ws (Ok s) = read_slots (slot_places b.interrupts) (drop (field_count b) ws) (field_count b) s

abbrev pub and_channels : BoardValue → List ℕ → Result State ℕ → Result State ℕ
and_channels b ws (Err k) = Err k
and_channels b ws (Ok s) = read_channels (channel_fields b.mover) (drop (field_count b + slot_count b) ws) (field_count b + slot_count b) s

-- the state of a board that has these words, or the index of the first that is out of range
unfoldable pub read_words : BoardValue → List ℕ → Result State ℕ
read_words b ws =
    let m = with_regions (zero_memory b.regions) b.regions (drop (field_count b + slot_count b + channel_count b) ws) in
    and_channels b ws (and_slots b ws (read_fields (fields b) ws 0 (blank b m)))

-- why words aren't read: the first that is out of range; for want of memory whatever they are
abbrev pub IsWordsRefusal : WordsError → Result State ℕ → Type 0
IsWordsRefusal (Value k) told = told ≡ Err k
IsWordsRefusal NoMemory told = ⊤

-- what is so until slots are read: RNR of each unit has its 8 bits, and nothing keeps BFHFNMINS
pub record IsFresh (s : State) : Type 0 where
  pub rnr_s : s.bus.mpu_s.rnr < 256
  pub rnr_ns : s.bus.mpu_ns.rnr < 256
  pub rnr_sau : s.bus.sau.rnr < 256
  pub idle : is_fault_side_held s.exceptions ≡ false

-- ---- bytes

-- bytes as words, the low byte first
unfoldable pub words_of : List ℕ → List ℕ
words_of (a ∷ b ∷ c ∷ d ∷ more) = from_le_bytes w32 (a ∷ b ∷ c ∷ d ∷ []) ∷ words_of more
words_of other = []

-- numbers of 32 bits
abbrev pub AreWords : List ℕ → Type 0
AreWords ws = (k w : ℕ) → slice_get ws k ≡ Some w → w < 2 ^ 32

-- ---- states of a board

-- the word of a field, or of a slot, is a number of 32 bits and tells all that it holds
abbrev pub IsTold : State → Field → Type 0
IsTold s f = (word_of s f < 2 ^ 32) × (written s f (word_of s f) ≡ s)

abbrev pub IsSlotTold : State → ℕ → Type 0
IsSlotTold s i = slot_written s i (slot_word s.exceptions i) ≡ s

abbrev pub IsChannelTold : State → ChannelField → Type 0
IsChannelTold s f = (channel_word s f < 2 ^ 32) × (channel_written s f (channel_word s f) ≡ s)

-- what a state of this board holds beyond its types
pub record IsState (b : BoardValue) (s : State) : Type 0 where
  pub board : s.bus.board ≡ b
  -- as many as the board has
  pub interrupts : s.exceptions.interrupts ≡ b.interrupts
  pub general : length s.core.registers.general ≡ 13
  pub slots : length s.exceptions.slots ≡ places
  pub mpu_secure : length s.bus.mpu_s.regions ≡ b.mpu_secure
  pub mpu_nonsecure : length s.bus.mpu_ns.regions ≡ b.mpu_nonsecure
  pub sau : length s.bus.sau.regions ≡ b.sau_regions
  -- each field and each slot holds a value that its word tells
  pub fields : (k : ℕ) (f : Field) → slice_get (fields b) k ≡ Some f → IsTold s f
  pub slot_fields : (k i : ℕ) → slice_get (slot_places b.interrupts) k ≡ Some i → IsSlotTold s i
  pub channels : (k : ℕ) (f : ChannelField) → slice_get (channel_fields b.mover) k ≡ Some f → IsChannelTold s f
  -- where there is no mover its channels are as at boot
  pub still : b.mover ≡ false → (s.core.status.s.channel ≡ no_channel) × (s.core.status.ns.channel ≡ no_channel)
  -- where no slot stands is what stands there at boot
  pub others : (i : ℕ) → i < places → is_place s.exceptions i ≡ false → at s.exceptions i ≡ idle
  -- there is a byte at exactly the addresses of the regions
  pub mapped : (a : ℕ) → is_some (get s.bus.memory a) ≡ is_mapped b.regions a
  pub bytes : (a : ℕ) → byte_at s.bus.memory a < 256
