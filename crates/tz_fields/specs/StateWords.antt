-- A state as words: a field each, then a slot each, then a register each of the channels of a mover, then the bytes of the
-- board's regions, four to a word.
use Rattle.std.specs.Prelude.{ℕ, zero, suc, ◌+◌, ◌*◌, ◌/◌, ◌^◌, if◌then◌else◌, List, [], ◌∷◌, ◌++◌, map, sum_by, slice_index, Option, Some, None}
use Rattle.tz_table.specs.declared.units.Side.{Side}
use Rattle.tz_table.specs.declared.units.Size.{Size}
use Rattle.tz_table.specs.declared.units.Size.TheVariants.{Byte, Half, Word}
use Rattle.tz_model.specs.declared.board.Region.{Region}
use Rattle.tz_model.specs.declared.report.Sleep.{Sleep}
use Rattle.tz_model.specs.declared.report.Sleep.TheVariants.{Awake, Wfi, Wfe}
use Rattle.tz_model.specs.Board.{BoardValue}
use Rattle.tz_model.specs.Words.{is_nonsecure_side}
use Rattle.tz_regs.specs.Banks.{stacks_of, masks_of, status_of}
use Rattle.tz_regs.specs.Special.{number_of, control_of}
use Rattle.tz_frames.specs.Registers.{psr_word}
use Rattle.tz_state.specs.declared.request.Exclusive.{Exclusive}
use Rattle.tz_state.specs.Memory.{Memory, word_at}
use Rattle.tz_state.specs.Slots.{ExceptionsValue, at, is_enabled, prigroup_of, timer_of}
use Rattle.tz_state.specs.State.{State, mpu_of}
use Rattle.tz_state.specs.UnitRegisters.{bounds_at}
use Rattle.tz_state.specs.MoverRegisters.{channel_value}
use Rattle.tz_fields.specs.declared.fields.ChannelField.{ChannelField}
use Rattle.tz_fields.specs.declared.fields.Field.{Field}
use Rattle.tz_fields.specs.declared.fields.Field.TheVariants.{Running, Banked, Shared}
use Rattle.tz_fields.specs.declared.fields.RunningField.{RunningField}
use Rattle.tz_fields.specs.declared.fields.RunningField.TheVariants as run
use Rattle.tz_fields.specs.declared.fields.BankedField.{BankedField}
use Rattle.tz_fields.specs.declared.fields.BankedField.TheVariants.{Msp, Psp, Msplim, Psplim, Primask, Basepri, Faultmask, Control, Vtor, Ccr, Ufsr, Mmfsr, Mmfar, Prigroup, MpuCtrl, MpuRnr, Mair0, Mair1, MpuRbar, MpuRlar, SystCsr, SystRvr, SystCvr}
use Rattle.tz_fields.specs.declared.fields.SharedField.{SharedField}
use Rattle.tz_fields.specs.declared.fields.SharedField.TheVariants.{SauCtrl, SauRnr, SauRbar, SauRlar, Sfsr, Sfar, Bfsr, Bfar, Hfsr, Pris, Bfhfnmins}
use Rattle.tz_fields.specs.Fields.{fields, slot_places, channel_fields}

-- ---- values as numbers

-- Secure 0, Non-secure 1
abbrev pub side_number : Side → ℕ
side_number side = number_of (is_nonsecure_side side)

abbrev pub sleep_number : Sleep → ℕ
sleep_number Awake = 0
sleep_number Wfi = 1
sleep_number Wfe = 2

-- in bytes
abbrev pub size_number : Size → ℕ
size_number Byte = 1
size_number Half = 2
size_number Word = 4

-- the size and the address that the monitor holds, 0 where it holds nothing
abbrev pub held_size : Option Exclusive → ℕ
held_size None = 0
held_size (Some e) = size_number e.size

abbrev pub held_address : Option Exclusive → ℕ
held_address None = 0
held_address (Some e) = e.addr

-- ---- the word of a field

abbrev pub running_word : State → RunningField → ℕ
running_word s run.Side = side_number s.core.run.side
running_word s run.Locked = number_of s.core.run.locked
running_word s run.Sleep = sleep_number s.core.run.sleep
running_word s run.Event = number_of s.core.event
running_word s (run.General k) = slice_index s.core.registers.general k
running_word s run.Lr = s.core.registers.lr
running_word s run.Pc = s.core.registers.pc
running_word s run.Xpsr = psr_word s.core.registers
running_word s run.MonitorSize = held_size s.bus.monitor
running_word s run.MonitorAddress = held_address s.bus.monitor

abbrev pub banked_word : State → Side → BankedField → ℕ
banked_word s side Msp = (stacks_of side s.core).msp
banked_word s side Psp = (stacks_of side s.core).psp
banked_word s side Msplim = (stacks_of side s.core).msplim
banked_word s side Psplim = (stacks_of side s.core).psplim
banked_word s side Primask = number_of (masks_of side s.core.masks).primask
banked_word s side Basepri = (masks_of side s.core.masks).basepri
banked_word s side Faultmask = number_of (masks_of side s.core.masks).faultmask
banked_word s side Control = control_of (stacks_of side s.core)
banked_word s side Vtor = (status_of side s.core).vtor
banked_word s side Ccr = (status_of side s.core).ccr
banked_word s side Ufsr = (status_of side s.core).ufsr
banked_word s side Mmfsr = (status_of side s.core).mmfsr
banked_word s side Mmfar = (status_of side s.core).mmfar
banked_word s side Prigroup = prigroup_of s.exceptions side
banked_word s side MpuCtrl = (mpu_of side s.bus).ctrl
banked_word s side MpuRnr = (mpu_of side s.bus).rnr
banked_word s side Mair0 = (mpu_of side s.bus).mair0
banked_word s side Mair1 = (mpu_of side s.bus).mair1
banked_word s side (MpuRbar k) = (bounds_at (mpu_of side s.bus).regions k).rbar
banked_word s side (MpuRlar k) = (bounds_at (mpu_of side s.bus).regions k).rlar
banked_word s side SystCsr = (timer_of s.exceptions side).csr
banked_word s side SystRvr = (timer_of s.exceptions side).rvr
banked_word s side SystCvr = (timer_of s.exceptions side).cvr

abbrev pub shared_word : State → SharedField → ℕ
shared_word s SauCtrl = s.bus.sau.ctrl
shared_word s SauRnr = s.bus.sau.rnr
shared_word s (SauRbar k) = (bounds_at s.bus.sau.regions k).rbar
shared_word s (SauRlar k) = (bounds_at s.bus.sau.regions k).rlar
shared_word s Sfsr = s.core.status.security.sfsr
shared_word s Sfar = s.core.status.security.sfar
shared_word s Bfsr = s.core.status.bus.bfsr
shared_word s Bfar = s.core.status.bus.bfar
shared_word s Hfsr = s.core.status.bus.hfsr
shared_word s Pris = number_of s.exceptions.pris
shared_word s Bfhfnmins = number_of s.exceptions.bfhfnmins

abbrev pub word_of : State → Field → ℕ
word_of s (Running f) = running_word s f
word_of s (Banked side f) = banked_word s side f
word_of s (Shared f) = shared_word s f

-- ---- the word of a slot

-- the priority in bits 7:0, then pending, active and enabled, and in bit 11 the target; what is always enabled has bit
-- 10 set
abbrev pub slot_word : ExceptionsValue → ℕ → ℕ
slot_word e i =
    (at e i).priority + 2 ^ 8 * number_of (at e i).pending + 2 ^ 9 * number_of (at e i).active + 2 ^ 10 * number_of (is_enabled e i)
    + 2 ^ 11 * side_number (at e i).target

-- ---- the word of a register of a channel

abbrev pub channel_word : State → ChannelField → ℕ
channel_word s f = channel_value (status_of f.side s.core).channel f.register

-- ---- memory

-- n words from an address on
unfoldable pub words_from : Memory → ℕ → ℕ → List ℕ
words_from m a zero = []
words_from m a (suc n) = word_at m a ∷ words_from m (a + 4) n

-- those of regions, whose sizes are multiples of 32
unfoldable pub memory_words : Memory → List Region → List ℕ
memory_words m [] = []
memory_words m (r ∷ rs) = words_from m r.base (r.size / 4) ++ memory_words m rs

-- ---- all words

unfoldable pub state_words : State → List ℕ
state_words s =
    map (word_of s) (fields s.bus.board)
    ++ (map (slot_word s.exceptions) (slot_places s.bus.board.interrupts)
    ++ (map (channel_word s) (channel_fields s.bus.board.mover) ++ memory_words s.bus.memory s.bus.board.regions))

-- how many they are, of a board: 22 of what runs, 21 of each side, 9 of what both share and 15 of the system's slots,
-- two for each region of a unit, one for each interrupt, eight of a mover, and memory's
abbrev pub field_count : BoardValue → ℕ
field_count b = 73 + 2 * (b.mpu_secure + b.mpu_nonsecure + b.sau_regions)

abbrev pub slot_count : BoardValue → ℕ
slot_count b = 15 + b.interrupts

abbrev pub channel_count : BoardValue → ℕ
channel_count b = if b.mover then 8 else 0

abbrev pub memory_count : List Region → ℕ
memory_count rs = sum_by (λ r. r.size / 4) rs

abbrev pub word_count : BoardValue → ℕ
word_count b = field_count b + slot_count b + channel_count b + memory_count b.regions
