-- Moves of the mover (own): at the beginning of a step each channel that goes moves one word, as a data access of its side,
-- without an MPU.
use Rattle.std.specs.Prelude.{ℕ, ◌+◌, ◌-◌, ◌*◌, ◌/◌, ◌%◌, ◌^◌, ◌==◌, nat_lt, Bool, true, not, ◌&&◌, if◌then◌else◌, List, slice_set, Option, Some, None, bit_or}
use Rattle.tz_table.specs.declared.units.Side.{Side}
use Rattle.tz_table.specs.declared.units.Side.TheVariants.{Secure, NonSecure}
use Rattle.tz_table.specs.declared.units.Size.TheVariants.{Word}
use Rattle.tz_model.specs.declared.channel.Channel.{Channel}
use Rattle.tz_model.specs.declared.channel.Channels.{Channels}
use Rattle.tz_model.specs.Words.{wrap}
use Rattle.tz_regs.specs.Banks.{channels_of, with_channels}
use Rattle.tz_state.specs.declared.moves.Move.{Move}
use Rattle.tz_state.specs.declared.moves.Moves.{Moves}
use Rattle.tz_state.specs.declared.slot.SlotState.{SlotState}
use Rattle.tz_state.specs.MoverBits.{mover_go, mover_done, mover_error, mover_ie, mover_irq}
use Rattle.tz_state.specs.Memory.{Memory, every, word_at, with_word}
use Rattle.tz_state.specs.Slots.{ExceptionsValue, at, first_interrupt_place}
use Rattle.tz_state.specs.Pieces.{is_bit}
use Rattle.tz_state.specs.State.{Bus, State, map_in, with_memory}
use Rattle.tz_state.specs.Access.{may_touch, is_mapped, is_writable}
use Rattle.tz_state.specs.Difference.{is_same_side}

-- ---- a channel

-- CTRL.GO
abbrev pub goes : Channel → Bool
goes c = is_bit c.ctrl mover_go

-- a channel of a side may move the word at SRC to DST: all bytes lie in regions, those at DST in such as take writes, and
-- those of the Non-secure channel are Non-secure
abbrev pub may_move : Bus → Side → Channel → Bool
may_move b side c =
    may_touch (map_in b) side Word c.src && (may_touch (map_in b) side Word c.dst
    && (every (is_mapped b.board.regions) c.src Word && every (is_writable b.board.regions) c.dst Word))

-- a word is left that it may move
abbrev pub moves_word : Bus → Side → Channel → Bool
moves_word b side c = not (c.count == 0) && may_move b side c

-- GO is 0, and a bit tells why
abbrev pub stopped : ℕ → Channel → Channel
stopped why c = record c { ctrl = bit_or (c.ctrl / 2 * 2) (2 ^ why) }

-- a word is moved; after the last one the channel is done
abbrev pub past_word : Channel → Channel
past_word c = record c { src = wrap (c.src + 4); dst = wrap (c.dst + 4); count = c.count - 1 }

abbrev pub after_word : Channel → Channel
after_word c = if c.count == 1 then stopped mover_done (past_word c) else past_word c

-- a channel that goes, after one move: with no word left it is done, and where it may not move one, it has failed
abbrev pub after_move : Bus → Side → Channel → Channel
after_move b side c =
    if c.count == 0 then stopped mover_done c
    else if may_move b side c then after_word c
    else stopped mover_error c

-- ---- what a move leaves beside its channel

-- memory
abbrev pub memory_moved : Bus → Side → Channel → Memory → Memory
memory_moved b side c m = if moves_word b side c then with_word m c.dst (word_at m c.src) else m

-- the word that is moved, 0 where none is
abbrev pub word_moved : Bus → Side → Channel → Memory → ℕ
word_moved b side c m = if moves_word b side c then word_at m c.src else 0

-- the interrupt that a channel names
abbrev pub irq_of : Channel → ℕ
irq_of c = c.ctrl / 2 ^ mover_irq % 2 ^ 8

-- the board has that interrupt, and it is of a side
abbrev pub has_irq : Side → ExceptionsValue → Channel → Bool
has_irq side e c = nat_lt (irq_of c) e.interrupts && is_same_side (at e (first_interrupt_place + irq_of c)).target side

-- a channel of a side has stopped, asks for its interrupt, and has it
abbrev pub pends_irq : Side → ExceptionsValue → Channel → Bool
pends_irq side e c = not (goes c) && (is_bit c.ctrl mover_ie && has_irq side e c)

-- the slots, in which that interrupt then pends
abbrev pub slots_told : Side → ExceptionsValue → Channel → List SlotState
slots_told side e c =
    if pends_irq side e c
    then slice_set e.slots (first_interrupt_place + irq_of c) (record (at e (first_interrupt_place + irq_of c)) { pending = true })
    else e.slots

-- ---- the moves of a step

-- what they change: the channels, the slots, and memory; and what is told of them
pub record Moving : Type 0 where
  pub channels : Channels
  pub slots : List SlotState
  pub memory : Memory
  pub told : Moves

abbrev pub channel_of : Side → Channels → Channel
channel_of Secure channels = channels.secure
channel_of NonSecure channels = channels.nonsecure

abbrev pub with_channel : Side → Channels → Channel → Channels
with_channel Secure channels c = record channels { secure = c }
with_channel NonSecure channels c = record channels { nonsecure = c }

abbrev pub no_moves : Moves
no_moves = record { secure = None; nonsecure = None }

abbrev pub with_move : Side → Moves → Move → Moves
with_move Secure told move = record told { secure = Some move }
with_move NonSecure told move = record told { nonsecure = Some move }

abbrev pub move_told : Bus → ExceptionsValue → Side → Channel → Memory → Move
move_told b e side c m =
    record {
      before = c;
      after = after_move b side c;
      word = word_moved b side c m;
      pends = pends_irq side e (after_move b side c);
    }

-- one move of a side's channel that goes
abbrev pub moved_by : Bus → ExceptionsValue → Side → Channel → Moving → Moving
moved_by b e side c m =
    record {
      channels = with_channel side m.channels (after_move b side c);
      slots = slots_told side (record e { slots = m.slots }) (after_move b side c);
      memory = memory_moved b side c m.memory;
      told = with_move side m.told (move_told b (record e { slots = m.slots }) side c m.memory);
    }

abbrev pub moved : Bus → ExceptionsValue → Side → Moving → Moving
moved b e side m = if goes (channel_of side m.channels) then moved_by b e side (channel_of side m.channels) m else m

-- (own) the Secure channel moves in steps of Secure code alone, before the Non-secure one
unfoldable pub all_moved : Bus → ExceptionsValue → Side → Moving → Moving
all_moved b e Secure m = moved b e NonSecure (moved b e Secure m)
all_moved b e NonSecure m = moved b e NonSecure m

abbrev pub moving_in : State → Moving
moving_in s = record { channels = channels_of s.core; slots = s.exceptions.slots; memory = s.bus.memory; told = no_moves }

-- (own) the mover of a locked machine stands still
unfoldable pub moves_of : State → Moving
moves_of s =
    if s.bus.board.mover && not s.core.run.locked then all_moved s.bus s.exceptions s.core.run.side (moving_in s)
    else moving_in s

abbrev pub after_moves : State → State
after_moves s =
    record {
      core = with_channels s.core (moves_of s).channels;
      exceptions = record s.exceptions { slots = (moves_of s).slots };
      bus = with_memory s.bus (moves_of s).memory;
    }
