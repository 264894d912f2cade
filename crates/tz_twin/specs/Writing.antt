-- What a step may write: the words that channels of the mover move, the bytes of the stores of its instruction and, where
-- an exception is taken or returns or the machine locks, bytes of frames, which lie at the stack pointers of the side that
-- ran; with what stands beside memory.
use Rattle.std.specs.Prelude.{◌≡◌, ℕ, ◌+◌, ◌-◌, ◌^◌, ◌==◌, nat_lt, Bool, true, false, ◌&&◌, ◌||◌, not, if◌then◌else◌, List, [], ◌∷◌, ◌++◌}
use Rattle.std.specs.FinMap.{get}
use Rattle.tz_table.specs.declared.units.Side.{Side}
use Rattle.tz_table.specs.declared.units.Size.TheVariants.{Word}
use Rattle.tz_model.specs.declared.channel.Channel.{Channel}
use Rattle.tz_model.specs.declared.report.ScriptEvent.{ScriptEvent}
use Rattle.tz_model.specs.declared.report.Store.{Store}
use Rattle.tz_model.specs.Words.{wrap}
use Rattle.tz_regs.specs.declared.parts.Core.{Core}
use Rattle.tz_regs.specs.declared.parts.Stacks.{Stacks}
use Rattle.tz_regs.specs.Banks.{stacks_of}
use Rattle.tz_state.specs.Memory.{every}
use Rattle.tz_state.specs.Slots.{ExceptionsValue}
use Rattle.tz_state.specs.Access.{is_private}
use Rattle.tz_state.specs.State.{State}
use Rattle.tz_state.specs.Moves.{goes, after_moves}
use Rattle.tz_frames.specs.Stack.{both_frames_size}
use Rattle.tz_sem.specs.declared.ending.Cause.{Cause}
use Rattle.tz_sem.specs.declared.ending.Cause.TheVariants.{Taken, Resumed}
use Rattle.tz_sem.specs.Ended.{Ended}
use Rattle.tz_sem.specs.Step.{ended, started}

-- ---- stores

-- an address is none of a store's bytes
abbrev pub is_beside : Store → ℕ → Bool
is_beside store a = every (λ b. not (b == a)) store.addr store.size

-- nor of any of these
unfoldable pub are_beside : List Store → ℕ → Bool
are_beside [] a = true
are_beside (store ∷ more) a = is_beside store a && are_beside more a

-- none of these goes to the system registers
unfoldable pub are_in_memory : List Store → Bool
are_in_memory [] = true
are_in_memory (store ∷ more) = not (is_private store.addr) && are_in_memory more

-- ---- moves

-- the word that a channel which goes may write; what it writes isn't told
abbrev pub channel_stores : Channel → List Store
channel_stores c = if goes c then record { addr = c.dst; size = Word; value = 0 } ∷ [] else []

-- of both channels, where the board has a mover
abbrev pub move_stores : State → List Store
move_stores s = if s.bus.board.mover then channel_stores s.core.status.s.channel ++ channel_stores s.core.status.ns.channel else []

-- moves change no other byte, and where no channel goes none of the exceptions
pub record MovesTold (s : State) : Type 0 where
  pub bytes : (a : ℕ) → are_beside (move_stores s) a ≡ true → get (after_moves s).bus.memory a ≡ get s.bus.memory a
  pub exceptions : move_stores s ≡ [] → (after_moves s).exceptions ≡ s.exceptions

-- ---- frames

-- how far an address lies above another
abbrev pub distance : ℕ → ℕ → ℕ
distance from a = wrap (a + (2 ^ 32 - from))

-- it is one of so many bytes from another on, of which the lowest address follows the highest
abbrev pub is_within : ℕ → ℕ → ℕ → Bool
is_within size from a = nat_lt a (2 ^ 32) && nat_lt (distance from a) size

-- it is one of the bytes that two frames have which begin at a stack pointer of a side
abbrev pub is_framed : Stacks → ℕ → Bool
is_framed s a = is_within both_frames_size s.msp a || is_within both_frames_size s.psp a

-- ---- how a step ends

-- an exception was taken or returned
abbrev pub changes_handler : Cause → Bool
changes_handler Taken = true
changes_handler Resumed = true
changes_handler cause = false

-- or the machine is locked
abbrev pub is_exceptional : Core → Cause → Bool
is_exceptional c cause = c.run.locked || changes_handler cause

-- exceptions with others' timers
abbrev pub with_timers_of : ExceptionsValue → ExceptionsValue → ExceptionsValue
with_timers_of other e = record e { timer_s = other.timer_s; timer_ns = other.timer_ns }

-- ---- what is as it was

-- where code of a side ran
pub record KeepsElsewhere (side : Side) (old : State) (e : Ended) : Type 0 where
  pub bytes : (a : ℕ) → are_beside e.stores a ≡ true → (is_exceptional e.state.core e.ending.cause && is_framed (stacks_of side e.state.core) a) ≡ false
      → get e.state.bus.memory a ≡ get old.bus.memory a
  pub board : e.state.bus.board ≡ old.bus.board
  pub sau : are_in_memory e.stores ≡ true → e.state.bus.sau ≡ old.bus.sau
  pub exceptions : are_in_memory e.stores ≡ true → is_exceptional e.state.core e.ending.cause ≡ false
      → e.state.exceptions ≡ with_timers_of e.state.exceptions old.exceptions

-- after what a step begins with
abbrev pub WritesTold : State → List ScriptEvent → Type 0
WritesTold s events = KeepsElsewhere s.core.run.side (started s events) (ended (started s events))
