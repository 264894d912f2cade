-- What may differ of two machines while Secure code runs, of what Non-secure code may get to see: the bytes of marked
-- blocks of 32, or all; and whether the exceptions may.
use Rattle.std.specs.Prelude.{◌≡◌, ℕ, ◌/◌, nat_le, Bool, true, false, not, ◌&&◌, ◌||◌, List, [], ◌∷◌}
use Rattle.std.specs.FinMap.{get}
use Rattle.tz_model.specs.declared.report.Store.{Store}
use Rattle.tz_regs.specs.declared.parts.Stacks.{Stacks}
use Rattle.tz_state.specs.Attribution.{is_open}
use Rattle.tz_state.specs.Slots.{ExceptionsValue}
use Rattle.tz_state.specs.State.{Bus, State, map_in}
use Rattle.tz_state.specs.Timers.{counts}
use Rattle.tz_twin.specs.Writing.{are_beside, are_in_memory, move_stores, is_framed, with_timers_of}
use Rattle.tz_iso.specs.declared.marks.Blocks.{Blocks}
use Rattle.tz_iso.specs.declared.marks.Marks.{Marks}
use Rattle.tz_iso.specs.Parts.{is_same_timers}

-- a block is among some, by its number
abbrev pub is_among : Blocks → ℕ → Bool
is_among r block = nat_le r.first block && nat_le block r.last

-- among any of these
unfoldable pub are_among : List Blocks → ℕ → Bool
are_among [] block = false
are_among (r ∷ more) block = is_among r block || are_among more block

-- a block is marked
abbrev pub marks_block : Marks → ℕ → Bool
marks_block m block = m.all || are_among m.ranges.items block

-- the block of an address is
abbrev pub marks_byte : Marks → ℕ → Bool
marks_byte m a = marks_block m (a / 32)

-- what was marked stays so
pub record Grows (m m' : Marks) : Type 0 where
  pub all : m'.all ≡ false → m.all ≡ false
  pub exceptions : m'.exceptions ≡ false → m.exceptions ≡ false
  pub blocks : (block : ℕ) → marks_block m' block ≡ false → marks_block m block ≡ false

-- what a step may have written is marked: it made these stores, may have been exceptional, and left these stacks to the
-- side that ran
pub record Notes (stores : List Store) (exceptional : Bool) (stacks : Stacks) (m m' : Marks) : Type 0 where
  pub grows : Grows m m'
  pub all : m'.all ≡ false → are_in_memory stores ≡ true
  pub exceptions : m'.exceptions ≡ false → are_in_memory stores ≡ true
  pub plain : m'.exceptions ≡ false → exceptional ≡ false
  pub beside : (a : ℕ) → marks_byte m' a ≡ false → are_beside stores a ≡ true
  pub unframed : (a : ℕ) → marks_byte m' a ≡ false → (exceptional && is_framed stacks a) ≡ false

-- what the moves at the beginning of a step from a state may write is marked
pub record NotesMoves (s : State) (m m' : Marks) : Type 0 where
  pub grows : Grows m m'
  pub exceptions : m'.exceptions ≡ false → move_stores s ≡ []
  pub beside : (a : ℕ) → marks_byte m' a ≡ false → are_beside (move_stores s) a ≡ true

-- open bytes that aren't marked are the same
abbrev pub AreMarked : Marks → Bus → Bus → Type 0
AreMarked m b c = (a : ℕ) → is_open (map_in b) a ≡ true → marks_byte m a ≡ false → get b.memory a ≡ get c.memory a

-- of two machines, and unless they may differ the SAU, and the exceptions but for the timers
pub record Marked (m : Marks) (s t : State) : Type 0 where
  pub sau : m.all ≡ false → s.bus.sau ≡ t.bus.sau
  pub bytes : AreMarked m s.bus t.bus
  pub exceptions : m.exceptions ≡ false → s.exceptions ≡ with_timers_of s.exceptions t.exceptions

-- ---- timers

-- neither counts
abbrev pub is_still : ExceptionsValue → Bool
is_still e = not (counts e.timer_s) && not (counts e.timer_ns)

-- at the beginning of a step the timers of both cores pend alike: none counts, or they are the same
abbrev pub begin_alike : ExceptionsValue → ExceptionsValue → Bool
begin_alike e f = (is_still e && is_still f) || is_same_timers e f
