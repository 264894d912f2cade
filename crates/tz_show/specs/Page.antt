-- The page of a state: what a person reads of it, section by section, and the memory that was asked for.
use Rattle.std.specs.Prelude.{ℕ, List, ◌++◌}
use Rattle.tz_regs.specs.declared.parts.Core.{Core}
use Rattle.tz_state.specs.Slots.{ExceptionsValue}
use Rattle.tz_state.specs.State.{Bus, State}
use Rattle.tz_words.specs.declared.ranges.Range.{Range}
use Rattle.tz_show.specs.Registers.{head_text, registers_text, stacks_text}
use Rattle.tz_show.specs.Masks.{masks_text}
use Rattle.tz_show.specs.Faults.{faults_text}
use Rattle.tz_show.specs.Exceptions.{exceptions_text}
use Rattle.tz_show.specs.Mover.{mover_text}
use Rattle.tz_show.specs.Units.{timers_text, sau_text, mpus_text}
use Rattle.tz_show.specs.Frames.{stack_text, frame_text}
use Rattle.tz_show.specs.Dump.{ranges_text}

-- the core: how it runs, its registers and stacks, what masks exceptions, and which faults there were
unfoldable pub core_text : Core → ExceptionsValue → ℕ → List ℕ
core_text c e step = head_text e c step ++ registers_text c ++ stacks_text c ++ masks_text e c.masks ++ faults_text c.status

-- exceptions, timers, a mover, the units that guard memory, and the top of the stack
unfoldable pub rest_text : Core → ExceptionsValue → Bus → List ℕ
rest_text c e b =
    exceptions_text c.status e ++ timers_text e ++ mover_text b.board.mover c.status ++ sau_text b.sau ++ mpus_text b ++ stack_text c b ++ frame_text c b

-- the sections, always in this order
unfoldable pub state_text : State → ℕ → List ℕ
state_text s step = core_text s.core s.exceptions step ++ rest_text s.core s.exceptions s.bus

-- the page of a state after so many steps, with these ranges of memory
unfoldable pub page : State → ℕ → List Range → List ℕ
page s step ranges = state_text s step ++ ranges_text s.bus ranges
