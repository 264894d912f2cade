-- The state in which the machine starts (DDI0553, `TakeReset`).
use Rattle.std.specs.Prelude.{ℕ, ◌+◌, Bool, true, false, ◌&&◌, if◌then◌else◌, List, [], ◌∷◌}
use Rattle.tz_table.specs.declared.units.Size.TheVariants.{Word}
use Rattle.tz_model.specs.Words.{wrap}
use Rattle.tz_model.specs.Board.{BoardValue}
use Rattle.tz_model.specs.Image.{SegmentValue, ImageValue}
use Rattle.tz_state.specs.Memory.{Memory, every, word_at, with_bytes}
use Rattle.tz_state.specs.Zeros.{zero_memory}
use Rattle.tz_regs.specs.Reset.{reset_core}
use Rattle.tz_state.specs.Access.{is_mapped}
use Rattle.tz_state.specs.State.{State}
use Rattle.tz_state.specs.Slots.{reset_exceptions}
use Rattle.tz_state.specs.UnitRegisters.{reset_bus}

-- the bytes of segments put into memory, one segment after the other
unfoldable pub with_segments : Memory → List SegmentValue → Memory
with_segments m [] = m
with_segments m (s ∷ more) = with_segments (with_bytes m s.base s.bytes) more

-- (own) memory is zero but for the two images
abbrev pub boot_memory : BoardValue → ImageValue → ImageValue → Memory
boot_memory b secure nonsecure = with_segments (with_segments (zero_memory b.regions) secure.segments) nonsecure.segments

-- the values of a reset, with this memory, stack pointer and start
abbrev pub reset : BoardValue → Memory → ℕ → ℕ → Bool → State
reset b m sp start locked = record { core = reset_core b.secure_vtor b.nonsecure_vtor sp start locked; exceptions = reset_exceptions b.interrupts; bus = reset_bus b m }

-- both words at the start of the Secure vector table are in memory
abbrev pub has_vectors : BoardValue → Bool
has_vectors b = every (is_mapped b.regions) b.secure_vtor Word && every (is_mapped b.regions) (wrap (b.secure_vtor + 4)) Word

-- (own) without them the machine starts locked
abbrev pub start_from : BoardValue → Memory → State
start_from b m =
    if has_vectors b then reset b m (word_at m b.secure_vtor) (word_at m (wrap (b.secure_vtor + 4))) false
    else reset b m 0 0 true

-- the start of a board with a Secure and a Non-secure image
unfoldable pub boot : BoardValue → ImageValue → ImageValue → State
boot b secure nonsecure = start_from b (boot_memory b secure nonsecure)
