-- What tells two SAUs, two MPUs, the exceptions of two cores, and two memories apart.
use Rattle.std.specs.Prelude.{ℕ, ◌==◌, Bool, true, false, not, ◌&&◌, ◌||◌, Option, Some, None}
use Rattle.std.specs.List.{list_any}
use Rattle.std.specs.FinMap.{get, keys}
use Rattle.std.specs.Cmp.Lexicographic.{pointwise}
use Rattle.tz_table.specs.declared.units.Side.{Side}
use Rattle.tz_model.specs.Words.{is_nonsecure_side}
use Rattle.tz_state.specs.declared.units.Bounds.{Bounds}
use Rattle.tz_state.specs.declared.slot.SlotState.{SlotState}
use Rattle.tz_state.specs.Memory.{Memory}
use Rattle.tz_state.specs.Attribution.{SauState, is_open}
use Rattle.tz_state.specs.Protection.{MpuState}
use Rattle.tz_state.specs.Slots.{ExceptionsValue}
use Rattle.tz_state.specs.State.{Bus, map_in}

abbrev pub is_same_flag : Bool → Bool → Bool
is_same_flag true b = b
is_same_flag false b = not b

abbrev pub is_same_side : Side → Side → Bool
is_same_side s t = is_same_flag (is_nonsecure_side s) (is_nonsecure_side t)

-- ---- the units

abbrev pub is_same_bounds : Bounds → Bounds → Bool
is_same_bounds r q = r.rbar == q.rbar && r.rlar == q.rlar

-- two SAUs differ in CTRL, in RNR or in a region
unfoldable pub sau_differs : SauState → SauState → Bool
sau_differs u v = not (u.ctrl == v.ctrl && (u.rnr == v.rnr && pointwise is_same_bounds u.regions v.regions))

-- two MPUs differ in CTRL, in RNR, in a MAIR or in a region
unfoldable pub mpu_differs : MpuState → MpuState → Bool
mpu_differs m n =
    not (m.ctrl == n.ctrl && (m.rnr == n.rnr && (m.mair0 == n.mair0 && (m.mair1 == n.mair1
    && pointwise is_same_bounds m.regions n.regions))))

-- ---- the exceptions

abbrev pub is_same_slot : SlotState → SlotState → Bool
is_same_slot s t =
    is_same_flag s.pending t.pending && (is_same_flag s.active t.active && (is_same_flag s.enabled t.enabled
    && (s.priority == t.priority && is_same_side s.target t.target)))

-- PRIGROUP of both sides, PRIS and BFHFNMINS
abbrev pub is_same_choice : ExceptionsValue → ExceptionsValue → Bool
is_same_choice e f =
    e.prigroup_s == f.prigroup_s && (e.prigroup_ns == f.prigroup_ns
    && (is_same_flag e.pris f.pris && is_same_flag e.bfhfnmins f.bfhfnmins))

-- the exceptions of two cores differ in a slot, in how many interrupts there are, or in what is chosen of them;
-- timers don't count
unfoldable pub exceptions_differ : ExceptionsValue → ExceptionsValue → Bool
exceptions_differ e f =
    not (pointwise is_same_slot e.slots f.slots && (e.interrupts == f.interrupts && is_same_choice e f))

-- ---- memory

-- what two memories have at an address: a byte, or none
abbrev pub is_same_byte : Option ℕ → Option ℕ → Bool
is_same_byte None None = true
is_same_byte None (Some y) = false
is_same_byte (Some x) None = false
is_same_byte (Some x) (Some y) = x == y

abbrev pub byte_differs : Memory → Memory → ℕ → Bool
byte_differs m n a = not (is_same_byte (get m a) (get n a))

-- Non-secure code may read the byte of an address in both, and it differs
abbrev pub open_byte_differs : Bus → Bus → ℕ → Bool
open_byte_differs b c a = is_open (map_in b) a && (is_open (map_in c) a && byte_differs b.memory c.memory a)

-- such an address is among those of either memory
unfoldable pub open_bytes_differ : Bus → Bus → Bool
open_bytes_differ b c =
    list_any (open_byte_differs b c) (keys b.memory) || list_any (open_byte_differs b c) (keys c.memory)
