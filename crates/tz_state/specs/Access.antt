-- Data accesses (DDI0553, `MemA`, `MemU`): the checks in their order, and how the machine answers.
use Rattle.std.specs.Prelude.{ℕ, ◌%◌, ◌==◌, Bool, true, false, ◌&&◌, ◌||◌, not, nat_le, if◌then◌else◌, List, [], ◌∷◌, ◌++◌, Option, Some, None, Result, Ok, Err}
use Rattle.tz_table.specs.declared.units.Side.{Side}
use Rattle.tz_table.specs.declared.units.Side.TheVariants.{Secure, NonSecure}
use Rattle.tz_table.specs.declared.units.Size.{Size}
use Rattle.tz_table.specs.declared.units.Size.TheVariants.{Byte, Half, Word}
use Rattle.tz_model.specs.declared.board.Region.{Region}
use Rattle.tz_model.specs.declared.board.RegionKind.{RegionKind}
use Rattle.tz_model.specs.declared.board.RegionKind.TheVariants.{Rom, Ram}
use Rattle.tz_model.specs.declared.report.Fault.{Fault}
use Rattle.tz_model.specs.declared.report.Fault.TheVariants.{Unaligned, DataAccess, Violation, Precise}
use Rattle.tz_model.specs.declared.report.Store as stored
use Rattle.tz_model.specs.AddressMap.{private_first, private_last}
use Rattle.tz_model.specs.Board.{within, in_region}
use Rattle.tz_model.specs.Ports.{Answering, Load, Store, cut_to}
use Rattle.tz_state.specs.declared.asker.Asker.{Asker}
use Rattle.tz_state.specs.declared.request.Kind.{Kind}
use Rattle.tz_state.specs.declared.request.Kind.TheVariants.{Read, Write, Fetch}
use Rattle.tz_state.specs.declared.request.Request.{Request}
use Rattle.tz_state.specs.Memory.{every, value_at, with_value}
use Rattle.tz_state.specs.Attribution.{MapState, is_open}
use Rattle.tz_state.specs.Protection.{permits}
use Rattle.tz_state.specs.State.{Bus, State, map_in, mpu_of, asker_in, with_memory}
use Rattle.tz_state.specs.SystemRegisters.{SystemState}
use Rattle.tz_state.specs.Views.{system_value, system_read, system_written}

-- ---- alignment

abbrev pub is_aligned : Size → ℕ → Bool
is_aligned Byte a = true
is_aligned Half a = a % 2 == 0
is_aligned Word a = a % 4 == 0

-- an access that has to be aligned and isn't: where it is asked for so, and in the private peripheral space
-- and above
abbrev pub is_crooked : Size → ℕ → Bool → Bool
is_crooked size a must_align = (must_align || nat_le private_first a) && not (is_aligned size a)

-- ---- attribution

-- code of a side may access each byte
unfoldable pub may_touch : MapState → Side → Size → ℕ → Bool
may_touch m Secure size a = true
may_touch m NonSecure size a = every (is_open m) a size

-- ---- protection

-- the system registers, and what is private beside them
abbrev pub is_private : ℕ → Bool
is_private a = within private_first private_last a

-- the MPU of the state lets the access have a byte; private space isn't asked of it
abbrev pub lets : Bus → Request → ℕ → Bool
lets b q a = is_private a || permits b.board.profile (mpu_of q.side b) a q.kind q.privileged q.negative

unfoldable pub is_let : Bus → Request → Bool
is_let b q = every (lets b q) q.addr q.size

-- ---- the map

-- some region holds the address
unfoldable pub is_mapped : List Region → ℕ → Bool
is_mapped [] a = false
is_mapped (r ∷ rs) a = if in_region r a then true else is_mapped rs a

abbrev pub takes_writes : RegionKind → Bool
takes_writes Rom = false
takes_writes Ram = true

-- the region that holds the address takes writes
unfoldable pub is_writable : List Region → ℕ → Bool
is_writable [] a = false
is_writable (r ∷ rs) a = if in_region r a then takes_writes r.kind else is_writable rs a

-- the map takes an access of this kind at the address
abbrev pub is_accessible : List Region → Kind → ℕ → Bool
is_accessible rs Read a = is_mapped rs a
is_accessible rs Write a = is_writable rs a
is_accessible rs Fetch a = is_mapped rs a

-- ---- all checks

-- (own) the first check that fails: alignment, attribution, protection, the map. Each goes over all bytes, and
-- tells the address of the access. In private space only privileged code goes on, and no map is asked
unfoldable pub verdict : Bus → Request → Option Fault
verdict b q =
    if is_crooked q.size q.addr q.must_align then Some Unaligned
    else if not (may_touch (map_in b) q.side q.size q.addr) then Some (Violation q.addr)
    else if not (is_let b q) then Some (DataAccess q.addr q.side)
    else if is_private q.addr then (if q.privileged then None else Some (Precise q.addr))
    else if not (every (is_accessible b.board.regions q.kind) q.addr q.size) then Some (Precise q.addr)
    else None

-- ---- the machine's answers

-- what the accesses of an instruction see and change: who asks, what the system registers stand in, memory among
-- it, with the stores made so far
pub record Reached : Type 0 where
  pub asker : Asker
  pub system : SystemState
  pub stores : List stored.Store

abbrev pub system_in : State → SystemState
system_in s = record { ipsr = s.core.registers.ipsr; status = s.core.status; exceptions = s.exceptions; bus = s.bus }

abbrev pub reached_in : State → Reached
reached_in s = record { asker = asker_in s; system = system_in s; stores = [] }

-- an access of the code that asks; one that counts as unprivileged is so
abbrev pub request_by : Asker → Kind → Size → ℕ → Bool → Bool → Request
request_by k kind size a must_align user =
    record {
      addr = a;
      size = size;
      kind = kind;
      side = k.side;
      privileged = k.privileged && not user;
      negative = k.negative;
      must_align = must_align || k.aligned;
    }

-- the verdict on an access of the code that asks
abbrev pub access_verdict : Reached → Kind → Size → ℕ → Bool → Bool → Option Fault
access_verdict r kind size a must_align user = verdict r.system.bus (request_by r.asker kind size a must_align user)

-- a read that no check refuses, of the system registers or of memory
abbrev pub permitted_read : Bool → Reached → Size → ℕ → Reached × ℕ
permitted_read true r size a = (record r { system = system_read r.asker.side r.system a }, system_value r.asker.side r.system a size)
permitted_read false r size a = (r, value_at r.system.bus.memory size a)

-- a read by its verdict
abbrev pub read_by : Option Fault → Reached → Size → ℕ → Reached × Result ℕ Fault
read_by (Some fault) r size a = (r, Err fault)
read_by None r size a = ((permitted_read (is_private a) r size a).0, Ok (permitted_read (is_private a) r size a).1)

-- a write that no check refuses, to the system registers or to memory
abbrev pub stored_in : Bool → Side → SystemState → Size → ℕ → ℕ → SystemState
stored_in true side s size a value = system_written side s a size value
stored_in false side s size a value = record s { bus = with_memory s.bus (with_value s.bus.memory size a value) }

-- a write that no check refuses, which is noted among the stores
abbrev pub permitted_write : Reached → Size → ℕ → ℕ → Reached
permitted_write r size a value =
    record r {
      system = stored_in (is_private a) r.asker.side r.system size a value;
      stores = r.stores ++ record { addr = a; size = size; value = value } ∷ [];
    }

abbrev pub write_by : Option Fault → Reached → Size → ℕ → ℕ → Reached × Result ℕ Fault
write_by (Some fault) r size a value = (r, Err fault)
write_by None r size a value = (permitted_write r size a value, Ok 0)

-- how the machine answers an access; registers alone decide its verdict, and no byte is read for it. What a store
-- of an instruction changes counts for the checks of its next one
unfoldable pub access : Answering Reached
access r (Load size a must_align user) = read_by (access_verdict r Read size a must_align user) r size a
access r (Store size a value must_align user) =
    write_by (access_verdict r Write size a must_align user) r size a (cut_to size value)
