-- Fetches (DDI0553, `FetchInstr`): the checks of a halfword, instructions of two, and the gateway.
use Rattle.std.specs.Prelude.{ℕ, ◌+◌, ◌==◌, Bool, true, false, ◌&&◌, not, nat_le, nat_lt, if◌then◌else◌, Option, Some, None, Result, Ok, Err}
use Rattle.tz_table.specs.declared.units.Side.{Side}
use Rattle.tz_table.specs.declared.units.Side.TheVariants.{Secure, NonSecure}
use Rattle.tz_table.specs.declared.units.Size.TheVariants.{Half}
use Rattle.tz_model.specs.declared.report.Fault.{Fault}
use Rattle.tz_model.specs.declared.report.Fault.TheVariants.{Transition, EntryPoint, Exec, ExecBus}
use Rattle.tz_model.specs.declared.fetch.Fetched.{Fetched}
use Rattle.tz_model.specs.declared.fetch.FetchAnswer.{FetchAnswer}
use Rattle.tz_model.specs.Words.{wrap}
use Rattle.tz_model.specs.AddressMap.{private_first}
use Rattle.tz_model.specs.Board.{is_nonsecure, is_callable}
use Rattle.tz_state.specs.declared.fetcher.Fetcher.{Fetcher}
use Rattle.tz_state.specs.declared.request.Kind.TheVariants as kinds
use Rattle.tz_state.specs.Attribution.{MapState, fetch_attribution}
use Rattle.tz_state.specs.Protection.{permits}
use Rattle.tz_state.specs.Memory.{every, half_at}
use Rattle.tz_state.specs.Access.{is_mapped}
use Rattle.tz_state.specs.State.{Bus, map_in, mpu_of}

-- a first halfword that has a second
abbrev pub needs_second : ℕ → Bool
needs_second first = nat_le 0xE800 first

-- ---- the checks of a halfword

-- an address is of the side that fetches from it
abbrev pub is_own_byte : MapState → Side → ℕ → Bool
is_own_byte m Secure a = not (is_nonsecure (fetch_attribution m Secure a))
is_own_byte m NonSecure a = is_nonsecure (fetch_attribution m NonSecure a)

-- (own) both bytes of a halfword are of the side that fetches; they always agree, since PC is even and
-- attribution goes by blocks of 32 bytes
unfoldable pub is_own_fetch : MapState → Side → ℕ → Bool
is_own_fetch m side a = every (is_own_byte m side) a Half

-- the MPU of a side lets code run at a byte, with this privilege; none runs in the private peripheral space or
-- above
abbrev pub lets_run : Bus → Side → Bool → Bool → ℕ → Bool
lets_run b side privileged negative a =
    nat_lt a private_first && permits b.board.profile (mpu_of side b) a kinds.Fetch privileged negative

unfoldable pub is_runnable : Bus → Side → Bool → Bool → ℕ → Bool
is_runnable b side privileged negative a = every (lets_run b side privileged negative) a Half

-- both bytes of a halfword are in regions
abbrev pub is_half_mapped : Bus → ℕ → Bool
is_half_mapped b a = every (is_mapped b.board.regions) a Half

-- the fault of a fetch from the other side's memory
abbrev pub wrong_side : Side → Fault
wrong_side Secure = Transition
wrong_side NonSecure = EntryPoint

-- (own) the first check of a halfword that fails: attribution, protection, the map
unfoldable pub half_verdict : Bus → Fetcher → ℕ → Option Fault
half_verdict b f a =
    if not (is_own_fetch (map_in b) f.side a) then Some (wrong_side f.side)
    else if not (is_runnable b f.side f.privileged f.negative a) then Some (Exec f.side)
    else if not (is_half_mapped b a) then Some ExecBus
    else None

-- ---- instructions

abbrev pub narrow : ℕ → Fetched
narrow first = record { code = record { first = first; second = None }; gateway = false }

abbrev pub wide : ℕ → ℕ → Bool → Fetched
wide first second gateway = record { code = record { first = first; second = Some second }; gateway = gateway }

-- the code, after the check of its second halfword
abbrev pub with_second : ℕ → ℕ → Option Fault → Result Fetched Fault
with_second first second (Some fault) = Err fault
with_second first second None = Ok (wide first second false)

-- the code, after the check of its first halfword
abbrev pub with_first : Bus → Fetcher → ℕ → Option Fault → Result Fetched Fault
with_first b f pc (Some fault) = Err fault
with_first b f pc None =
    let first = half_at b.memory pc in
    if needs_second first then with_second first (half_at b.memory (wrap (pc + 2))) (half_verdict b f (wrap (pc + 2)))
    else Ok (narrow first)

-- an instruction that begins in memory of the side that fetches it
unfoldable pub own_fetch : Bus → Fetcher → ℕ → Result Fetched Fault
own_fetch b f pc = with_first b f pc (half_verdict b f pc)

-- ---- the gateway

abbrev pub sg_half : ℕ
sg_half = 0xE97F

abbrev pub is_entry : MapState → ℕ → Bool
is_entry m a = is_callable (fetch_attribution m NonSecure a)

-- (own) Non-secure code that begins to run in Secure memory: all four bytes have to be callable, and SG. The
-- Secure MPU is asked, with Secure privilege
unfoldable pub gateway_fetch : Bus → Fetcher → ℕ → Result Fetched Fault
gateway_fetch b f pc =
    if not (is_entry (map_in b) pc && is_entry (map_in b) (wrap (pc + 2))) then Err EntryPoint
    else if not (is_runnable b Secure f.secure_privileged f.negative pc && is_runnable b Secure f.secure_privileged f.negative (wrap (pc + 2)))
    then Err (Exec Secure)
    else if not (is_half_mapped b pc && is_half_mapped b (wrap (pc + 2))) then Err ExecBus
    else if half_at b.memory pc == sg_half && half_at b.memory (wrap (pc + 2)) == sg_half then Ok (wide sg_half sg_half true)
    else Err EntryPoint

-- ---- the fetch

-- the fetch met an address of Secure memory
abbrev pub is_entry_fault : Result Fetched Fault → Bool
is_entry_fault (Ok fetched) = false
is_entry_fault (Err EntryPoint) = true
is_entry_fault (Err fault) = false

abbrev pub own_touch : Result Fetched Fault → FetchAnswer
own_touch answer = record { touched = is_entry_fault answer; answer = answer }

-- by the side that fetches
abbrev pub fetch_by : Side → Bus → Fetcher → ℕ → FetchAnswer
fetch_by Secure b f pc = record { touched = true; answer = own_fetch b f pc }
fetch_by NonSecure b f pc =
    if is_own_fetch (map_in b) NonSecure pc then own_touch (own_fetch b f pc)
    else record { touched = true; answer = gateway_fetch b f pc }

-- the fetch of the instruction at PC
unfoldable pub fetch : Bus → Fetcher → ℕ → FetchAnswer
fetch b f pc = fetch_by f.side b f pc
