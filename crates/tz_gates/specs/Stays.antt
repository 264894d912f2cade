-- What gates rest upon, as long as it stays: fetches at them, and where a run enters.
use Rattle.std.specs.Prelude.{◌≡◌, ℕ, ◌<◌, ◌+◌, Bool, true, ◌&&◌, if◌then◌else◌, List, Ok, Err}
use Rattle.std.specs.List.{Contains}
use Rattle.tz_table.specs.declared.units.Side.TheVariants.{Secure, NonSecure}
use Rattle.tz_model.specs.declared.report.Fault.TheVariants.{Exec}
use Rattle.tz_model.specs.declared.fetch.FetchAnswer.{FetchAnswer}
use Rattle.tz_model.specs.Words.{wrap}
use Rattle.tz_model.specs.Board.{is_multiple}
use Rattle.tz_state.specs.declared.fetcher.Fetcher.{Fetcher}
use Rattle.tz_state.specs.Memory.{byte_at}
use Rattle.tz_state.specs.State.{Bus, State, map_of}
use Rattle.tz_state.specs.Fetch.{is_entry, is_runnable, sg_half, wide, fetch}
use Rattle.tz_sem.specs.Run.{Events, state_after}

-- memory that Non-secure code might call has the bytes that it had; the board and the SAU, but for RNR, are the same
pub record KeepsGates (old new : State) : Type 0 where
  pub board : new.bus.board ≡ old.bus.board
  pub ctrl : new.bus.sau.ctrl ≡ old.bus.sau.ctrl
  pub regions : new.bus.sau.regions ≡ old.bus.sau.regions
  pub bytes : (a : ℕ) → is_entry (map_of old) a ≡ true → byte_at new.bus.memory a ≡ byte_at old.bus.memory a

-- ---- fetches

-- the Secure MPU lets Secure code run at both halfwords
abbrev pub lets_enter : Bus → Fetcher → ℕ → Bool
lets_enter b f a = is_runnable b Secure f.secure_privileged f.negative a && is_runnable b Secure f.secure_privileged f.negative (wrap (a + 2))

-- SG, or the fault of the Secure MPU
abbrev pub gate_answer : Bus → Fetcher → ℕ → FetchAnswer
gate_answer b f a = record { touched = true; answer = if lets_enter b f a then Ok (wide sg_half sg_half true) else Err (Exec Secure) }

-- a fetch of Non-secure code at one of these addresses finds the gate
abbrev pub FindsGates : State → List ℕ → Type 0
FindsGates s gates = (t : State) (f : Fetcher) (a : ℕ) → KeepsGates s t → f.side ≡ NonSecure → Contains gates a → fetch t.bus f a ≡ gate_answer t.bus f a

-- ---- runs

-- in each state before one of n steps
abbrev pub KeepsGatesFor : State → Events → State → ℕ → Type 0
KeepsGatesFor old events s n = (k : ℕ) → k < n → KeepsGates old (state_after events 0 s k)

-- bit 0 of PC is clear, as it is from the start on
abbrev pub HasEvenPc : State → Type 0
HasEvenPc s = is_multiple 2 s.core.registers.pc ≡ true
