-- Loads and stores of one register, by what the bus answers to their one access.
use Rattle.std.specs.Prelude.{ℕ, ◌^◌, ◌==◌, Bool, false, [], ◌∷◌, Option, Some, None, Result, Ok, Err}
use Rattle.std.proofs.Common.{◌≡◌, refl, ap, ◌∙◌}
use Rattle.std.proofs.Math.Nat.{mod-mod}
use Rattle.tz_table.specs.declared.units.Size.{Size}
use Rattle.tz_table.specs.declared.units.Size.TheVariants.{Byte, Half, Word}
use Rattle.tz_table.specs.declared.instruction.Address.{Address}
use Rattle.tz_table.specs.declared.instruction.Insn.{Insn}
use Rattle.tz_table.specs.declared.instruction.Insn.TheVariants.{Load, Store}
use Rattle.tz_model.specs.declared.report.Fault.{Fault}
use Rattle.tz_model.specs.declared.report.Outcome.{Outcome}
use Rattle.tz_model.specs.declared.report.Outcome.TheVariants.{Next}
use Rattle.tz_model.specs.Ports.{answers, aligned_by_ccr, cut_to}
use Rattle.tz_regs.specs.declared.parts.Core.{Core}
use Rattle.tz_state.specs.declared.request.Kind.TheVariants.{Read, Write}
use Rattle.tz_state.specs.Memory.{Memory, value_at, with_byte, with_half, with_value}
use Rattle.tz_state.specs.State.{State, asker_in, with_memory}
use Rattle.tz_state.specs.Access.{access, is_private, reached_in, request_by, verdict}
use Rattle.tz_sem.specs.Local.{Finished, finished_in, local_of, reg, with_local}
use Rattle.tz_sem.specs.LoadStore.{based, extended_to, place_of, refusal, refusal_of, register_loaded}
use Rattle.tz_sem.specs.Exec.{alone, loads_stores, ported, through}

-- why an access of one register isn't made
abbrev pub load_verdict : State → Size → ℕ → Address → Bool → Option Fault
load_verdict s size rt address user =
    verdict s.bus (request_by (asker_in s) Read size (place_of address (local_of s.core)) (rt == 15) user)

abbrev pub store_verdict : State → Size → Address → Bool → Option Fault
store_verdict s size address user =
    verdict s.bus (request_by (asker_in s) Write size (place_of address (local_of s.core)) aligned_by_ccr user)

-- ---- one that faults

-- a fault before the access
pub refused : (s : State) (i : Insn) (fault : Fault) → refusal i (local_of s.core) ≡ Some fault → loads_stores s i ≡ alone s (s.core, Err fault)
refused s i fault e = rw e refl

-- a fault of the access
pub load_faults : (s : State) (size : Size) (signed : Bool) (rt : ℕ) (address : Address) (user : Bool) (fault : Fault)
    → refusal_of address (local_of s.core) ≡ None → load_verdict s size rt address user ≡ Some fault
    → loads_stores s (Load size signed rt address user) ≡ alone s (s.core, Err fault)
unfolding access answers
load_faults s size signed rt address user fault unrefused faults = rw (unrefused, faults) refl

pub store_faults : (s : State) (size : Size) (rt : ℕ) (address : Address) (user : Bool) (fault : Fault)
    → refusal_of address (local_of s.core) ≡ None → store_verdict s size address user ≡ Some fault
    → loads_stores s (Store size rt address user) ≡ alone s (s.core, Err fault)
unfolding access answers
store_faults s size rt address user fault unrefused faults = rw (unrefused, faults) refl

-- ---- one of memory

-- what an instruction leaves over a port that is as it was
left_alone : (s : State) (f : Finished) → through s (ported (reached_in s) (finished_in s.core f)) ≡ alone s (finished_in s.core f)
left_alone s (Ok f) = refl
left_alone s (Err fault) = refl

-- the registers that a load leaves
pub load_leaves : (s : State) (size : Size) (signed : Bool) (rt : ℕ) (address : Address) (user : Bool) (core : Core) (outcome : Result Outcome Fault)
    → refusal_of address (local_of s.core) ≡ None → load_verdict s size rt address user ≡ None → is_private (place_of address (local_of s.core)) ≡ false
    → finished_in s.core (register_loaded rt (based address (local_of s.core)) (extended_to signed size (value_at s.bus.memory size (place_of address (local_of s.core))))) ≡ (core, outcome)
    → loads_stores s (Load size signed rt address user) ≡ alone s (core, outcome)
unfolding access answers
load_leaves s size signed rt address user core outcome unrefused permitted of_memory finishes =
    rw (unrefused, permitted, of_memory) (left_alone s (register_loaded rt (based address (local_of s.core)) (extended_to signed size (value_at s.bus.memory size (place_of address (local_of s.core))))) ∙ ap (alone s) finishes)

-- a number that is cut to its size stays so
cut_again : (m : Memory) (size : Size) (a value : ℕ) → with_value m size a (cut_to size value) ≡ with_value m size a value
cut_again m Byte a value = ap (λ (n : ℕ). with_byte m a n) (mod-mod value (2 ^ 8))
cut_again m Half a value = ap (λ (n : ℕ). with_half m a n) (mod-mod value (2 ^ 16))
cut_again m Word a value = refl

-- the registers and the memory that a store leaves
pub store_leaves : (s : State) (size : Size) (rt : ℕ) (address : Address) (user : Bool)
    → refusal_of address (local_of s.core) ≡ None → store_verdict s size address user ≡ None → is_private (place_of address (local_of s.core)) ≡ false
    → loads_stores s (Store size rt address user) ≡ record {
      state = record s {
        core = with_local s.core (based address (local_of s.core));
        bus = with_memory s.bus (with_value s.bus.memory size (place_of address (local_of s.core)) (reg (local_of s.core) rt));
      };
      stores = record { addr = place_of address (local_of s.core); size = size; value = cut_to size (reg (local_of s.core) rt) } ∷ [];
      outcome = Ok Next;
    }
unfolding access answers
store_leaves s size rt address user unrefused permitted of_memory =
    rw (unrefused, permitted, of_memory, cut_again s.bus.memory size (place_of address (local_of s.core)) (reg (local_of s.core) rt)) refl
