-- Accesses of instructions, and what a port answers to them in turn.
use Rattle.std.specs.Prelude.{ℕ, ◌%◌, ◌^◌, Bool, true, false, List, [], ◌∷◌, Result, Ok, Err}
use Rattle.tz_table.specs.declared.units.Size.{Size}
use Rattle.tz_table.specs.declared.units.Size.TheVariants.{Byte, Half, Word}
use Rattle.tz_model.specs.declared.report.Fault.{Fault}

-- an access: a read, or a write of a value; whether it has to be aligned to its size whatever CCR says,
-- and whether it counts as unprivileged
pub data Access : Type 0 where
  Load : (size : Size) (addr : ℕ) (must_align user : Bool) → Access
  Store : (size : Size) (addr value : ℕ) (must_align user : Bool) → Access

-- it has to be aligned whatever CCR says
abbrev pub always_aligned : Bool
always_aligned = true

-- it has to be aligned where CCR says so
abbrev pub aligned_by_ccr : Bool
aligned_by_ccr = false

-- it counts as privileged where the running code is
abbrev pub as_running : Bool
as_running = false

-- the low bits of a number, so many as a size has
abbrev pub cut_to : Size → ℕ → ℕ
cut_to Byte value = value % 2 ^ 8
cut_to Half value = value % 2 ^ 16
cut_to Word value = value

-- how what a port holds answers an access: it is left so, with the word that was read or the fault; a
-- store that is made reads 0
abbrev pub Answering : Type 0 → Type 0
Answering H = H → Access → H × Result ℕ Fault

-- the answer of a store, which gives no word
abbrev pub stored_answer : Result Unit Fault → Result ℕ Fault
stored_answer (Ok done) = Ok 0
stored_answer (Err fault) = Err fault

-- a word before those that are read later
abbrev pub with_read : ℕ → Result (List ℕ) Fault → Result (List ℕ) Fault
with_read word (Ok words) = Ok (word ∷ words)
with_read word (Err fault) = Err fault

abbrev pub after_answer : {H : Type 0} → H × Result ℕ Fault → (H → H × Result (List ℕ) Fault) → H × Result (List ℕ) Fault
after_answer (h, Ok word) later = ((later h).0, with_read word (later h).1)
after_answer (h, Err fault) later = (h, Err fault)

-- accesses in turn, each over what those before it left, up to the first that faults: the words read, or
-- the fault
unfoldable pub answers : {H : Type 0} → Answering H → H → List Access → H × Result (List ℕ) Fault
answers one h [] = (h, Ok [])
answers one h (a ∷ more) = after_answer (one h a) (λ left. answers one left more)
