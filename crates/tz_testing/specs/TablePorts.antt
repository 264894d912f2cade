-- What the double of the port holds, and how it answers.
use Rattle.std.specs.Prelude.{ℕ, ◌==◌, Bool, false, if◌then◌else◌, List, [], ◌∷◌, ◌++◌, Option, Some, None, Ok, Err}
use Rattle.tz_model.specs.declared.report.Fault.TheVariants.{Precise}
use Rattle.tz_testing.specs.declared.port_double.TableEntry.{TableEntry}
use Rattle.tz_model.specs.Ports.{Answering, Load, Store, cut_to}

-- a number at each address that has an entry, and the address whose accesses fail
pub record TableValue : Type 0 where
  pub entries : List TableEntry
  pub failing : Option ℕ

-- the last number at an address, or this one where it has no entry
abbrev pub last_at : ℕ → List TableEntry → ℕ → ℕ
last_at addr [] found = found
last_at addr (e ∷ more) found = last_at addr more (if e.addr == addr then e.value else found)

abbrev pub fails_at : Option ℕ → ℕ → Bool
fails_at None addr = false
fails_at (Some failing) addr = failing == addr

-- one more entry
abbrev pub with_entry : TableValue → ℕ → ℕ → TableValue
with_entry t addr value = record t { entries = t.entries ++ record { addr = addr; value = value } ∷ [] }

-- an access of the address whose accesses fail gives a bus fault; alignment and privilege don't count
abbrev pub table_answer : Answering TableValue
table_answer t (Load size addr must_align user) =
    if fails_at t.failing addr then (t, Err (Precise addr)) else (t, Ok (cut_to size (last_at addr t.entries 0)))
table_answer t (Store size addr value must_align user) =
    if fails_at t.failing addr then (t, Err (Precise addr)) else (with_entry t addr (cut_to size value), Ok 0)
