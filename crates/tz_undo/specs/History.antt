-- A machine with the states before it, and how steps forth and back change it.
use Rattle.std.specs.Prelude.{ℕ, zero, suc, Bool, true, false, List, [], ◌∷◌, take}
use Rattle.tz_state.specs.State.{State}
use Rattle.tz_core.specs.Undo.{NoteValue, undo_of}
use Rattle.tz_model.specs.declared.report.ScriptEvent.{ScriptEvent}
use Rattle.tz_sem.specs.Step.{step}

-- a state, how many before it are kept, and those, the newest first
pub record HistoryValue : Type 0 where
  pub now : State
  pub kept : ℕ
  pub before : List State

-- the states before a state, by the notes of the steps that led to it, the newest first
unfoldable pub befores : List NoteValue → State → List State
befores [] s = []
befores (n ∷ ns) s = undo_of n s ∷ befores ns (undo_of n s)

-- one step is made
abbrev pub stepped : HistoryValue → List ScriptEvent → HistoryValue
stepped h due = record h { now = (step h.now due).state; before = take h.kept (h.now ∷ h.before) }

-- no step can be taken back
abbrev pub is_empty_states : List State → Bool
is_empty_states [] = true
is_empty_states (s ∷ ss) = false

abbrev pub is_at_start : HistoryValue → Bool
is_at_start h = is_empty_states h.before

-- one step is taken back, where there is one
abbrev pub backed_to : HistoryValue → List State → HistoryValue
backed_to h [] = h
backed_to h (s ∷ ss) = record h { now = s; before = ss }

abbrev pub backed : HistoryValue → HistoryValue
backed h = backed_to h h.before

-- steps are made, at which these events are due
unfoldable pub all_stepped : HistoryValue → List (List ScriptEvent) → HistoryValue
all_stepped h [] = h
all_stepped h (due ∷ dues) = all_stepped (stepped h due) dues

-- so many steps are taken back
unfoldable pub all_backed : ℕ → HistoryValue → HistoryValue
all_backed zero h = h
all_backed (suc n) h = all_backed n (backed h)

-- the states that steps begin in, the newest first, before those that were before
unfoldable pub states_onto : List State → State → List (List ScriptEvent) → List State
states_onto before s [] = before
states_onto before s (due ∷ dues) = states_onto (s ∷ before) (step s due).state dues

abbrev pub states_before : HistoryValue → List (List ScriptEvent) → List State
states_before h dues = states_onto h.before h.now dues
