-- Entries: the steps of a run at which Non-secure code enters Secure code by SG, and how many of them are where.
use Rattle.std.specs.Prelude.{ℕ, zero, suc, ◌+◌, ◌==◌, Bool, false, ◌&&◌, not, if◌then◌else◌, List, [], ◌∷◌, ◌++◌, count_by, Option, Some, None}
use Rattle.std.specs.List.{list_any}
use Rattle.tz_table.specs.declared.units.Code.{Code}
use Rattle.tz_model.specs.declared.report.StepKind.{StepKind}
use Rattle.tz_model.specs.declared.report.StepKind.TheVariants.{Locked, Idle, Taken, Ran}
use Rattle.tz_model.specs.declared.report.Report.{Report}
use Rattle.tz_model.specs.Words.{is_nonsecure_side}
use Rattle.tz_state.specs.State.{State}
use Rattle.tz_state.specs.Fetch.{sg_half}
use Rattle.tz_sem.specs.Run.{Events}
use Rattle.tz_sem.specs.Step.{step}

-- ---- one step

abbrev pub is_sg_second : Option ℕ → Bool
is_sg_second None = false
is_sg_second (Some second) = second == sg_half

-- the code of SG
abbrev pub is_sg : Code → Bool
is_sg code = code.first == sg_half && is_sg_second code.second

-- where SG ran
abbrev pub sg_place : StepKind → Option ℕ
sg_place Locked = None
sg_place Idle = None
sg_place (Taken number lr) = None
sg_place (Ran pc code) = if is_sg code then Some pc else None

-- from Non-secure to Secure state
abbrev pub goes_in : Report → Bool
goes_in r = is_nonsecure_side r.start && not (is_nonsecure_side r.end)

-- where a step enters: one that starts Non-secure, runs SG and ends Secure
abbrev pub entry_of : Report → Option ℕ
entry_of r = if goes_in r then sg_place r.kind else None

-- ---- steps in a row

abbrev pub listed : Option ℕ → List ℕ
listed None = []
listed (Some a) = a ∷ []

-- where n steps from step k on enter, in their order
unfoldable pub entered : Events → ℕ → State → ℕ → List ℕ
entered events k s zero = []
entered events k s (suc n) = listed (entry_of (step s (events k)).report) ++ entered events (k + 1) (step s (events k)).state n

-- ---- counts

abbrev pub count_at : List ℕ → ℕ → ℕ
count_at places a = count_by (λ p. p == a) places

abbrev pub is_among : List ℕ → ℕ → Bool
is_among gates p = list_any (λ a. p == a) gates

abbrev pub count_elsewhere : List ℕ → List ℕ → ℕ
count_elsewhere places gates = count_by (λ p. not (is_among gates p)) places

-- how many of n steps from step k on enter at an address
abbrev pub entries_at : Events → ℕ → State → ℕ → ℕ → ℕ
entries_at events k s n a = count_at (entered events k s n) a

-- and how many at none of these
abbrev pub other_entries : Events → ℕ → State → ℕ → List ℕ → ℕ
other_entries events k s n gates = count_elsewhere (entered events k s n) gates
