-- The end of a step, and its report: the way out of Secure state and all that is told, in one place.
use Rattle.std.specs.Prelude.{ℕ, ◌+◌, ◌/◌, ◌%◌, ◌^◌, ◌==◌, Bool, ◌&&◌, if◌then◌else◌, List, [], ◌∷◌, ◌++◌, Option, Some, None, option_map}
use Rattle.tz_table.specs.declared.units.Side.{Side}
use Rattle.tz_table.specs.declared.units.Side.TheVariants.{Secure, NonSecure}
use Rattle.tz_table.specs.declared.units.Code.{Code}
use Rattle.tz_model.specs.declared.report.CrossKind.{CrossKind}
use Rattle.tz_model.specs.declared.report.CrossKind.TheVariants.{Return, Call, ExcReturn, Chain, Preempt, Refused}
use Rattle.tz_model.specs.declared.report.Way.{Way}
use Rattle.tz_model.specs.declared.report.StepKind.{StepKind}
use Rattle.tz_model.specs.declared.report.StepKind.TheVariants.{Locked, Idle, Ran, Taken as Took}
use Rattle.tz_model.specs.declared.report.Change.{Change}
use Rattle.tz_model.specs.declared.report.Store.{Store}
use Rattle.tz_model.specs.declared.report.Report.{Report}
use Rattle.tz_model.specs.Words.{is_nonsecure_side}
use Rattle.tz_regs.specs.declared.parts.Before.{Before}
use Rattle.tz_regs.specs.declared.parts.Core.{Core}
use Rattle.tz_regs.specs.Registers.{sp_in}
use Rattle.tz_regs.specs.Special.{apsr_word}
use Rattle.tz_state.specs.State.{State, side_of}
use Rattle.tz_sem.specs.declared.ending.Cause.{Cause}
use Rattle.tz_sem.specs.declared.ending.Cause.TheVariants.{Went, Returned, Called, CameBack, Resumed, Taken}
use Rattle.tz_sem.specs.declared.ending.Ending.{Ending}

-- what a stage of a step gives, but for stores
pub record Passed : Type 0 where
  pub state : State
  pub ending : Ending

-- what the stages of a step give
pub record Ended : Type 0 where
  pub state : State
  pub stores : List Store
  pub ending : Ending

abbrev pub with_stores : List Store → Passed → Ended
with_stores stores p = record { state = p.state; stores = stores; ending = p.ending }

-- ---- the way out of Secure state

-- the step crosses out of Secure state: it touched it, and ends Non-secure
abbrev pub crosses : Ended → Bool
crosses e = e.ending.touched && is_nonsecure_side (side_of e.state)

-- an entry to Non-secure code, by bit 6 of its LR: with 1 the code that stands interrupted is Secure; with 0 it is
-- Non-secure, and the entry follows upon a Secure exception that ended
abbrev pub kind_of_entry : ℕ → CrossKind
kind_of_entry lr = if lr / 2 ^ 6 % 2 == 1 then Preempt else Chain

-- the kind of a crossing of a step that starts Secure, by what it did and by LR after it
abbrev pub kind_by : Cause → ℕ → Option CrossKind
kind_by Went lr = None
kind_by Returned lr = Some Return
kind_by Called lr = Some Call
kind_by CameBack lr = None
kind_by Resumed lr = Some ExcReturn
kind_by Taken lr = Some (kind_of_entry lr)

-- and of any
abbrev pub kind_of : Side → Cause → ℕ → Option CrossKind
kind_of NonSecure cause lr = Some Refused
kind_of Secure cause lr = kind_by cause lr

-- LR, where an exception was taken
abbrev pub lr_of : Cause → ℕ → Option ℕ
lr_of Taken lr = Some lr
lr_of cause lr = None

-- with IPSR after the step
abbrev pub way_by : State → Cause → Option CrossKind → Option Way
way_by s cause kind =
    option_map (λ k. record { kind = k; number = s.core.registers.ipsr; lr = lr_of cause s.core.registers.lr }) kind

abbrev pub way_of : Before → Ended → Option Way
way_of b e =
    if crosses e then way_by e.state e.ending.cause (kind_of b.side e.ending.cause e.state.core.registers.lr) else None

-- ---- what is told

-- a register that differs is told
abbrev pub changed : ℕ → ℕ → ℕ → List Change
changed name old new = if old == new then [] else record { name = name; value = new } ∷ []

-- the registers that differ, the first of which has a name
unfoldable pub registers_changed : ℕ → List ℕ → List ℕ → List Change
registers_changed name [] ys = []
registers_changed name (x ∷ xs) [] = []
registers_changed name (x ∷ xs) (y ∷ ys) = changed name x y ++ registers_changed (name + 1) xs ys

-- R0 to R12, SP as in use before and after, LR and APSR
abbrev pub changes_of : Before → Core → List Change
changes_of b c =
    registers_changed 0 b.registers.general c.registers.general ++ changed 13 b.sp (sp_in c)
    ++ changed 14 b.registers.lr c.registers.lr ++ changed 15 (apsr_word b.registers.apsr) (apsr_word c.registers.apsr)

-- the instruction that ran, where the step doesn't end locked
abbrev pub ran_in : Ended → Option Code
ran_in e = if e.state.core.run.locked then None else e.ending.ran

-- what the step was, with the registers that differ and the stores
pub record Told : Type 0 where
  pub kind : StepKind
  pub changes : List Change
  pub stores : List Store

-- a step in which no instruction ran: an exception was taken, or nothing was done
abbrev pub kind_without : Core → Cause → StepKind
kind_without c Taken = Took c.registers.ipsr c.registers.lr
kind_without c cause = Idle

abbrev pub told_by : Before → Ended → Option Code → Told
told_by b e (Some code) = record { kind = Ran b.registers.pc code; changes = changes_of b e.state.core; stores = e.stores }
told_by b e None =
    record {
      kind = if e.state.core.run.locked then Locked else kind_without e.state.core e.ending.cause;
      changes = [];
      stores = [];
    }

abbrev pub report_with : Before → Ended → Told → Report
report_with b e t =
    record {
      start = b.side;
      end = side_of e.state;
      touched = e.ending.touched;
      way = way_of b e;
      kind = t.kind;
      changes = record { items = t.changes };
      stores = record { items = t.stores };
    }

abbrev pub report_of : Before → Ended → Report
report_of b e = report_with b e (told_by b e (ran_in e))
