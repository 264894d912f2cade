-- What a step begins with: the events of the script that are due, SysTicks that pend, moves, and a sleep that ends.
use Rattle.std.specs.Prelude.{ℕ, Bool, true, false, ◌&&◌, not, if◌then◌else◌, List, [], ◌∷◌, ◌++◌, codes, decimal}
use Rattle.tz_model.specs.declared.report.Report.{Report}
use Rattle.tz_model.specs.declared.report.ScriptEvent.{ScriptEvent}
use Rattle.tz_model.specs.declared.report.ScriptEvent.TheVariants.{Irq, Nmi}
use Rattle.tz_model.specs.declared.report.Sleep.{Sleep}
use Rattle.tz_model.specs.declared.report.Sleep.TheVariants.{Awake, Wfi, Wfe}
use Rattle.tz_model.specs.declared.report.StepKind.{StepKind}
use Rattle.tz_model.specs.declared.report.StepKind.TheVariants.{Idle}
use Rattle.tz_regs.specs.declared.parts.Running.{Running}
use Rattle.tz_sem.specs.declared.account.Account.{Account}
use Rattle.tz_full.specs.MoveLines.{moves_text}

-- ---- events

unfoldable pub irq_line : ℕ → List ℕ
irq_line n = codes "    event irq " ++ decimal n ++ codes "\n"

unfoldable pub event_line : ScriptEvent → List ℕ
event_line (Irq n) = irq_line n
event_line Nmi = codes "    event nmi\n"

unfoldable pub events_text : List ScriptEvent → List ℕ
events_text [] = []
events_text (event ∷ more) = event_line event ++ events_text more

-- ---- SysTicks and sleep

-- a line where something is so
abbrev pub line_where : Bool → List ℕ → List ℕ
line_where so text = if so then text else []

abbrev pub is_asleep : Sleep → Bool
is_asleep Awake = false
is_asleep Wfi = true
is_asleep Wfe = true

abbrev pub is_idle : StepKind → Bool
is_idle Idle = true
is_idle kind = false

-- the core slept before the step and could wake, and didn't sleep on
abbrev pub sleep_ends : Running → StepKind → Bool
sleep_ends r kind = is_asleep r.sleep && (not r.locked && not (is_idle kind))

unfoldable pub begun_text : Account → Report → List ℕ
begun_text a r =
    line_where a.ticked_s (codes "    SysTick S pends\n") ++ line_where a.ticked_ns (codes "    SysTick NS pends\n")
    ++ moves_text a.moves ++ line_where (sleep_ends a.core.run r.kind) (codes "    sleep ends\n")
