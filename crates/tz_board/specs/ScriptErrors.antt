-- The errors and lines of the script reader beside those of the grammar.
use Rattle.std.specs.Prelude.{◌≡◌, Option, Some, None, Err}
use Rattle.tz_model.specs.declared.report.ScriptEvent.{ScriptEvent}
use Rattle.tz_model.specs.declared.report.ScriptEvent.TheVariants as events
use Rattle.tz_board.specs.Scripts.{ScriptRefusal, BadLine, OutOfOrder, NoSuchInterrupt, TooMany, Read, Line, Passed, Event, Bad}
use Rattle.tz_board.specs.declared.error.ScriptError.{ScriptError}
use Rattle.tz_board.specs.declared.error.ScriptError.TheVariants as errors
use Rattle.tz_board.specs.declared.line.NamedEvent.{NamedEvent}
use Rattle.tz_board.specs.declared.line.NamedEvent.TheVariants as named
use Rattle.tz_board.specs.declared.line.LineRead.{LineRead}
use Rattle.tz_board.specs.declared.line.LineRead.TheVariants as lines

-- the event that a line names; its interrupt may be one that the board hasn't
abbrev pub event_named : NamedEvent → ScriptEvent
event_named (named.Irq number) = events.Irq number
event_named named.Nmi = events.Nmi

-- the line as the grammar has it
abbrev pub line_read : LineRead → Line
line_read lines.Passed = Passed
line_read lines.Bad = Bad
line_read (lines.Event step name) = Event (step, event_named name)

-- the refusal that an error tells; want of memory tells none
abbrev pub script_refusal_of : ScriptError → Option ScriptRefusal
script_refusal_of (errors.BadLine number) = Some (BadLine number)
script_refusal_of (errors.OutOfOrder number) = Some (OutOfOrder number)
script_refusal_of (errors.NoSuchInterrupt number) = Some (NoSuchInterrupt number)
script_refusal_of errors.TooMany = Some TooMany
script_refusal_of errors.Memory = None

-- what was read is this refusal, where there is one
abbrev pub IsToldScript : Option ScriptRefusal → Read → Type 0
IsToldScript None read = Unit {0}
IsToldScript (Some refusal) read = read ≡ Err refusal

-- the error is the refusal of what was read, or want of memory
abbrev pub IsScriptRefusal : ScriptError → Read → Type 0
IsScriptRefusal e read = IsToldScript (script_refusal_of e) read
