-- Each exit is how the file was read, or that none is.
use Rattle.std.proofs.Common.{◌∙◌, sym, subst, ap, List, ℕ, Err}
use Rattle.tz_board.specs.Scripts.{script_of}
use Rattle.tz_board.specs.ScriptErrors.{IsScriptRefusal}
use Rattle.tz_files.specs.declared.stops.LoadError.TheVariants.{Memory}
use Rattle.tz_files.specs.Reads.{AsScript}
use Rattle.tz_files.proofs.Stages.{none_read, nothing_read, script_unread, script_accepted, script_refused}
use Rattle.tz_files.proofs.files.load_script.Goals as goal

pub returns-in-Ok : goal.returns-in-Ok
returns-in-Ok g c = none_read _ c.args.interrupts c.args.name.now c.in-Ok.script (sym c.if-eq.ensures) c.in-Ok.ensures

pub returns-in-Err : goal.returns-in-Err
returns-in-Err g c = nothing_read _ _ (Err Memory) tt

pub returns-in-Err-read : goal.returns-in-Err-read
returns-in-Err-read g c = script_unread _ _ c.args.name c.args.interrupts c.in-Err-read.fault (sym c.if-eq.ensures) (c.in-Err-read.ensures.files AsScript)

pub returns-in-Ok-read_script : goal.returns-in-Ok-read_script
returns-in-Ok-read_script g c =
    script_accepted _ _ c.args.name c.args.interrupts c.in-Ok-read.bytes.items c.in-Ok-read_script.script (sym c.if-eq.ensures) (c.in-Ok-read.ensures.files AsScript)
    (ap (λ (bs : List ℕ). script_of bs c.args.interrupts) (sym c.deref.ensures.value) ∙ c.in-Ok-read_script.ensures.ok)

pub returns : goal.returns
returns g c =
    script_refused _ _ c.args.name c.args.interrupts c.in-Ok-read.bytes.items c.in-Err-read_script.error (sym c.if-eq.ensures) (c.in-Ok-read.ensures.files AsScript)
    (subst (λ (bs : List ℕ). IsScriptRefusal c.in-Err-read_script.error (script_of bs c.args.interrupts)) c.deref.ensures.value c.in-Err-read_script.ensures.err)
