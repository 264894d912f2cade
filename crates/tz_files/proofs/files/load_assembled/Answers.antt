-- Each exit is how the file was read.
use Rattle.std.proofs.Common.{◌∙◌, sym, subst, ap, List, ℕ}
use Rattle.tz_asm.specs.Errors.{IsRefusal}
use Rattle.tz_files.specs.Told.{assembly_in}
use Rattle.tz_files.specs.Reads.{AsSource}
use Rattle.tz_files.proofs.Stages.{source_unread, source_accepted, source_refused}
use Rattle.tz_files.proofs.files.load_assembled.Goals as goal

pub returns-in-Err : goal.returns-in-Err
returns-in-Err g c = source_unread _ _ c.args.words.now.source c.args.words.now.form c.in-Err.fault (c.in-Err.ensures.files AsSource)

pub returns-in-Ok-assembly_in : goal.returns-in-Ok-assembly_in
returns-in-Ok-assembly_in g c =
    source_accepted _ _ c.args.words.now.source c.args.words.now.form c.in-Ok.bytes.items c.in-Ok-assembly_in.file.items (c.in-Ok.ensures.files AsSource)
    (ap (assembly_in c.args.words.now.form) (sym c.deref.ensures.value) ∙ c.in-Ok-assembly_in.ensures.ok)

pub returns : goal.returns
returns g c =
    source_refused _ _ c.args.words.now.source c.args.words.now.form c.in-Ok.bytes.items c.in-Err-assembly_in.error (c.in-Ok.ensures.files AsSource)
    (subst (λ (bs : List ℕ). IsRefusal c.in-Err-assembly_in.error (assembly_in c.args.words.now.form bs)) c.deref.ensures.value c.in-Err-assembly_in.ensures.err)
