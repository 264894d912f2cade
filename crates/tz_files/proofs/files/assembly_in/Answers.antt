-- An image that is refused is the refusal of its file.
use Rattle.tz_asm.proofs.Telling.{IsRefusal-then}
use Rattle.tz_asm.specs.Told.{assembled}
use Rattle.tz_files.specs.Told.{assembly_in}
use Rattle.tz_files.proofs.files.assembly_in.Goals as goal

pub returns-in-Err-clause-err : goal.returns-in-Err-clause-err
unfolding assembly_in
returns-in-Err-clause-err c = rw c.in-Hex.is (IsRefusal-then c.in-Err.error (assembled c.args.source.now) _ c.in-Err.ensures.err)
