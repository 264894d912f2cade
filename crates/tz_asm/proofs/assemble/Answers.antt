use Rattle.std.proofs.Common.{◌≡◌, Ok, Err}
use Rattle.tz_asm.specs.Assembled.{Assembled}
use Rattle.tz_asm.specs.Places.{places_in}
use Rattle.tz_asm.specs.Told.{assembled}
use Rattle.tz_asm.proofs.Passes.{passed, refused_first, refused_second}
use Rattle.tz_asm.proofs.Telling.{Tells-along}
use Rattle.tz_asm.proofs.Told.{is_told}
use Rattle.tz_asm.proofs.assemble.Goals as goal

pub returns-in-Err-clause-err : goal.returns-in-Err-clause-err
returns-in-Err-clause-err c =
    Tells-along c.in-Err.error (λ r. Assembled c.args.source.now (Err r)) (λ r. assembled c.args.source.now ≡ Err r) (λ r h. is_told c.args.source.now (Err r) h)
    (refused_first c.in-Err.error c.args.source.now c.in-Err.ensures.err)

pub returns-in-Ok-second_pass-clause-ok : goal.returns-in-Ok-second_pass-clause-ok
returns-in-Ok-second_pass-clause-ok c =
    is_told c.args.source.now (Ok c.in-Ok-second_pass.segments.items)
    (passed c.args.source.now (places_in c.in-Ok.places) (Ok c.in-Ok-second_pass.segments.items) c.in-Ok.ensures.ok c.in-Ok-second_pass.ensures.ok)

pub returns-clause-err : goal.returns-clause-err
returns-clause-err c =
    Tells-along c.in-Err-second_pass.error (λ r. Assembled c.args.source.now (Err r)) (λ r. assembled c.args.source.now ≡ Err r) (λ r h. is_told c.args.source.now (Err r) h)
    (refused_second c.in-Err-second_pass.error c.args.source.now (places_in c.in-Ok.places) c.in-Ok.ensures.ok c.in-Err-second_pass.ensures.err)
