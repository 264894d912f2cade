use Rattle.std.proofs.Common.{◌∙◌}
use Rattle.std.proofs.lemmas.Result.{IfErr-weaker, IfOk-weaker}
use Rattle.tz_asm.specs.Listing.{listed, listed_with}
use Rattle.tz_asm.specs.Places.{places_in}
use Rattle.tz_asm.proofs.Listings.{passed, refused_first}
use Rattle.tz_asm.proofs.Telling.{IsRefusal-same}
use Rattle.tz_asm.proofs.listing.list.Goals as goal

pub returns-in-Err-clause-err : goal.returns-in-Err-clause-err
returns-in-Err-clause-err c = refused_first c.in-Err.error c.args.source.now c.in-Err.ensures.err

pub returns-clause-ok : goal.returns-clause-ok
returns-clause-ok c =
    IfOk-weaker c.list_with.result _ _ (λ v is. passed c.args.source.now (places_in c.in-Ok.places) c.in-Ok.ensures.ok ∙ is) c.list_with.ensures.ok

pub returns-clause-err : goal.returns-clause-err
returns-clause-err c =
    IfErr-weaker c.list_with.result _ _
    (λ e h. IsRefusal-same e (listed c.args.source.now) (listed_with c.args.source.now (places_in c.in-Ok.places)) (passed c.args.source.now (places_in c.in-Ok.places) c.in-Ok.ensures.ok) h)
    c.list_with.ensures.err
