use Rattle.std.proofs.Common.{ℕ, get_or, ◌+◌, ◌-◌, ◌*◌, ◌/◌, arith}
use Rattle.std.proofs.lemmas.Option.{slice_get-get_or}
use Rattle.tz_fields.specs.declared.fields.SharedField.TheVariants.{SauCtrl}
use Rattle.tz_fields.specs.Fields.{shared_first, shared_last}
use Rattle.tz_fields.proofs.Order.{shared_before, shared_region, shared_behind, sau_rbar_at, sau_rlar_at}
use Rattle.tz_fields.proofs.words.shared_field.Goals as goal

pub returns-then-index-lt2 : goal.returns-then-index-lt2
returns-then-index-lt2 c = shared_before c.args.regions c.args.index _ (slice_get-get_or shared_first c.args.index _ (omega (arith, c.if-index-lt2.true)))

pub returns-then-word-eq0 : goal.returns-then-word-eq0
returns-then-word-eq0 c =
    shared_region c.args.regions c.args.index (c.args.index - 2) _ (omega (arith, c.if-index-lt2.false))
    (sau_rbar_at 0 c.args.regions ((c.args.index - 2) / 2) (c.args.index - 2) _ (omega (arith, c.if-word-eq0.true))
    (omega (arith, c.if-index-lt2.false, c.if-index-last.true, c.from.ensures, c.if-word-eq0.true)) (omega arith))

pub returns-else-word-eq0 : goal.returns-else-word-eq0
returns-else-word-eq0 c =
    shared_region c.args.regions c.args.index (c.args.index - 2) _ (omega (arith, c.if-index-lt2.false))
    (sau_rlar_at 0 c.args.regions ((c.args.index - 2) / 2) (c.args.index - 2) _ (omega (arith, c.if-word-eq0.false))
    (omega (arith, c.if-index-lt2.false, c.if-index-last.true, c.from.ensures, c.if-word-eq0.false)) (omega arith))

pub returns-else-index-last : goal.returns-else-index-last
returns-else-index-last c =
    let j : ℕ = c.args.index - (2 + 2 * c.from.result) in
    shared_behind c.args.regions c.args.index j (get_or shared_last j SauCtrl) (omega (arith, c.if-index-last.false, c.from.ensures))
    (slice_get-get_or shared_last j SauCtrl (omega (arith, c.requires, c.if-index-last.false, c.from.ensures)))
