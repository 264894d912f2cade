use Rattle.std.proofs.Common.{ℕ, get_or, ◌+◌, ◌-◌, ◌*◌, ◌/◌, arith}
use Rattle.std.proofs.lemmas.Option.{slice_get-get_or}
use Rattle.tz_fields.specs.declared.fields.BankedField.TheVariants.{Msp}
use Rattle.tz_fields.specs.Fields.{banked_first, banked_last}
use Rattle.tz_fields.proofs.Order.{banked_before, banked_region, banked_behind, mpu_rbar_at, mpu_rlar_at}
use Rattle.tz_fields.proofs.words.banked_field.Goals as goal

pub returns-then-index-lt18 : goal.returns-then-index-lt18
returns-then-index-lt18 c = banked_before c.args.regions c.args.index _ (slice_get-get_or banked_first c.args.index _ (omega (arith, c.if-index-lt18.true)))

pub returns-then-word-eq0 : goal.returns-then-word-eq0
returns-then-word-eq0 c =
    banked_region c.args.regions c.args.index (c.args.index - 18) _ (omega (arith, c.if-index-lt18.false))
    (mpu_rbar_at 0 c.args.regions ((c.args.index - 18) / 2) (c.args.index - 18) _ (omega (arith, c.if-word-eq0.true))
    (omega (arith, c.if-index-lt18.false, c.if-index-last.true, c.from.ensures, c.if-word-eq0.true)) (omega arith))

pub returns-else-word-eq0 : goal.returns-else-word-eq0
returns-else-word-eq0 c =
    banked_region c.args.regions c.args.index (c.args.index - 18) _ (omega (arith, c.if-index-lt18.false))
    (mpu_rlar_at 0 c.args.regions ((c.args.index - 18) / 2) (c.args.index - 18) _ (omega (arith, c.if-word-eq0.false))
    (omega (arith, c.if-index-lt18.false, c.if-index-last.true, c.from.ensures, c.if-word-eq0.false)) (omega arith))

pub returns-else-index-last : goal.returns-else-index-last
returns-else-index-last c =
    let j : ℕ = c.args.index - (18 + 2 * c.from.result) in
    banked_behind c.args.regions c.args.index j (get_or banked_last j Msp) (omega (arith, c.if-index-last.false, c.from.ensures))
    (slice_get-get_or banked_last j Msp (omega (arith, c.requires, c.if-index-last.false, c.from.ensures)))
