use Rattle.std.proofs.Common.{sym, ◌∙◌, ap, arith}
use Rattle.tz_decode.proofs.ClassLaws.{other_number}
use Rattle.tz_decode.specs.DataClasses.{class_rows, class_of}
use Rattle.tz_decode.proofs.classes.data_class.Goals as goal

pub returns-in-0 : goal.returns-in-0
unfolding class_rows class_of
returns-in-0 c = c.or_flags.ensures ∙ ap (λ n. class_of n c.args.first c.args.second) (sym c.in-0.is ∙ c.field.ensures)

pub returns-in-1 : goal.returns-in-1
unfolding class_rows class_of
returns-in-1 c = ap (λ n. class_of n c.args.first c.args.second) (sym c.in-1.is ∙ c.field.ensures)

pub returns-in-2 : goal.returns-in-2
unfolding class_rows class_of
returns-in-2 c = c.or_move.ensures ∙ ap (λ n. class_of n c.args.first c.args.second) (sym c.in-2.is ∙ c.field.ensures)

pub returns-in-3 : goal.returns-in-3
unfolding class_rows class_of
returns-in-3 c = c.or_move-in-3.ensures ∙ ap (λ n. class_of n c.args.first c.args.second) (sym c.in-3.is ∙ c.field.ensures)

pub returns-in-4 : goal.returns-in-4
unfolding class_rows class_of
returns-in-4 c = c.or_flags-in-4.ensures ∙ ap (λ n. class_of n c.args.first c.args.second) (sym c.in-4.is ∙ c.field.ensures)

pub returns-in-8 : goal.returns-in-8
unfolding class_rows class_of
returns-in-8 c = c.or_flags-in-8.ensures ∙ ap (λ n. class_of n c.args.first c.args.second) (sym c.in-8.is ∙ c.field.ensures)

pub returns-in-10 : goal.returns-in-10
unfolding class_rows class_of
returns-in-10 c = ap (λ n. class_of n c.args.first c.args.second) (sym c.in-10.is ∙ c.field.ensures)

pub returns-in-11 : goal.returns-in-11
unfolding class_rows class_of
returns-in-11 c = ap (λ n. class_of n c.args.first c.args.second) (sym c.in-11.is ∙ c.field.ensures)

pub returns-in-13 : goal.returns-in-13
unfolding class_rows class_of
returns-in-13 c = c.or_flags-in-13.ensures ∙ ap (λ n. class_of n c.args.first c.args.second) (sym c.in-13.is ∙ c.field.ensures)

pub returns-in-14 : goal.returns-in-14
unfolding class_rows class_of
returns-in-14 c = ap (λ n. class_of n c.args.first c.args.second) (sym c.in-14.is ∙ c.field.ensures)

pub returns-in_default : goal.returns-in_default
returns-in_default c = grind (arith, other_number)
