use Rattle.std.proofs.Common.{arith, sym, ◌∙◌}
use Rattle.tz_decode.proofs.RegisterLaws.{registers, registers_fixed}
use Rattle.tz_decode.specs.declared.classes.DataClass.TheVariants as classes
use Rattle.tz_decode.proofs.registers.registers.Goals as goal

-- The call that closes the goal, by name: what is tried before it finds nothing, after long.
pub returns-then-field-ne0 : goal.returns-then-field-ne0
returns-then-field-ne0 c = grind (arith, registers_fixed)

pub returns-in-Plain : goal.returns-in-Plain
returns-in-Plain c = c.of_three.ensures ∙ registers (classes.Plain c.in-Plain.op) c.args.first c.args.second c.requires (sym c.field.ensures ∙ c.if-field-ne0.false) (sym c.in-Plain.is ∙ c.data_class.ensures)

pub returns-in-Sum : goal.returns-in-Sum
returns-in-Sum c = c.sum.ensures ∙ registers (classes.Sum c.in-Sum.op) c.args.first c.args.second c.requires (sym c.field.ensures ∙ c.if-field-ne0.false) (sym c.in-Sum.is ∙ c.data_class.ensures)

pub returns-in-Move : goal.returns-in-Move
returns-in-Move c = c.moved.ensures ∙ registers classes.Move c.args.first c.args.second c.requires (sym c.field.ensures ∙ c.if-field-ne0.false) (sym c.in-Move.is ∙ c.data_class.ensures)

pub returns-in-MoveNot : goal.returns-in-MoveNot
returns-in-MoveNot c = c.moved_not.ensures ∙ registers classes.MoveNot c.args.first c.args.second c.requires (sym c.field.ensures ∙ c.if-field-ne0.false) (sym c.in-MoveNot.is ∙ c.data_class.ensures)

pub returns-in-Test : goal.returns-in-Test
returns-in-Test c = c.tested.ensures ∙ registers (classes.Test c.in-Test.op) c.args.first c.args.second c.requires (sym c.field.ensures ∙ c.if-field-ne0.false) (sym c.in-Test.is ∙ c.data_class.ensures)

pub returns-in-Comparison : goal.returns-in-Comparison
returns-in-Comparison c = c.compared.ensures ∙ registers (classes.Comparison c.in-Comparison.op) c.args.first c.args.second c.requires (sym c.field.ensures ∙ c.if-field-ne0.false) (sym c.in-Comparison.is ∙ c.data_class.ensures)

pub returns-in-Undefined : goal.returns-in-Undefined
returns-in-Undefined c = c.undefined-in-Undefined.ensures ∙ registers classes.Undefined c.args.first c.args.second c.requires (sym c.field.ensures ∙ c.if-field-ne0.false) (sym c.in-Undefined.is ∙ c.data_class.ensures)
