use Rattle.std.proofs.Common.{sym, ◌∙◌}
use Rattle.tz_decode.proofs.ConstantLaws.{constants}
use Rattle.tz_decode.specs.declared.classes.DataClass.TheVariants as classes
use Rattle.tz_decode.proofs.constants.constants.Goals as goal

pub returns-in-Plain : goal.returns-in-Plain
returns-in-Plain c = c.of_two.ensures ∙ constants (classes.Plain c.in-Plain.op) c.args.first c.args.second c.requires.0 c.requires.1 c.requires.2 (sym c.in-Plain.is ∙ c.data_class.ensures)

pub returns-in-Sum : goal.returns-in-Sum
returns-in-Sum c = c.sum.ensures ∙ constants (classes.Sum c.in-Sum.op) c.args.first c.args.second c.requires.0 c.requires.1 c.requires.2 (sym c.in-Sum.is ∙ c.data_class.ensures)

pub returns-in-Move : goal.returns-in-Move
returns-in-Move c = c.moved.ensures ∙ constants classes.Move c.args.first c.args.second c.requires.0 c.requires.1 c.requires.2 (sym c.in-Move.is ∙ c.data_class.ensures)

pub returns-in-MoveNot : goal.returns-in-MoveNot
returns-in-MoveNot c = c.moved-in-MoveNot.ensures ∙ constants classes.MoveNot c.args.first c.args.second c.requires.0 c.requires.1 c.requires.2 (sym c.in-MoveNot.is ∙ c.data_class.ensures)

pub returns-in-Test : goal.returns-in-Test
returns-in-Test c = c.tested.ensures ∙ constants (classes.Test c.in-Test.op) c.args.first c.args.second c.requires.0 c.requires.1 c.requires.2 (sym c.in-Test.is ∙ c.data_class.ensures)

pub returns-in-Comparison : goal.returns-in-Comparison
returns-in-Comparison c = c.compared.ensures ∙ constants (classes.Comparison c.in-Comparison.op) c.args.first c.args.second c.requires.0 c.requires.1 c.requires.2 (sym c.in-Comparison.is ∙ c.data_class.ensures)

pub returns-in-Undefined : goal.returns-in-Undefined
returns-in-Undefined c = c.undefined.ensures ∙ constants classes.Undefined c.args.first c.args.second c.requires.0 c.requires.1 c.requires.2 (sym c.in-Undefined.is ∙ c.data_class.ensures)
