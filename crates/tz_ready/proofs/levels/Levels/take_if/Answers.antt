use Rattle.std.proofs.Common.{◌∙◌, arith}
use Rattle.tz_ready.specs.Levels.{is_set}
use Rattle.tz_ready.proofs.Bits.{taken_same, taken_other, none_left}
use Rattle.tz_ready.proofs.levels.Levels.take_if.Goals as goal

pub returns-then-gone-clause-here : goal.returns-then-gone-clause-here
returns-then-gone-clause-here c =
    taken_same c.args.self.now.words c.args.number (omega arith) ∙ none_left (is_set c.args.self.now.words c.args.number) c.args.gone c.if-gone.true

pub returns-then-gone-clause-others : goal.returns-then-gone-clause-others
returns-then-gone-clause-others c = taken_other c.args.self.now.words c.args.number (omega arith)
