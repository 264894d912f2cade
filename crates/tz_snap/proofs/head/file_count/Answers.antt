use Rattle.std.proofs.Common.{arith, subst}
use Rattle.tz_model.specs.Board.{IsBoard}
use Rattle.tz_snap.proofs.Counts.{few_words}
use Rattle.tz_snap.proofs.head.file_count.Goals as goal

pub overflow_add-result : goal.overflow_add-result
overflow_add-result c =
    let few = few_words c.args.board.now (subst IsBoard c.board.view_is c.board.invariant) in
    let head = c.head_count.ensures in
    let words = c.word_count.ensures in
    omega arith

pub returns-clause-few : goal.returns-clause-few
returns-clause-few c =
    let few = few_words c.args.board.now (subst IsBoard c.board.view_is c.board.invariant) in
    let head = c.head_count.ensures in
    let words = c.word_count.ensures in
    omega arith
