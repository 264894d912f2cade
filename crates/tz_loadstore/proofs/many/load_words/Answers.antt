use Rattle.std.proofs.Common.{sym, ◌∙◌, arith}
use Rattle.tz_loadstore.proofs.Words.{load_next, load_fails, loaded_all}
use Rattle.tz_loadstore.proofs.many.load_words.Goals as goal

pub loop-preserved : goal.loop-preserved
loop-preserved g c = record {
  answered =
      rw c.push.ensures.items
      (sym (load_next g.P.Port.answer _ _ c.loop.next c.args.count c.loop.counter c.loop.words.items c.in-Ok.word c.loop-test.true c.in-Ok.ensures.answer) ∙ c.loop.invariant.answered);
  length = omega arith;
  room = cc;
  lent = cc;
}

pub returns-in-Err-clause-executes : goal.returns-in-Err-clause-executes
returns-in-Err-clause-executes g c =
    sym c.loop.invariant.answered
    ∙ load_fails g.P.Port.answer _ _ c.loop.next c.args.count c.loop.counter c.loop.words.items c.in-Err.fault c.loop-test.true c.in-Err.ensures.answer

pub returns-clause-executes : goal.returns-clause-executes
returns-clause-executes g c =
    sym c.loop.invariant.answered
    ∙ loaded_all g.P.Port.answer _ c.loop.next c.args.count c.loop.counter c.loop.words.items (omega arith)
