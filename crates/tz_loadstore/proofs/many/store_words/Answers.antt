use Rattle.std.proofs.Common.{sym, ◌∙◌, arith}
use Rattle.tz_sem.specs.Local.{local_of}
use Rattle.tz_loadstore.proofs.Words.{store_next, store_fails, stored_all}
use Rattle.tz_loadstore.proofs.many.store_words.Goals as goal

pub loop-index-preserved : goal.loop-index-preserved
loop-index-preserved g c = record {
  answered =
      sym (store_next g.P.Port.answer _ _ (local_of c.args.core.now) c.loop-index.next c.args.registers.now c.loop-index.index-index c.loop-index-test.true
      (rw c.reg.ensures at c.in-Ok.ensures.answer)) ∙ c.loop-index.invariant.answered;
  room = omega (arith, c.in-Ok.ensures.room);
  lent = cc;
}

pub returns-in-Err-clause-executes : goal.returns-in-Err-clause-executes
returns-in-Err-clause-executes g c =
    sym c.loop-index.invariant.answered
    ∙ store_fails g.P.Port.answer _ _ (local_of c.args.core.now) c.loop-index.next c.args.registers.now c.loop-index.index-index c.in-Err.fault c.loop-index-test.true
    (rw c.reg.ensures at c.in-Err.ensures.answer)

pub returns-clause-executes : goal.returns-clause-executes
returns-clause-executes g c =
    sym c.loop-index.invariant.answered
    ∙ stored_all g.P.Port.answer _ (local_of c.args.core.now) c.loop-index.next c.args.registers.now c.loop-index.index-index (omega arith)
