use Rattle.std.proofs.Common.{◌≡◌, arith, subst, ◌∙◌, ℕ, Ok, Err}
use Rattle.tz_model.specs.Outside.{Put}
use Rattle.tz_show.specs.Dump.{dump_line}
use Rattle.tz_show.specs.Rows.{texts_below}
use Rattle.tz_show.proofs.Texts.{put_start, put_more, put_stops}
use Rattle.tz_show.proofs.memory.put_lines.Goals as goal

pub loop-k-init : goal.loop-k-init
loop-k-init g c = record { put = put_start _ _ _; later = omega arith }

pub loop-k-preserved : goal.loop-k-preserved
loop-k-preserved g c = record {
  put = put_more _ _ _ _ _ _ _ _ c.loop-k.invariant.put c.in_default.ensures.put;
  later = let l = c.in_default.ensures.cause.later in omega (arith, l, c.loop-k.invariant.later);
}

pub returns-in-Err-clause-put : goal.returns-in-Err-clause-put
returns-in-Err-clause-put g c =
    subst (λ (n : ℕ). Put (g.O.Sink.written c.args.out.now) (g.O.Sink.written c.put_line.new.out) (g.O.Sink.space c.args.out.now) (g.O.Sink.space c.put_line.new.out) (texts_below (dump_line c.args.bus.now.state c.args.range.now) n) (Err c.in-Err.error)) c.line_count-k-end.ensures.is
    (put_stops _ _ _ _ _ _ _ _ _ c.in-Err.error c.loop-k-test.true c.loop-k.invariant.put c.in-Err.ensures.put)

pub returns-clause-put : goal.returns-clause-put
returns-clause-put g c =
    let e : c.loop-k.k ≡ c.line_count-k-end.result = omega arith in
    subst (λ (n : ℕ). Put (g.O.Sink.written c.args.out.now) (g.O.Sink.written c.loop-k.out) (g.O.Sink.space c.args.out.now) (g.O.Sink.space c.loop-k.out) (texts_below (dump_line c.args.bus.now.state c.args.range.now) n) (Ok tt)) (e ∙ c.line_count-k-end.ensures.is)
    c.loop-k.invariant.put
