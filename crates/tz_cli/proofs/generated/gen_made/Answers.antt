use Rattle.std.proofs.Common.{◌≤◌, ◌∙◌, List, ℕ, length, sym, subst}
use Rattle.tz_model.specs.Outside.{Put}
use Rattle.tz_board.specs.Scripts.{Timed}
use Rattle.tz_cli.proofs.Exits.{told_put}
use Rattle.tz_cli.proofs.Dues.{generated_few}
use Rattle.tz_cli.proofs.Summaries.{summary_told}
use Rattle.tz_cli.proofs.generated.gen_made.Goals as goal

pub count_due-events-requires : goal.count_due-events-requires
count_due-events-requires g c =
    record { few = subst (λ (ts : List Timed). length ts ≤ 10000) (sym c.in_ok-job.ensures.script) (generated_few c.args.words.now.seed c.args.words.now.steps) }

pub returns-clause-ran : goal.returns-clause-ran
returns-clause-ran g c =
    let words = c.args.words.now in
    let job = c.in_ok-job.job in
    let made = summary_told words.seed words.steps c.in_ok-board.board job.first job.second job.nonsecure job.script c.in_ok-board.ensures c.in_ok-job.ensures.first c.in_ok-job.ensures.second
    c.in_ok-job.ensures.nonsecure c.in_ok-job.ensures.script c.in_ok-machine.machine c.in_ok-pair.pair c.count_due-events.result c.make_tally-tally.result c.find_difference-found.result c.summary_text-text.result.bytes
    c.in_ok-machine.ensures c.in_ok-pair.ensures c.count_due-events.ensures c.make_tally-tally.ensures.tally c.find_difference-found.ensures c.summary_text-text.ensures in
    told_put _ _ _ (g.O.Sink.space c.put_lines.new.out) _ _ _ c.put_lines.result _ c.put_status.ensures
    (subst (λ (text : List ℕ). Put (g.O.Sink.written c.args.out.now) (g.O.Sink.written c.put_lines.new.out) (g.O.Sink.space c.args.out.now) (g.O.Sink.space c.put_lines.new.out) text c.put_lines.result)
    (c.as_bytes.ensures.value ∙ c.as_str.ensures.value ∙ made) c.put_lines.ensures.put)
    c.put_lines.ensures.cause
