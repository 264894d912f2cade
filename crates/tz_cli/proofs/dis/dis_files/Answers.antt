-- Each exit is its answer.
use Rattle.std.proofs.Common.{refl}
use Rattle.tz_text.specs.Text.{dis_text}
use Rattle.tz_words.specs.Dis.{dis_in}
use Rattle.tz_words.specs.Commands.{Dis}
use Rattle.tz_files.specs.Told.{Gives}
use Rattle.tz_files.specs.Starts.{listed_files}
use Rattle.tz_cli.specs.Tasks.{dis_task}
use Rattle.tz_cli.proofs.Exits.{gains_nothing, answer_told, answer_task, told_put}
use Rattle.tz_cli.proofs.dis.dis_files.Goals as goal

pub returns-in-Err : goal.returns-in-Err
returns-in-Err g c =
    let words = dis_in c.args.words.now in
    answer_told _ (Dis words) (listed_files _ words) (λ image. Gives (dis_task image)) (record { is = refl; room = refl; settles = refl })
    _ c.in-Err.fault c.in-Err.ensures.answer (gains_nothing _) c.refuse_fault.ensures

pub returns : goal.returns
returns g c =
    let words = dis_in c.args.words.now in
    answer_task _ (Dis words) (listed_files _ words) (λ image. Gives (dis_task image)) (record { is = refl; room = refl; settles = refl })
    _ c.in-Ok.image (dis_task c.in-Ok.image) refl c.in-Ok.ensures.answer refl
    (told_put _ _ _ (g.O.Sink.space c.disassemble.new.out) (dis_text c.in-Ok.image) _ _ c.disassemble.result _ c.put_status.ensures c.disassemble.ensures.put c.disassemble.ensures.cause)
    refl
