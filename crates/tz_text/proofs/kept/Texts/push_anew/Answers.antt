use Rattle.std.proofs.Common.{sym}
use Rattle.tz_text.proofs.kept.Texts.push_anew.Goals as goal

pub returns-clause-bytes : goal.returns-clause-bytes
returns-clause-bytes c =
    let shown = c.of-entry.result.tells c.args.code.now c.of-entry.ensures.first (sym c.of-entry.ensures.number) in
    rw (c.push.ensures.bytes, shown, c.of-entry.ensures.pc)
