use Rattle.tz_elf.proofs.ReadBack.{pairs_of-plain_text}
use Rattle.tz_elf.proofs.ReadBackElf.{pairs_of-elf_bytes}
use Rattle.tz_asm.proofs.Sound.{assembled_good}
use Rattle.tz_asm.proofs.reread.assembled_reads_back.Goals as goal

pub returns : goal.returns
returns c = λ source segments h.
    let good = assembled_good source segments h in
    (pairs_of-plain_text segments good.addressed good.hold, pairs_of-elf_bytes segments good.few good.small good.addressed)
