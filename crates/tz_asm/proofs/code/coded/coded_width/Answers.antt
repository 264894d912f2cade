use Rattle.tz_asm.proofs.WidthLemmas.{coded_width_is}
use Rattle.tz_asm.proofs.code.coded.coded_width.Goals as goal

pub returns : goal.returns
returns c = λ mnemonic tokens place label code x. coded_width_is mnemonic tokens _ label code x
