use Rattle.tz_asm.proofs.Once.{once}
use Rattle.tz_asm.proofs.code.coded.coded_once.Goals as goal
use Rattle.tz_asm.specs.Mnemonics.{texts_of}

pub returns : goal.returns
returns c = λ mnemonic tokens place label a b x y. once (texts_of mnemonic) mnemonic tokens _ label a b x y
