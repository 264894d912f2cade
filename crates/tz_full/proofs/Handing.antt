-- What a call hands over is told without LR.
use Rattle.std.proofs.Common.{◌≡◌, ℕ, refl}
use Rattle.tz_regs.specs.declared.parts.Registers.{Registers}
use Rattle.tz_full.specs.CrossingLine.{flags_text, called_with_text}

pub lr_untold : (r : Registers) (lr : ℕ) → called_with_text (record r { lr = lr }) ≡ called_with_text r
unfolding called_with_text flags_text
lr_untold r lr = refl
