-- What an error says.
use Rattle.std.specs.Prelude.{◌≡◌, Result, Err}
use Rattle.tz_asm.specs.Refusals.{Refusal}
use Rattle.tz_asm.specs.Refusals as refusals
use Rattle.tz_asm.specs.declared.error.AsmError.{AsmError}
use Rattle.tz_asm.specs.declared.error.AsmError.TheVariants.{Token, Mnemonic, Operands, Range, NoLabel, TwoLabels, OrgBackwards, TooLarge, Memory}

-- the refusal that the error names is one of these; want of memory says nothing
abbrev pub Tells : AsmError → (Refusal → Type 0) → Type 0
Tells (Token line) Is = Is (refusals.Token line)
Tells (Mnemonic line) Is = Is (refusals.Mnemonic line)
Tells (Operands line) Is = Is (refusals.Operands line)
Tells (Range line) Is = Is (refusals.Range line)
Tells (NoLabel line) Is = Is (refusals.NoLabel line)
Tells (TwoLabels line) Is = Is (refusals.TwoLabels line)
Tells (OrgBackwards line) Is = Is (refusals.OrgBackwards line)
Tells (TooLarge line) Is = Is (refusals.TooLarge line)
Tells Memory Is = Unit {0}

-- the answer is the refusal that the error names
abbrev pub IsRefusal : {T : Type 0} → AsmError → Result T Refusal → Type 0
IsRefusal e answer = Tells e (λ refusal. answer ≡ Err refusal)
