-- What an error tells, along what it is told of.
use Rattle.std.proofs.Common.{◌≡◌, ap, Result, Err}
use Rattle.tz_asm.specs.Errors.{IsRefusal, Tells}
use Rattle.tz_asm.specs.Refusals.{◌>>=◌, Refusal}
use Rattle.tz_asm.specs.declared.error.AsmError.{AsmError}
use Rattle.tz_asm.specs.declared.error.AsmError.TheVariants.{Token, Mnemonic, Operands, Range, NoLabel, TwoLabels, OrgBackwards, TooLarge, Memory}

-- what each refusal of one kind is, the error's is too
pub Tells-along : (e : AsmError) (P Q : Refusal → Type 0) → ((r : Refusal) → P r → Q r) → Tells e P → Tells e Q
Tells-along (Token line) P Q to h = to _ h
Tells-along (Mnemonic line) P Q to h = to _ h
Tells-along (Operands line) P Q to h = to _ h
Tells-along (Range line) P Q to h = to _ h
Tells-along (NoLabel line) P Q to h = to _ h
Tells-along (TwoLabels line) P Q to h = to _ h
Tells-along (OrgBackwards line) P Q to h = to _ h
Tells-along (TooLarge line) P Q to h = to _ h
Tells-along Memory P Q to h = tt

-- the first answer's refusal is that of both
pub IsRefusal-then : {A B : Type 0} → (e : AsmError) (answer : Result A Refusal) (follows : A → Result B Refusal) → IsRefusal e answer → IsRefusal e (answer >>= follows)
IsRefusal-then e answer follows h =
    Tells-along e (λ r. answer ≡ Err r) (λ r. answer >>= follows ≡ Err r) (λ r is. ap (λ (a : Result _ Refusal). a >>= follows) is) h

-- the same answer has the same refusal
pub IsRefusal-same : {A : Type 0} → (e : AsmError) (answer other : Result A Refusal) → answer ≡ other → IsRefusal e other → IsRefusal e answer
IsRefusal-same e answer other same h = rw same h
