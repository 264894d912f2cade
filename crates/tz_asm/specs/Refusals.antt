-- Why source is refused.
use Rattle.std.specs.Prelude.{◌≡◌, ℕ, Result, Ok, Err}

-- the cause, with the number of its line
pub data Refusal : Type 0 where
  Token : (line : ℕ) → Refusal
  Mnemonic : (line : ℕ) → Refusal
  Operands : (line : ℕ) → Refusal
  Range : (line : ℕ) → Refusal
  NoLabel : (line : ℕ) → Refusal
  TwoLabels : (line : ℕ) → Refusal
  OrgBackwards : (line : ℕ) → Refusal
  TooLarge : (line : ℕ) → Refusal

-- one answer after another; the first refusal is the refusal of both
infixl 10 ◌>>=◌
abbrev pub ◌>>=◌ : {A B : Type 0} → Result A Refusal → (A → Result B Refusal) → Result B Refusal
(Ok value) >>= follows = follows value
(Err refusal) >>= follows = Err refusal

-- the same where what follows may have an answer of several
abbrev pub After : {A B : Type 0} → Result A Refusal → (A → Result B Refusal → Type 0) → Result B Refusal → Type 0
After (Ok value) Follows answer = Follows value answer
After (Err refusal) Follows answer = answer ≡ Err refusal
