-- What several lines have: sides, modes, stacks, places at which code goes on, and registers with their values.
use Rattle.std.specs.Prelude.{ℕ, ◌+◌, Bool, if◌then◌else◌, List, [], ◌∷◌, ◌++◌, codes}
use Rattle.tz_table.specs.declared.units.Side.{Side}
use Rattle.tz_table.specs.declared.units.Side.TheVariants.{Secure, NonSecure}
use Rattle.tz_syntax.specs.Digits.{hex_word}
use Rattle.tz_syntax.specs.Names.{register_text}

abbrev pub side_text : Side → List ℕ
side_text Secure = codes "S"
side_text NonSecure = codes "NS"

abbrev pub mode_text : Bool → List ℕ
mode_text thread = if thread then codes "thread" else codes "handler"

-- an address at which code goes on, with its side and its mode
unfoldable pub place_text : ℕ → Side → Bool → List ℕ
place_text a side thread = hex_word a ++ codes " " ++ side_text side ++ codes " " ++ mode_text thread

-- the stack pointers of a side, PSP with `process`
abbrev pub stack_text : Side → Bool → List ℕ
stack_text Secure process = if process then codes "PSP_S" else codes "MSP_S"
stack_text NonSecure process = if process then codes "PSP_NS" else codes "MSP_NS"

-- a register by its number, and its value
unfoldable pub register_is : ℕ → ℕ → List ℕ
register_is k value = codes " " ++ register_text k ++ codes "=" ++ hex_word value

-- registers in a row from a number on
unfoldable pub registers_text : ℕ → List ℕ → List ℕ
registers_text k [] = []
registers_text k (value ∷ more) = register_is k value ++ registers_text (k + 1) more
