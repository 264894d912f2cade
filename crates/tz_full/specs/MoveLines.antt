-- What the mover moved at the beginning of a step (own).
use Rattle.std.specs.Prelude.{ℕ, ◌==◌, Bool, not, ◌&&◌, if◌then◌else◌, List, [], ◌++◌, codes, decimal, Option, Some, None}
use Rattle.tz_model.specs.declared.channel.Channel.{Channel}
use Rattle.tz_state.specs.declared.moves.Move.{Move}
use Rattle.tz_state.specs.declared.moves.Moves.{Moves}
use Rattle.tz_state.specs.Moves.{goes, irq_of}
use Rattle.tz_syntax.specs.Digits.{hex_word}

-- a word was moved
abbrev pub is_moved : Move → Bool
is_moved m = not (m.after.count == m.before.count)

-- a word couldn't be
abbrev pub is_failed : Move → Bool
is_failed m = not (m.before.count == 0) && not (is_moved m)

unfoldable pub places_text : List ℕ → Channel → List ℕ
places_text name c = name ++ hex_word c.src ++ codes " to " ++ hex_word c.dst ++ codes " "

unfoldable pub move_line : List ℕ → Move → List ℕ
move_line name m =
    if is_moved m then places_text name m.before ++ hex_word m.word ++ codes "\n"
    else if is_failed m then places_text name m.before ++ codes "ERROR\n"
    else []

unfoldable pub end_line : List ℕ → Move → List ℕ
end_line name m = if not (goes m.after) && not (is_failed m) then name ++ codes "DONE\n" else []

unfoldable pub irq_line : List ℕ → Move → List ℕ
irq_line name m = if m.pends then name ++ codes "pends irq " ++ decimal (irq_of m.before) ++ codes "\n" else []

unfoldable pub move_lines : List ℕ → Move → List ℕ
move_lines name m = move_line name m ++ end_line name m ++ irq_line name m

abbrev pub side_lines : List ℕ → Option Move → List ℕ
side_lines name None = []
side_lines name (Some m) = move_lines name m

-- of the Secure channel, then of the Non-secure one
unfoldable pub moves_text : Moves → List ℕ
moves_text moves = side_lines (codes "    mover S ") moves.secure ++ side_lines (codes "    mover NS ") moves.nonsecure
