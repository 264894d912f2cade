-- What the Non-secure channel of the mover reads and writes.
use Rattle.std.specs.Prelude.{◌≡◌, true}
use Rattle.tz_table.specs.declared.units.Side.TheVariants.{NonSecure}
use Rattle.tz_table.specs.declared.units.Size.TheVariants.{Word}
use Rattle.tz_model.specs.declared.channel.Channel.{Channel}
use Rattle.tz_state.specs.Memory.{every}
use Rattle.tz_state.specs.Attribution.{is_open}
use Rattle.tz_state.specs.State.{Bus, map_in}
use Rattle.tz_state.specs.Moves.{moves_word}

-- all bytes of a word that it moves are Non-secure, where it is read and where it is written
pub record IsOpenMove (b : Bus) (c : Channel) : Type 0 where
  pub read : every (is_open (map_in b)) c.src Word ≡ true
  pub written : every (is_open (map_in b)) c.dst Word ≡ true

abbrev pub MovesAreOpen : Type 0
MovesAreOpen = (b : Bus) (c : Channel) → moves_word b NonSecure c ≡ true → IsOpenMove b c
