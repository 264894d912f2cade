-- What moves are lent, as what they change.
use Rattle.tz_model.specs.declared.channel.Channels.{Channels}
use Rattle.tz_state.specs.declared.moves.Moves.{Moves}
use Rattle.tz_state.specs.Moves.{Moving}
use Rattle.tz_state.specs.Slots.{ExceptionsValue}
use Rattle.tz_state.specs.State.{Bus}

abbrev pub moving : Channels → ExceptionsValue → Bus → Moves → Moving
moving channels e b told = record { channels = channels; slots = e.slots; memory = b.memory; told = told }
