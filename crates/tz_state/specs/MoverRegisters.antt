-- SRC, DST, COUNT and CTRL of a channel of the mover (own).
use Rattle.std.specs.Prelude.{ℕ, ◌*◌, ◌/◌, ◌%◌, ◌^◌, Bool, if◌then◌else◌, bit_and}
use Rattle.tz_model.specs.declared.channel.Channel.{Channel}
use Rattle.tz_state.specs.declared.register.MoverRegister.{MoverRegister}
use Rattle.tz_state.specs.declared.register.MoverRegister.TheVariants.{Src, Dst, Count, Ctrl}
use Rattle.tz_state.specs.MoverBits.{mover_ctrl_written}

abbrev pub channel_value : Channel → MoverRegister → ℕ
channel_value c Src = c.src
channel_value c Dst = c.dst
channel_value c Count = c.count
channel_value c Ctrl = c.ctrl

-- SRC and DST have no bits 1:0, and COUNT has 16 bits. A write of CTRL writes GO, IE and IRQ, and clears DONE and ERROR
abbrev pub channel_written : Channel → MoverRegister → ℕ → Channel
channel_written c Src value = record c { src = value / 4 * 4 }
channel_written c Dst value = record c { dst = value / 4 * 4 }
channel_written c Count value = record c { count = value % 2 ^ 16 }
channel_written c Ctrl value = record c { ctrl = bit_and value mover_ctrl_written }

-- where the board has no mover, they read zero and take no write
abbrev pub channel_seen : Bool → Channel → MoverRegister → ℕ
channel_seen mover c r = if mover then channel_value c r else 0

abbrev pub channel_after : Bool → Channel → MoverRegister → ℕ → Channel
channel_after mover c r value = if mover then channel_written c r value else c
