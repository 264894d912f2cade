-- The channels of the mover, of a board that has one.
use Rattle.std.specs.Prelude.{Bool, if◌then◌else◌, List, ℕ, [], ◌++◌, codes}
use Rattle.tz_model.specs.declared.channel.Channel.{Channel}
use Rattle.tz_regs.specs.declared.parts.Status.{Status}
use Rattle.tz_show.specs.declared.bits.BitNames.TheVariants.{MoverCtrl, Plain}
use Rattle.tz_show.specs.Rows.{pair_row, row}

-- the registers of a channel, by what stands before each
unfoldable pub channel_rows : Channel → List ℕ → List ℕ → List ℕ → List ℕ → List ℕ
channel_rows c ctrl src dst count = row ctrl c.ctrl MoverCtrl ++ pair_row src c.src dst c.dst ++ row count c.count Plain

unfoldable pub channels_text : Status → List ℕ
channels_text t =
    codes "\nMover\n"
    ++ channel_rows t.s.channel (codes "  MOVER_CTRL_S   ") (codes "  MOVER_SRC_S    ") (codes "  MOVER_DST_S    ") (codes "  MOVER_COUNT_S  ")
    ++ channel_rows t.ns.channel (codes "  MOVER_CTRL_NS  ") (codes "  MOVER_SRC_NS   ") (codes "  MOVER_DST_NS   ") (codes "  MOVER_COUNT_NS ")

unfoldable pub mover_text : Bool → Status → List ℕ
mover_text mover t = if mover then channels_text t else []
