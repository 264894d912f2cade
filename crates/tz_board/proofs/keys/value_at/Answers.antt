use Rattle.std.proofs.Common.{◌∙◌, ap, sym}
use Rattle.toml.proofs.Views.{table_get}
use Rattle.toml.specs.Data.{get_member}
use Rattle.toml.specs.View.{table_view}
use Rattle.tz_board.specs.Boards.{key_text}
use Rattle.tz_board.proofs.keys.value_at.Goals as goal

pub returns : goal.returns
returns c =
    ap (λ text. get_member text (table_view c.args.table.now)) (sym (c.text.ensures ∙ ap key_text c.key.ensures))
    ∙ sym (table_get c.get.result c.text.result.now c.args.table.now.entries c.get.ensures.value)
