use Rattle.std.proofs.Common.{◌≡◌, drop}
use Rattle.tz_asm.specs.Pieces.{pieces_read}
use Rattle.tz_asm.specs.CodeViews.{progress_view, site_view}
use Rattle.tz_asm.proofs.code.pieces.pieces_read.Given as goal
use Rattle.tz_syntax.specs.Rows.{somes}

abbrev pub invariant-loop-piece : goal.invariant-loop-piece
invariant-loop-piece l = pieces_read (somes (drop l.piece-index l.pieces)) (site_view l.site) (progress_view l.read) ≡ pieces_read (somes l.pieces) (site_view l.site) (progress_view l.reading)
