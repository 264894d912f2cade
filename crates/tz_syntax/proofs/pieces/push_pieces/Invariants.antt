use Rattle.std.proofs.Common.{◌≡◌, ◌≤◌, ◌+◌, ◌++◌, drop}
use Rattle.arrayvec.specs.ArrayString.{array_string_len}
use Rattle.tz_syntax.specs.Pieces.{pieces_text, pieces_most}
use Rattle.tz_syntax.specs.Rows.{somes}
use Rattle.tz_syntax.proofs.pieces.push_pieces.Given as goal

abbrev pub invariant-loop-piece : goal.invariant-loop-piece
invariant-loop-piece g l = record {
  bytes : l.line.bytes ++ pieces_text (somes (drop l.piece-index l.pieces)) l.values l.pc ≡ l.fn.line.bytes ++ pieces_text (somes l.pieces) l.values l.pc;
  len : array_string_len l.line + pieces_most (somes (drop l.piece-index l.pieces)) ≤ array_string_len l.fn.line + pieces_most (somes l.pieces);
}
