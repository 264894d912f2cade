use Rattle.std.proofs.Common.{arith}
use Rattle.tz_text.proofs.NamePieces.{named_at, unnamed}
use Rattle.tz_text.proofs.PieceTexts.{text_named, text_unnamed}
use Rattle.tz_text.proofs.names.named.Goals as goal

pub returns-then-place-lt16-clause-piece : goal.returns-then-place-lt16-clause-piece
returns-then-place-lt16-clause-piece c = named_at c.args.name _ (omega arith)

pub returns-then-place-lt16-clause-text : goal.returns-then-place-lt16-clause-text
returns-then-place-lt16-clause-text c = text_named c.args.name _ (omega arith)

pub returns-else-place-lt16-clause-piece : goal.returns-else-place-lt16-clause-piece
returns-else-place-lt16-clause-piece c = unnamed c.args.name (omega arith)

pub returns-else-place-lt16-clause-text : goal.returns-else-place-lt16-clause-text
returns-else-place-lt16-clause-text c = text_unnamed
