-- Each exit is how the file was read, or that none is.
use Rattle.std.proofs.Common.{◌∙◌, sym, subst, ap, List, ℕ, Err}
use Rattle.tz_board.specs.Boards.{board_of}
use Rattle.tz_board.specs.BoardErrors.{IsBoardRefusal}
use Rattle.tz_files.specs.declared.stops.LoadError.TheVariants.{Memory}
use Rattle.tz_files.specs.Reads.{AsBoard}
use Rattle.tz_files.proofs.Stages.{demo_read, nothing_read, board_unread, board_accepted, board_refused}
use Rattle.tz_files.proofs.files.load_board.Goals as goal

pub returns-in-Ok : goal.returns-in-Ok
returns-in-Ok g c = demo_read _ c.args.name.now c.in-Ok.board (sym c.if-eq.ensures) c.in-Ok.ensures

pub returns-in-Err : goal.returns-in-Err
returns-in-Err g c = nothing_read _ _ (Err Memory) tt

pub returns-in-Err-read : goal.returns-in-Err-read
returns-in-Err-read g c = board_unread _ _ c.args.name c.in-Err-read.fault (sym c.if-eq.ensures) (c.in-Err-read.ensures.files AsBoard)

pub returns-in-Ok-read_board : goal.returns-in-Ok-read_board
returns-in-Ok-read_board g c =
    board_accepted _ _ c.args.name c.in-Ok-read.bytes.items c.in-Ok-read_board.board (sym c.if-eq.ensures) (c.in-Ok-read.ensures.files AsBoard)
    (ap board_of (sym c.deref.ensures.value) ∙ c.in-Ok-read_board.ensures.ok)

pub returns : goal.returns
returns g c =
    board_refused _ _ c.args.name c.in-Ok-read.bytes.items c.in-Err-read_board.error (sym c.if-eq.ensures) (c.in-Ok-read.ensures.files AsBoard)
    (subst (λ (bs : List ℕ). IsBoardRefusal c.in-Err-read_board.error (board_of bs)) c.deref.ensures.value c.in-Err-read_board.ensures.err)
