-- The lines on standard error, and the statuses that go with them.
use Rattle.std.specs.Prelude.{ℕ, List, ◌++◌, codes, decimal, Result, Ok, Err}
use Rattle.tz_model.specs.declared.outside.SinkError.{SinkError}
use Rattle.tz_elf.specs.Images.{Refusal, Magic, ClassOrOrder, TypeOrMachine, HeaderCut, SegmentCut, Outside, WrongSide, Hex}
use Rattle.tz_elf.specs.Images as images
use Rattle.tz_board.specs.Scripts.{ScriptRefusal, BadLine, OutOfOrder, NoSuchInterrupt}
use Rattle.tz_board.specs.Scripts as scripts
use Rattle.tz_board.specs.Boards.{BoardRefusal, NotToml, Missing, WrongKind, Range, TooMany, Place, Top, InRegion, InSau, key_text}
use Rattle.tz_board.specs.Boards as boards
use Rattle.tz_asm.specs.Refusals.{Refusal as AsmRefusal}
use Rattle.tz_asm.specs.Refusals as sources
use Rattle.tz_snap.specs.StateFile as states
use Rattle.tz_snap.specs.StateFile.{Refusal as StateRefusal}
use Rattle.tz_files.specs.Told.{Stop, BadWords, TooManySteps, TooManyBack, Unread, TooLong, BadBoard, BadImage, BadState, BadScript, BadSource, TooFar}

abbrev pub image_code : Refusal → List ℕ
image_code Magic = codes "L1"
image_code ClassOrOrder = codes "L2"
image_code TypeOrMachine = codes "L3"
image_code HeaderCut = codes "L4"
image_code (SegmentCut index) = codes "L5 " ++ decimal index
image_code (Outside index) = codes "L6 " ++ decimal index
image_code (WrongSide index) = codes "L7 " ++ decimal index
image_code (images.Overlap earlier index) = codes "L8 " ++ decimal earlier ++ codes " " ++ decimal index
image_code (Hex line) = codes "L9 " ++ decimal line

abbrev pub state_code : StateRefusal → List ℕ
state_code states.Magic = codes "S1"
state_code states.Board = codes "S2"
state_code states.Length = codes "S3"
state_code (states.Value index) = codes "S4 " ++ decimal index

abbrev pub script_code : ScriptRefusal → List ℕ
script_code (BadLine line) = codes "C1 " ++ decimal line
script_code (OutOfOrder line) = codes "C2 " ++ decimal line
script_code (NoSuchInterrupt line) = codes "C3 " ++ decimal line
script_code scripts.TooMany = codes "C4"

abbrev pub place_text : Place → List ℕ
place_text (Top key) = key_text key
place_text (InRegion index key) = codes "region " ++ decimal index ++ codes " " ++ key_text key
place_text (InSau index key) = codes "sau " ++ decimal index ++ codes " " ++ key_text key

abbrev pub board_code : BoardRefusal → List ℕ
board_code NotToml = codes "B1"
board_code (Missing place) = codes "B2 " ++ place_text place
board_code (WrongKind place) = codes "B3 " ++ place_text place
board_code (Range place) = codes "B4 " ++ place_text place
board_code (boards.Overlap i j) = codes "B5 " ++ decimal i ++ codes " " ++ decimal j
board_code TooMany = codes "B6"

abbrev pub source_code : AsmRefusal → List ℕ
source_code (sources.Token line) = codes "A1 " ++ decimal line
source_code (sources.Mnemonic line) = codes "A2 " ++ decimal line
source_code (sources.Operands line) = codes "A3 " ++ decimal line
source_code (sources.Range line) = codes "A4 " ++ decimal line
source_code (sources.NoLabel line) = codes "A5 " ++ decimal line
source_code (sources.TwoLabels line) = codes "A6 " ++ decimal line
source_code (sources.OrgBackwards line) = codes "A7 " ++ decimal line
source_code (sources.TooLarge line) = codes "A8 " ++ decimal line

-- a refused file: its name, and the code with its place
abbrev pub refused_line : List ℕ → List ℕ → List ℕ
refused_line name code = name ++ codes ": " ++ code ++ codes "\n"

abbrev pub unread_line : List ℕ → List ℕ
unread_line name = codes "cannot read " ++ name ++ codes "\n"

abbrev pub limit_line : List ℕ → List ℕ
limit_line name = codes "limit " ++ name ++ codes "\n"

abbrev pub stop_line : Stop → List ℕ
stop_line BadWords = codes "usage\n"
stop_line TooManySteps = codes "limit steps\n"
stop_line TooManyBack = codes "limit back\n"
stop_line (Unread name) = unread_line name
stop_line (TooLong name) = limit_line name
stop_line (BadBoard name refusal) = refused_line name (board_code refusal)
stop_line (BadImage name refusal) = refused_line name (image_code refusal)
stop_line (BadState name refusal) = refused_line name (state_code refusal)
stop_line (BadScript name refusal) = refused_line name (script_code refusal)
stop_line (BadSource name refusal) = refused_line name (source_code refusal)
stop_line (TooFar name) = codes "limit steps\n"

abbrev pub status_of : Stop → ℕ
status_of BadWords = 2
status_of TooManySteps = 6
status_of TooManyBack = 6
status_of (Unread name) = 3
status_of (TooLong name) = 6
status_of (BadBoard name refusal) = 5
status_of (BadImage name refusal) = 5
status_of (BadState name refusal) = 5
status_of (BadScript name refusal) = 5
status_of (BadSource name refusal) = 5
status_of (TooFar name) = 6

-- the status of a text that is put
abbrev pub put_status : Result Unit SinkError → ℕ
put_status (Ok done) = 0
put_status (Err error) = 4
