-- Image files: what the bytes of a file give for a side of a board.
use Rattle.std.specs.Prelude.{ℕ, ◌==◌, if◌then◌else◌, List, [], ◌∷◌, ◌++◌, slice_index, Result, Ok, Err}
use Rattle.tz_table.specs.declared.units.Side.{Side}
use Rattle.tz_model.specs.Board.{BoardValue}
use Rattle.tz_model.specs.Image.{ImageValue, SegmentValue}
use Rattle.tz_model.specs.Image.{entries_from}
use Rattle.tz_elf.specs.Placement.{Segments, Test, image_with, no_test, place_test}
use Rattle.tz_elf.specs.ElfImage.{elf_segments}
use Rattle.tz_elf.specs.PlainImage.{plain_segments}
pub use Rattle.tz_elf.specs.Placement.{Refusal, Magic, ClassOrOrder, TypeOrMachine, HeaderCut, SegmentCut, Outside, WrongSide, Overlap, Hex}

-- (own) the first byte tells the format: 0x7F begins an ELF32 image, and whatever else a plain image
abbrev pub segments_of : Test → List ℕ → Segments
segments_of test file = if slice_index file 0 == 0x7F then elf_segments test file else plain_segments test file

-- the image of a file, or the first refusal
unfoldable pub image_of : List ℕ → BoardValue → Side → Result ImageValue Refusal
image_of file board side = image_with (segments_of (place_test board side) file)

-- the addresses of segments with their bytes, in order
abbrev pub pairs_in : List SegmentValue → List (ℕ × ℕ)
pairs_in [] = []
pairs_in (s ∷ more) = entries_from s.base s.bytes ++ pairs_in more

abbrev pub pairs_with : Segments → Result (List (ℕ × ℕ)) Refusal
pairs_with (Ok segments) = Ok (pairs_in segments)
pairs_with (Err cause) = Err cause

-- the addresses of a file with their bytes, wherever they are, or the first refusal
unfoldable pub pairs_of : List ℕ → Result (List (ℕ × ℕ)) Refusal
pairs_of file = pairs_with (segments_of no_test file)
