-- The image of a file, as the segments that its format gives for regions.
use Rattle.std.proofs.Common.{◌≡◌, ◌==◌, refl, Bool, true, false, List, [], ℕ, Ok, if◌then◌else◌, slice_index}
use Rattle.tz_table.specs.declared.units.Side.{Side}
use Rattle.tz_model.specs.declared.board.Region.{Region}
use Rattle.tz_model.specs.Board.{BoardValue, IsBoard}
use Rattle.tz_model.specs.Image.{IsImage, SegmentValue}
use Rattle.tz_elf.specs.Images.{image_of, segments_of}
use Rattle.tz_elf.specs.Placement.{image_with, placed_in, regions_for}
use Rattle.tz_elf.proofs.Accepted.{Accepted, IsImage-accepted, segments_from-accepted}
use Rattle.tz_elf.proofs.AcceptedLoads.{elf_segments-accepted}
use Rattle.tz_elf.specs.ElfImage.{elf_segments}
use Rattle.tz_syntax.specs.Lines.{lines_of}
use Rattle.tz_elf.specs.PlainImage.{plain_segments}

pub image_of-segments : (file : List ℕ) (board : BoardValue) (side : Side) (regions usable : List Region) → regions ≡ board.regions → usable ≡ regions_for side regions
    → image_of file board side ≡ image_with (segments_of (placed_in regions usable) file)
unfolding image_of
image_of-segments file board side regions usable r u = rw (u, r) refl

-- the segments of either format stand in the regions
pub segments_of-accepted : (all usable : List Region) (file : List ℕ) (segments : List SegmentValue) → segments_of (placed_in all usable) file ≡ Ok segments → Accepted all segments
segments_of-accepted all usable file segments e = by_format (slice_index file 0 == 0x7F) e
  where
    by_format : (t : Bool) → (if t then elf_segments (placed_in all usable) file else plain_segments (placed_in all usable) file) ≡ Ok segments → Accepted all segments
    by_format true h = elf_segments-accepted all usable file segments h
    by_format false h = segments_from-accepted all usable (lines_of file) 1 [] segments (record { placed = refl; clear = refl }) h

-- segments that a board accepts are those of an image
pub IsImage-board : (board : BoardValue) (regions : List Region) (segments : List SegmentValue) → IsBoard board → regions ≡ board.regions → Accepted regions segments → IsImage segments
IsImage-board board regions segments holds r accepted = IsImage-accepted board.regions segments holds.regions holds.small (rw r at accepted)
