use Rattle.std.proofs.Common.{◌∙◌, ap, List}
use Rattle.tz_model.specs.Board.{BoardValue}
use Rattle.tz_model.specs.declared.board.Region.{Region}
use Rattle.tz_elf.specs.Placement.{image_with}
use Rattle.tz_elf.proofs.Images.{IsImage-board, image_of-segments, segments_of-accepted}
use Rattle.tz_elf.proofs.RefusalLemmas.{IsImageRefusal-image_along}
use Rattle.tz_elf.proofs.read_image.Goals as goal

abbrev regions_of : BoardValue → List Region
regions_of board = board.regions

pub invariant_of-result : goal.invariant_of-result
invariant_of-result c =
    let regions = c.as_slice-regions.result.now in
    let segments = c.in-Ok-read_segments.segments.items in
    IsImage-board _ regions segments c.board.invariant c.as_slice-regions.ensures.value
    (segments_of-accepted regions c.as_slice.result.now c.args.bytes.now segments c.in-Ok-read_segments.ensures.ok)

pub returns-in-Ok-read_segments-clause-ok : goal.returns-in-Ok-read_segments-clause-ok
returns-in-Ok-read_segments-clause-ok c =
    image_of-segments c.args.bytes.now c.args.board.now c.args.side c.as_slice-regions.result.now c.as_slice.result.now
    (c.as_slice-regions.ensures.value ∙ ap regions_of c.board.view_is) (c.as_slice.ensures.value ∙ c.in-Ok.ensures)
    ∙ ap image_with c.in-Ok-read_segments.ensures.ok

pub returns-clause-err : goal.returns-clause-err
returns-clause-err c =
    IsImageRefusal-image_along c.in-Err-read_segments.error _ _
    (image_of-segments c.args.bytes.now c.args.board.now c.args.side c.as_slice-regions.result.now c.as_slice.result.now
    (c.as_slice-regions.ensures.value ∙ ap regions_of c.board.view_is) (c.as_slice.ensures.value ∙ c.in-Ok.ensures))
    c.in-Err-read_segments.ensures.err
