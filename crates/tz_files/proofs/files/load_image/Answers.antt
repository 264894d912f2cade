-- Each exit is how the file was read.
use Rattle.std.proofs.Common.{◌∙◌, sym, subst, ap, List, ℕ}
use Rattle.tz_elf.specs.Images.{image_of}
use Rattle.tz_elf.specs.Refusals.{IsImageRefusal}
use Rattle.tz_files.specs.Reads.{AsImage}
use Rattle.tz_files.proofs.Stages.{image_unread, image_accepted, image_refused}
use Rattle.tz_files.proofs.files.load_image.Goals as goal

pub returns-in-Err : goal.returns-in-Err
returns-in-Err g c = image_unread _ _ c.args.name c.args.board.now c.args.side c.in-Err.fault (c.in-Err.ensures.files AsImage)

pub returns-in-Ok-read_image : goal.returns-in-Ok-read_image
returns-in-Ok-read_image g c =
    image_accepted _ _ c.args.name c.args.board.now c.args.side c.in-Ok.bytes.items c.in-Ok-read_image.image (c.in-Ok.ensures.files AsImage)
    (ap (λ (bs : List ℕ). image_of bs c.args.board.now c.args.side) (sym c.deref.ensures.value) ∙ c.in-Ok-read_image.ensures.ok)

pub returns : goal.returns
returns g c =
    image_refused _ _ c.args.name c.args.board.now c.args.side c.in-Ok.bytes.items c.in-Err-read_image.error (c.in-Ok.ensures.files AsImage)
    (subst (λ (bs : List ℕ). IsImageRefusal c.in-Err-read_image.error (image_of bs c.args.board.now c.args.side)) c.deref.ensures.value c.in-Err-read_image.ensures.err)
