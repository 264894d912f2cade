-- What an error says of an answer holds of equal answers, and of the image with these segments.
use Rattle.std.proofs.Common.{◌≡◌, ◌∙◌, ap, List, Result}
use Rattle.tz_model.specs.Image.{ImageValue, SegmentValue}
use Rattle.tz_elf.specs.Placement.{Refusal, image_with}
use Rattle.tz_elf.specs.Refusals.{IsImageRefusal}
use Rattle.tz_elf.specs.declared.error.ElfError.{ElfError}
use Rattle.tz_elf.specs.declared.error.ElfError.TheVariants.{Magic, ClassOrOrder, TypeOrMachine, HeaderCut, SegmentCut, Outside, WrongSide, Overlap, Hex, Memory}

pub IsImageRefusal-along : (e : ElfError) (a b : Result (List SegmentValue) Refusal) → a ≡ b → IsImageRefusal e b → IsImageRefusal e a
IsImageRefusal-along Magic a b same h = same ∙ h
IsImageRefusal-along ClassOrOrder a b same h = same ∙ h
IsImageRefusal-along TypeOrMachine a b same h = same ∙ h
IsImageRefusal-along HeaderCut a b same h = same ∙ h
IsImageRefusal-along (SegmentCut index) a b same h = same ∙ h
IsImageRefusal-along (Outside index) a b same h = same ∙ h
IsImageRefusal-along (WrongSide index) a b same h = same ∙ h
IsImageRefusal-along (Overlap earlier index) a b same h = same ∙ h
IsImageRefusal-along (Hex line) a b same h = same ∙ h
IsImageRefusal-along Memory a b same h = tt

-- segments that are refused give no image
pub IsImageRefusal-image_along : (e : ElfError) (image : Result ImageValue Refusal) (segments : Result (List SegmentValue) Refusal) → image ≡ image_with segments
    → IsImageRefusal e segments → IsImageRefusal e image
IsImageRefusal-image_along Magic image segments same h = same ∙ ap image_with h
IsImageRefusal-image_along ClassOrOrder image segments same h = same ∙ ap image_with h
IsImageRefusal-image_along TypeOrMachine image segments same h = same ∙ ap image_with h
IsImageRefusal-image_along HeaderCut image segments same h = same ∙ ap image_with h
IsImageRefusal-image_along (SegmentCut index) image segments same h = same ∙ ap image_with h
IsImageRefusal-image_along (Outside index) image segments same h = same ∙ ap image_with h
IsImageRefusal-image_along (WrongSide index) image segments same h = same ∙ ap image_with h
IsImageRefusal-image_along (Overlap earlier index) image segments same h = same ∙ ap image_with h
IsImageRefusal-image_along (Hex line) image segments same h = same ∙ ap image_with h
IsImageRefusal-image_along Memory image segments same h = tt
