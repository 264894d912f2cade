-- What an error says of a definition's answer.
use Rattle.std.specs.Prelude.{◌≡◌, Result, Err}
use Rattle.tz_elf.specs.Images.{Refusal}
use Rattle.tz_elf.specs.Images as refusals
use Rattle.tz_elf.specs.declared.error.ElfError.{ElfError}
use Rattle.tz_elf.specs.declared.error.ElfError.TheVariants.{Magic, ClassOrOrder, TypeOrMachine, HeaderCut, SegmentCut, Outside, WrongSide, Overlap, Hex, Memory}

-- the answer is the refusal that the error names; want of memory says nothing
abbrev pub IsImageRefusal : {T : Type 0} → ElfError → Result T Refusal → Type 0
IsImageRefusal Magic answer = answer ≡ Err refusals.Magic
IsImageRefusal ClassOrOrder answer = answer ≡ Err refusals.ClassOrOrder
IsImageRefusal TypeOrMachine answer = answer ≡ Err refusals.TypeOrMachine
IsImageRefusal HeaderCut answer = answer ≡ Err refusals.HeaderCut
IsImageRefusal (SegmentCut index) answer = answer ≡ Err (refusals.SegmentCut index)
IsImageRefusal (Outside index) answer = answer ≡ Err (refusals.Outside index)
IsImageRefusal (WrongSide index) answer = answer ≡ Err (refusals.WrongSide index)
IsImageRefusal (Overlap earlier index) answer = answer ≡ Err (refusals.Overlap earlier index)
IsImageRefusal (Hex line) answer = answer ≡ Err (refusals.Hex line)
IsImageRefusal Memory answer = Unit {0}
