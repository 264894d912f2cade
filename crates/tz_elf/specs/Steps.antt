-- What one step of a reader promises, whatever follows it.
use Rattle.std.specs.Prelude.{◌≡◌, ℕ, List, Option}
use Rattle.tz_model.specs.Image.{SegmentValue}
use Rattle.tz_elf.specs.Placement.{Refusal, Segments, Test, unless}
use Rattle.tz_elf.specs.PlainImage.{line_then}
use Rattle.tz_elf.specs.ElfImage.{ProgramHeader, load_then}
use Rattle.tz_elf.specs.Refusals.{IsImageRefusal}
use Rattle.tz_elf.specs.declared.error.ElfError.{ElfError}

-- there is a cause, and the error names it
abbrev pub IsCause : Option Refusal → ElfError → Type 0
IsCause cause e = (follows : Segments) → IsImageRefusal e (unless cause follows)

-- a line behind segments gives these segments to what follows
abbrev pub LineGives : Test → ℕ → List SegmentValue → List ℕ → List SegmentValue → Type 0
LineGives test number before line after =
    (follows : List SegmentValue → Segments) → line_then test number before line follows ≡ follows after

-- a line behind segments is refused
abbrev pub LineIsRefused : Test → ℕ → List SegmentValue → List ℕ → ElfError → Type 0
LineIsRefused test number before line e =
    (follows : List SegmentValue → Segments) → IsImageRefusal e (line_then test number before line follows)

-- a program header behind segments gives these segments and header numbers to what follows
abbrev pub HeaderGives : Test → List ℕ → ℕ → List ℕ → List SegmentValue → ProgramHeader → List ℕ → List SegmentValue → Type 0
HeaderGives test file index numbers before h numbers_after after =
    (follows : List ℕ → List SegmentValue → Segments) → load_then test file index numbers before h follows ≡ follows numbers_after after

-- a program header behind segments is refused
abbrev pub HeaderIsRefused : Test → List ℕ → ℕ → List ℕ → List SegmentValue → ProgramHeader → ElfError → Type 0
HeaderIsRefused test file index numbers before h e =
    (follows : List ℕ → List SegmentValue → Segments) → IsImageRefusal e (load_then test file index numbers before h follows)
