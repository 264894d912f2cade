-- The file header of an ELF image, and what its program headers give one by one.
use Rattle.std.proofs.Common.{◌≡◌, ◌<◌, ◌≤◌, ◌+◌, ◌*◌, ◌-◌, ℕ, suc, refl, sym, subst, arith, List, [], length, drop, slice_index, Option, None, Result, Ok}
use Rattle.std.specs.Prelude.{IfErr}
use Rattle.std.proofs.lemmas.Bool.{le-leb, le-ltb}
use Rattle.tz_elf.specs.Placement.{Refusal, Segments, Test, unless}
use Rattle.tz_elf.specs.ElfImage.{ProgramHeader, elf_segments, entry_count, half_field, header_refusal, headers_from, load_then, loads_from, program_header, table_place, table_refusal}
use Rattle.tz_model.specs.Image.{SegmentValue}
use Rattle.tz_elf.specs.Refusals.{IsImageRefusal}
use Rattle.tz_elf.specs.declared.error.ElfError.{ElfError}

-- a file header whose fields are right is refused for its table alone
pub header_refusal-table : (file : List ℕ) → 52 ≤ length file → slice_index file 0 ≡ 0x7F → slice_index file 1 ≡ 0x45 → slice_index file 2 ≡ 0x4C → slice_index file 3 ≡ 0x46
    → slice_index file 4 ≡ 1 → slice_index file 5 ≡ 1 → half_field file 16 ≡ 2 → half_field file 18 ≡ 40
    → header_refusal file ≡ table_refusal file
header_refusal-table file long f0 f1 f2 f3 f4 f5 kind machine =
    let some : 4 ≤ length file = omega arith in
    rw (le-leb 4 (length file) some, f0, f1, f2, f3, le-ltb (length file) 52 long, f4, f5, kind, machine) refl

-- what is said of a refusal is said of an equal one
pub refused_as : (r : Result Unit ElfError) (a b : Option Refusal) → a ≡ b
    → IfErr r (λ e. (follows : Segments) → IsImageRefusal e (unless b follows)) → IfErr r (λ e. (follows : Segments) → IsImageRefusal e (unless a follows))
refused_as r a b same h =
    let P : Option Refusal → Type 0 = λ o. IfErr r (λ e. (follows : Segments) → IsImageRefusal e (unless o follows)) in
    subst P (sym same) h

-- before the first program header
pub elf_segments-start : (test : Test) (file : List ℕ) (place count : ℕ) (numbers : List ℕ) (before : List SegmentValue) → header_refusal file ≡ None
    → table_place file ≡ place → entry_count file ≡ count → numbers ≡ [] → before ≡ []
    → elf_segments test file ≡ loads_from test file 0 numbers before (headers_from file (place + 32 * 0) (count - 0))
elf_segments-start test file place count numbers before right p c n b =
    let here : place + 32 * 0 ≡ place = omega arith in
    let all : count - 0 ≡ count = omega arith in
    rw (here, all, ← p, ← c, n, b, right) refl

-- a turn over the program headers
pub loads_from-first : (test : Test) (file : List ℕ) (place count index : ℕ) (numbers : List ℕ) (before : List SegmentValue) (h : ProgramHeader) → index < count
    → program_header (drop (place + 32 * index) file) ≡ h
    → loads_from test file index numbers before (headers_from file (place + 32 * index) (count - index))
    ≡ load_then test file index numbers before h (λ numbers before. loads_from test file (index + 1) numbers before (headers_from file (place + 32 * (index + 1)) (count - (index + 1))))
unfolding loads_from headers_from
loads_from-first test file place count index numbers before h some same =
    let left : count - index ≡ suc (count - (index + 1)) = omega arith in
    let next : place + 32 * (index + 1) ≡ place + 32 * index + 32 = omega arith in
    rw (left, next, ← same) refl

-- no program headers are left
pub loads_from-none : (test : Test) (file : List ℕ) (place count index : ℕ) (numbers : List ℕ) (before : List SegmentValue) → count ≤ index
    → loads_from test file index numbers before (headers_from file place (count - index)) ≡ Ok before
unfolding loads_from headers_from
loads_from-none test file place count index numbers before past =
    let none : count - index ≡ 0 = omega arith in
    rw none refl
