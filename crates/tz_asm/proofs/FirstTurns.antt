-- The first pass, line by line.
use Rattle.std.proofs.Common.{◌≡◌, ◌+◌, ℕ, refl, arith, List, [], ◌∷◌, length, Ok}
use Rattle.tz_asm.specs.Errors.{IsRefusal}
use Rattle.tz_asm.specs.FirstPass.{equ_name, equ_value, first_from, first_turn}
use Rattle.tz_asm.specs.Layouts.{advance}
use Rattle.tz_asm.specs.Places.{Places, defined, known}
use Rattle.tz_asm.specs.Reading.{said}
use Rattle.tz_asm.specs.declared.error.AsmError.{AsmError}
use Rattle.tz_asm.specs.declared.layout.Layout.{Layout}
use Rattle.tz_syntax.specs.Lines.{lines_of}
use Rattle.tz_asm.specs.SourceLines.{LineValue}
use Rattle.tz_asm.proofs.Telling.{IsRefusal-then}

-- the parts of a line's turn, which are refused one after another
pub unsaid : (e : AsmError) (line : ℕ) (places : Places) (layout : Layout) (text : List ℕ) → IsRefusal e (said line text) → IsRefusal e (first_turn line places layout text)
unfolding first_turn
unsaid e line places layout text h = IsRefusal-then e (said line text) _ h

pub undefined : (e : AsmError) (line : ℕ) (places : Places) (layout : Layout) (text : List ℕ) (value : LineValue) → said line text ≡ Ok value
    → IsRefusal e (defined line value.label (known layout.place) places) → IsRefusal e (first_turn line places layout text)
unfolding first_turn
undefined e line places layout text value is h = rw is (IsRefusal-then e (defined line value.label (known layout.place) places) _ h)

pub unequated : (e : AsmError) (line : ℕ) (places some : Places) (layout : Layout) (text : List ℕ) (value : LineValue) → said line text ≡ Ok value
    → defined line value.label (known layout.place) places ≡ Ok some → IsRefusal e (defined line (equ_name value.statement) (equ_value some value.statement) some)
    → IsRefusal e (first_turn line places layout text)
unfolding first_turn
unequated e line places some layout text value is one h =
    rw (is, one) (IsRefusal-then e (defined line (equ_name value.statement) (equ_value some value.statement) some) _ h)

pub unplaced : (e : AsmError) (line : ℕ) (places some more : Places) (layout : Layout) (text : List ℕ) (value : LineValue) → said line text ≡ Ok value
    → defined line value.label (known layout.place) places ≡ Ok some → defined line (equ_name value.statement) (equ_value some value.statement) some ≡ Ok more
    → IsRefusal e (advance line value.statement layout) → IsRefusal e (first_turn line places layout text)
unfolding first_turn
unplaced e line places some more layout text value is one also h = rw (is, one, also) (IsRefusal-then e (advance line value.statement layout) _ h)

pub turned : (line : ℕ) (places some more : Places) (layout next : Layout) (text : List ℕ) (value : LineValue) → said line text ≡ Ok value
    → defined line value.label (known layout.place) places ≡ Ok some → defined line (equ_name value.statement) (equ_value some value.statement) some ≡ Ok more
    → advance line value.statement layout ≡ Ok next → first_turn line places layout text ≡ Ok (more, next)
unfolding first_turn
turned line places some more layout next text value is one also then = rw (is, one, also, then) refl

-- a line that is accepted, one that is refused, and none
pub goes_on : (line : ℕ) (places more : Places) (layout next : Layout) (rest text after : List ℕ) → lines_of rest ≡ text ∷ lines_of after
    → first_turn line places layout text ≡ Ok (more, next) → first_from line places layout (lines_of rest) ≡ first_from (line + 1) more next (lines_of after)
unfolding first_from
goes_on line places more layout next rest text after at is = rw (at, is) refl

pub stops : (e : AsmError) (line : ℕ) (places : Places) (layout : Layout) (rest text after : List ℕ) → lines_of rest ≡ text ∷ lines_of after
    → IsRefusal e (first_turn line places layout text) → IsRefusal e (first_from line places layout (lines_of rest))
unfolding first_from
stops e line places layout rest text after at h = rw at (IsRefusal-then e (first_turn line places layout text) _ h)

pub ends : (line : ℕ) (places : Places) (layout : Layout) (rest : List ℕ) → length rest ≡ 0 → first_from line places layout (lines_of rest) ≡ Ok places
unfolding first_from lines_of
ends line places layout [] none = refl
ends line places layout (b ∷ rest) none = absurd (omega arith)
