-- The second pass, line by line.
use Rattle.std.proofs.Common.{◌≡◌, ◌+◌, ℕ, refl, arith, subst, List, [], ◌∷◌, length, Result, Ok, Err}
use Rattle.tz_asm.specs.Errors.{IsRefusal, Tells}
use Rattle.tz_asm.specs.Growing.{GrowingValue, finished, grown, nothing}
use Rattle.tz_asm.specs.Layouts.{advance, start}
use Rattle.tz_asm.specs.Places.{Places}
use Rattle.tz_asm.specs.Reading.{said}
use Rattle.tz_asm.specs.Refusals.{Refusal}
use Rattle.tz_asm.specs.SecondPass.{SecondFrom, SecondPass, SecondTurn}
use Rattle.tz_asm.specs.Written.{Writes}
use Rattle.tz_asm.specs.declared.error.AsmError.{AsmError}
use Rattle.tz_asm.specs.declared.layout.Layout.{Layout}
use Rattle.tz_syntax.specs.Lines.{lines_of}
use Rattle.tz_model.specs.Image.{SegmentValue}
use Rattle.tz_asm.specs.SourceLines.{LineValue}
use Rattle.tz_asm.proofs.Telling.{Tells-along}

-- the parts of a line's turn, which are refused one after another
pub unsaid : (e : AsmError) (line : ℕ) (places : Places) (layout : Layout) (g : GrowingValue) (text : List ℕ) → IsRefusal e (said line text)
    → Tells e (λ r. SecondTurn line places layout g text (Err r))
unfolding SecondTurn
unsaid e line places layout g text h = Tells-along e (λ r. said line text ≡ Err r) (λ r. SecondTurn line places layout g text (Err r)) (λ r is. rw is refl) h

pub unplaced : (e : AsmError) (line : ℕ) (places : Places) (layout : Layout) (g : GrowingValue) (text : List ℕ) (value : LineValue) → said line text ≡ Ok value
    → IsRefusal e (advance line value.statement layout) → Tells e (λ r. SecondTurn line places layout g text (Err r))
unfolding SecondTurn
unplaced e line places layout g text value reads h =
    Tells-along e (λ r. advance line value.statement layout ≡ Err r) (λ r. SecondTurn line places layout g text (Err r)) (λ r is. rw (reads, is) refl) h

pub unwritten : (e : AsmError) (line : ℕ) (places : Places) (layout next : Layout) (g : GrowingValue) (text : List ℕ) (value : LineValue) → said line text ≡ Ok value
    → advance line value.statement layout ≡ Ok next → Tells e (λ r. Writes line places layout.place value.statement (Err r))
    → Tells e (λ r. SecondTurn line places layout g text (Err r))
unfolding SecondTurn
unwritten e line places layout next g text value reads also h =
    Tells-along e (λ r. Writes line places layout.place value.statement (Err r)) (λ r. SecondTurn line places layout g text (Err r))
    (λ r writes. rw (reads, also) (Err r, (writes, refl))) h

pub turned : (line : ℕ) (places : Places) (layout next : Layout) (g : GrowingValue) (text bytes : List ℕ) (value : LineValue) → said line text ≡ Ok value
    → advance line value.statement layout ≡ Ok next → Writes line places layout.place value.statement (Ok bytes)
    → SecondTurn line places layout g text (Ok (next, grown layout.inside layout.place bytes g))
unfolding SecondTurn
turned line places layout next g text bytes value reads also writes = rw (reads, also) (Ok bytes, (writes, refl))

-- a line that is accepted, one that is refused, and none
pub goes_on : (line : ℕ) (places : Places) (layout next : Layout) (g h : GrowingValue) (rest text after : List ℕ) → lines_of rest ≡ text ∷ lines_of after
    → SecondTurn line places layout g text (Ok (next, h)) → (answer : Result (List SegmentValue) Refusal)
    → SecondFrom (line + 1) places next h (lines_of after) answer → SecondFrom line places layout g (lines_of rest) answer
unfolding SecondFrom
goes_on line places layout next g h rest text after at turn answer follows = rw at (Ok (next, h), (turn, follows))

pub stops : (line : ℕ) (places : Places) (layout : Layout) (g : GrowingValue) (rest text after : List ℕ) → lines_of rest ≡ text ∷ lines_of after
    → (r : Refusal) → SecondTurn line places layout g text (Err r) → SecondFrom line places layout g (lines_of rest) (Err r)
unfolding SecondFrom
stops line places layout g rest text after at r turn = rw at (Err r, (turn, refl))

pub ends : (line : ℕ) (places : Places) (layout : Layout) (g : GrowingValue) (rest : List ℕ) → length rest ≡ 0
    → SecondFrom line places layout g (lines_of rest) (Ok (finished g))
unfolding SecondFrom lines_of
ends line places layout g [] none = refl
ends line places layout g (b ∷ rest) none = absurd (omega arith)

pub begins : (source : List ℕ) (places : Places) (layout : Layout) (g : GrowingValue) → layout ≡ start → g ≡ nothing → (answer : Result (List SegmentValue) Refusal)
    → SecondFrom 1 places layout g (lines_of source) answer → SecondPass source places answer
unfolding SecondPass
begins source places layout g first none answer h =
    let From : Layout → Type 0 = λ l. SecondFrom 1 places l nothing (lines_of source) answer in
    let With : GrowingValue → Type 0 = λ x. SecondFrom 1 places layout x (lines_of source) answer in
    subst From first (subst With none h)
