-- A listing, line by line, and which sources have one.
use Rattle.std.proofs.Common.{◌≡◌, ◌==◌, ◌+◌, ◌≤◌, ℕ, zero, suc, refl, arith, subst, Bool, true, false, ◌||◌, nat_lt, if◌then◌else◌, List, [], ◌∷◌, length, Option, Some, None, Result, Ok, Err}
use Rattle.std.proofs.lemmas.Bool.{ltb-false, ne_eqb}
use Rattle.tz_asm.specs.Errors.{IsRefusal, Tells}
use Rattle.tz_asm.specs.FirstPass.{first_pass}
use Rattle.tz_asm.specs.Growing.{GrowingValue, grown, nothing}
use Rattle.tz_asm.specs.Layouts.{advance, behind, byte_count, go_to, put, start, too_many_segments}
use Rattle.tz_asm.specs.Listing.{ListingValue, PlacesAscend, RefusedAlike, listed, listed_from, listed_turn, listed_with, no_lines, noted, refusal_in, whole}
use Rattle.tz_asm.specs.Places.{Places}
use Rattle.tz_asm.specs.Reading.{said}
use Rattle.tz_asm.specs.Refusals.{◌>>=◌, OrgBackwards, Refusal, TooLarge}
use Rattle.tz_asm.specs.SourceLines.{LineValue}
use Rattle.tz_asm.specs.Statements.{StatementValue, Nothing, Org, Align, Data, Equ, Space, Text, Instruction}
use Rattle.tz_asm.specs.Told.{assembled, second_from, second_turn, written_by}
use Rattle.tz_asm.specs.Written.{Writes}
use Rattle.tz_asm.specs.declared.error.AsmError.{AsmError}
use Rattle.tz_asm.specs.declared.layout.Layout.{Layout}
use Rattle.tz_model.specs.Board.{most_bytes}
use Rattle.tz_syntax.specs.Lines.{lines_of}
use Rattle.tz_asm.proofs.Telling.{IsRefusal-then, Tells-along}
use Rattle.tz_asm.proofs.Told.{written_told}

-- ---- how many bytes a line places

put-few : (line count : ℕ) (l next : Layout) → put line count l ≡ Ok next → count ≤ most_bytes
unfolding put
put-few line zero l next is = omega arith
put-few line (suc count) l next is =
    let some : (suc count == 0) ≡ false = ne_eqb (suc count) 0 (λ h. omega arith) in
    by_tests (nat_lt 4294967296 (l.place + suc count)) (nat_lt most_bytes (l.bytes + suc count)) refl _ (rw some at is)
  where
    by_tests : (past large : Bool) → nat_lt most_bytes (l.bytes + suc count) ≡ large → (rest : Result Layout Refusal)
        → (if past || large then Err (TooLarge line) else rest) ≡ Ok next → suc count ≤ most_bytes
    by_tests true large at rest h = absurd cc
    by_tests false true at rest h = absurd cc
    by_tests false false at rest h = let within = ltb-false most_bytes (l.bytes + suc count) at in omega (arith, within)

pub advance-few : (line : ℕ) (statement : StatementValue) (l next : Layout) → advance line statement l ≡ Ok next → byte_count l.place statement ≤ most_bytes
unfolding advance byte_count
advance-few line (Org number) l next is = omega arith
advance-few line Nothing l next is = put-few line _ l next is
advance-few line (Align multiple) l next is = put-few line _ l next is
advance-few line (Data size value) l next is = put-few line _ l next is
advance-few line (Equ name value) l next is = put-few line _ l next is
advance-few line (Space count) l next is = put-few line _ l next is
advance-few line (Text text ends) l next is = put-few line _ l next is
advance-few line (Instruction width mnemonic operands) l next is = put-few line _ l next is

-- ---- a line's turn

pub unsaid : (e : AsmError) (line : ℕ) (places : Places) (layout : Layout) (l : ListingValue) (text : List ℕ) → IsRefusal e (said line text)
    → IsRefusal e (listed_turn line places layout l text)
unfolding listed_turn
unsaid e line places layout l text h = IsRefusal-then e (said line text) _ h

pub unplaced : (e : AsmError) (line : ℕ) (places : Places) (layout : Layout) (l : ListingValue) (text : List ℕ) (value : LineValue) → said line text ≡ Ok value
    → IsRefusal e (advance line value.statement layout) → IsRefusal e (listed_turn line places layout l text)
unfolding listed_turn
unplaced e line places layout l text value reads h = rw reads (IsRefusal-then e (advance line value.statement layout) _ h)

pub unwritten : (e : AsmError) (line : ℕ) (places : Places) (layout next : Layout) (l : ListingValue) (text : List ℕ) (value : LineValue) → said line text ≡ Ok value
    → advance line value.statement layout ≡ Ok next → Tells e (λ r. Writes line places layout.place value.statement (Err r))
    → IsRefusal e (listed_turn line places layout l text)
unfolding listed_turn
unwritten e line places layout next l text value reads also h =
    let written : IsRefusal e (written_by line places layout.place value.statement) =
    Tells-along e (λ r. Writes line places layout.place value.statement (Err r)) (λ r. written_by line places layout.place value.statement ≡ Err r)
    (λ r writes. written_told line places layout.place value.statement (Err r) writes) h in
    rw (reads, also) (IsRefusal-then e (written_by line places layout.place value.statement) _ written)

pub turned : (line : ℕ) (places : Places) (layout next : Layout) (l m : ListingValue) (text bytes : List ℕ) (value : LineValue) → said line text ≡ Ok value
    → advance line value.statement layout ≡ Ok next → Writes line places layout.place value.statement (Ok bytes)
    → m ≡ noted places layout.place value bytes text l → listed_turn line places layout l text ≡ Ok (next, m)
unfolding listed_turn
turned line places layout next l m text bytes value reads also writes is =
    rw (reads, also, written_told line places layout.place value.statement (Ok bytes) writes, is) refl

-- ---- a line that is accepted, one that is refused, and none

pub goes_on : (line : ℕ) (places : Places) (layout next : Layout) (l m : ListingValue) (rest text after : List ℕ) → lines_of rest ≡ text ∷ lines_of after
    → listed_turn line places layout l text ≡ Ok (next, m) → listed_from line places layout l (lines_of rest) ≡ listed_from (line + 1) places next m (lines_of after)
unfolding listed_from
goes_on line places layout next l m rest text after at is = rw (at, is) refl

pub stops : (e : AsmError) (line : ℕ) (places : Places) (layout : Layout) (l : ListingValue) (rest text after : List ℕ) → lines_of rest ≡ text ∷ lines_of after
    → IsRefusal e (listed_turn line places layout l text) → IsRefusal e (listed_from line places layout l (lines_of rest))
unfolding listed_from
stops e line places layout l rest text after at h = rw at (IsRefusal-then e (listed_turn line places layout l text) _ h)

pub ends : (line : ℕ) (places : Places) (layout : Layout) (l : ListingValue) (rest : List ℕ) → length rest ≡ 0
    → listed_from line places layout l (lines_of rest) ≡ Ok (whole l)
unfolding listed_from lines_of
ends line places layout l [] none = refl
ends line places layout l (b ∷ rest) none = absurd (omega arith)

pub begins : (source : List ℕ) (places : Places) (layout : Layout) (l : ListingValue) → layout ≡ start → l ≡ no_lines
    → listed_with source places ≡ listed_from 1 places layout l (lines_of source)
unfolding listed_with
begins source places layout l first none = rw (first, none) refl

-- ---- one pass after the other

pub refused_first : (e : AsmError) (source : List ℕ) → IsRefusal e (first_pass source) → IsRefusal e (listed source)
unfolding listed
refused_first e source h = IsRefusal-then e (first_pass source) _ h

pub passed : (source : List ℕ) (places : Places) → first_pass source ≡ Ok places → listed source ≡ listed_with source places
unfolding listed
passed source places is = rw is refl

-- ---- the law

-- what follows the same answer by one function and another is refused alike, where what follows that is
then_alike : {A B C D E : Type 0} (r : Result A Refusal) (f : A → Result B Refusal) (g : A → Result C Refusal) (k : B → Result D Refusal) (m : C → Result E Refusal)
    → ((x : A) → refusal_in (f x >>= k) ≡ refusal_in (g x >>= m)) → refusal_in ((r >>= f) >>= k) ≡ refusal_in ((r >>= g) >>= m)
then_alike (Ok x) f g k m h = h x
then_alike (Err e) f g k m h = refl

from_alike : (line : ℕ) (places : Places) (layout : Layout) (l : ListingValue) (g : GrowingValue) (texts : List (List ℕ))
    → refusal_in (listed_from line places layout l texts) ≡ refusal_in (second_from line places layout g texts)
unfolding listed_from listed_turn second_from second_turn
from_alike line places layout l g [] = refl
from_alike line places layout l g (text ∷ texts) =
    then_alike (said line text) _ _ _ _ (λ value.
    then_alike (advance line value.statement layout) _ _ _ _ (λ next.
    then_alike (written_by line places layout.place value.statement) _ _ _ _ (λ bytes.
    from_alike (line + 1) places next (noted places layout.place value bytes text l) (grown layout.inside layout.place bytes g) texts)))

same_refusal : {A B C : Type 0} (r : Result A Refusal) (f : A → Result B Refusal) (g : A → Result C Refusal) → ((x : A) → refusal_in (f x) ≡ refusal_in (g x))
    → refusal_in (r >>= f) ≡ refusal_in (r >>= g)
same_refusal (Ok x) f g h = h x
same_refusal (Err e) f g h = refl

pub refused_alike : RefusedAlike
unfolding listed listed_with assembled
refused_alike source = same_refusal (first_pass source) _ _ (λ places. from_alike 1 places start no_lines nothing (lines_of source))

-- ---- no place goes back

put-ascends : (line count : ℕ) (l next : Layout) → put line count l ≡ Ok next → l.place ≤ next.place
unfolding put
put-ascends line zero l next is =
    let same : l ≡ next = cc in
    subst (λ (x : Layout). l.place ≤ x.place) same (omega arith)
put-ascends line (suc count) l next is =
    let some : (suc count == 0) ≡ false = ne_eqb (suc count) 0 (λ h. omega arith) in
    by_tests (nat_lt 4294967296 (l.place + suc count) || nat_lt most_bytes (l.bytes + suc count)) l.inside (nat_lt (l.segments + 1) too_many_segments) (rw some at is)
  where
    by_tests : (large inside few : Bool)
        → (if large then Err (TooLarge line) else if inside then Ok (behind l.segments (suc count) l)
        else if few then Ok (behind (l.segments + 1) (suc count) l) else Err (TooLarge l.org_line)) ≡ Ok next
        → l.place ≤ next.place
    by_tests true inside few h = absurd cc
    by_tests false true few h =
        let same : behind l.segments (suc count) l ≡ next = cc in
        subst (λ (x : Layout). l.place ≤ x.place) same (omega arith)
    by_tests false false true h =
        let same : behind (l.segments + 1) (suc count) l ≡ next = cc in
        subst (λ (x : Layout). l.place ≤ x.place) same (omega arith)
    by_tests false false false h = absurd cc

go_to-ascends : (line : ℕ) (place : Option ℕ) (l next : Layout) → go_to line place l ≡ Ok next → l.place ≤ next.place
unfolding go_to
go_to-ascends line None l next is = absurd cc
go_to-ascends line (Some place) l next is = by_tests (nat_lt place l.place) refl (place == l.place) is
  where
    forth : Layout
    forth = record { place = place; inside = false; bytes = l.bytes; segments = l.segments; org_line = line }

    by_tests : (back : Bool) → nat_lt place l.place ≡ back → (same : Bool) → (if back then Err (OrgBackwards line) else if same then Ok l else Ok forth) ≡ Ok next
        → l.place ≤ next.place
    by_tests true at same h = absurd cc
    by_tests false at true h =
        let is : l ≡ next = cc in
        subst (λ (x : Layout). l.place ≤ x.place) is (omega arith)
    by_tests false at false h =
        let is : forth ≡ next = cc in
        subst (λ (x : Layout). l.place ≤ x.place) is (ltb-false place l.place at)

pub places_ascend : PlacesAscend
unfolding advance
places_ascend line (Org number) l next is = go_to-ascends line _ l next is
places_ascend line Nothing l next is = put-ascends line _ l next is
places_ascend line (Align multiple) l next is = put-ascends line _ l next is
places_ascend line (Data size value) l next is = put-ascends line _ l next is
places_ascend line (Equ name value) l next is = put-ascends line _ l next is
places_ascend line (Space count) l next is = put-ascends line _ l next is
places_ascend line (Text text ends) l next is = put-ascends line _ l next is
places_ascend line (Instruction width mnemonic operands) l next is = put-ascends line _ l next is
