-- Segments that grow one behind the other.
use Rattle.std.proofs.Common.{◌≡◌, ◌∙◌, ◌+◌, ◌≤◌, ◌<◌, ◌==◌, ℕ, refl, sym, arith, subst, Bool, true, false, ◌||◌, nat_le, nat_lt, if◌then◌else◌, List, [], ◌∷◌, ◌++◌, length, Option, Some, None, Ok, Err}
use Rattle.std.proofs.lemmas.Bool.{and_from, and_parts, le-leb, leb-true, ltb-false, ne_eqb, or_left}
use Rattle.std.proofs.lemmas.List.{length-append}
use Rattle.std.proofs.lemmas.List.Sums.{sum_by-cons}
use Rattle.tz_asm.specs.Growing.{Fits, GrowingValue, end_by, finished, grown, nothing, with_segment}
use Rattle.tz_asm.specs.Layouts.{IsLayout, advance, behind, byte_count, go_to, put, start, too_many_segments}
use Rattle.tz_asm.specs.Refusals.{OrgBackwards, TooLarge}
use Rattle.tz_asm.specs.declared.layout.Layout.{Layout}
use Rattle.tz_model.specs.Board.{most_bytes}
use Rattle.tz_model.specs.Image.{IsImage, SegmentValue, are_addressed, are_clear, bytes_in, clear_of_all, end_of}
use Rattle.tz_asm.specs.Statements.{StatementValue, Nothing, Org, Align, Data, Equ, Space, Text, Instruction}
use Rattle.tz_elf.proofs.Accepted.{clear_of_all-push}

are_clear-push : (q : SegmentValue) (xs : List SegmentValue) → are_clear xs ≡ true → end_by q.base xs ≡ true → are_clear (xs ++ q ∷ []) ≡ true
are_clear-push q [] h below = refl
are_clear-push q (s ∷ xs) h below =
    let parts = and_parts (clear_of_all s xs) (are_clear xs) h in
    let ends = and_parts (nat_le (end_of s) q.base) (end_by q.base xs) below in
    and_from (clear_of_all s (xs ++ q ∷ [])) (are_clear (xs ++ q ∷ []))
    (clear_of_all-push s q xs parts.0 (or_left (nat_le (end_of s) q.base) (nat_le (end_of q) s.base) ends.0))
    (are_clear-push q xs parts.1 ends.1)

end_by-above : (low high : ℕ) (xs : List SegmentValue) → low ≤ high → end_by low xs ≡ true → end_by high xs ≡ true
end_by-above low high [] le h = refl
end_by-above low high (s ∷ xs) le h =
    let parts = and_parts (nat_le (end_of s) low) (end_by low xs) h in
    let first = leb-true (end_of s) low parts.0 in
    and_from (nat_le (end_of s) high) (end_by high xs) (le-leb (end_of s) high (omega arith)) (end_by-above low high xs le parts.1)

end_by-push : (place : ℕ) (q : SegmentValue) (xs : List SegmentValue) → end_by place xs ≡ true → end_of q ≤ place → end_by place (xs ++ q ∷ []) ≡ true
end_by-push place q [] h le = and_from (nat_le (end_of q) place) true (le-leb (end_of q) place le) refl
end_by-push place q (s ∷ xs) h le =
    let parts = and_parts (nat_le (end_of s) place) (end_by place xs) h in
    and_from (nat_le (end_of s) place) (end_by place (xs ++ q ∷ [])) parts.0 (end_by-push place q xs parts.1 le)

bytes_in-push : (q : SegmentValue) (xs : List SegmentValue) → bytes_in (xs ++ q ∷ []) ≡ bytes_in xs + length q.bytes
bytes_in-push q [] = sum_by-cons (λ (s : SegmentValue). length s.bytes) q [] ∙ omega arith
bytes_in-push q (s ∷ xs) =
    let f : SegmentValue → ℕ = λ x. length x.bytes in
    let more = bytes_in-push q xs in
    let one = sum_by-cons f s (xs ++ q ∷ []) in
    let other = sum_by-cons f s xs in
    omega (arith, more, one, other)

-- segments one behind the other, up to a place
pub record AreUpTo (place total : ℕ) (segments : List SegmentValue) : Type 0 where
  pub clear : are_clear segments ≡ true
  pub below : end_by place segments ≡ true
  pub counted : bytes_in segments ≡ total

finish : (done : List SegmentValue) (base place total : ℕ) (bytes : List ℕ) → are_clear done ≡ true → end_by base done ≡ true → base + length bytes ≤ place
    → bytes_in done + length bytes ≡ total → AreUpTo place total (with_segment done base bytes)
finish done base place total [] clear below le counted = record {
  clear = clear;
  below = end_by-above base place done (omega arith) below;
  counted = omega arith;
}
finish done base place total (b ∷ bytes) clear below le counted =
    let q : SegmentValue = record { base = base; bytes = b ∷ bytes } in
    record {
      clear = are_clear-push q done clear below;
      below = end_by-push place q done (end_by-above base place done (omega arith) below) le;
      counted = bytes_in-push q done ∙ counted;
    }

pub Fits-finished : (l : Layout) (g : GrowingValue) → Fits l g → AreUpTo l.place l.bytes (finished g)
Fits-finished l g fits = finish g.done g.base l.place l.bytes g.bytes fits.clear fits.below fits.within fits.counted

addressed : (place : ℕ) (xs : List SegmentValue) → end_by place xs ≡ true → place ≤ 4294967296 → are_addressed xs ≡ true
addressed place [] h le = refl
addressed place (s ∷ xs) h le =
    let parts = and_parts (nat_le (end_of s) place) (end_by place xs) h in
    let first = leb-true (end_of s) place parts.0 in
    and_from (nat_le (end_of s) 4294967296) (are_addressed xs) (le-leb (end_of s) 4294967296 (omega arith)) (addressed place xs parts.1 le)

-- they are few
pub finished-few : (l : Layout) (g : GrowingValue) → IsLayout l → Fits l g → length (finished g) < 65536
finished-few l g layout fits =
    let few = fits.few in
    let most = layout.segments in
    omega (arith, few, most)

-- the segments of an image
pub finished-image : (l : Layout) (g : GrowingValue) → IsLayout l → Fits l g → IsImage (finished g)
finished-image l g layout fits =
    let up = Fits-finished l g fits in
    let total = up.counted in
    let few = layout.few in
    record {
      addressed = addressed l.place (finished g) up.below layout.placed;
      clear = up.clear;
      small = le-leb (bytes_in (finished g)) most_bytes (omega (arith, total, few));
    }

-- at most one segment more
one_more : (done : List SegmentValue) (base : ℕ) (bytes : List ℕ) → length (with_segment done base bytes) ≤ length done + 1
one_more done base [] = omega arith
one_more done base (b ∷ bytes) =
    let size = length-append {A = SegmentValue} done (record { base = base; bytes = b ∷ bytes } ∷ []) in
    omega (arith, size)

-- bytes in the segment that grows
joined : (l : Layout) (g : GrowingValue) (b : ℕ) (bytes : List ℕ) → Fits l g → l.inside ≡ true
    → Fits (behind l.segments (length (b ∷ bytes)) l) (record { done = g.done; base = g.base; bytes = g.bytes ++ b ∷ bytes })
joined l g b bytes fits inside =
    let here = fits.joined inside in
    let begun = fits.begun inside in
    let most = one_more g.done g.base (g.bytes ++ b ∷ bytes) in
    let size = length-append g.bytes (b ∷ bytes) in
    let counted = fits.counted in
    record {
      clear = fits.clear;
      below = fits.below;
      within = omega (arith, here, size);
      joined = λ _. omega (arith, here, size);
      counted = omega (arith, counted, size);
      few = omega (arith, most, begun);
      begun = λ _. begun;
    }

-- bytes in a new segment
apart : (l : Layout) (g : GrowingValue) (b : ℕ) (bytes : List ℕ) → Fits l g
    → Fits (behind (l.segments + 1) (length (b ∷ bytes)) l) (record { done = finished g; base = l.place; bytes = b ∷ bytes })
apart l g b bytes fits =
    let up = Fits-finished l g fits in
    let few = fits.few in
    let most = one_more (finished g) l.place (b ∷ bytes) in
    let counted = up.counted in
    record {
      clear = up.clear;
      below = up.below;
      within = omega arith;
      joined = λ _. refl;
      counted = omega (arith, counted);
      few = omega (arith, most, few);
      begun = λ _. omega (arith, few);
    }

put-grown : (line : ℕ) (l next : Layout) (g : GrowingValue) (bytes : List ℕ) → put line (length bytes) l ≡ Ok next → Fits l g → Fits next (grown l.inside l.place bytes g)
unfolding put
put-grown line l next g [] is fits = let same : l ≡ next = cc in rw (sym same) fits
put-grown line l next g (b ∷ bytes) is fits =
    let some : (length (b ∷ bytes) == 0) ≡ false = ne_eqb (length (b ∷ bytes)) 0 (λ h. omega arith) in
    by_tests (nat_lt 4294967296 (l.place + length (b ∷ bytes)) || nat_lt most_bytes (l.bytes + length (b ∷ bytes))) l.inside refl (nat_lt (l.segments + 1) too_many_segments) (rw some at is)
  where
    by_tests : (large inside : Bool) → l.inside ≡ inside → (few : Bool)
        → (if large then Err (TooLarge line) else if inside then Ok (behind l.segments (length (b ∷ bytes)) l)
        else if few then Ok (behind (l.segments + 1) (length (b ∷ bytes)) l) else Err (TooLarge l.org_line)) ≡ Ok next
        → Fits next (if inside then record { done = g.done; base = g.base; bytes = g.bytes ++ b ∷ bytes } else record { done = finished g; base = l.place; bytes = b ∷ bytes })
    by_tests true inside at few h = absurd cc
    by_tests false true at few h = let same : behind l.segments (length (b ∷ bytes)) l ≡ next = cc in rw (sym same) (joined l g b bytes fits at)
    by_tests false false at true h = let same : behind (l.segments + 1) (length (b ∷ bytes)) l ≡ next = cc in rw (sym same) (apart l g b bytes fits)
    by_tests false false at false h = absurd cc

go_to-kept : (line : ℕ) (place : Option ℕ) (l next : Layout) (g : GrowingValue) → go_to line place l ≡ Ok next → Fits l g → Fits next g
unfolding go_to
go_to-kept line None l next g is fits = absurd cc
go_to-kept line (Some place) l next g is fits = by_tests (nat_lt place l.place) refl (place == l.place) is
  where
    forth : Layout
    forth = record { place = place; inside = false; bytes = l.bytes; segments = l.segments; org_line = line }

    moved : l.place ≤ place → Fits forth g
    moved le = let within = fits.within in record {
      clear = fits.clear;
      below = fits.below;
      within = omega (arith, within, le);
      joined = λ e. absurd cc;
      counted = fits.counted;
      few = fits.few;
      begun = λ e. absurd cc;
    }

    by_tests : (back : Bool) → nat_lt place l.place ≡ back → (same : Bool)
        → (if back then Err (OrgBackwards line) else if same then Ok l else Ok forth) ≡ Ok next → Fits next g
    by_tests true at same h = absurd cc
    by_tests false at true h = let same : l ≡ next = cc in rw (sym same) fits
    by_tests false at false h = let same : forth ≡ next = cc in rw (sym same) (moved (ltb-false place l.place at))

-- a statement, and as many bytes as it puts
pub advance-grown : (line : ℕ) (statement : StatementValue) (l next : Layout) (g : GrowingValue) (bytes : List ℕ) → advance line statement l ≡ Ok next
    → length bytes ≡ byte_count l.place statement → Fits l g → Fits next (grown l.inside l.place bytes g)
unfolding advance byte_count
advance-grown line (Org number) l next g [] is size fits = go_to-kept line _ l next g is fits
advance-grown line (Org number) l next g (b ∷ bytes) is size fits = absurd (omega arith)
advance-grown line Nothing l next g bytes is size fits = put-grown line l next g bytes (rw size is) fits
advance-grown line (Align multiple) l next g bytes is size fits = put-grown line l next g bytes (rw size is) fits
advance-grown line (Data bits value) l next g bytes is size fits = put-grown line l next g bytes (rw size is) fits
advance-grown line (Equ name value) l next g bytes is size fits = put-grown line l next g bytes (rw size is) fits
advance-grown line (Space count) l next g bytes is size fits = put-grown line l next g bytes (rw size is) fits
advance-grown line (Text text ends) l next g bytes is size fits = put-grown line l next g bytes (rw size is) fits
advance-grown line (Instruction width mnemonic operands) l next g bytes is size fits = put-grown line l next g bytes (rw size is) fits

pub Fits-start : (l : Layout) (g : GrowingValue) → l ≡ start → g ≡ nothing → Fits l g
Fits-start l g first none =
    let Fit : Layout → Type 0 = λ x. Fits x g in
    let With : GrowingValue → Type 0 = λ x. Fits start x in
    subst Fit (sym first) (subst With (sym none) (record {
      clear = refl;
      below = refl;
      within = omega arith;
      joined = λ e. absurd cc;
      counted = refl;
      few = omega arith;
      begun = λ e. absurd cc;
    }))
