-- The segments that a source gives are those of an image, and hold bytes.
use Rattle.std.proofs.Common.{◌≡◌, ◌∙◌, ℕ, zero, suc, ◌+◌, ◌/◌, ◌%◌, ◌<◌, ◌≤◌, ◌==◌, ◌||◌, Bool, true, false, nat_le, nat_lt, List, [], ◌∷◌, ◌++◌, length, Option, Some, None, unwrap_or, Result, Ok, Err, refl, sym, ap, subst, arith}
use Rattle.std.specs.Prelude.{if◌then◌else◌, replicate}
use Rattle.std.proofs.lemmas.Bool.{and_from, and_parts, le-leb, ltb-false, ltb-true, ne_eqb, or_parts}
use Rattle.std.proofs.lemmas.List.{length-append, length-replicate}
use Rattle.tz_asm.specs.FirstPass.{first_pass}
use Rattle.tz_asm.specs.Growing.{Fits, GrowingValue, finished, grown, nothing, with_segment}
use Rattle.tz_asm.specs.Layouts.{advance, behind, byte_count, go_to, org_place, padding, put, size_bytes, start, too_many_segments, width_bytes}
use Rattle.tz_asm.specs.Places.{Places, value_named}
use Rattle.tz_asm.specs.Reading.{said}
use Rattle.tz_asm.specs.Refusals.{◌>>=◌, OrgBackwards, Refusal, TooLarge}
use Rattle.tz_asm.specs.Told.{assembled, second_from, second_turn, written_by}
use Rattle.tz_asm.specs.Values.{data_bytes, in_size, low_first, number_bytes, value_bytes, value_of}
use Rattle.tz_asm.specs.Written.{as_address, code_bytes, coded_bytes, equ_bytes, label_value, text_bytes}
use Rattle.tz_asm.specs.Operands.{ExpressionValue}
use Rattle.tz_asm.specs.declared.layout.Layout.{Layout}
use Rattle.tz_asm.specs.declared.values.Value.{Value}
use Rattle.tz_asm.proofs.Bytes.{code_bytes-length, data_bytes-length, text_bytes-length}
use Rattle.tz_asm.proofs.TextBytes.{AreBytes, HoldsBytes, no_bytes, one_more, said_holds}
use Rattle.tz_asm.proofs.Segments.{Fits-finished, Fits-start, advance-grown}
use Rattle.tz_syntax.specs.Lines.{lines_of}
use Rattle.tz_elf.proofs.Written.{HoldBytes}
use Rattle.tz_model.specs.Board.{most_bytes}
use Rattle.tz_model.specs.Image.{SegmentValue, are_addressed, bytes_in, end_of}
use Rattle.tz_asm.specs.Statements.{StatementValue, Nothing, Org, Align, Data, Equ, Space, Text, Instruction}
use Rattle.tz_asm.specs.CodeTold.{code_told}
use Rattle.tz_asm.specs.declared.code.uncoded.Uncoded.{Uncoded}
use Rattle.tz_table.specs.declared.units.Code.{Code}
use Rattle.tz_table.specs.declared.units.Size.{Size}
use Rattle.tz_table.specs.declared.units.Width.{Width}
use Rattle.tz_table.specs.declared.units.Width.TheVariants.{Narrow, Wide}

-- ---- bytes

both : (xs ys : List ℕ) → AreBytes xs → AreBytes ys → AreBytes (xs ++ ys)
both [] ys h i = i
both (x ∷ xs) ys h i = one_more x (xs ++ ys) (h 0) (both xs ys (λ k. h (suc k)) i)

low_bytes : (count n : ℕ) → AreBytes (low_first count n)
unfolding low_first
low_bytes zero n = no_bytes
low_bytes (suc count) n = one_more (n % 256) (low_first count (n / 256)) (omega arith) (low_bytes count (n / 256))

zeros : (n : ℕ) → AreBytes (replicate n 0)
zeros zero = no_bytes
zeros (suc n) = one_more 0 (replicate n 0) (omega arith) (zeros n)

-- bytes of a statement, as many as it puts
record Puts (place : ℕ) (statement : StatementValue) (bytes : List ℕ) : Type 0 where
  pub bytes_are : AreBytes bytes
  pub count : length bytes ≡ byte_count place statement

given : (xs bytes : List ℕ) → ◌≡◌ {A = Result (List ℕ) Refusal} (Ok xs) (Ok bytes) → xs ≡ bytes
given xs bytes h = cc

number_puts : (line : ℕ) (size : Size) (o : Option ℕ) (bytes : List ℕ) → number_bytes line size o ≡ Ok bytes → AreBytes bytes
number_puts line size None bytes h = cc
number_puts line size (Some n) bytes h = subst AreBytes (given (low_first (size_bytes size) n) bytes h) (low_bytes (size_bytes size) n)

value_puts : (line : ℕ) (size : Size) (o : Option Value) (bytes : List ℕ) → value_bytes line size o ≡ Ok bytes → AreBytes bytes
value_puts line size None bytes h = cc
value_puts line size (Some v) bytes h = number_puts line size (in_size size v) bytes h

code_puts : (w : Width) (code : Code) → AreBytes (code_bytes w code)
code_puts Narrow code = low_bytes 2 code.first
code_puts Wide code = both (low_first 2 code.first) (low_first 2 (unwrap_or code.second 0)) (low_bytes 2 code.first) (low_bytes 2 (unwrap_or code.second 0))

abbrev HasWidth : Width → List ℕ → Type 0
HasWidth w bytes = AreBytes bytes × (length bytes ≡ width_bytes w)

coded_puts : (line : ℕ) (label : Option Value) (w : Width) (r : Result Code Uncoded) (bytes : List ℕ) → coded_bytes line label w r ≡ Ok bytes → HasWidth w bytes
coded_puts line label w (Err cause) bytes h = cc
coded_puts line label w (Ok code) bytes h = subst (HasWidth w) (given (code_bytes w code) bytes h) (code_puts w code, code_bytes-length w code)

equ_puts : (line place : ℕ) (name : List ℕ) (e : ExpressionValue) (o : Option Value) (bytes : List ℕ) → equ_bytes line o ≡ Ok bytes → Puts place (Equ name e) bytes
unfolding byte_count
equ_puts line place name e None bytes h = cc
equ_puts line place name e (Some v) bytes h = let same = given [] bytes h in record { bytes_are = subst AreBytes same no_bytes; count = ap length (sym same) }

text_puts : (text : List ℕ) (ends : Bool) → AreBytes text → AreBytes (text_bytes text ends)
text_puts text true h = both text (0 ∷ []) h (one_more 0 [] (omega arith) no_bytes)
text_puts text false h = h

written_puts : (line : ℕ) (places : Places) (place : ℕ) (statement : StatementValue) (bytes : List ℕ) → HoldsBytes statement → written_by line places place statement ≡ Ok bytes → Puts place statement bytes
unfolding written_by byte_count data_bytes
written_puts line places place Nothing bytes holds h = let same = given [] bytes h in record { bytes_are = subst AreBytes same no_bytes; count = ap length (sym same) }
written_puts line places place (Org number) bytes holds h = let same = given [] bytes h in record { bytes_are = subst AreBytes same no_bytes; count = ap length (sym same) }
written_puts line places place (Align multiple) bytes holds h =
    let same = given (replicate (padding multiple place) 0) bytes h in
    record { bytes_are = subst AreBytes same (zeros (padding multiple place)); count = ap length (sym same) ∙ length-replicate (padding multiple place) 0 }
written_puts line places place (Data size e) bytes holds h =
    record { bytes_are = value_puts line size (value_of places e) bytes h; count = data_bytes-length line places size e bytes h }
written_puts line places place (Equ name e) bytes holds h = equ_puts line place name e (value_named places name) bytes h
written_puts line places place (Space count) bytes holds h =
    let same = given (replicate count 0) bytes h in
    record { bytes_are = subst AreBytes same (zeros count); count = ap length (sym same) ∙ length-replicate count 0 }
written_puts line places place (Text text ends) bytes holds h =
    let same = given (text_bytes text ends) bytes h in
    record { bytes_are = subst AreBytes same (text_puts text ends holds); count = ap length (sym same) ∙ text_bytes-length text ends }
written_puts line places place (Instruction w mnemonic operands) bytes holds h =
    let puts = coded_puts line (label_value places operands) w (code_told mnemonic operands place (as_address (label_value places operands))) bytes h in
    record { bytes_are = puts.0; count = puts.1 }

-- ---- segments that grow

hold_push : (done : List SegmentValue) (s : SegmentValue) → HoldBytes done → AreBytes s.bytes → HoldBytes (done ++ s ∷ [])
hold_push [] s h b = (b, tt)
hold_push (q ∷ done) s h b = (h.0, hold_push done s h.1 b)

addressed_push : (done : List SegmentValue) (s : SegmentValue) → are_addressed done ≡ true → end_of s ≤ 4294967296 → are_addressed (done ++ s ∷ []) ≡ true
addressed_push [] s h l = and_from (nat_le (end_of s) 4294967296) true (le-leb (end_of s) 4294967296 l) refl
addressed_push (q ∷ done) s h l =
    let parts = and_parts (nat_le (end_of q) 4294967296) (are_addressed done) h in
    and_from (nat_le (end_of q) 4294967296) (are_addressed (done ++ s ∷ [])) parts.0 (addressed_push done s parts.1 l)

-- what is known of them beside how they fit a layout
record More (l : Layout) (g : GrowingValue) : Type 0 where
  pub few : l.bytes ≤ most_bytes
  pub segments : l.segments ≤ 65535
  pub addressed : are_addressed (finished g) ≡ true
  pub hold : HoldBytes (finished g)
  pub done_addressed : are_addressed g.done ≡ true
  pub done_hold : HoldBytes g.done
  pub bytes : AreBytes g.bytes

finished_addressed : (done : List SegmentValue) (base : ℕ) (bytes : List ℕ) → are_addressed done ≡ true → (0 < length bytes → base + length bytes ≤ 4294967296) → are_addressed (with_segment done base bytes) ≡ true
finished_addressed done base [] h l = h
finished_addressed done base (b ∷ bytes) h l = addressed_push done (record { base = base; bytes = b ∷ bytes }) h (l (omega arith))

finished_hold : (done : List SegmentValue) (base : ℕ) (bytes : List ℕ) → HoldBytes done → AreBytes bytes → HoldBytes (with_segment done base bytes)
finished_hold done base [] h b = h
finished_hold done base (x ∷ bytes) h b = hold_push done (record { base = base; bytes = x ∷ bytes }) h b

-- more bytes in the segment that grows, or in a new one
more_inside : (l : Layout) (g : GrowingValue) (b : ℕ) (bytes : List ℕ) → l.inside ≡ true → Fits l g → More l g → AreBytes (b ∷ bytes) → l.place + length (b ∷ bytes) ≤ 4294967296
    → l.bytes + length (b ∷ bytes) ≤ most_bytes → More (behind l.segments (length (b ∷ bytes)) l) (record { done = g.done; base = g.base; bytes = g.bytes ++ b ∷ bytes })
more_inside l g b bytes inside fits m are fit small =
    let joined = fits.joined inside in
    let all = length-append g.bytes (b ∷ bytes) in
    let whole = both g.bytes (b ∷ bytes) m.bytes are in
    record {
      few = small;
      segments = m.segments;
      addressed = finished_addressed g.done g.base (g.bytes ++ b ∷ bytes) m.done_addressed (λ some. omega (arith, joined, all, fit));
      hold = finished_hold g.done g.base (g.bytes ++ b ∷ bytes) m.done_hold whole;
      done_addressed = m.done_addressed;
      done_hold = m.done_hold;
      bytes = whole;
    }

more_apart : (l : Layout) (g : GrowingValue) (b : ℕ) (bytes : List ℕ) → More l g → AreBytes (b ∷ bytes) → l.place + length (b ∷ bytes) ≤ 4294967296
    → l.bytes + length (b ∷ bytes) ≤ most_bytes → l.segments + 1 < 65536 → More (behind (l.segments + 1) (length (b ∷ bytes)) l) (record { done = finished g; base = l.place; bytes = b ∷ bytes })
more_apart l g b bytes m are fit small next = record {
  few = small;
  segments = omega (arith, next);
  addressed = finished_addressed (finished g) l.place (b ∷ bytes) m.addressed (λ some. fit);
  hold = finished_hold (finished g) l.place (b ∷ bytes) m.hold are;
  done_addressed = m.addressed;
  done_hold = m.hold;
  bytes = are;
}

put_more : (line : ℕ) (l next : Layout) (g : GrowingValue) (bytes : List ℕ) → put line (length bytes) l ≡ Ok next → AreBytes bytes → Fits l g → More l g → More next (grown l.inside l.place bytes g)
unfolding put
put_more line l next g [] is are fits m = let same : l ≡ next = cc in subst (λ x. More x g) same m
put_more line l next g (b ∷ bytes) is are fits m =
    let some : (length (b ∷ bytes) == 0) ≡ false = ne_eqb (length (b ∷ bytes)) 0 (λ h. omega arith) in
    by_tests _ refl l.inside refl _ refl (rw some at is)
  where
    by_tests : (large : Bool) → (nat_lt 4294967296 (l.place + length (b ∷ bytes)) || nat_lt most_bytes (l.bytes + length (b ∷ bytes))) ≡ large → (inside : Bool) → l.inside ≡ inside
        → (few : Bool) → nat_lt (l.segments + 1) too_many_segments ≡ few
        → (if nat_lt 4294967296 (l.place + length (b ∷ bytes)) || nat_lt most_bytes (l.bytes + length (b ∷ bytes)) then Err (TooLarge line) else if l.inside then Ok (behind l.segments (length (b ∷ bytes)) l)
        else if nat_lt (l.segments + 1) too_many_segments then Ok (behind (l.segments + 1) (length (b ∷ bytes)) l) else Err (TooLarge l.org_line)) ≡ Ok next
        → More next (grown l.inside l.place (b ∷ bytes) g)
    by_tests true big inside at few f h = absurd (let no = rw big at h in cc)
    by_tests false big true at few f h =
        let sizes = or_parts (nat_lt 4294967296 (l.place + length (b ∷ bytes))) (nat_lt most_bytes (l.bytes + length (b ∷ bytes))) big in
        let same : behind l.segments (length (b ∷ bytes)) l ≡ next = let yes = rw (big, at) at h in cc in
        rw at (subst (λ x. More x (record { done = g.done; base = g.base; bytes = g.bytes ++ b ∷ bytes })) same
        (more_inside l g b bytes at fits m are (ltb-false 4294967296 (l.place + length (b ∷ bytes)) sizes.0) (ltb-false most_bytes (l.bytes + length (b ∷ bytes)) sizes.1)))
    by_tests false big false at true f h =
        let sizes = or_parts (nat_lt 4294967296 (l.place + length (b ∷ bytes))) (nat_lt most_bytes (l.bytes + length (b ∷ bytes))) big in
        let same : behind (l.segments + 1) (length (b ∷ bytes)) l ≡ next = let yes = rw (big, at, f) at h in cc in
        rw at (subst (λ x. More x (record { done = finished g; base = l.place; bytes = b ∷ bytes })) same
        (more_apart l g b bytes m are (ltb-false 4294967296 (l.place + length (b ∷ bytes)) sizes.0) (ltb-false most_bytes (l.bytes + length (b ∷ bytes)) sizes.1)
        (ltb-true (l.segments + 1) too_many_segments f)))
    by_tests false big false at false f h = absurd (let no = rw (big, at, f) at h in cc)

moved_more : (l next : Layout) (g : GrowingValue) → next.bytes ≡ l.bytes → next.segments ≡ l.segments → More l g → More next g
moved_more l next g b s m = record {
  few = let few = m.few in omega (arith, few, b);
  segments = let few = m.segments in omega (arith, few, s);
  addressed = m.addressed;
  hold = m.hold;
  done_addressed = m.done_addressed;
  done_hold = m.done_hold;
  bytes = m.bytes;
}

go_to_more : (line : ℕ) (o : Option ℕ) (l next : Layout) (g : GrowingValue) → go_to line o l ≡ Ok next → More l g → More next g
unfolding go_to
go_to_more line None l next g is m = cc
go_to_more line (Some place) l next g is m = by_tests (nat_lt place l.place) (place == l.place) is
  where
    forth : Layout
    forth = record { place = place; inside = false; bytes = l.bytes; segments = l.segments; org_line = line }

    by_tests : (back here : Bool) → (if back then Err (OrgBackwards line) else if here then Ok l else Ok forth) ≡ Ok next → More next g
    by_tests true here h = cc
    by_tests false true h = let same : l ≡ next = cc in subst (λ x. More x g) same m
    by_tests false false h = let same : forth ≡ next = cc in subst (λ x. More x g) same (moved_more l forth g refl refl m)

advance_more : (line : ℕ) (statement : StatementValue) (l next : Layout) (g : GrowingValue) (bytes : List ℕ) → advance line statement l ≡ Ok next → Puts l.place statement bytes
    → Fits l g → More l g → More next (grown l.inside l.place bytes g)
unfolding advance byte_count
advance_more line (Org number) l next g [] is puts fits m = go_to_more line (org_place number) l next g is m
advance_more line (Org number) l next g (b ∷ bytes) is puts fits m = let none = puts.count in absurd (omega (arith, none))
advance_more line Nothing l next g bytes is puts fits m = put_more line l next g bytes (rw puts.count is) puts.bytes_are fits m
advance_more line (Align multiple) l next g bytes is puts fits m = put_more line l next g bytes (rw puts.count is) puts.bytes_are fits m
advance_more line (Data size e) l next g bytes is puts fits m = put_more line l next g bytes (rw puts.count is) puts.bytes_are fits m
advance_more line (Equ name e) l next g bytes is puts fits m = put_more line l next g bytes (rw puts.count is) puts.bytes_are fits m
advance_more line (Space count) l next g bytes is puts fits m = put_more line l next g bytes (rw puts.count is) puts.bytes_are fits m
advance_more line (Text text ends) l next g bytes is puts fits m = put_more line l next g bytes (rw puts.count is) puts.bytes_are fits m
advance_more line (Instruction w mnemonic operands) l next g bytes is puts fits m = put_more line l next g bytes (rw puts.count is) puts.bytes_are fits m

-- ---- the second pass

bound : {A B : Type 0} (r : Result A Refusal) (f : A → Result B Refusal) (y : B) → (r >>= f) ≡ Ok y → (x : A) × ((r ≡ Ok x) × (f x ≡ Ok y))
bound (Ok x) f y h = (x, (refl, h))
bound (Err e) f y h = cc

-- a state of the second pass
abbrev Sound : Layout × GrowingValue → Type 0
Sound s = Fits s.0 s.1 × More s.0 s.1

turn_sound : (line : ℕ) (places : Places) (l : Layout) (g : GrowingValue) (text : List ℕ) (s : Layout × GrowingValue) → second_turn line places l g text ≡ Ok s → Sound (l, g) → Sound s
unfolding second_turn
turn_sound line places l g text s h sound =
    let one = bound (said line text) _ s h in
    let two = bound (advance line one.0.statement l) _ s one.1.1 in
    let three = bound (written_by line places l.place one.0.statement) _ s two.1.1 in
    let puts = written_puts line places l.place one.0.statement three.0 (said_holds line text one.0 one.1.0) three.1.0 in
    let same : (two.0, grown l.inside l.place three.0 g) ≡ s = let last = three.1.1 in cc in
    subst Sound same (advance-grown line one.0.statement l two.0 g three.0 two.1.0 puts.count sound.0, advance_more line one.0.statement l two.0 g three.0 two.1.0 puts sound.0 sound.1)

-- what segments have that can be written and read back
pub record Good (segments : List SegmentValue) : Type 0 where
  pub addressed : are_addressed segments ≡ true
  pub hold : HoldBytes segments
  pub small : bytes_in segments ≤ most_bytes
  pub few : length segments < 65536

finished_good : (l : Layout) (g : GrowingValue) → Sound (l, g) → Good (finished g)
finished_good l g s =
    let count = (Fits-finished l g s.0).counted in
    let most = s.1.few in
    let number = s.0.few in
    let some = s.1.segments in
    record {
      addressed = s.1.addressed;
      hold = s.1.hold;
      small = omega (arith, count, most);
      few = omega (arith, number, some);
    }

pass_good : (line : ℕ) (places : Places) (l : Layout) (g : GrowingValue) (texts : List (List ℕ)) (segments : List SegmentValue) → second_from line places l g texts ≡ Ok segments → Sound (l, g)
    → Good segments
unfolding second_from
pass_good line places l g [] segments h s = let same : finished g ≡ segments = cc in subst Good same (finished_good l g s)
pass_good line places l g (text ∷ texts) segments h s =
    let one = bound (second_turn line places l g text) _ segments h in
    pass_good (line + 1) places one.0.0 one.0.1 texts segments one.1.1 (turn_sound line places l g text one.0 one.1.0 s)

none_yet : More start nothing
none_yet = record {
  few = omega arith;
  segments = omega arith;
  addressed = refl;
  hold = tt;
  done_addressed = refl;
  done_hold = tt;
  bytes = no_bytes;
}

pub assembled_good : (source : List ℕ) (segments : List SegmentValue) → assembled source ≡ Ok segments → Good segments
unfolding assembled
assembled_good source segments h =
    let one = bound (first_pass source) _ segments h in
    pass_good 1 one.0 start nothing (lines_of source) segments one.1.1 (Fits-start start nothing refl refl, none_yet)
