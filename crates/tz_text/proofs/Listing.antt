-- What is left to list, one line at a time.
use Rattle.std.proofs.Common.{◌≡◌, ◌≢◌, ◌∙◌, ◌<◌, ◌≤◌, ◌+◌, ◌-◌, ◌%◌, ℕ, zero, suc, Bool, true, false, refl, sym, ap, subst, arith, List, [], ◌∷◌, ◌++◌, length, drop, append_assoc, append-nil, length-append, length-drop, add-zero, flat_map, Option, Some, None, inl, inr, ◌==◌, nat_lt, ◌||◌}
use Rattle.std.proofs.lemmas.Bool.{cases_eq, cases_lt, cond_both, eq-eqb, eqb-false, eqb-true, ne_eqb, le-ltb, ltb-false, or_parts}
use Rattle.tz_model.specs.Image.{SegmentValue, are_addressed}
use Rattle.tz_text.specs.declared.disassembly.fronts.Front.{Front}
use Rattle.tz_text.specs.declared.disassembly.fronts.Front.TheVariants.{Byte, Half, Whole}
use Rattle.tz_text.specs.Fronts.{begun, code_size, first_alone, front_of, half_at, line_of, read_front, second_half, settled, size_of, text_at}
use Rattle.tz_text.specs.declared.disassembly.rest.Rest.{Rest}
use Rattle.tz_text.specs.Rests.{EndsAt, IsAtEnd, LiesBelow, rest_text}
use Rattle.tz_text.specs.Runs.{joined, joined_from}
use Rattle.tz_text.specs.Text.{lines_from, run_text, text_left}

-- ---- how many bytes stand at the front

code_size_from : (o : Option ℕ) → 2 ≤ code_size o
code_size_from None = omega arith
code_size_from (Some second) = omega arith

size_some : (f : Front) → 0 < size_of f
size_some (Byte b) = omega arith
size_some (Half h) = omega arith
size_some (Whole code) = let l = code_size_from code.second in omega arith

size_alone : (f : Front) → size_of (first_alone f) ≤ size_of f
size_alone (Byte b) = omega arith
size_alone (Half h) = omega arith
size_alone (Whole code) = code_size_from code.second

size_settled : (text : List ℕ) (f : Front) → size_of (settled text f) ≤ size_of f
size_settled [] f = size_alone f
size_settled (c ∷ text) f = omega arith

size_begun : (first n : ℕ) (o : Option ℕ) → 2 ≤ n → (o ≢ None → 4 ≤ n) → size_of (begun first o) ≤ n
size_begun first n None two four = cond_both (nat_lt first 0xe800) _ _ (λ (f : Front). size_of f ≤ n) (λ _. two) (λ _. two)
size_begun first n (Some second) two four = cond_both (nat_lt first 0xe800) _ _ (λ (f : Front). size_of f ≤ n) (λ _. two) (λ _. four (λ e. cc))

size_read : (at : ℕ) (bytes : List ℕ) → 0 < length bytes → size_of (read_front at bytes) ≤ length bytes
size_read at bytes some =
    cond_both ((at % 2 == 1) || nat_lt (length bytes) 2) _ _ (λ (f : Front). size_of f ≤ length bytes) (λ _. some)
    (λ e. size_begun (half_at bytes 0) (length bytes) (second_half bytes) (ltb-false (length bytes) 2 (or_parts _ _ e).1) four)
  where
    four : second_half bytes ≢ None → 4 ≤ length bytes
    four = cond_both (nat_lt (length bytes) 4) None (Some (half_at bytes 2)) (λ (o : Option ℕ). o ≢ None → 4 ≤ length bytes)
        (λ _ no. absurd (no refl)) (λ e _. ltb-false (length bytes) 4 e)

pub size_within : (at : ℕ) (bytes : List ℕ) → 0 < length bytes → size_of (front_of at bytes) ≤ length bytes
unfolding front_of
size_within at bytes some =
    let a = size_settled (text_at at (read_front at bytes)) (read_front at bytes) in let b = size_read at bytes some in omega arith

-- ---- where there is no text

settled_none : (text : List ℕ) (f : Front) → length text ≡ 0 → settled text f ≡ first_alone f
settled_none [] f e = refl
settled_none (c ∷ text) f e = absurd (omega arith)

settled_some : (text : List ℕ) (f : Front) → length text ≢ 0 → settled text f ≡ f
settled_some [] f e = absurd (e refl)
settled_some (c ∷ text) f e = refl

module _ (at : ℕ) (bytes text : List ℕ) (f : Front) (b : Bool) (front : f ≡ read_front at bytes) (is : text ≡ text_at at f) (test : b ≡ (length text == 0)) where
  pub front_none : b ≡ true → front_of at bytes ≡ first_alone f
  unfolding front_of
  front_none h =
      let none : length text ≡ 0 = eqb-true (length text) 0 (sym test ∙ h) in
      ap (λ (x : Front). settled (text_at at x) x) (sym front) ∙ ap (λ (x : List ℕ). settled x f) (sym is) ∙ settled_none text f none

  pub front_some : b ≡ false → front_of at bytes ≡ f
  unfolding front_of
  front_some h =
      let some : length text ≢ 0 = eqb-false (length text) 0 (sym test ∙ h) in
      ap (λ (x : Front). settled (text_at at x) x) (sym front) ∙ ap (λ (x : List ℕ). settled x f) (sym is) ∙ settled_some text f some

-- ---- four bytes tell the front

read_four : (at a b c d : ℕ) (more : List ℕ) → read_front at (a ∷ b ∷ c ∷ d ∷ more) ≡ read_front at (a ∷ b ∷ c ∷ d ∷ [])
read_four at a b c d more =
    let two : nat_lt (length (a ∷ b ∷ c ∷ d ∷ more)) 2 ≡ false = le-ltb _ _ (omega arith) in
    let four : nat_lt (length (a ∷ b ∷ c ∷ d ∷ more)) 4 ≡ false = le-ltb _ _ (omega arith) in
    rw (two, four) refl

front_four : (at : ℕ) (w more : List ℕ) → length w ≡ 4 → front_of at (w ++ more) ≡ front_of at w
unfolding front_of
front_four at (a ∷ b ∷ c ∷ d ∷ []) more e = ap (λ (f : Front). settled (text_at at f) f) (read_four at a b c d more)
front_four at [] more e = absurd (omega arith)
front_four at (a ∷ []) more e = absurd (omega arith)
front_four at (a ∷ b ∷ []) more e = absurd (omega arith)
front_four at (a ∷ b ∷ c ∷ []) more e = absurd (omega arith)
front_four at (a ∷ b ∷ c ∷ d ∷ x ∷ w) more e = absurd (omega arith)

-- ---- lines of a run

lines_behind : (at : ℕ) (bytes : List ℕ) (k : ℕ) → lines_from at bytes k ≡ lines_from (at + k) (drop k bytes) 0
unfolding lines_from
lines_behind at [] zero = refl
lines_behind at [] (suc k) = refl
lines_behind at (b ∷ bytes) zero = rw add-zero refl
lines_behind at (b ∷ bytes) (suc k) =
    let e : at + 1 + k ≡ at + suc k = omega arith in
    lines_behind (at + 1) bytes k ∙ ap (λ (n : ℕ). lines_from n (drop k bytes) 0) e

first_line : (at b : ℕ) (bytes : List ℕ) → lines_from at (b ∷ bytes) 0
    ≡ line_of at (front_of at (b ∷ bytes)) ++ lines_from (at + size_of (front_of at (b ∷ bytes))) (drop (size_of (front_of at (b ∷ bytes))) (b ∷ bytes)) 0
unfolding lines_from
first_line at b bytes = by (size_of (front_of at (b ∷ bytes))) (size_some (front_of at (b ∷ bytes)))
  where
    by : (n : ℕ) → 0 < n → line_of at (front_of at (b ∷ bytes)) ++ lines_from (at + 1) bytes (n - 1) ≡ line_of at (front_of at (b ∷ bytes)) ++ lines_from (at + n) (drop n (b ∷ bytes)) 0
    by zero l = absurd (omega arith)
    by (suc n) l =
        let e : suc n - 1 ≡ n = omega arith in
        let p : at + 1 + n ≡ at + suc n = omega arith in
        ap (λ (x : List ℕ). line_of at (front_of at (b ∷ bytes)) ++ x)
        (ap (lines_from (at + 1) bytes) e ∙ lines_behind (at + 1) bytes n ∙ ap (λ (m : ℕ). lines_from m (drop n bytes) 0) p)

drop_front : (n : ℕ) (w more : List ℕ) → n ≤ length w → drop n (w ++ more) ≡ drop n w ++ more
drop_front zero w more l = refl
drop_front (suc n) [] more l = absurd (omega arith)
drop_front (suc n) (x ∷ w) more l = drop_front n w more (omega arith)

-- the first line of bytes, of which the first ones tell their front
run_line : (at : ℕ) (w more : List ℕ) → 0 < length w → front_of at (w ++ more) ≡ front_of at w
    → lines_from at (w ++ more) 0 ≡ line_of at (front_of at w) ++ lines_from (at + size_of (front_of at w)) (drop (size_of (front_of at w)) w ++ more) 0
run_line at [] more some same = absurd (omega arith)
run_line at (b ∷ w) more some same =
    first_line at b (w ++ more)
    ∙ ap (λ (f : Front). line_of at f ++ lines_from (at + size_of f) (drop (size_of f) (b ∷ w ++ more)) 0) same
    ∙ ap (λ (x : List ℕ). line_of at (front_of at (b ∷ w)) ++ lines_from (at + size_of (front_of at (b ∷ w))) x 0)
    (drop_front (size_of (front_of at (b ∷ w))) (b ∷ w) more (size_within at (b ∷ w) some))

whole_line : (at : ℕ) (w : List ℕ) → 0 < length w
    → lines_from at w 0 ≡ line_of at (front_of at w) ++ lines_from (at + size_of (front_of at w)) (drop (size_of (front_of at w)) w) 0
whole_line at [] some = absurd (omega arith)
whole_line at (b ∷ w) some = first_line at b w

-- ---- what is left

-- a segment that begins where bytes end goes on with them
pub text_touching : (at : ℕ) (bytes : List ℕ) (s : SegmentValue) (more : List SegmentValue) → at + length bytes ≡ s.base → text_left at bytes (s ∷ more) ≡ text_left at (bytes ++ s.bytes) more
unfolding joined_from
text_touching at bytes s more e = rw (eq-eqb (at + length bytes) s.base e) refl

-- another begins a run
text_apart : (at : ℕ) (bytes : List ℕ) (s : SegmentValue) (more : List SegmentValue) → at + length bytes ≢ s.base
    → text_left at bytes (s ∷ more) ≡ lines_from at bytes 0 ++ text_left s.base s.bytes more
unfolding joined_from
text_apart at bytes s more e = rw (ne_eqb (at + length bytes) s.base e) refl

text_last : (at : ℕ) (bytes : List ℕ) → text_left at bytes [] ≡ lines_from at bytes 0 ++ []
unfolding joined_from
text_last at bytes = refl

-- where no bytes are left, the next segment begins a run
pub text_empty : (at : ℕ) (s : SegmentValue) (more : List SegmentValue) → text_left at [] (s ∷ more) ≡ text_left s.base s.bytes more
unfolding lines_from
text_empty at s more =
    elim (cases_eq at s.base) [
      | inl e ↦
          let here : at + length {A = ℕ} [] ≡ s.base = omega arith in
          text_touching at [] s more here ∙ ap (λ (n : ℕ). text_left n s.bytes more) e
      | inr ne ↦ text_apart at [] s more (λ e. ne (omega arith))
    ]

pub text_none : (at : ℕ) → text_left at [] [] ≡ []
unfolding joined_from lines_from
text_none at = refl

-- all runs are left where no bytes are
pub text_all : (segments : List SegmentValue) → text_left 0 [] segments ≡ flat_map run_text (joined segments)
text_all [] = text_none 0
text_all (s ∷ more) = text_empty 0 s more

-- the first line of four bytes or more
pub text_four : (at : ℕ) (w more : List ℕ) (segments : List SegmentValue) → length w ≡ 4
    → text_left at (w ++ more) segments ≡ line_of at (front_of at w) ++ text_left (at + size_of (front_of at w)) (drop (size_of (front_of at w)) w ++ more) segments
text_four at w more [] e =
    let line = run_line at w more (omega arith) (front_four at w more e) in
    text_last at (w ++ more) ∙ ap (λ (x : List ℕ). x ++ []) line
    ∙ append_assoc (line_of at (front_of at w)) (lines_from (at + size_of (front_of at w)) (drop (size_of (front_of at w)) w ++ more) 0) []
    ∙ ap (λ (x : List ℕ). line_of at (front_of at w) ++ x) (sym (text_last (at + size_of (front_of at w)) (drop (size_of (front_of at w)) w ++ more)))
text_four at w more (s ∷ segments) e =
    let line = run_line at w more (omega arith) (front_four at w more e) in
    let size = size_within at w (omega arith) in
    let long = length-append w more in
    let left = length-append (drop (size_of (front_of at w)) w) more in
    let dropped = length-drop (size_of (front_of at w)) w in
    elim (cases_eq (at + length (w ++ more)) s.base) [
      | inl touches ↦
          text_touching at (w ++ more) s segments touches
          ∙ ap (λ (x : List ℕ). text_left at x segments) (append_assoc w more s.bytes)
          ∙ text_four at w (more ++ s.bytes) segments e
          ∙ ap (λ (x : List ℕ). line_of at (front_of at w) ++ text_left (at + size_of (front_of at w)) x segments) (sym (append_assoc (drop (size_of (front_of at w)) w) more s.bytes))
          ∙ ap (λ (x : List ℕ). line_of at (front_of at w) ++ x) (sym (text_touching (at + size_of (front_of at w)) (drop (size_of (front_of at w)) w ++ more) s segments (omega (arith, touches))))
      | inr apart ↦
          text_apart at (w ++ more) s segments apart ∙ ap (λ (x : List ℕ). x ++ text_left s.base s.bytes segments) line
          ∙ append_assoc (line_of at (front_of at w)) (lines_from (at + size_of (front_of at w)) (drop (size_of (front_of at w)) w ++ more) 0) (text_left s.base s.bytes segments)
          ∙ ap (λ (x : List ℕ). line_of at (front_of at w) ++ x) (sym (text_apart (at + size_of (front_of at w)) (drop (size_of (front_of at w)) w ++ more) s segments (λ t. apart (omega (arith, t)))))
    ]

-- no segment begins where bytes end
abbrev pub IsLast : ℕ → List SegmentValue → Type 0
IsLast end [] = Unit {0}
IsLast end (s ∷ more) = end ≢ s.base

-- the first line of all the bytes that a run has
pub text_short : (at : ℕ) (w : List ℕ) (segments : List SegmentValue) → 0 < length w → IsLast (at + length w) segments
    → text_left at w segments ≡ line_of at (front_of at w) ++ text_left (at + size_of (front_of at w)) (drop (size_of (front_of at w)) w) segments
text_short at w [] some last =
    text_last at w ∙ ap (λ (x : List ℕ). x ++ []) (whole_line at w some)
    ∙ append_assoc (line_of at (front_of at w)) (lines_from (at + size_of (front_of at w)) (drop (size_of (front_of at w)) w) 0) []
    ∙ ap (λ (x : List ℕ). line_of at (front_of at w) ++ x) (sym (text_last (at + size_of (front_of at w)) (drop (size_of (front_of at w)) w)))
text_short at w (s ∷ segments) some last =
    let size = size_within at w some in
    let dropped = length-drop (size_of (front_of at w)) w in
    text_apart at w s segments last ∙ ap (λ (x : List ℕ). x ++ text_left s.base s.bytes segments) (whole_line at w some)
    ∙ append_assoc (line_of at (front_of at w)) (lines_from (at + size_of (front_of at w)) (drop (size_of (front_of at w)) w) 0) (text_left s.base s.bytes segments)
    ∙ ap (λ (x : List ℕ). line_of at (front_of at w) ++ x) (sym (text_apart (at + size_of (front_of at w)) (drop (size_of (front_of at w)) w) s segments (λ t. last (omega (arith, t)))))

last_from : (end : ℕ) (w : List ℕ) (segments : List SegmentValue) → EndsAt end w segments → IsLast end segments
last_from end w [] h = tt
last_from end w (s ∷ segments) h = h.1

-- the same of the bytes that wait: four of them, or all that the run has
pub text_next : (rest : Rest) → 0 < length rest.waiting.items → length rest.waiting.items ≤ 4 → (length rest.waiting.items < 4 → IsAtEnd rest)
    → rest_text rest ≡ line_of rest.at (front_of rest.at rest.waiting.items)
    ++ text_left (rest.at + size_of (front_of rest.at rest.waiting.items)) (drop (size_of (front_of rest.at rest.waiting.items)) rest.waiting.items ++ rest.here.now) rest.segments.now
text_next rest some few end =
    let w = rest.waiting.items in
    let size = size_of (front_of rest.at w) in
    elim (cases_lt (length w) 4) [
      | inr four ↦ text_four rest.at w rest.here.now rest.segments.now (omega arith)
      | inl short ↦
          let none : rest.here.now ≡ [] = (end short).here in
          ap (λ (x : List ℕ). text_left rest.at (w ++ x) rest.segments.now) none
          ∙ ap (λ (x : List ℕ). text_left rest.at x rest.segments.now) (append-nil w)
          ∙ text_short rest.at w rest.segments.now some (last_from (rest.at + length w) w rest.segments.now (end short).segments)
          ∙ ap (λ (x : List ℕ). line_of rest.at (front_of rest.at w) ++ text_left (rest.at + size) x rest.segments.now)
          (sym (ap (λ (x : List ℕ). drop size w ++ x) none ∙ append-nil (drop size w)))
    ]

-- ---- what is left, as the code goes on

nil_from : (xs : List ℕ) → length xs ≡ 0 → xs ≡ []
nil_from [] e = refl
nil_from (x ∷ xs) e = absurd (omega arith)

ends : (at end : ℕ) (w here : List ℕ) (segments : List SegmentValue) → w ≡ [] → here ≡ [] → EndsAt end w segments → text_left at (w ++ here) segments ≡ []
ends at end w here [] e h a = rw (e, h) (text_none at)
ends at end w here (s ∷ segments) e h a = absurd (a.0 e)

-- nothing is left where no byte waits
pub text_end : (rest : Rest) → length rest.waiting.items ≡ 0 → IsAtEnd rest → rest_text rest ≡ []
text_end rest none end =
    ends rest.at (rest.at + length rest.waiting.items) rest.waiting.items rest.here.now rest.segments.now (nil_from rest.waiting.items none) end.here end.segments

-- a segment that is entered where no byte waits
pub enter_empty : (at at' : ℕ) (w here bytes : List ℕ) (s : SegmentValue) (segments more : List SegmentValue)
    → length w ≡ 0 → here ≡ [] → segments ≡ s ∷ more → at' ≡ s.base → bytes ≡ s.bytes → text_left at' (w ++ bytes) more ≡ text_left at (w ++ here) segments
enter_empty at at' w here bytes s segments more none h is base same =
    let nil = nil_from w none in
    rw (nil, h, is, base, same) (sym (text_empty at s more))

-- one that goes on with the bytes that wait
pub enter_touching : (at : ℕ) (w here bytes : List ℕ) (s : SegmentValue) (segments more : List SegmentValue)
    → here ≡ [] → segments ≡ s ∷ more → at + length w ≡ s.base → bytes ≡ s.bytes → text_left at (w ++ bytes) more ≡ text_left at (w ++ here) segments
enter_touching at w here bytes s segments more h is base same =
    rw (h, is, same) (sym (ap (λ (x : List ℕ). text_left at x (s ∷ more)) (append-nil w) ∙ text_touching at w s more base))

module _ (old rest after : Rest) (line bytes : List ℕ) (n : ℕ) (same : bytes ≡ rest.waiting.items) (some : 0 < length rest.waiting.items)
    (size : n ≡ size_of (front_of rest.at bytes)) (at : after.at ≡ rest.at + n) (waiting : after.waiting.items ≡ drop n rest.waiting.items)
    (here : after.here.now ≡ rest.here.now) (segments : after.segments.now ≡ rest.segments.now) where
  -- a line, and what is left behind it
  pub next_text : rest_text rest ≡ rest_text old → length rest.waiting.items ≤ 4 → (length rest.waiting.items < 4 → IsAtEnd rest)
      → line ≡ line_of rest.at (front_of rest.at bytes) → line ++ rest_text after ≡ rest_text old
  next_text kept few end is = let e = text_next rest some few end in cc

  pub next_below : LiesBelow rest → LiesBelow after
  next_below below =
      let whole = below.bytes in
      let upto = size_within rest.at rest.waiting.items some in
      let size' : n ≡ size_of (front_of rest.at rest.waiting.items) = size ∙ ap (λ (x : List ℕ). size_of (front_of rest.at x)) same in
      let long = length-append rest.waiting.items rest.here.now in
      let left = length-append after.waiting.items after.here.now in
      let dropped = ap length waiting ∙ length-drop n rest.waiting.items in
      let same' = ap length here in
      record {
        bytes = omega arith;
        segments = subst (λ (x : List SegmentValue). are_addressed x ≡ true) (sym segments) below.segments;
      }
