-- The runs of an image are its maximal runs.
use Rattle.std.proofs.Common.{◌≡◌, ◌↔◌, ◌∙◌, ◌<◌, ◌≤◌, ◌+◌, ◌-◌, ◌⊎◌, ℕ, zero, suc, true, sym, ap, subst, arith, List, [], ◌∷◌, ◌++◌, length, length-append, inl, inr, Contains, Some, slice_get}
use Rattle.std.proofs.lemmas.Bool.{and_parts, cases_eq, cond_both, eq-eqb, ne_eqb, leb-true, or_cases}
use Rattle.tz_model.specs.Image.{SegmentValue, are_clear, clear_of_all, end_of, is_clear_of}
use Rattle.tz_text.specs.Maximal.{AreApartFrom, HasByte, RunsAreMaximal}
use Rattle.tz_text.specs.Runs.{ascending, filled, has_bytes, joined, joined_from}
use Rattle.tz_text.proofs.Sorting.{Rises, ascending_cases, ascending_rises, bytes_none, bytes_some, filled_alone, in_ascending, in_cases, in_filled, in_head, in_later, in_none}

-- ---- segments that ascend and share no byte

-- each segment has bytes, and begins at or above the end of the one before
abbrev pub Follow : ℕ → List SegmentValue → Type 0
Follow end [] = Unit {0}
Follow end (s ∷ more) = (end ≤ s.base) × (0 < length s.bytes) × Follow (end_of s) more

clear_of_each : (s : SegmentValue) (l : List SegmentValue) → clear_of_all s l ≡ true → (z : SegmentValue) → Contains l z → is_clear_of s z ≡ true
clear_of_each s [] h z k = absurd (in_none z k)
clear_of_each s (q ∷ l) h z k =
    let parts = and_parts (is_clear_of s q) (clear_of_all s l) h in
    elim (in_cases q l z k) [
      | inl e ↦ subst (λ (x : SegmentValue). is_clear_of s x ≡ true) e parts.0
      | inr m ↦ clear_of_each s l parts.1 z m
    ]

-- of two segments of an image that begin apart, the first ends before the other begins
ends_before : (x z : SegmentValue) → (end_of x ≤ z.base) ⊎ (end_of z ≤ x.base) → x.base < z.base → end_of x ≤ z.base
ends_before x z (inl h) l = h
ends_before x z (inr h) l = absurd (omega arith)

apart_from : (s q : SegmentValue) → is_clear_of s q ≡ true → (end_of s ≤ q.base) ⊎ (end_of q ≤ s.base)
apart_from s q h = elim (or_cases _ _ h) [ inl b ↦ inl (leb-true _ _ b) | inr b ↦ inr (leb-true _ _ b) ]

apart : (l : List SegmentValue) → are_clear l ≡ true → (x z : SegmentValue) → Contains l x → Contains l z → x.base < z.base → (end_of x ≤ z.base) ⊎ (end_of z ≤ x.base)
apart [] h x z hx hz l = absurd (in_none x hx)
apart (s ∷ more) h x z hx hz l =
    let parts = and_parts (clear_of_all s more) (are_clear more) h in
    elim (in_cases s more x hx) [
      | inl ex ↦ elim (in_cases s more z hz) [
        | inl ez ↦ let e : x.base ≡ z.base = ap (λ (s : SegmentValue). s.base) (sym ex ∙ ez) in absurd (omega arith)
        | inr mz ↦ apart_from x z (subst (λ (s : SegmentValue). is_clear_of s z ≡ true) ex (clear_of_each s more parts.0 z mz))
      ]
      | inr mx ↦ elim (in_cases s more z hz) [
        | inl ez ↦ swapped (apart_from z x (subst (λ (s : SegmentValue). is_clear_of s x ≡ true) ez (clear_of_each s more parts.0 x mx)))
        | inr mz ↦ apart more parts.1 x z mx mz l
      ]
    ]
  where
    swapped : (end_of z ≤ x.base) ⊎ (end_of x ≤ z.base) → (end_of x ≤ z.base) ⊎ (end_of z ≤ x.base)
    swapped (inl a) = inr a
    swapped (inr a) = inl a

filled_some : (l : List SegmentValue) (z : SegmentValue) → Contains (filled l) z → 0 < length z.bytes
filled_some [] z h = absurd (in_none z h)
filled_some (s ∷ l) z h =
    cond_both (has_bytes s) (s ∷ filled l) (filled l) (λ (x : List SegmentValue). Contains x z → 0 < length z.bytes)
    (λ some k. elim (in_cases s (filled l) z k) [
      | inl e ↦ subst (λ (q : SegmentValue). 0 < length q.bytes) e (bytes_some s some)
      | inr m ↦ filled_some l z m
    ])
    (λ _ k. filled_some l z k)
    h

follow : (end : ℕ) (l : List SegmentValue) → Rises l → ((z : SegmentValue) → Contains l z → 0 < length z.bytes)
    → ((x z : SegmentValue) → Contains l x → Contains l z → x.base < z.base → end_of x ≤ z.base)
    → ((z : SegmentValue) → Contains l z → end ≤ z.base) → Follow end l
follow end [] r some before above = tt
follow end (s ∷ l) r some before above = (
  above s (in_head s l),
  some s (in_head s l),
  follow (end_of s) l r.1 (λ z k. some z (in_later s l z k)) (λ x z a b. before x z (in_later s l x a) (in_later s l z b))
      (λ z k. before s z (in_head s l) (in_later s l z k) (r.0 z k)),
)

image_follows : (segments : List SegmentValue) → are_clear segments ≡ true → Follow 0 (ascending (filled segments))
image_follows segments clear =
    follow 0 (ascending (filled segments)) (ascending_rises (filled segments) (filled_alone segments clear))
    (λ z k. filled_some segments z (ascending_cases (filled segments) z k))
    (λ x z a b l. ends_before x z (apart segments clear x z (inside x a) (inside z b) l) l)
    (λ z k. omega arith)
  where
    inside : (z : SegmentValue) → Contains (ascending (filled segments)) z → Contains segments z
    inside z k = in_filled segments z (ascending_cases (filled segments) z k)

-- ---- runs

abbrev pub grown : SegmentValue → SegmentValue → SegmentValue
grown run s = record { base = run.base; bytes = run.bytes ++ s.bytes }

joined_apart : (low : ℕ) (run : SegmentValue) (l : List SegmentValue) → low ≤ run.base → 0 < length run.bytes → Follow (end_of run) l → AreApartFrom low (joined_from run l)
unfolding joined_from
joined_apart low run [] a b f = (a, b, tt)
joined_apart low run (s ∷ l) a b f =
    let long = length-append run.bytes s.bytes in
    elim (cases_eq (end_of run) s.base) [
      | inl e ↦
          let end : end_of s ≡ end_of (grown run s) = omega arith in
          let rest : Follow (end_of (grown run s)) l = subst (λ (n : ℕ). Follow n l) end f.2 in
          rw (eq-eqb (end_of run) s.base e) (joined_apart low (grown run s) l a (omega arith) rest)
      | inr ne ↦
          let first = f.0 in
          rw (ne_eqb (end_of run) s.base ne) (a, b, joined_apart (end_of run + 1) s l (omega arith) f.1 f.2)
    ]

joined_are_apart : (l : List SegmentValue) → Follow 0 l → AreApartFrom 0 (joined l)
joined_are_apart [] f = tt
joined_are_apart (s ∷ l) f = joined_apart 0 s l (omega arith) f.1 f.2

-- ---- the bytes of runs

get_front : (xs ys : List ℕ) (n b : ℕ) → slice_get xs n ≡ Some b → slice_get (xs ++ ys) n ≡ Some b
get_front [] ys n b h = cc
get_front (x ∷ xs) ys zero b h = h
get_front (x ∷ xs) ys (suc n) b h = get_front xs ys n b h

get_behind : (xs ys : List ℕ) (n b : ℕ) → length xs ≤ n → slice_get ys (n - length xs) ≡ Some b → slice_get (xs ++ ys) n ≡ Some b
get_behind [] ys n b l h = let e : n - 0 ≡ n = omega arith in ap (slice_get ys) (sym e) ∙ h
get_behind (x ∷ xs) ys zero b l h = absurd (omega arith)
get_behind (x ∷ xs) ys (suc n) b l h = let e : suc n - suc (length xs) ≡ n - length xs = omega arith in get_behind xs ys n b (omega arith) (ap (slice_get ys) (sym e) ∙ h)

get_cases : (xs ys : List ℕ) (n b : ℕ) → slice_get (xs ++ ys) n ≡ Some b → (slice_get xs n ≡ Some b) ⊎ ((length xs ≤ n) × (slice_get ys (n - length xs) ≡ Some b))
get_cases [] ys n b h = let e : n - 0 ≡ n = omega arith in inr (omega arith, ap (slice_get ys) e ∙ h)
get_cases (x ∷ xs) ys zero b h = inl h
get_cases (x ∷ xs) ys (suc n) b h =
    let e : suc n - suc (length xs) ≡ n - length xs = omega arith in
    elim (get_cases xs ys n b h) [
      | inl k ↦ inl k
      | inr k ↦ let l = k.0 in inr (omega arith, ap (slice_get ys) e ∙ k.1)
    ]

-- a segment has a byte at an address
abbrev At : SegmentValue → ℕ → ℕ → Type 0
At s a b = (s.base ≤ a) × (slice_get s.bytes (a - s.base) ≡ Some b)

grown_cases : (run s : SegmentValue) (a b : ℕ) → end_of run ≡ s.base → At (grown run s) a b → At run a b ⊎ At s a b
grown_cases run s a b e h =
    let from = h.0 in
    elim (get_cases run.bytes s.bytes (a - run.base) b h.1) [
      | inl k ↦ inl (from, k)
      | inr k ↦
          let l = k.0 in
          let at : a - run.base - length run.bytes ≡ a - s.base = omega arith in
          inr (omega arith, ap (slice_get s.bytes) (sym at) ∙ k.1)
    ]

grown_first : (run s : SegmentValue) (a b : ℕ) → At run a b → At (grown run s) a b
grown_first run s a b h = (h.0, get_front run.bytes s.bytes (a - run.base) b h.1)

grown_second : (run s : SegmentValue) (a b : ℕ) → end_of run ≡ s.base → At s a b → At (grown run s) a b
grown_second run s a b e h =
    let from = h.0 in
    let at : a - run.base - length run.bytes ≡ a - s.base = omega arith in
    (omega arith, get_behind run.bytes s.bytes (a - run.base) b (omega arith) (ap (slice_get s.bytes) at ∙ h.1))

has_at : (l : List SegmentValue) (s : SegmentValue) (a b : ℕ) → Contains l s → At s a b → HasByte l a b
has_at l s a b k h = record { segment = s; among = k; from = h.0; at = h.1 }

has_later : (s : SegmentValue) (l : List SegmentValue) (a b : ℕ) → HasByte l a b → HasByte (s ∷ l) a b
has_later s l a b h = record { segment = h.segment; among = in_later s l h.segment h.among; from = h.from; at = h.at }

has_cases : (s : SegmentValue) (l : List SegmentValue) (a b : ℕ) → HasByte (s ∷ l) a b → At s a b ⊎ HasByte l a b
has_cases s l a b h =
    elim (in_cases s l h.segment h.among) [
      | inl e ↦ inl (subst (λ (x : SegmentValue). At x a b) (sym e) (h.from, h.at))
      | inr k ↦ inr (has_at l h.segment a b k (h.from, h.at))
    ]

joined_has : (run : SegmentValue) (l : List SegmentValue) (a b : ℕ) → HasByte (joined_from run l) a b → HasByte (run ∷ l) a b
unfolding joined_from
joined_has run [] a b h = h
joined_has run (s ∷ l) a b h =
    elim (cases_eq (end_of run) s.base) [
      | inl e ↦ elim (has_cases (grown run s) l a b (joined_has (grown run s) l a b (rw (eq-eqb (end_of run) s.base e) at h))) [
        | inl k ↦ elim (grown_cases run s a b e k) [
          | inl m ↦ has_at (run ∷ s ∷ l) run a b (in_head run (s ∷ l)) m
          | inr m ↦ has_at (run ∷ s ∷ l) s a b (in_later run (s ∷ l) s (in_head s l)) m
        ]
        | inr k ↦ has_later run (s ∷ l) a b (has_later s l a b k)
      ]
      | inr ne ↦ elim (has_cases run (joined_from s l) a b (rw (ne_eqb (end_of run) s.base ne) at h)) [
        | inl k ↦ has_at (run ∷ s ∷ l) run a b (in_head run (s ∷ l)) k
        | inr k ↦ has_later run (s ∷ l) a b (joined_has s l a b k)
      ]
    ]

has_joined : (run : SegmentValue) (l : List SegmentValue) (a b : ℕ) → HasByte (run ∷ l) a b → HasByte (joined_from run l) a b
unfolding joined_from
has_joined run [] a b h = h
has_joined run (s ∷ l) a b h =
    elim (cases_eq (end_of run) s.base) [
      | inl e ↦ rw (eq-eqb (end_of run) s.base e) (has_joined (grown run s) l a b (elim (has_cases run (s ∷ l) a b h) [
        | inl k ↦ has_at (grown run s ∷ l) (grown run s) a b (in_head (grown run s) l) (grown_first run s a b k)
        | inr k ↦ elim (has_cases s l a b k) [
          | inl m ↦ has_at (grown run s ∷ l) (grown run s) a b (in_head (grown run s) l) (grown_second run s a b e m)
          | inr m ↦ has_later (grown run s) l a b m
        ]
      ]))
      | inr ne ↦ rw (ne_eqb (end_of run) s.base ne) (elim (has_cases run (s ∷ l) a b h) [
        | inl k ↦ has_at (run ∷ joined_from s l) run a b (in_head run (joined_from s l)) k
        | inr k ↦ has_later run (joined_from s l) a b (has_joined s l a b k)
      ])
    ]

joined_all : (l : List SegmentValue) (a b : ℕ) → HasByte (joined l) a b ↔ HasByte l a b
joined_all [] a b = (λ h. h, λ h. h)
joined_all (s ∷ l) a b = (joined_has s l a b, has_joined s l a b)

in_filled_from : (l : List SegmentValue) (z : SegmentValue) → 0 < length z.bytes → Contains l z → Contains (filled l) z
in_filled_from [] z some h = h
in_filled_from (s ∷ l) z some h =
    cond_both (has_bytes s) (s ∷ filled l) (filled l) (λ (x : List SegmentValue). Contains x z)
    (λ _. elim (in_cases s l z h) [ inl e ↦ subst (λ (q : SegmentValue). Contains (s ∷ filled l) q) e (in_head s (filled l)) | inr k ↦ in_later s (filled l) z (in_filled_from l z some k) ])
    (λ none. elim (in_cases s l z h) [
      | inl e ↦
          let n = bytes_none s none in
          let long : 0 < length s.bytes = subst (λ (q : SegmentValue). 0 < length q.bytes) (sym e) some in
          absurd (omega arith)
      | inr k ↦ in_filled_from l z some k
    ])

some_from : (bytes : List ℕ) (n b : ℕ) → slice_get bytes n ≡ Some b → 0 < length bytes
some_from [] n b h = cc
some_from (x ∷ bytes) n b h = omega arith

ordered_all : (segments : List SegmentValue) (a b : ℕ) → HasByte (ascending (filled segments)) a b ↔ HasByte segments a b
ordered_all segments a b = (
  λ h. has_at segments h.segment a b (in_filled segments h.segment (ascending_cases (filled segments) h.segment h.among)) (h.from, h.at),
  λ h. has_at (ascending (filled segments)) h.segment a b
      (in_ascending (filled segments) h.segment (in_filled_from segments h.segment (some_from h.segment.bytes (a - h.segment.base) b h.at) h.among)) (h.from, h.at),
)

pub maximal : RunsAreMaximal
maximal segments image = (
  joined_are_apart (ascending (filled segments)) (image_follows segments image.clear),
  λ a b. let j = joined_all (ascending (filled segments)) a b in let o = ordered_all segments a b in (λ h. o.0 (j.0 h), λ h. j.1 (o.1 h)),
)
