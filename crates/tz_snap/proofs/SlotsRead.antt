-- Slots that are read one by one at their places: each from the word of its index, the first of which is k.
use Rattle.std.proofs.Common.{◌≡◌, ⊎_elim, ℕ, zero, suc, ◌+◌, ◌*◌, ◌^◌, ◌<◌, ◌≤◌, ◌==◌, ◌/◌, ◌%◌, nat_lt, Bool, true, false, not, ◌&&◌, ◌||◌, if◌then◌else◌, List, [], ◌∷◌, ◌++◌, length, drop, map, get_or, Some, Ok, Err, refl, sym, ap, ◌∙◌, subst, arith}
use Rattle.std.specs.Prelude.{slice_get, slice_index, slice_index_or, slice_set}
use Rattle.std.specs.List.{range_with_len}
use Rattle.std.proofs.lemmas.Bool.{and_parts, cases_eq, cases_lt, eqb-true, eq-eqb, ne_eqb, lt-ltb, le-ltb}
use Rattle.std.proofs.lemmas.List.{get_or-set_same, get_or-set_other, set-get_or, length-set, same_lists}
use Rattle.tz_regs.specs.Special.{number_of}
use Rattle.tz_state.specs.declared.slot.SlotState.{SlotState}
use Rattle.tz_state.specs.State.{State, with_exceptions}
use Rattle.tz_state.specs.Slots.{ExceptionsValue, idle, exception_number, is_always_enabled, is_banked, is_system, is_place}
use Rattle.tz_fields.specs.Fields.{slot_places, system_places}
use Rattle.tz_fields.specs.StateWords.{side_number, slot_word}
use Rattle.tz_fields.specs.ReadWords.{IsSlotTold, slot_fits, slot_from, slot_written, read_slots}
use Rattle.tz_snap.proofs.FieldsRead.{at_index, first_of, passed, same_state}

-- the word of what stands at a place
abbrev pub number_at : SlotState → ℕ → ℕ
number_at x i =
    x.priority + 2 ^ 8 * number_of x.pending + 2 ^ 9 * number_of x.active + 2 ^ 10 * number_of (is_always_enabled (exception_number i) || x.enabled)
    + 2 ^ 11 * side_number x.target

abbrev pub slot_in : List SlotState → ℕ → SlotState
slot_in xs i = slice_index_or xs i idle

abbrev pub with_slots : State → List SlotState → State
with_slots s xs = with_exceptions s (record s.exceptions { slots = xs })

-- a place is among these
abbrev pub is_in : ℕ → List ℕ → Bool
is_in i [] = false
is_in i (j ∷ is) = if i == j then true else is_in i is

module _ (v : ℕ → ℕ) where
  -- all of them written
  abbrev pub slots_by : List ℕ → ℕ → List SlotState → List SlotState
  slots_by [] k xs = xs
  slots_by (i ∷ is) k xs = slots_by is (k + 1) (slice_set xs i (slot_from i (v k)))

  -- each holds its word where it is written
  abbrev pub SlotsFit : List ℕ → ℕ → List SlotState → Type 0
  SlotsFit [] k xs = Unit {0}
  SlotsFit (i ∷ is) k xs = (number_at (slot_in (slice_set xs i (slot_from i (v k))) i) i ≡ v k) × SlotsFit is (k + 1) (slice_set xs i (slot_from i (v k)))

  -- these are their words
  abbrev pub SlotsTold : List ℕ → ℕ → List SlotState → Type 0
  SlotsTold [] k xs = Unit {0}
  SlotsTold (i ∷ is) k xs = (number_at (slot_in xs i) i ≡ v k) × SlotsTold is (k + 1) xs

  -- and they are what the words make
  abbrev pub SlotsMade : List ℕ → ℕ → List SlotState → Type 0
  SlotsMade [] k xs = Unit {0}
  SlotsMade (i ∷ is) k xs = (slot_in xs i ≡ slot_from i (v k)) × SlotsMade is (k + 1) xs

-- places of which each stands once, below a number
abbrev pub ArePlaces : List ℕ → ℕ → Type 0
ArePlaces [] n = Unit {0}
ArePlaces (i ∷ is) n = (i < n) × (is_in i is ≡ false) × ArePlaces is n

-- ---- reading is writing each where it holds its word

one_more : (ws : List ℕ) (i : ℕ) (is : List ℕ) (k : ℕ) (s : State) → k < length ws →
    read_slots (i ∷ is) (drop k ws) k s ≡ (if slot_fits s i (slice_index ws k) then read_slots is (drop (k + 1) ws) (k + 1) (slot_written s i (slice_index ws k)) else Err k)
unfolding read_slots
one_more ws i is k s l = ap (λ (xs : List ℕ). read_slots (i ∷ is) xs k s) (at_index ws k l)

pub fit_read : (ws is : List ℕ) (k : ℕ) (s : State) → k + length is ≤ length ws → SlotsFit (slice_index ws) is k s.exceptions.slots
    → read_slots is (drop k ws) k s ≡ Ok (with_slots s (slots_by (slice_index ws) is k s.exceptions.slots))
unfolding read_slots
fit_read ws [] k s l h = refl
fit_read ws (i ∷ is) k s l h =
    let w = slice_index ws k in
    let rest = read_slots is (drop (k + 1) ws) (k + 1) (slot_written s i w) in
    one_more ws i is k s (omega arith)
    ∙ ap (λ (t : Bool). if t then rest else Err k) (eq-eqb (slot_word (slot_written s i w).exceptions i) w h.0)
    ∙ fit_read ws is (k + 1) (slot_written s i w) (omega arith) h.1

pub read_fit : (ws is : List ℕ) (k : ℕ) (s u : State) → k + length is ≤ length ws → read_slots is (drop k ws) k s ≡ Ok u
    → SlotsFit (slice_index ws) is k s.exceptions.slots × (with_slots s (slots_by (slice_index ws) is k s.exceptions.slots) ≡ u)
unfolding read_slots
read_fit ws [] k s u l e = (tt, same_state s u e)
read_fit ws (i ∷ is) k s u l e =
    let w = slice_index ws k in
    let parts = passed (slot_fits s i w) k (read_slots is (drop (k + 1) ws) (k + 1) (slot_written s i w)) u (sym (one_more ws i is k s (omega arith)) ∙ e) in
    let rest = read_fit ws is (k + 1) (slot_written s i w) u (omega arith) parts.1 in
    ((eqb-true (slot_word (slot_written s i w).exceptions i) w parts.0, rest.0), rest.1)

-- ---- words of a list

-- words that begin with those of slots
pub words_told : (ws is : List ℕ) (k : ℕ) (e : ExceptionsValue) (rest : List ℕ) → drop k ws ≡ map (slot_word e) is ++ rest → SlotsTold (slice_index ws) is k e.slots
words_told ws [] k e rest h = tt
words_told ws (i ∷ is) k e rest h = let both = first_of ws k (slot_word e i) (map (slot_word e) is ++ rest) h in (sym both.0, words_told ws is (k + 1) e rest both.1)

pub told_words : (ws is : List ℕ) (k n : ℕ) (e : ExceptionsValue) → k + length is ≡ n → n ≤ length ws → SlotsTold (slice_index ws) is k e.slots → drop k ws ≡ map (slot_word e) is ++ drop n ws
told_words ws [] k n e l m h = let same : k ≡ n = omega arith in ap (λ (i : ℕ). drop i ws) same
told_words ws (i ∷ is) k n e l m h =
    at_index ws k (omega arith) ∙ ap (λ (w : ℕ). w ∷ drop (k + 1) ws) (sym h.0) ∙ ap (λ (xs : List ℕ). slot_word e i ∷ xs) (told_words ws is (k + 1) n e (omega arith) m h.1)

-- ---- places

other_place : (i j : ℕ) (is : List ℕ) → (i ≡ j → ⊥) → is_in i (j ∷ is) ≡ is_in i is
other_place i j is ne = ap (λ (t : Bool). if t then true else is_in i is) (ne_eqb i j ne)

this_place : (i j : ℕ) (is : List ℕ) → i ≡ j → is_in i (j ∷ is) ≡ true
this_place i j is e = ap (λ (t : Bool). if t then true else is_in i is) (eq-eqb i j e)

not_both : (b : Bool) → b ≡ true → b ≡ false → ⊥
not_both true e f = cc
not_both false e f = cc

apart_from : (i j : ℕ) (is : List ℕ) → is_in i (j ∷ is) ≡ false → i ≡ j → ⊥
apart_from i j is out e = not_both (is_in i (j ∷ is)) (this_place i j is e) out

-- ---- what is written

module _ (v : ℕ → ℕ) where
  pub length_by : (is : List ℕ) (k : ℕ) (xs : List SlotState) → length (slots_by v is k xs) ≡ length xs
  length_by [] k xs = refl
  length_by (i ∷ is) k xs = length_by is (k + 1) (slice_set xs i (slot_from i (v k))) ∙ length-set xs i (slot_from i (v k))

  -- what stands at other places stays
  pub others_stay : (i : ℕ) (is : List ℕ) (k : ℕ) (xs : List SlotState) → is_in i is ≡ false → slot_in (slots_by v is k xs) i ≡ slot_in xs i
  others_stay i [] k xs out = refl
  others_stay i (j ∷ is) k xs out =
      let ne = apart_from i j is out in
      others_stay i is (k + 1) (slice_set xs j (slot_from j (v k))) (sym (other_place i j is ne) ∙ out)
      ∙ get_or-set_other xs j i (slot_from j (v k)) idle ne

  -- words that fit are told in the end
  pub fit_told : (is : List ℕ) (k : ℕ) (xs : List SlotState) → ArePlaces is (length xs) → SlotsFit v is k xs → SlotsTold v is k (slots_by v is k xs) × SlotsMade v is k (slots_by v is k xs)
  fit_told [] k xs p h = (tt, tt)
  fit_told (i ∷ is) k xs p h =
      let x = slot_from i (v k) in
      let next = slice_set xs i x in
      let stays = others_stay i is (k + 1) next p.1 in
      let long = length-set xs i x in
      let rest = fit_told is (k + 1) next (subst (ArePlaces is) (sym long) p.2) h.1 in
      ((ap (λ (y : SlotState). number_at y i) stays ∙ h.0, rest.0), (stays ∙ get_or-set_same xs i x idle p.0, rest.1))

  made_settled : (i k : ℕ) (xs : List SlotState) → slot_in xs i ≡ slot_from i (v k) → slice_set xs i (slot_from i (v k)) ≡ xs
  made_settled i k xs e = ap (slice_set xs i) (sym e) ∙ set-get_or xs i idle

  -- what is told by its word
  pub all_told : (is : List ℕ) (k : ℕ) (s : State) → SlotsTold v is k s.exceptions.slots → SlotsMade v is k s.exceptions.slots → (j i : ℕ) → slice_get is j ≡ Some i → IsSlotTold s i
  all_told [] k s h m j i e = cc
  all_told (p ∷ is) k s h m zero i e =
      let same : p ≡ i = cc in
      let xs = s.exceptions.slots in
      subst (IsSlotTold s) same (ap (λ (w : ℕ). slot_written s p w) h.0 ∙ ap (with_slots s) (made_settled p k xs m.0))
  all_told (p ∷ is) k s h m (suc j) i e = all_told is (k + 1) s h.1 m.1 j i e

  pub told_made : (is : List ℕ) (k : ℕ) (s : State) → ArePlaces is (length s.exceptions.slots) → SlotsTold v is k s.exceptions.slots
      → ((j i : ℕ) → slice_get is j ≡ Some i → IsSlotTold s i) → SlotsMade v is k s.exceptions.slots
  told_made [] k s p h all = tt
  told_made (i ∷ is) k s p h all =
      let xs = s.exceptions.slots in
      let w = slot_word s.exceptions i in (
        ap (λ (t : State). slot_in t.exceptions.slots i) (sym (all 0 i refl)) ∙ get_or-set_same xs i (slot_from i w) idle p.0 ∙ ap (slot_from i) h.0,
        told_made is (k + 1) s p.2 h.1 (λ j q e. all (suc j) q e),
      )

  -- words of other slots fit as they do there
  pub told_fit : (is : List ℕ) (k : ℕ) (xs ys : List SlotState) → ArePlaces is (length xs) → SlotsTold v is k ys → SlotsMade v is k ys → SlotsFit v is k xs
  told_fit [] k xs ys p h m = tt
  told_fit (i ∷ is) k xs ys p h m =
      let x = slot_from i (v k) in
      let long = length-set xs i x in (
        ap (λ (y : SlotState). number_at y i) (get_or-set_same xs i x idle p.0 ∙ sym m.0) ∙ h.0,
        told_fit is (k + 1) (slice_set xs i x) ys (subst (ArePlaces is) (sym long) p.2) h.1 m.1,
      )

  -- and make the same of them
  one_alike : (i : ℕ) (is : List ℕ) (k : ℕ) (xs ys : List SlotState) → ArePlaces is (length xs) → SlotsMade v is k ys → (is_in i is ≡ false → slot_in xs i ≡ slot_in ys i)
      → slot_in (slots_by v is k xs) i ≡ slot_in ys i
  one_alike i [] k xs ys p m h = h refl
  one_alike i (j ∷ is) k xs ys p m h =
      let x = slot_from j (v k) in
      let next = slice_set xs j x in
      let long = length-set xs j x in
      one_alike i is (k + 1) next ys (subst (ArePlaces is) (sym long) p.2) m.1 (λ out. ⊎_elim
      (λ (e : i ≡ j). subst (λ (n : ℕ). slot_in next n ≡ slot_in ys n) (sym e) (get_or-set_same xs j x idle p.0 ∙ sym m.0))
      (λ (ne : i ≡ j → ⊥). get_or-set_other xs j i x idle ne ∙ h (other_place i j is ne ∙ out))
      (cases_eq i j))

  pub made_alike : (is : List ℕ) (k : ℕ) (xs ys : List SlotState) → length xs ≡ length ys → ArePlaces is (length xs) → SlotsMade v is k ys
      → ((i : ℕ) → i < length xs → is_in i is ≡ false → slot_in xs i ≡ slot_in ys i) → slots_by v is k xs ≡ ys
  made_alike is k xs ys e p m h =
      let size = length_by is k xs in
      same_lists (slots_by v is k xs) ys (size ∙ e) (λ i d l.
      get_or_default (slots_by v is k xs) i d l ∙ one_alike i is k xs ys p m (h i (omega arith)) ∙ sym (get_or_default ys i d (omega arith)))
    where
      get_or_default : (zs : List SlotState) (i : ℕ) (d : SlotState) → i < length zs → get_or zs i d ≡ slot_in zs i
      get_or_default [] i d l = absurd (omega arith)
      get_or_default (z ∷ zs) zero d l = refl
      get_or_default (z ∷ zs) (suc i) d l = get_or_default zs i d (omega arith)

-- ---- the places of a board

out_of_range : (i a n : ℕ) → i < a → is_in i (range_with_len a n) ≡ false
out_of_range i a zero l = refl
out_of_range i a (suc n) l = other_place i a (range_with_len (a + 1) n) (λ e. omega arith) ∙ out_of_range i (a + 1) n (omega arith)

range_places : (a n m : ℕ) → a + n ≤ m → ArePlaces (range_with_len a n) m
range_places a zero m l = tt
range_places a (suc n) m l = (omega arith, out_of_range a (a + 1) n (omega arith), range_places (a + 1) n m (omega arith))

pub board_places : (n m : ℕ) → 32 + n ≤ m → ArePlaces (slot_places n) m
unfolding slot_places
board_places n m l =
    let out : (i : ℕ) → i < 32 → is_in i (range_with_len 32 n) ≡ false = λ i h. out_of_range i 32 n h in (
      omega arith,
      out 4 (omega arith),
      (
        omega arith,
        out 6 (omega arith),
        (
          omega arith,
          out 7 (omega arith),
          (
            omega arith,
            out 8 (omega arith),
            (
              omega arith,
              out 9 (omega arith),
              (
                omega arith,
                out 10 (omega arith),
                (
                  omega arith,
                  out 12 (omega arith),
                  (
                    omega arith,
                    out 13 (omega arith),
                    (
                      omega arith,
                      out 14 (omega arith),
                      (
                        omega arith,
                        out 22 (omega arith),
                        (
                          omega arith,
                          out 23 (omega arith),
                          (
                            omega arith,
                            out 28 (omega arith),
                            (
                              omega arith,
                              out 29 (omega arith),
                              (
                                omega arith,
                                out 30 (omega arith),
                                (
                                  omega arith,
                                  out 31 (omega arith),
                                  range_places 32 n m l,
                                ),
                              ),
                            ),
                          ),
                        ),
                      ),
                    ),
                  ),
                ),
              ),
            ),
          ),
        ),
      ),
    )

pub place_below : (n : ℕ) (is : List ℕ) → ArePlaces is n → (k i : ℕ) → slice_get is k ≡ Some i → i < n
place_below n [] p k i e = cc
place_below n (j ∷ is) p zero i e = let same : j ≡ i = cc in let below = p.0 in omega arith
place_below n (j ∷ is) p (suc k) i e = place_below n is p.2 k i e

-- ---- a place is one of the board's exactly where a slot stands there

behind_both : (t a b c : Bool) → a ≡ (if b then true else c) → (if t then true else a) ≡ (if (if t then true else b) then true else c)
behind_both true a b c e = refl
behind_both false a b c e = e

in_both : (i : ℕ) (is js : List ℕ) → is_in i (is ++ js) ≡ (if is_in i is then true else is_in i js)
in_both i [] js = refl
in_both i (k ∷ is) js = behind_both (i == k) (is_in i (is ++ js)) (is_in i is) (is_in i js) (in_both i is js)

-- none is from the number on that all are below
none_past : (i n : ℕ) (is : List ℕ) → ArePlaces is n → n ≤ i → is_in i is ≡ false
none_past i n [] p l = refl
none_past i n (j ∷ is) p l = let below = p.0 in other_place i j is (λ e. omega arith) ∙ none_past i n is p.2 l

in_range : (i a n : ℕ) → a ≤ i → i < a + n → is_in i (range_with_len a n) ≡ true
in_range i a zero l h = absurd (omega arith)
in_range i a (suc n) l h =
    ⊎_elim (λ (e : i ≡ a). this_place i a (range_with_len (a + 1) n) e)
    (λ (ne : i ≡ a → ⊥). let e : ¬ (i ≡ a) = ne in other_place i a (range_with_len (a + 1) n) ne ∙ in_range i (a + 1) n (omega arith) (omega arith))
    (cases_eq i a)

abbrev small_place : ℕ → Bool
small_place i = if i % 2 == 1 then is_banked (i / 2) else is_system (i / 2)

abbrev agrees : ℕ → Bool
agrees i = if is_in i system_places then small_place i else not (small_place i)

abbrev all_below : (ℕ → Bool) → ℕ → Bool
all_below p zero = true
all_below p (suc n) = p n && all_below p n

one_below : (p : ℕ → Bool) (n i : ℕ) → all_below p n ≡ true → i < n → p i ≡ true
one_below p zero i all l = absurd (omega arith)
one_below p (suc n) i all l =
    let parts = and_parts (p n) (all_below p n) all in
    ⊎_elim (λ (below : i < n). one_below p n i parts.1 below) (λ (last : n ≤ i). let e : i ≡ n = omega arith in ap p e ∙ parts.0) (cases_lt i n)

same_by : (a b : Bool) → (if a then b else not b) ≡ true → a ≡ b
same_by true true e = refl
same_by true false e = cc
same_by false true e = cc
same_by false false e = refl

itself : (a : Bool) → (if a then true else false) ≡ a
itself true = refl
itself false = refl

in_system : (i : ℕ) → i < 32 → is_in i system_places ≡ small_place i
in_system i l = same_by (is_in i system_places) (small_place i) (one_below agrees 32 i refl l)

past_system : (i : ℕ) → 32 ≤ i → is_in i system_places ≡ false
unfolding slot_places
past_system i l = none_past i 32 (slot_places 0) (board_places 0 32 (omega arith)) l

pub places_are : (e : ExceptionsValue) (i : ℕ) → is_in i (slot_places e.interrupts) ≡ is_place e i
unfolding slot_places
places_are e i =
    let n = e.interrupts in
    let range = range_with_len 32 n in
    in_both i system_places range
    ∙ ⊎_elim
    (λ (l : i < 32).
    ap (λ (t : Bool). if is_in i system_places then true else t) (out_of_range i 32 n l) ∙ itself (is_in i system_places) ∙ in_system i l
    ∙ ap (λ (t : Bool). if t then small_place i else nat_lt i (n + 32)) (sym (lt-ltb i 32 l)))
    (λ (l : 32 ≤ i).
    ap (λ (t : Bool). if t then true else is_in i range) (past_system i l)
    ∙ by_range i n l
    ∙ ap (λ (t : Bool). if t then small_place i else nat_lt i (n + 32)) (sym (le-ltb i 32 l)))
    (cases_lt i 32)
  where
    by_range : (i n : ℕ) → 32 ≤ i → is_in i (range_with_len 32 n) ≡ nat_lt i (n + 32)
    by_range i n l =
        ⊎_elim (λ (h : i < n + 32). in_range i 32 n l (omega arith) ∙ sym (lt-ltb i (n + 32) h))
        (λ (h : n + 32 ≤ i). none_past i (32 + n) (range_with_len 32 n) (range_places 32 n (32 + n) (omega arith)) (omega arith) ∙ sym (le-ltb i (n + 32) h))
        (cases_lt i (n + 32))
