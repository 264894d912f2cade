-- How words are read one by one: bytes as words, a field or a slot more, a region more.
use Rattle.std.proofs.Common.{◌≡◌, ℕ, zero, suc, ◌+◌, ◌-◌, ◌*◌, ◌/◌, ◌^◌, ◌<◌, ◌≤◌, true, false, List, [], ◌∷◌, length, get_or, drop, take, Some, slice_get, length-drop, get_or-drop, refl, sym, ap, ◌∙◌, subst, arith}
use Rattle.std.specs.Prelude.{Ok, Err}
use Rattle.std.specs.Int.{w32, from_le_bytes, to_le_bytes}
use Rattle.std.proofs.lemmas.List.Sums.{sum_by-cons}
use Rattle.std.proofs.lemmas.Nat.{le_bytes_4}
use Rattle.tz_model.specs.declared.board.Region.{Region}
use Rattle.tz_model.specs.Words.{wrap}
use Rattle.tz_state.specs.Memory.{Memory, with_byte, with_word, with_bytes}
use Rattle.tz_state.specs.State.{State}
use Rattle.tz_fields.specs.declared.fields.ChannelField.{ChannelField}
use Rattle.tz_fields.specs.declared.fields.Field.{Field}
use Rattle.tz_fields.specs.ReadWords.{written, slot_written, channel_written, fits, slot_fits, channel_fits, read_fields, read_slots, read_channels, with_words, with_regions, words_of, AreWords}
use Rattle.tz_fields.specs.StateWords.{memory_count}
use Rattle.tz_fields.proofs.Indexed.{IsBlock}

-- ---- lists

pub drop_at : {X : Type 0} (xs : List X) (i n : ℕ) (x : X) → n ≡ i + 1 → slice_get xs i ≡ Some x → drop i xs ≡ x ∷ drop n xs
drop_at [] i n x e at = absurd cc
drop_at (y ∷ xs) zero n x e at =
    let one : n ≡ 1 = omega arith in
    let same : y ≡ x = cc in
    ap (λ z. z ∷ xs) same ∙ ap (λ k. x ∷ drop k (y ∷ xs)) (sym one)
drop_at (y ∷ xs) (suc i) zero x e at = absurd (omega arith)
drop_at (y ∷ xs) (suc i) (suc n) x e at = drop_at xs i n x (omega arith) at

pub drop_twice : {X : Type 0} (i j n : ℕ) (xs : List X) → n ≡ i + j → drop j (drop i xs) ≡ drop n xs
drop_twice zero j n xs e = let same : j ≡ n = omega arith in ap (λ k. drop k xs) same
drop_twice (suc i) zero zero [] e = refl
drop_twice (suc i) (suc j) zero [] e = refl
drop_twice (suc i) zero (suc n) [] e = refl
drop_twice (suc i) (suc j) (suc n) [] e = refl
drop_twice (suc i) j zero (x ∷ xs) e = absurd (omega arith)
drop_twice (suc i) j (suc n) (x ∷ xs) e = drop_twice i j n xs (omega arith)

pub first_of_drop : {X : Type 0} (xs : List X) (i : ℕ) → slice_get xs i ≡ slice_get (drop i xs) 0
first_of_drop [] zero = refl
first_of_drop [] (suc i) = refl
first_of_drop (x ∷ xs) zero = refl
first_of_drop (x ∷ xs) (suc i) = first_of_drop xs i

-- a word past the first ones
pub past_first : (ws : List ℕ) (n f i w : ℕ) → n ≡ f → slice_get ws (n + i) ≡ Some w → slice_get (drop f ws) i ≡ Some w
past_first ws n f i w e at =
    let sum : f + i ≡ n + i = omega arith in
    first_of_drop (drop f ws) i ∙ ap (λ xs. slice_get xs 0) (drop_twice f i (n + i) ws (sym sum)) ∙ sym (first_of_drop ws (n + i)) ∙ at

pub dropped_all : {X : Type 0} (xs : List X) (i : ℕ) → length xs ≤ i → drop i xs ≡ []
dropped_all [] zero l = refl
dropped_all [] (suc i) l = refl
dropped_all (x ∷ xs) zero l = absurd (omega arith)
dropped_all (x ∷ xs) (suc i) l = dropped_all xs i (omega arith)

pub taken_all : {X : Type 0} (xs : List X) (n : ℕ) → length xs ≤ n → take n xs ≡ xs
taken_all [] zero l = refl
taken_all [] (suc n) l = refl
taken_all (x ∷ xs) zero l = absurd (omega arith)
taken_all (x ∷ xs) (suc n) l = ap (λ ys. x ∷ ys) (taken_all xs n (omega arith))

-- all from an offset on
pub rest_of : {X : Type 0} (xs : List X) (i : ℕ) → take (length xs - i) (drop i xs) ≡ drop i xs
rest_of xs i = let size = length-drop i xs in taken_all (drop i xs) (length xs - i) (omega (arith, size))

-- ---- bytes as words

pub drop_words : (k n : ℕ) (bs : List ℕ) → n ≡ 4 * k → n ≤ length bs → words_of (drop n bs) ≡ drop k (words_of bs)
unfolding words_of
drop_words zero n bs e l = let none : n ≡ 0 = omega arith in ap (λ i. words_of (drop i bs)) none
drop_words (suc k) zero bs e l = absurd (omega arith)
drop_words (suc k) (suc zero) bs e l = absurd (omega arith)
drop_words (suc k) (suc (suc zero)) bs e l = absurd (omega arith)
drop_words (suc k) (suc (suc (suc zero))) bs e l = absurd (omega arith)
drop_words (suc k) (suc (suc (suc (suc n)))) [] e l = absurd (omega arith)
drop_words (suc k) (suc (suc (suc (suc n)))) (p ∷ []) e l = absurd (omega arith)
drop_words (suc k) (suc (suc (suc (suc n)))) (p ∷ q ∷ []) e l = absurd (omega arith)
drop_words (suc k) (suc (suc (suc (suc n)))) (p ∷ q ∷ r ∷ []) e l = absurd (omega arith)
drop_words (suc k) (suc (suc (suc (suc n)))) (p ∷ q ∷ r ∷ t ∷ bs) e l = drop_words k n bs (omega arith) (omega arith)

first_word : (bs : List ℕ) → 4 ≤ length bs → slice_get (words_of bs) 0 ≡ Some (from_le_bytes w32 (get_or bs 0 0 ∷ get_or bs 1 0 ∷ get_or bs 2 0 ∷ get_or bs 3 0 ∷ []))
unfolding words_of
first_word [] l = absurd (omega arith)
first_word (p ∷ []) l = absurd (omega arith)
first_word (p ∷ q ∷ []) l = absurd (omega arith)
first_word (p ∷ q ∷ r ∷ []) l = absurd (omega arith)
first_word (p ∷ q ∷ r ∷ t ∷ bs) l = refl

pub word_read : (bs : List ℕ) (k n : ℕ) → n ≡ 4 * k → n + 4 ≤ length bs →
    slice_get (words_of bs) k ≡ Some (from_le_bytes w32 (get_or bs n 0 ∷ get_or bs (n + 1) 0 ∷ get_or bs (n + 2) 0 ∷ get_or bs (n + 3) 0 ∷ []))
word_read bs k n e l =
    let size = length-drop n bs in
    let at = first_word (drop n bs) (omega (arith, size)) in
    let none : n + 0 ≡ n = omega arith in
    let a : get_or (drop n bs) 0 0 ≡ get_or bs n 0 = get_or-drop n bs 0 0 ∙ ap (λ i. get_or bs i 0) none in
    first_of_drop (words_of bs) k ∙ ap (λ ws. slice_get ws 0) (sym (drop_words k n bs e (omega arith)))
    ∙ rw (sym a, sym (get_or-drop n bs 1 0), sym (get_or-drop n bs 2 0), sym (get_or-drop n bs 3 0)) at

-- ---- a field more

pub field_read : (fs : List Field) (ws : List ℕ) (i n : ℕ) (f : Field) (w : ℕ) (s : State) → n ≡ i + 1 → slice_get fs i ≡ Some f → slice_get ws i ≡ Some w → fits s f w ≡ true →
    read_fields (drop i fs) (drop i ws) i s ≡ read_fields (drop n fs) (drop n ws) n (written s f w)
unfolding read_fields
field_read fs ws i n f w s e at is ok = rw (drop_at fs i n f e at, drop_at ws i n w e is) (rw ok (ap (λ k. read_fields (drop n fs) (drop n ws) k (written s f w)) (sym e)))

pub field_refused : (fs : List Field) (ws : List ℕ) (i : ℕ) (f : Field) (w : ℕ) (s : State) → slice_get fs i ≡ Some f → slice_get ws i ≡ Some w → fits s f w ≡ false → read_fields (drop i fs) (drop i ws) i s ≡ Err i
unfolding read_fields
field_refused fs ws i f w s at is not = rw (drop_at fs i (i + 1) f refl at, drop_at ws i (i + 1) w refl is) (rw not refl)

pub fields_end : (fs : List Field) (ws : List ℕ) (i k : ℕ) (s : State) → length fs ≤ i → read_fields (drop i fs) ws k s ≡ Ok s
unfolding read_fields
fields_end fs ws i k s l = rw (dropped_all fs i l) refl

-- ---- a slot more

pub slot_read : (is ws : List ℕ) (i n k m p w : ℕ) (s : State) → n ≡ i + 1 → m ≡ k + 1 → slice_get is i ≡ Some p → slice_get ws i ≡ Some w → slot_fits s p w ≡ true →
    read_slots (drop i is) (drop i ws) k s ≡ read_slots (drop n is) (drop n ws) m (slot_written s p w)
unfolding read_slots
slot_read is ws i n k m p w s e f at h ok = rw (drop_at is i n p e at, drop_at ws i n w e h) (rw ok (ap (λ x. read_slots (drop n is) (drop n ws) x (slot_written s p w)) (sym f)))

pub slot_refused : (is ws : List ℕ) (i k p w : ℕ) (s : State) → slice_get is i ≡ Some p → slice_get ws i ≡ Some w → slot_fits s p w ≡ false → read_slots (drop i is) (drop i ws) k s ≡ Err k
unfolding read_slots
slot_refused is ws i k p w s at h not = rw (drop_at is i (i + 1) p refl at, drop_at ws i (i + 1) w refl h) (rw not refl)

pub slots_end : (is ws : List ℕ) (i k : ℕ) (s : State) → length is ≤ i → read_slots (drop i is) ws k s ≡ Ok s
unfolding read_slots
slots_end is ws i k s l = rw (dropped_all is i l) refl

-- ---- a register of a channel more

pub channel_read : (fs : List ChannelField) (ws : List ℕ) (i n k m : ℕ) (f : ChannelField) (w : ℕ) (s : State) → n ≡ i + 1 → m ≡ k + 1 → slice_get fs i ≡ Some f → slice_get ws i ≡ Some w → channel_fits s f w ≡ true →
    read_channels (drop i fs) (drop i ws) k s ≡ read_channels (drop n fs) (drop n ws) m (channel_written s f w)
unfolding read_channels
channel_read fs ws i n k m f w s e g at h ok = rw (drop_at fs i n f e at, drop_at ws i n w e h) (rw ok (ap (λ x. read_channels (drop n fs) (drop n ws) x (channel_written s f w)) (sym g)))

pub channel_refused : (fs : List ChannelField) (ws : List ℕ) (i k : ℕ) (f : ChannelField) (w : ℕ) (s : State) → slice_get fs i ≡ Some f → slice_get ws i ≡ Some w → channel_fits s f w ≡ false → read_channels (drop i fs) (drop i ws) k s ≡ Err k
unfolding read_channels
channel_refused fs ws i k f w s at h not = rw (drop_at fs i (i + 1) f refl at, drop_at ws i (i + 1) w refl h) (rw not refl)

pub channels_end : (fs : List ChannelField) (ws : List ℕ) (i k : ℕ) (s : State) → length fs ≤ i → read_channels (drop i fs) ws k s ≡ Ok s
unfolding read_channels
channels_end fs ws i k s l = rw (dropped_all fs i l) refl

-- ---- a region more

-- a word's bytes put one by one
four_bytes : (m : Memory) (a p q r t : ℕ) → p < 256 → q < 256 → r < 256 → t < 256 →
    with_word m a (from_le_bytes w32 (p ∷ q ∷ r ∷ t ∷ [])) ≡ with_byte (with_byte (with_byte (with_byte m a p) (wrap (a + 1)) q) (wrap (a + 2)) r) (wrap (a + 3)) t
unfolding with_word
four_bytes m a p q r t hp hq hr ht =
    let all : (i : ℕ) → get_or (p ∷ q ∷ r ∷ t ∷ []) i 0 < 256 = each in
    let back : to_le_bytes w32 (from_le_bytes w32 (p ∷ q ∷ r ∷ t ∷ [])) ≡ p ∷ q ∷ r ∷ t ∷ [] = le_bytes_4 (p ∷ q ∷ r ∷ t ∷ []) (from_le_bytes w32 (p ∷ q ∷ r ∷ t ∷ [])) refl all refl in
    ap (λ bs. with_byte (with_byte (with_byte (with_byte m a (get_or bs 0 0)) (wrap (a + 1)) (get_or bs 1 0)) (wrap (a + 2)) (get_or bs 2 0)) (wrap (a + 3)) (get_or bs 3 0)) back where
      each : (i : ℕ) → get_or (p ∷ q ∷ r ∷ t ∷ []) i 0 < 256
      each zero = hp
      each (suc zero) = hq
      each (suc (suc zero)) = hr
      each (suc (suc (suc zero))) = ht
      each (suc (suc (suc (suc i)))) = omega arith

pub words_over : (m : Memory) (a n k : ℕ) (bs : List ℕ) → k ≡ 4 * n → k ≤ length bs → a + k < 2 ^ 32 → ((i : ℕ) → get_or bs i 0 < 256) → with_words m a n (words_of bs) ≡ with_bytes m a (take k bs)
unfolding with_words words_of with_bytes
words_over m a zero k bs e l low h = let none : k ≡ 0 = omega arith in rw none refl
words_over m a (suc n) zero bs e l low h = absurd (omega arith)
words_over m a (suc n) (suc zero) bs e l low h = absurd (omega arith)
words_over m a (suc n) (suc (suc zero)) bs e l low h = absurd (omega arith)
words_over m a (suc n) (suc (suc (suc zero))) bs e l low h = absurd (omega arith)
words_over m a (suc n) (suc (suc (suc (suc k)))) [] e l low h = absurd (omega arith)
words_over m a (suc n) (suc (suc (suc (suc k)))) (p ∷ []) e l low h = absurd (omega arith)
words_over m a (suc n) (suc (suc (suc (suc k)))) (p ∷ q ∷ []) e l low h = absurd (omega arith)
words_over m a (suc n) (suc (suc (suc (suc k)))) (p ∷ q ∷ r ∷ []) e l low h = absurd (omega arith)
words_over m a (suc n) (suc (suc (suc (suc k)))) (p ∷ q ∷ r ∷ t ∷ bs) e l low h =
    let third : wrap (wrap (a + 1) + 1) ≡ wrap (a + 2) = omega arith in
    let fourth : wrap (wrap (wrap (a + 1) + 1) + 1) ≡ wrap (a + 3) = omega arith in
    let last : wrap (wrap (wrap (wrap (a + 1) + 1) + 1) + 1) ≡ a + 4 = omega arith in
    let put : Memory → ℕ → ℕ → ℕ → Memory = λ n x y z. with_bytes (with_byte (with_byte n x r) y t) z (take k bs) in
    let here : put (with_byte (with_byte m a p) (wrap (a + 1)) q) (wrap (a + 2)) (wrap (a + 3)) (a + 4) ≡ with_bytes m a (take (suc (suc (suc (suc k)))) (p ∷ q ∷ r ∷ t ∷ bs)) =
    sym (λ i. put (with_byte (with_byte m a p) (wrap (a + 1)) q) (third i) (fourth i) (last i))
    in
    words_over (with_word m a (from_le_bytes w32 (p ∷ q ∷ r ∷ t ∷ []))) (a + 4) n k bs (omega arith) (omega arith) (omega arith) (λ i. h (suc (suc (suc (suc i)))))
    ∙ ap (λ x. with_bytes x (a + 4) (take k bs)) (four_bytes m a p q r t (h 0) (h 1) (h 2) (h 3)) ∙ here

-- the bytes from an offset on hold a region more
pub region_fits : (rs : List Region) (i n at all : ℕ) (r : Region) → n ≡ i + 1 → slice_get rs i ≡ Some r → IsBlock r → at + 4 * memory_count (drop i rs) ≡ all → (at + r.size + 4 * memory_count (drop n rs) ≡ all)
region_fits rs i n at all r e is block f =
    let first : memory_count (drop i rs) ≡ r.size / 4 + memory_count (drop n rs) =
    ap memory_count (drop_at rs i n r e is) ∙ sum_by-cons (λ (x : Region). x.size / 4) r (drop n rs)
    in
    omega (arith, first, f, block.size)

-- the words of a region, of the bytes from an offset on
pub region_read : (m : Memory) (rs : List Region) (i n at end : ℕ) (r : Region) (bs : List ℕ) → n ≡ i + 1 → slice_get rs i ≡ Some r → IsBlock r → end ≡ at + r.size → end ≤ length bs → ((j : ℕ) → get_or bs j 0 < 256) →
    with_regions m (drop i rs) (words_of (drop at bs)) ≡ with_regions (with_bytes m r.base (take r.size (drop at bs))) (drop n rs) (words_of (drop end bs))
unfolding with_regions
region_read m rs i n at end r bs e is block f l h =
    let size = length-drop at bs in
    let words : r.size ≡ 4 * (r.size / 4) = omega (arith, block.size) in
    let put : with_words m r.base (r.size / 4) (words_of (drop at bs)) ≡ with_bytes m r.base (take r.size (drop at bs)) =
    words_over m r.base (r.size / 4) r.size (drop at bs) words (omega (arith, size)) (omega (arith, block.low)) (λ j. rw (get_or-drop at bs j 0) (h (at + j)))
    in
    let rest : drop (r.size / 4) (words_of (drop at bs)) ≡ words_of (drop end bs) =
    sym (drop_words (r.size / 4) r.size (drop at bs) words (omega (arith, size))) ∙ ap words_of (drop_twice at r.size end bs f)
    in
    ap (λ qs. with_regions m qs (words_of (drop at bs))) (drop_at rs i n r e is) ∙ (λ i. with_regions (put i) (drop n rs) (rest i))

pub regions_end : (m : Memory) (rs : List Region) (i : ℕ) (ws : List ℕ) → length rs ≤ i → with_regions m (drop i rs) ws ≡ m
unfolding with_regions
regions_end m rs i ws l = rw (dropped_all rs i l) refl

-- ---- words of bytes are numbers of 32 bits

word_small : (p q r t : ℕ) → p < 256 → q < 256 → r < 256 → t < 256 → from_le_bytes w32 (p ∷ q ∷ r ∷ t ∷ []) < 2 ^ 32
word_small p q r t hp hq hr ht = omega arith

pub words_small : (bs : List ℕ) → ((k x : ℕ) → slice_get bs k ≡ Some x → x < 256) → AreWords (words_of bs)
unfolding words_of
words_small [] h k w e = absurd cc
words_small (p ∷ []) h k w e = absurd cc
words_small (p ∷ q ∷ []) h k w e = absurd cc
words_small (p ∷ q ∷ r ∷ []) h k w e = absurd cc
words_small (p ∷ q ∷ r ∷ t ∷ bs) h zero w e =
    let small = word_small p q r t (h 0 p refl) (h 1 q refl) (h 2 r refl) (h 3 t refl) in
    let same : from_le_bytes w32 (p ∷ q ∷ r ∷ t ∷ []) ≡ w = cc in
    subst (λ x. x < 2 ^ 32) same small
words_small (p ∷ q ∷ r ∷ t ∷ bs) h (suc k) w e = words_small bs (λ j x g. h (suc (suc (suc (suc j)))) x g) k w e
