-- The word of an index among all words: of a field, of a slot, of a register of a channel, of memory.
use Rattle.std.proofs.Common.{◌≡◌, ℕ, zero, suc, ◌+◌, ◌*◌, ◌/◌, ◌%◌, ◌<◌, ◌≤◌, Bool, true, false, cond, List, [], ◌∷◌, ◌++◌, length, get_or, drop, take, Some, None, slice_get, refl, sym, ap, ◌∙◌, subst, arith}
use Rattle.std.specs.Prelude.{map}
use Rattle.std.proofs.lemmas.List.{length-append, length-map}
use Rattle.std.proofs.lemmas.List.Sums.{sum_by-cons, sum_by-take-le, sum_by_more_le}
use Rattle.std.proofs.lemmas.Bool.Decides.{nat_tests}
use Rattle.tz_model.specs.declared.board.Region.{Region}
use Rattle.tz_model.specs.Board.{BoardValue, in_region, is_region, are_regions, bytes_of}
use Rattle.tz_state.specs.Access.{is_mapped}
use Rattle.tz_state.specs.Memory.{Memory, word_at}
use Rattle.tz_state.specs.State.{State}
use Rattle.tz_fields.specs.declared.fields.ChannelField.{ChannelField}
use Rattle.tz_fields.specs.declared.fields.Field.{Field}
use Rattle.tz_fields.specs.Fields.{fields, slot_places, channel_fields}
use Rattle.tz_fields.specs.StateWords.{word_of, slot_word, channel_word, words_from, memory_words, state_words, field_count, slot_count, channel_count, memory_count, word_count}
use Rattle.tz_fields.proofs.Order.{at_left, at_right, at_mapped, length_fields, length_slots}

slot_words : State → List ℕ
slot_words s = map (slot_word s.exceptions) (slot_places s.bus.board.interrupts)

channel_words : State → List ℕ
channel_words s = map (channel_word s) (channel_fields s.bus.board.mover)

-- channels, and memory behind them
last_words : State → List ℕ
last_words s = channel_words s ++ memory_words s.bus.memory s.bus.board.regions

pub length_channels : (b : BoardValue) → length (channel_fields b.mover) ≡ channel_count b
length_channels b = go b.mover where
  go : (t : Bool) → length (channel_fields t) ≡ cond t 8 0
  go true = refl
  go false = refl

pub field_told : (s : State) (i : ℕ) (f : Field) → slice_get (fields s.bus.board) i ≡ Some f → slice_get (state_words s) i ≡ Some (word_of s f)
unfolding state_words slot_words last_words channel_words
field_told s i f e =
    at_left (map (word_of s) (fields s.bus.board)) (slot_words s ++ last_words s) i (word_of s f) (at_mapped (word_of s) (fields s.bus.board) i f e)

past_fields : (s : State) (i j : ℕ) → i ≡ field_count s.bus.board + j → slice_get (state_words s) i ≡ slice_get (slot_words s ++ last_words s) j
unfolding state_words slot_words last_words channel_words
past_fields s i j e =
    let size : length (map (word_of s) (fields s.bus.board)) ≡ field_count s.bus.board = length-map (fields s.bus.board) (word_of s) ∙ length_fields s.bus.board in
    at_right (map (word_of s) (fields s.bus.board)) (slot_words s ++ last_words s) i j (omega (arith, size))

pub slot_told : (s : State) (i j p : ℕ) → i ≡ field_count s.bus.board + j → slice_get (slot_places s.bus.board.interrupts) j ≡ Some p → slice_get (state_words s) i ≡ Some (slot_word s.exceptions p)
unfolding slot_words
slot_told s i j p e g =
    past_fields s i j e
    ∙ at_left (map (slot_word s.exceptions) (slot_places s.bus.board.interrupts)) (last_words s) j (slot_word s.exceptions p)
    (at_mapped (slot_word s.exceptions) (slot_places s.bus.board.interrupts) j p g)

past_slots : (s : State) (i j : ℕ) → i ≡ field_count s.bus.board + slot_count s.bus.board + j → slice_get (state_words s) i ≡ slice_get (last_words s) j
unfolding slot_words
past_slots s i j e =
    let size : length (map (slot_word s.exceptions) (slot_places s.bus.board.interrupts)) ≡ slot_count s.bus.board = length-map (slot_places s.bus.board.interrupts) (slot_word s.exceptions) ∙ length_slots s.bus.board.interrupts in
    past_fields s i (slot_count s.bus.board + j) (omega arith)
    ∙ at_right (map (slot_word s.exceptions) (slot_places s.bus.board.interrupts)) (last_words s) (slot_count s.bus.board + j) j (omega (arith, size))

pub channel_told : (s : State) (i j : ℕ) (f : ChannelField) → i ≡ field_count s.bus.board + slot_count s.bus.board + j → slice_get (channel_fields s.bus.board.mover) j ≡ Some f
    → slice_get (state_words s) i ≡ Some (channel_word s f)
unfolding last_words channel_words
channel_told s i j f e g =
    past_slots s i j e
    ∙ at_left (map (channel_word s) (channel_fields s.bus.board.mover)) (memory_words s.bus.memory s.bus.board.regions) j (channel_word s f)
    (at_mapped (channel_word s) (channel_fields s.bus.board.mover) j f g)

pub memory_told : (s : State) (i j : ℕ) → i ≡ field_count s.bus.board + slot_count s.bus.board + channel_count s.bus.board + j → slice_get (state_words s) i ≡ slice_get (memory_words s.bus.memory s.bus.board.regions) j
unfolding last_words channel_words
memory_told s i j e =
    let size : length (map (channel_word s) (channel_fields s.bus.board.mover)) ≡ channel_count s.bus.board = length-map (channel_fields s.bus.board.mover) (channel_word s) ∙ length_channels s.bus.board in
    past_slots s i (channel_count s.bus.board + j) (omega arith)
    ∙ at_right (map (channel_word s) (channel_fields s.bus.board.mover)) (memory_words s.bus.memory s.bus.board.regions) (channel_count s.bus.board + j) j (omega (arith, size))

-- ---- memory

pub words_at : (m : Memory) (a n k : ℕ) → k < n → slice_get (words_from m a n) k ≡ Some (word_at m (a + 4 * k))
unfolding words_from
words_at m a zero k l = absurd (omega arith)
words_at m a (suc n) zero l = let same : a ≡ a + 4 * 0 = omega arith in ap (λ x. Some (word_at m x)) same
words_at m a (suc n) (suc k) l = let same : a + 4 + 4 * k ≡ a + 4 * suc k = omega arith in words_at m (a + 4) n k (omega arith) ∙ ap (λ x. Some (word_at m x)) same

pub length_words : (m : Memory) (a n : ℕ) → length (words_from m a n) ≡ n
unfolding words_from
length_words m a zero = refl
length_words m a (suc n) = ap suc (length_words m (a + 4) n)

pub memory_here : (m : Memory) (rs : List Region) (i k : ℕ) (r : Region) → slice_get rs i ≡ Some r → k < r.size / 4 → slice_get (memory_words m (drop i rs)) k ≡ Some (word_at m (r.base + 4 * k))
unfolding memory_words
memory_here m [] i k r e l = absurd cc
memory_here m (q ∷ rs) zero k r e l =
    let same : q ≡ r = cc in
    subst (λ (x : Region). slice_get (words_from m x.base (x.size / 4) ++ memory_words m rs) k ≡ Some (word_at m (r.base + 4 * k))) (sym same)
    (at_left (words_from m r.base (r.size / 4)) (memory_words m rs) k _ (words_at m r.base (r.size / 4) k l))
memory_here m (q ∷ rs) (suc i) k r e l = memory_here m rs i k r e l

pub memory_past : (m : Memory) (rs : List Region) (i k j : ℕ) (r : Region) → slice_get rs i ≡ Some r → k ≡ r.size / 4 + j → slice_get (memory_words m (drop i rs)) k ≡ slice_get (memory_words m (drop (suc i) rs)) j
unfolding memory_words
memory_past m [] i k j r e l = absurd cc
memory_past m (q ∷ rs) zero k j r e l =
    let same : q ≡ r = cc in
    let size : length (words_from m q.base (q.size / 4)) ≡ r.size / 4 = length_words m q.base (q.size / 4) ∙ ap (λ (x : Region). x.size / 4) same in
    at_right (words_from m q.base (q.size / 4)) (memory_words m rs) k j (omega (arith, size))
memory_past m (q ∷ rs) (suc i) k j r e l = memory_past m rs i k j r e l

pub memory_next_region : (m : Memory) (rs : List Region) (i n k j : ℕ) (r : Region) → slice_get rs i ≡ Some r → n ≡ i + 1 → k ≡ r.size / 4 + j → slice_get (memory_words m (drop i rs)) k ≡ slice_get (memory_words m (drop n rs)) j
memory_next_region m rs i n k j r e at l =
    let next : suc i ≡ n = omega arith in
    memory_past m rs i k j r e l ∙ ap (λ x. slice_get (memory_words m (drop x rs)) j) next

pub memory_end : (m : Memory) (rs : List Region) (i k : ℕ) → length rs ≤ i → slice_get (memory_words m (drop i rs)) k ≡ None
unfolding memory_words
memory_end m [] zero k l = refl
memory_end m [] (suc i) k l = refl
memory_end m (r ∷ rs) zero k l = absurd (omega arith)
memory_end m (r ∷ rs) (suc i) k l = memory_end m rs i k (omega arith)

-- ---- regions

pub mapped_in : (rs : List Region) (i a : ℕ) (r : Region) → slice_get rs i ≡ Some r → in_region r a ≡ true → is_mapped rs a ≡ true
unfolding is_mapped
mapped_in [] i a r e is = absurd cc
mapped_in (q ∷ rs) zero a r e is =
    let same : q ≡ r = cc in
    let holds : in_region q a ≡ true = ap (λ (x : Region). in_region x a) same ∙ is in
    rw holds refl
mapped_in (q ∷ rs) (suc i) a r e is = elim (in_region q a) as (λ b. in_region q a ≡ b → is_mapped (q ∷ rs) a ≡ true) [
  | true ↦ λ h. rw h refl
  | false ↦ λ h. rw h (mapped_in rs i a r e is)
] refl

-- what a region of a board meets
pub record IsBlock (r : Region) : Type 0 where
  pub base : r.base % 32 ≡ 0
  pub size : r.size % 32 ≡ 0
  pub low : r.base + r.size ≤ 0xE0000000

block_of : (r : Region) → is_region r ≡ true → IsBlock r
block_of r is = record { base = grind (arith, nat_tests); size = grind (arith, nat_tests); low = grind (arith, nat_tests) }

pub block_in : (rs : List Region) (i : ℕ) (r : Region) → are_regions rs ≡ true → slice_get rs i ≡ Some r → IsBlock r
block_in [] i r is e = absurd cc
block_in (q ∷ rs) zero r is e = let same : q ≡ r = cc in subst IsBlock same (block_of q (grind (arith, nat_tests)))
block_in (q ∷ rs) (suc i) r is e = block_in rs i r (grind (arith, nat_tests)) e

pub memory_small : (rs : List Region) → memory_count rs ≤ bytes_of rs
memory_small [] = omega arith
memory_small (r ∷ rs) =
    let h = memory_small rs in
    let words = sum_by-cons (λ (x : Region). x.size / 4) r rs in
    let bytes = sum_by-cons (λ (x : Region). x.size) r rs in
    omega (arith, h, words, bytes)

-- so far, and with the next region
pub memory_next : (rs : List Region) (i : ℕ) (d : Region) → i < length rs → bytes_of rs ≤ 4194304 → memory_count (take i rs) + (get_or rs i d).size / 4 ≤ 4194304
memory_next rs i d l small =
    let more = sum_by_more_le (λ (x : Region). x.size / 4) rs i d l in
    let all = memory_small rs in
    omega (arith, more, all, small)

pub memory_whole : (rs : List Region) (i : ℕ) → bytes_of rs ≤ 4194304 → memory_count (take i rs) ≤ 4194304
memory_whole rs i small =
    let part = sum_by-take-le (λ (x : Region). x.size / 4) rs i in
    let all = memory_small rs in
    omega (arith, part, all, small)

-- ---- how many words there are

length_memory : (m : Memory) (rs : List Region) → length (memory_words m rs) ≡ memory_count rs
unfolding memory_words
length_memory m [] = refl
length_memory m (r ∷ rs) =
    length-append (words_from m r.base (r.size / 4)) (memory_words m rs)
    ∙ (λ i. length_words m r.base (r.size / 4) i + length_memory m rs i)
    ∙ sym (sum_by-cons (λ (x : Region). x.size / 4) r rs)

pub length_state : (s : State) → length (state_words s) ≡ word_count s.bus.board
unfolding state_words slot_words last_words channel_words
length_state s =
    let f : length (map (word_of s) (fields s.bus.board)) ≡ field_count s.bus.board = length-map (fields s.bus.board) (word_of s) ∙ length_fields s.bus.board in
    let e : length (map (slot_word s.exceptions) (slot_places s.bus.board.interrupts)) ≡ slot_count s.bus.board = length-map (slot_places s.bus.board.interrupts) (slot_word s.exceptions) ∙ length_slots s.bus.board.interrupts in
    let c : length (map (channel_word s) (channel_fields s.bus.board.mover)) ≡ channel_count s.bus.board = length-map (channel_fields s.bus.board.mover) (channel_word s) ∙ length_channels s.bus.board in
    let m = length_memory s.bus.memory s.bus.board.regions in
    let last = length-append (map (channel_word s) (channel_fields s.bus.board.mover)) (memory_words s.bus.memory s.bus.board.regions) in
    let behind = length-append (slot_words s) (last_words s) in
    let all = length-append (map (word_of s) (fields s.bus.board)) (slot_words s ++ last_words s) in
    omega (arith, f, e, c, m, last, behind, all)
