-- How many words a state has.
use Rattle.std.proofs.Common.{◌≡◌, ℕ, zero, suc, ◌+◌, ◌*◌, ◌/◌, ◌<◌, ◌≤◌, nat_le, ◌^◌, Bool, true, false, if◌then◌else◌, List, [], ◌∷◌, ◌++◌, length, map, None, get_or, refl, sym, ap, ◌∙◌, arith, length-append}
use Rattle.std.specs.Prelude.{slice_get}
use Rattle.std.specs.List.{range_with_len}
use Rattle.std.proofs.lemmas.Bool.{and_parts, leb-true}
use Rattle.std.proofs.lemmas.Option.{none-some, slice_get-get_or, slice_get_past}
use Rattle.std.proofs.lemmas.List.{length-map}
use Rattle.std.proofs.lemmas.List.Sums.{sum_by-cons}
use Rattle.std.proofs.lemmas.List.FromFn.{length-range_with_len}
use Rattle.tz_table.specs.declared.units.Side.TheVariants.{Secure, NonSecure}
use Rattle.tz_model.specs.declared.board.Region.{Region}
use Rattle.tz_model.specs.Board.{BoardValue, IsBoard, bytes_of, most_bytes, within}
use Rattle.tz_state.specs.Memory.{Memory}
use Rattle.tz_state.specs.State.{State}
use Rattle.tz_state.specs.Slots.{first_interrupt_place}
use Rattle.tz_fields.specs.declared.fields.Field.TheVariants.{Running, Banked, Shared}
use Rattle.tz_fields.specs.Fields.{fields, slot_places, channel_fields, system_places, running_fields, banked_fields, banked_last, shared_fields, shared_last, mpu_region_fields, sau_region_fields}
use Rattle.tz_fields.specs.StateWords.{word_of, slot_word, channel_word, words_from, memory_words, state_words, field_count, memory_count, word_count}
use Rattle.tz_snap.specs.StateFile.{file_words, head_words, head_count}
use Rattle.tz_snap.proofs.HeadWords.{length_head}

-- ---- the words of a state are as many as its board says

pub mpu_regions : (k n : ℕ) → length (mpu_region_fields k n) ≡ 2 * n
unfolding mpu_region_fields
mpu_regions k zero = refl
mpu_regions k (suc n) = let more = mpu_regions (k + 1) n in omega arith

pub sau_regions : (k n : ℕ) → length (sau_region_fields k n) ≡ 2 * n
unfolding sau_region_fields
sau_regions k zero = refl
sau_regions k (suc n) = let more = sau_regions (k + 1) n in omega arith

banked_count : (n : ℕ) → length (banked_fields n) ≡ 21 + 2 * n
unfolding banked_fields
banked_count n =
    let regions = mpu_regions 0 n in
    let behind = length-append (mpu_region_fields 0 n) banked_last in
    omega arith

shared_count : (n : ℕ) → length (shared_fields n) ≡ 9 + 2 * n
unfolding shared_fields
shared_count n =
    let regions = sau_regions 0 n in
    let behind = length-append (sau_region_fields 0 n) shared_last in
    omega arith

pub fields_count : (b : BoardValue) → length (fields b) ≡ field_count b
unfolding fields
fields_count b =
    let secure = map (Banked Secure) (banked_fields b.mpu_secure) in
    let nonsecure = map (Banked NonSecure) (banked_fields b.mpu_nonsecure) in
    let shared = map Shared (shared_fields b.sau_regions) in
    let one = length-append (map Running running_fields) (secure ++ (nonsecure ++ shared)) in
    let two = length-append secure (nonsecure ++ shared) in
    let three = length-append nonsecure shared in
    let a = length-map running_fields Running in
    let b' = length-map (banked_fields b.mpu_secure) (Banked Secure) in
    let c = length-map (banked_fields b.mpu_nonsecure) (Banked NonSecure) in
    let d = length-map (shared_fields b.sau_regions) Shared in
    let e = banked_count b.mpu_secure in
    let f = banked_count b.mpu_nonsecure in
    let g = shared_count b.sau_regions in
    omega arith

pub slots_count : (n : ℕ) → length (slot_places n) ≡ 15 + n
unfolding slot_places
slots_count n =
    let all = length-append system_places (range_with_len first_interrupt_place n) in
    let external = length-range_with_len first_interrupt_place n in
    omega arith

pub channels_count : (mover : Bool) → length (channel_fields mover) ≡ (if mover then 8 else 0)
channels_count true = refl
channels_count false = refl

pub from_count : (m : Memory) (a n : ℕ) → length (words_from m a n) ≡ n
unfolding words_from
from_count m a zero = refl
from_count m a (suc n) = let more = from_count m (a + 4) n in omega arith

pub memory_words_count : (m : Memory) (rs : List Region) → length (memory_words m rs) ≡ memory_count rs
unfolding memory_words
memory_words_count m [] = refl
memory_words_count m (r ∷ rs) =
    let apart = sum_by-cons (λ (q : Region). q.size / 4) r rs in
    let both = length-append (words_from m r.base (r.size / 4)) (memory_words m rs) in
    let here = from_count m r.base (r.size / 4) in
    let more = memory_words_count m rs in
    omega arith

pub state_count : (s : State) → length (state_words s) ≡ word_count s.bus.board
unfolding state_words
state_count s =
    let b = s.bus.board in
    let some = map (word_of s) (fields b) in
    let slots = map (slot_word s.exceptions) (slot_places b.interrupts) in
    let channels = map (channel_word s) (channel_fields b.mover) in
    let memory = memory_words s.bus.memory b.regions in
    let one = length-append some (slots ++ (channels ++ memory)) in
    let two = length-append slots (channels ++ memory) in
    let three = length-append channels memory in
    let c = length-map (fields b) (word_of s) in
    let d = length-map (slot_places b.interrupts) (slot_word s.exceptions) in
    let e = fields_count b in
    let f = slots_count b.interrupts in
    let g = memory_words_count s.bus.memory b.regions in
    let h = length-map (channel_fields b.mover) (channel_word s) in
    let i = channels_count b.mover in
    omega arith

-- ---- and they are few

few_channels : (mover : Bool) → (if mover then 8 else 0) ≤ 8
few_channels true = omega arith
few_channels false = omega arith

-- words of memory are no more than its bytes
memory_small : (rs : List Region) → memory_count rs ≤ bytes_of rs
memory_small [] = omega arith
memory_small (r ∷ rs) =
    let rest = memory_small rs in
    let words = sum_by-cons (λ (q : Region). q.size / 4) r rs in
    let bytes = sum_by-cons (λ (q : Region). q.size) r rs in
    omega arith

-- a board's words of a state and the head before them are few
pub few_words : (b : BoardValue) → IsBoard b → head_count b + word_count b < 2 ^ 24
few_words b h =
    let one = and_parts (within 1 240 b.interrupts) _ h.counts in
    let two = and_parts (nat_le b.sau_regions 8) _ one.1 in
    let three = and_parts (nat_le b.mpu_secure 16) (nat_le b.mpu_nonsecure 16) two.1 in
    let interrupts : b.interrupts ≤ 240 = leb-true b.interrupts 240 (and_parts (nat_le 1 b.interrupts) (nat_le b.interrupts 240) one.0).1 in
    let sau : b.sau_regions ≤ 8 = leb-true b.sau_regions 8 two.0 in
    let secure : b.mpu_secure ≤ 16 = leb-true b.mpu_secure 16 three.0 in
    let nonsecure : b.mpu_nonsecure ≤ 16 = leb-true b.mpu_nonsecure 16 three.1 in
    let count : length b.regions ≤ 32 = leb-true (length b.regions) 32 (and_parts (nat_le 1 (length b.regions)) (nat_le (length b.regions) 32) h.some_regions).1 in
    let bytes : bytes_of b.regions ≤ most_bytes = leb-true (bytes_of b.regions) most_bytes h.small in
    let memory = memory_small b.regions in
    let channels = few_channels b.mover in
    let head = length_head b in
    omega arith

-- ---- the words of a file

file_words_count : (s : State) (n : ℕ) → length (file_words s n) ≡ head_count s.bus.board + word_count s.bus.board
unfolding file_words
file_words_count s n =
    let all = length-append (head_words s.bus.board n) (state_words s) in
    let state = state_count s in
    omega arith

-- below their number a word is there, and from it on none is
pub word_is_there : (b : BoardValue) (s : State) (n i : ℕ) → b ≡ s.bus.board → i < head_count b + word_count b → slice_get (file_words s n) i ≡ None → ⊥
word_is_there b s n i e l none =
    let count = file_words_count s n in
    let head : head_count b ≡ head_count s.bus.board = ap head_count e in
    let words : word_count b ≡ word_count s.bus.board = ap word_count e in
    let some = slice_get-get_or (file_words s n) i 0 (omega arith) in
    none-some (get_or (file_words s n) i 0) (sym none ∙ some)

pub no_word_is_there : (b : BoardValue) (s : State) (n i : ℕ) → b ≡ s.bus.board → head_count b + word_count b ≤ i → slice_get (file_words s n) i ≡ None
no_word_is_there b s n i e l =
    let count = file_words_count s n in
    let head : head_count b ≡ head_count s.bus.board = ap head_count e in
    let words : word_count b ≡ word_count s.bus.board = ap word_count e in
    slice_get_past (file_words s n) i (omega arith)
