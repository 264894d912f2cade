-- The words of a state of a board are words.
use Rattle.std.proofs.Common.{◌≡◌, ⊎_elim, ℕ, zero, suc, ◌+◌, ◌%◌, ◌/◌, ◌^◌, ◌<◌, ◌≤◌, Bool, true, false, List, [], ◌∷◌, length, map, Some, refl, sym, ap, ◌∙◌, subst, arith}
use Rattle.std.specs.Prelude.{slice_get}
use Rattle.std.proofs.lemmas.Bool.{cases_lt, cond_both}
use Rattle.std.proofs.lemmas.List.{get_or-set_same, get_or_past}
use Rattle.tz_table.specs.declared.units.Side.{Side}
use Rattle.tz_table.specs.declared.units.Side.TheVariants.{Secure, NonSecure}
use Rattle.tz_model.specs.declared.board.Region.{Region}
use Rattle.tz_model.specs.Board.{BoardValue}
use Rattle.tz_regs.specs.Special.{number_of}
use Rattle.tz_state.specs.Memory.{Memory, byte_at, word_at}
use Rattle.tz_state.specs.State.{State}
use Rattle.tz_state.specs.Slots.{at, idle, exception_number, has_fixed_priority, is_enabled}
use Rattle.tz_fields.specs.declared.fields.ChannelField.{ChannelField}
use Rattle.tz_fields.specs.declared.fields.Field.{Field}
use Rattle.tz_fields.specs.Fields.{fields, slot_places, channel_fields}
use Rattle.tz_fields.specs.StateWords.{side_number, word_of, slot_word, channel_word, words_from, memory_words, state_words}
use Rattle.tz_fields.specs.ReadWords.{AreWords, IsState, IsTold, IsSlotTold, IsChannelTold, slot_from}
use Rattle.tz_snap.proofs.Words.{no_words, one_more_word, both_words}

-- ---- fields

field_words : (s : State) (fs : List Field) → ((k : ℕ) (f : Field) → slice_get fs k ≡ Some f → IsTold s f) → AreWords (map (word_of s) fs)
field_words s [] h = no_words
field_words s (f ∷ fs) h = one_more_word (word_of s f) (map (word_of s) fs) (h 0 f refl).0 (field_words s fs (λ k g e. h (suc k) g e))

-- ---- slots

flag_fits : (b : Bool) → number_of b ≤ 1
flag_fits true = omega arith
flag_fits false = omega arith

side_fits : (side : Side) → side_number side ≤ 1
side_fits Secure = omega arith
side_fits NonSecure = omega arith

priority_from : (i w : ℕ) → (slot_from i w).priority < 256
priority_from i w = cond_both (has_fixed_priority (exception_number i)) 0 (w % 2 ^ 8) (λ n. n < 256) (λ e. omega arith) (λ e. omega arith)

priority_fits : (s : State) (i : ℕ) → IsSlotTold s i → (at s.exceptions i).priority < 256
priority_fits s i told =
    let slots = s.exceptions.slots in
    let word = slot_word s.exceptions i in
    ⊎_elim
    (λ within.
    let same : at s.exceptions i ≡ slot_from i word =
    ap (λ (t : State). at t.exceptions i) (sym told) ∙ get_or-set_same slots i (slot_from i word) idle within in
    let small = priority_from i word in
    let priority : (at s.exceptions i).priority ≡ (slot_from i word).priority = ap (λ x. x.priority) same in
    omega arith)
    (λ past.
    let none : (at s.exceptions i).priority ≡ 0 = ap (λ x. x.priority) (get_or_past slots i idle past) in
    omega arith)
    (cases_lt i (length slots))

slot_fits : (s : State) (i : ℕ) → IsSlotTold s i → slot_word s.exceptions i < 2 ^ 32
slot_fits s i told =
    let e = s.exceptions in
    let priority = priority_fits s i told in
    let pending = flag_fits (at e i).pending in
    let active = flag_fits (at e i).active in
    let enabled = flag_fits (is_enabled e i) in
    let target = side_fits (at e i).target in
    omega arith

slot_words : (s : State) (places : List ℕ) → ((k i : ℕ) → slice_get places k ≡ Some i → IsSlotTold s i) → AreWords (map (slot_word s.exceptions) places)
slot_words s [] h = no_words
slot_words s (i ∷ places) h =
    one_more_word (slot_word s.exceptions i) (map (slot_word s.exceptions) places) (slot_fits s i (h 0 i refl)) (slot_words s places (λ k j e. h (suc k) j e))

-- ---- channels

channel_words : (s : State) (fs : List ChannelField) → ((k : ℕ) (f : ChannelField) → slice_get fs k ≡ Some f → IsChannelTold s f) → AreWords (map (channel_word s) fs)
channel_words s [] h = no_words
channel_words s (f ∷ fs) h = one_more_word (channel_word s f) (map (channel_word s) fs) (h 0 f refl).0 (channel_words s fs (λ k g e. h (suc k) g e))

-- ---- memory

pub word_fits : (m : Memory) → ((a : ℕ) → byte_at m a < 256) → (a : ℕ) → word_at m a < 2 ^ 32
unfolding word_at
word_fits m h a = let b0 = h a in let b1 = h ((a + 1) % 2 ^ 32) in let b2 = h ((a + 2) % 2 ^ 32) in let b3 = h ((a + 3) % 2 ^ 32) in omega arith

some_words : (m : Memory) → ((a : ℕ) → byte_at m a < 256) → (a n : ℕ) → AreWords (words_from m a n)
unfolding words_from
some_words m h a zero = no_words
some_words m h a (suc n) = one_more_word (word_at m a) (words_from m (a + 4) n) (word_fits m h a) (some_words m h (a + 4) n)

region_words : (m : Memory) → ((a : ℕ) → byte_at m a < 256) → (rs : List Region) → AreWords (memory_words m rs)
unfolding memory_words
region_words m h [] = no_words
region_words m h (r ∷ rs) = both_words (words_from m r.base (r.size / 4)) (memory_words m rs) (some_words m h r.base (r.size / 4)) (region_words m h rs)

-- ---- all

fit_on : (b : BoardValue) (s : State) → s.bus.board ≡ b → IsState b s → AreWords (state_words s)
unfolding state_words
fit_on b s e h =
    let told : (k : ℕ) (f : Field) → slice_get (fields s.bus.board) k ≡ Some f → IsTold s f =
    subst (λ (x : BoardValue). (k : ℕ) (f : Field) → slice_get (fields x) k ≡ Some f → IsTold s f) (sym e) h.fields in
    let slots : (k i : ℕ) → slice_get (slot_places s.bus.board.interrupts) k ≡ Some i → IsSlotTold s i =
    subst (λ (x : BoardValue). (k i : ℕ) → slice_get (slot_places x.interrupts) k ≡ Some i → IsSlotTold s i) (sym e) h.slot_fields in
    let channels : (k : ℕ) (f : ChannelField) → slice_get (channel_fields s.bus.board.mover) k ≡ Some f → IsChannelTold s f =
    subst (λ (x : BoardValue). (k : ℕ) (f : ChannelField) → slice_get (channel_fields x.mover) k ≡ Some f → IsChannelTold s f) (sym e) h.channels in
    both_words (map (word_of s) (fields s.bus.board)) _ (field_words s (fields s.bus.board) told)
    (both_words (map (slot_word s.exceptions) (slot_places s.bus.board.interrupts)) _ (slot_words s (slot_places s.bus.board.interrupts) slots)
    (both_words (map (channel_word s) (channel_fields s.bus.board.mover)) _ (channel_words s (channel_fields s.bus.board.mover) channels)
    (region_words s.bus.memory h.bytes s.bus.board.regions)))

pub state_fits : (b : BoardValue) (s : State) → IsState b s → AreWords (state_words s)
state_fits b s h = fit_on b s h.board h
