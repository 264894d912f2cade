-- A state to read into, and how the words of a board are read.
use Rattle.std.proofs.Common.{◌≡◌, ℕ, ◌+◌, ◌-◌, ◌*◌, List, length, drop, take, refl, sym, ap, ◌∙◌, subst, arith}
use Rattle.std.specs.Prelude.{Ok, Err}
use Rattle.tz_model.specs.Board.{BoardValue}
use Rattle.tz_state.specs.Memory.{Memory}
use Rattle.tz_state.specs.State.{State}
use Rattle.tz_state.specs.UnitRegisters.{reset_sau, reset_mpu}
use Rattle.tz_state.specs.Zeros.{zero_memory}
use Rattle.tz_fields.specs.Fields.{fields, slot_places}
use Rattle.tz_fields.specs.StateWords.{field_count, slot_count, channel_count, word_count}
use Rattle.tz_fields.specs.ReadWords.{IsFresh, blank, read_fields, read_slots, read_words, and_slots, and_channels, with_regions, words_of}
use Rattle.tz_fields.proofs.Reading.{rest_of, drop_words}

pub fresh_blank : (b : BoardValue) (m : Memory) → IsFresh (blank b m)
unfolding reset_sau reset_mpu
fresh_blank b m = record { rnr_s = omega arith; rnr_ns = omega arith; rnr_sau = omega arith; idle = refl }

pub fields_refused : (b : BoardValue) (ws : List ℕ) (s : State) (k : ℕ) → s ≡ blank b (with_regions (zero_memory b.regions) b.regions (drop (field_count b + slot_count b + channel_count b) ws)) → read_fields (fields b) ws 0 s ≡ Err k → read_words b ws ≡ Err k
unfolding read_words
fields_refused b ws s k is e = ap (λ x. and_channels b ws (and_slots b ws (read_fields (fields b) ws 0 x))) (sym is) ∙ ap (λ r. and_channels b ws (and_slots b ws r)) e

pub fields_accepted : (b : BoardValue) (ws : List ℕ) (s t : State) → s ≡ blank b (with_regions (zero_memory b.regions) b.regions (drop (field_count b + slot_count b + channel_count b) ws)) → read_fields (fields b) ws 0 s ≡ Ok t →
    read_words b ws ≡ and_channels b ws (read_slots (slot_places b.interrupts) (drop (field_count b) ws) (field_count b) t)
unfolding read_words
fields_accepted b ws s t is e = ap (λ x. and_channels b ws (and_slots b ws (read_fields (fields b) ws 0 x))) (sym is) ∙ ap (λ r. and_channels b ws (and_slots b ws r)) e

-- a machine that was made with the last bytes as its memory
pub is_blank : (b : BoardValue) (bs : List ℕ) (f s n : ℕ) (m : State) → f ≡ field_count b → s ≡ slot_count b → n ≡ channel_count b → length bs ≡ 4 * word_count b →
    m ≡ blank b (with_regions (zero_memory b.regions) b.regions (words_of (take (length bs - 4 * (f + s + n)) (drop (4 * (f + s + n)) bs)))) →
    m ≡ blank b (with_regions (zero_memory b.regions) b.regions (drop (field_count b + slot_count b + channel_count b) (words_of bs)))
is_blank b bs f s n m ef es en l is =
    let last : words_of (take (length bs - 4 * (f + s + n)) (drop (4 * (f + s + n)) bs)) ≡ drop (f + s + n) (words_of bs) =
    ap words_of (rest_of bs (4 * (f + s + n))) ∙ drop_words (f + s + n) (4 * (f + s + n)) bs refl (omega (arith, ef, es, en, l))
    in
    let count : f + s + n ≡ field_count b + slot_count b + channel_count b = omega (arith, ef, es, en) in
    is ∙ ap (λ ws. blank b (with_regions (zero_memory b.regions) b.regions ws)) (last ∙ ap (λ k. drop k (words_of bs)) count)

pub fresh : (b : BoardValue) (n : Memory) (m : State) → m ≡ blank b n → IsFresh m
fresh b n m is = subst IsFresh (sym is) (fresh_blank b n)
