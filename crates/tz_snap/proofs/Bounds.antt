-- The first word out of range is one of those that are read.
use Rattle.std.proofs.Common.{◌≡◌, ◌⊎◌, inl, inr, ⊎_elim, ℕ, ◌+◌, ◌<◌, Bool, true, false, if◌then◌else◌, List, [], ◌∷◌, length, drop, Result, Ok, Err, refl, arith, length-drop}
use Rattle.tz_model.specs.Board.{BoardValue}
use Rattle.tz_state.specs.State.{State}
use Rattle.tz_state.specs.Zeros.{zero_memory}
use Rattle.tz_fields.specs.declared.fields.ChannelField.{ChannelField}
use Rattle.tz_fields.specs.declared.fields.Field.{Field}
use Rattle.tz_fields.specs.StateWords.{field_count, slot_count, channel_count, word_count}
use Rattle.tz_fields.specs.Fields.{fields, slot_places, channel_fields}
use Rattle.tz_fields.specs.ReadWords.{read_words, read_fields, read_slots, read_channels, and_slots, and_channels, with_regions, blank, fits, slot_fits, channel_fits, written, slot_written, channel_written}

-- a word that passes its test or is the first that doesn't
by_test : (t : Bool) (r : Result State ℕ) (k i : ℕ) → (if t then r else Err k) ≡ Err i → (r ≡ Err i) ⊎ (i ≡ k)
by_test true r k i e = inl e
by_test false r k i e = let same : k ≡ i = cc in inr (omega arith)

among_fields : (fs : List Field) (ws : List ℕ) (k : ℕ) (s : State) (i : ℕ) → read_fields fs ws k s ≡ Err i → i < k + length ws
unfolding read_fields
among_fields [] ws k s i e = cc
among_fields (f ∷ fs) [] k s i e = cc
among_fields (f ∷ fs) (w ∷ ws) k s i e =
    ⊎_elim (λ later. let l = among_fields fs ws (k + 1) (written s f w) i later in omega arith) (λ here. omega arith)
    (by_test (fits s f w) (read_fields fs ws (k + 1) (written s f w)) k i e)

among_slots : (places ws : List ℕ) (k : ℕ) (s : State) (i : ℕ) → read_slots places ws k s ≡ Err i → i < k + length ws
unfolding read_slots
among_slots [] ws k s i e = cc
among_slots (p ∷ places) [] k s i e = cc
among_slots (p ∷ places) (w ∷ ws) k s i e =
    ⊎_elim (λ later. let l = among_slots places ws (k + 1) (slot_written s p w) i later in omega arith) (λ here. omega arith)
    (by_test (slot_fits s p w) (read_slots places ws (k + 1) (slot_written s p w)) k i e)

among_channels : (fs : List ChannelField) (ws : List ℕ) (k : ℕ) (s : State) (i : ℕ) → read_channels fs ws k s ≡ Err i → i < k + length ws
unfolding read_channels
among_channels [] ws k s i e = cc
among_channels (f ∷ fs) [] k s i e = cc
among_channels (f ∷ fs) (w ∷ ws) k s i e =
    ⊎_elim (λ later. let l = among_channels fs ws (k + 1) (channel_written s f w) i later in omega arith) (λ here. omega arith)
    (by_test (channel_fits s f w) (read_channels fs ws (k + 1) (channel_written s f w)) k i e)

among_both : (b : BoardValue) (ws : List ℕ) (r : Result State ℕ) (i : ℕ) → length ws ≡ word_count b → ((j : ℕ) → r ≡ Err j → j < length ws) → and_slots b ws r ≡ Err i → i < word_count b
among_both b ws (Err k) i l h e = let same : k ≡ i = cc in let below = h k refl in omega arith
among_both b ws (Ok s) i l h e =
    let below = among_slots (slot_places b.interrupts) (drop (field_count b) ws) (field_count b) s i e in
    let left = length-drop (field_count b) ws in
    omega arith

among_all : (b : BoardValue) (ws : List ℕ) (r : Result State ℕ) (i : ℕ) → length ws ≡ word_count b → ((j : ℕ) → r ≡ Err j → j < length ws) → and_channels b ws r ≡ Err i → i < word_count b
among_all b ws (Err k) i l h e = let same : k ≡ i = cc in let below = h k refl in omega arith
among_all b ws (Ok s) i l h e =
    let below = among_channels (channel_fields b.mover) (drop (field_count b + slot_count b) ws) (field_count b + slot_count b) s i e in
    let left = length-drop (field_count b + slot_count b) ws in
    omega arith

pub among_words : (b : BoardValue) (ws : List ℕ) (i : ℕ) → length ws ≡ word_count b → read_words b ws ≡ Err i → i < word_count b
unfolding read_words
among_words b ws i l e =
    let m = with_regions (zero_memory b.regions) b.regions (drop (field_count b + slot_count b + channel_count b) ws) in
    let read = read_fields (fields b) ws 0 (blank b m) in
    let first : (j : ℕ) → read ≡ Err j → j < length ws = λ j f. let below = among_fields (fields b) ws 0 (blank b m) j f in omega arith in
    among_all b ws (and_slots b ws read) i l (λ j f. let below = among_both b ws read j l first f in omega arith) e
