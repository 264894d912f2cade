-- The laws of state files.
use Rattle.std.proofs.Common.{◌≡◌, ℕ, ◌+◌, ◌<◌, ◌≤◌, List, ◌++◌, length, drop, Some, Result, Ok, sym, ap, ◌∙◌, arith, length-drop}
use Rattle.std.specs.Prelude.{slice_get}
use Rattle.std.proofs.lemmas.Option.{get_or_from_slice_get}
use Rattle.tz_model.specs.Board.{BoardValue, IsBoard}
use Rattle.tz_state.specs.State.{State}
use Rattle.tz_fields.specs.StateWords.{state_words, word_count}
use Rattle.tz_fields.specs.ReadWords.{words_of, AreWords, IsState}
use Rattle.tz_snap.specs.FileWords.{AreBytes, bytes_of_words}
use Rattle.tz_snap.specs.StateFile.{SavedState, Refusal, head_words, head_count, file_words, file_of, saved_of, most_steps}
use Rattle.tz_snap.proofs.Words.{fewer_words, length_words}
use Rattle.tz_snap.proofs.Counts.{state_count}
use Rattle.tz_snap.proofs.StateFits.{state_fits}
use Rattle.tz_snap.proofs.Files.{accepted, tests_of, same_bytes}
use Rattle.tz_snap.proofs.WordLaws.{words_back, words_only}

pub reads_back : (b : BoardValue) (s : State) (n : ℕ) → IsBoard b → IsState b s → n ≤ most_steps → saved_of b (file_of s n) ≡ Ok (record { state = s; step = n })
unfolding file_of file_words
reads_back b s n board h few =
    ap (λ (x : BoardValue). saved_of b (bytes_of_words (head_words x n ++ state_words s))) h.board
    ∙ accepted b n (state_words s) s board few (state_fits b s h) (state_count s ∙ ap word_count h.board) (words_back b s board h)

same_saved : (x y : SavedState) → ◌≡◌ {A = Result SavedState Refusal} (Ok x) (Ok y) → x ≡ y
same_saved x y e = cc

-- no two states, or numbers of steps, have one file
pub told_apart : (b : BoardValue) (s t : State) (n m : ℕ) → IsBoard b → IsState b s → IsState b t → n ≤ most_steps → m ≤ most_steps → file_of s n ≡ file_of t m → (s ≡ t) × (n ≡ m)
told_apart b s t n m board h i few few' e =
    let same = same_saved (record { state = s; step = n }) (record { state = t; step = m }) (sym (reads_back b s n board h few) ∙ ap (saved_of b) e ∙ reads_back b t m board i few') in
    (ap (λ (x : SavedState). x.state) same, ap (λ (x : SavedState). x.step) same)

-- each byte by its index
by_index : (bytes : List ℕ) → AreBytes bytes → (k x : ℕ) → slice_get bytes k ≡ Some x → x < 256
by_index bytes h k x e = let same = get_or_from_slice_get bytes k x 0 e in let below = h k in omega arith

pub read_only : (b : BoardValue) (bytes : List ℕ) (x : SavedState) → (((k w : ℕ) → slice_get bytes k ≡ Some w → w < 256) → AreWords (words_of bytes)) → IsBoard b → AreBytes bytes
    → saved_of b bytes ≡ Ok x
    → (bytes ≡ file_of x.state x.step) × IsState b x.state × (x.step ≤ most_steps)
unfolding file_of file_words
read_only b bytes x words board all e =
    let a = tests_of b bytes x e in
    let behind = drop (head_count b) (words_of bytes) in
    let fit : AreWords behind = fewer_words (head_count b) (words_of bytes) (words (by_index bytes all)) in
    let long : length behind ≡ word_count b =
    let one = length-drop (head_count b) (words_of bytes) in
    let two = length_words bytes (head_count b + word_count b) a.long in
    omega arith in
    let told = words_only b behind board fit long x.state a.read in
    (same_bytes b bytes (state_words x.state) x all a told.0 ∙ ap (λ (y : BoardValue). bytes_of_words (head_words y x.step ++ state_words x.state)) (sym told.1.board), told.1, a.few)
