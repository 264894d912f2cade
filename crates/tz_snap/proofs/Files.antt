-- The file of a state is accepted, and what is accepted is the file of a state.
use Rattle.std.proofs.Common.{◌≡◌, ℕ, suc, ◌+◌, ◌-◌, ◌*◌, ◌^◌, ◌<◌, ◌≤◌, ◌==◌, Bool, true, false, not, if◌then◌else◌, nat_lt, List, [], ◌∷◌, ◌++◌, length, drop, take, Option, Some, None, Result, Ok, Err, refl, sym, ap, ◌∙◌, subst, arith, length-append, length-drop}
use Rattle.std.proofs.lemmas.Bool.{eqb-true, eq-eqb, le-ltb, ltb-false}
use Rattle.std.proofs.lemmas.Option.{cond_some}
use Rattle.std.proofs.lemmas.List.{drop_at, take_rest}
use Rattle.tz_model.specs.Board.{BoardValue, IsBoard}
use Rattle.tz_state.specs.State.{State}
use Rattle.tz_fields.specs.StateWords.{word_count}
use Rattle.tz_fields.specs.ReadWords.{read_words, words_of, AreWords, IsWordsRefusal}
use Rattle.tz_fields.specs.declared.from_words.WordsError.{WordsError}
use Rattle.tz_fields.specs.declared.from_words.WordsError.TheVariants as WordsErrors
use Rattle.tz_snap.specs.FileWords.{AreBytes, bytes_of_words}
use Rattle.tz_snap.specs.StateFile.{SavedState, Refusal, Board, Length, Value, board_words, head_words, begins_with, step_in, head_count, file_length, behind_head, values_of, saved_by, saved_of, most_steps, magic}
use Rattle.tz_snap.proofs.Words.{both_words, words_of_bytes, bytes_of_words_of, length_bytes, drop_words, length_words}
use Rattle.tz_snap.proofs.Bounds.{among_words}
use Rattle.tz_snap.proofs.Lists.{front_of_both, front_split}
use Rattle.tz_snap.proofs.Fits.{head_fits}

-- ---- what is written is accepted

-- a file of the board and of its length is refused by its values alone
pub by_values : (b : BoardValue) (bytes : List ℕ) (n : ℕ) → begins_with (board_words b) (drop 2 (words_of bytes)) ≡ true → length bytes ≡ file_length b →
    saved_by b bytes (Some n) ≡ values_of b n (words_of bytes)
by_values b bytes n e l =
    ap (λ (t : Bool). if not t then Err Board else if not (length bytes == file_length b) then Err Length else values_of b n (words_of bytes)) e
    ∙ ap (λ (t : Bool). if not t then Err Length else values_of b n (words_of bytes)) (eq-eqb (length bytes) (file_length b) l)

-- a number of steps that a file can have is refused by the words of the state alone
pub by_state : (b : BoardValue) (n : ℕ) (words : List ℕ) → n ≤ most_steps → values_of b n words ≡ behind_head (head_count b) n (read_words b (drop (head_count b) words))
by_state b n words l =
    ap (λ (t : Bool). if t then Err (Value 1) else behind_head (head_count b) n (read_words b (drop (head_count b) words))) (le-ltb most_steps n l)

-- behind the head stand the words of the state
behind : (b : BoardValue) (n : ℕ) (words : List ℕ) → drop (head_count b) (head_words b n ++ words) ≡ words
behind b n words =
    let l : length (head_words b n) ≡ head_count b = omega arith in
    drop_at (head_words b n) words (head_count b) l

-- the bytes of a head and other words
pub accepted : (b : BoardValue) (n : ℕ) (words : List ℕ) (s : State) → IsBoard b → n ≤ most_steps → AreWords words → length words ≡ word_count b → read_words b words ≡ Ok s →
    saved_of b (bytes_of_words (head_words b n ++ words)) ≡ Ok (record { state = s; step = n })
unfolding saved_of
accepted b n words s board l fits count e =
    let all = head_words b n ++ words in
    let bytes = bytes_of_words all in
    let same : words_of bytes ≡ all = words_of_bytes all (both_words (head_words b n) words (head_fits b n board l) fits) in
    let front : begins_with (board_words b) (drop 2 (words_of bytes)) ≡ true =
    ap (λ (ws : List ℕ). begins_with (board_words b) (drop 2 ws)) same ∙ front_of_both (board_words b) words in
    let long : length bytes ≡ file_length b =
    let one = length_bytes all in
    let two = length-append (head_words b n) words in
    omega arith in
    ap (λ (ws : List ℕ). saved_by b bytes (step_in ws)) same
    ∙ by_values b bytes n front long
    ∙ ap (values_of b n) same
    ∙ by_state b n all l
    ∙ ap (λ (ws : List ℕ). behind_head (head_count b) n (read_words b ws)) (behind b n words)
    ∙ ap (behind_head (head_count b) n) e

-- a refusal that names its word
pub refused : (e : WordsError) (i : ℕ) (r : Result State ℕ) → e ≡ WordsErrors.Value i → IsWordsRefusal e r → r ≡ Err i
refused e i r is h = subst (λ (x : WordsError). IsWordsRefusal x r) is h

-- the words behind a head of h words were read, or not
pub read_ok : (b : BoardValue) (n h : ℕ) (bytes : List ℕ) (s : State) → h ≡ head_count b → n ≤ most_steps → read_words b (words_of (take (length bytes - 4 * h) (drop (4 * h) bytes))) ≡ Ok s
    → values_of b n (words_of bytes) ≡ Ok (record { state = s; step = n })
read_ok b n h bytes s e l read =
    by_state b n (words_of bytes) l
    ∙ ap (λ (k : ℕ). behind_head (head_count b) n (read_words b (drop k (words_of bytes)))) (sym e)
    ∙ ap (λ (ws : List ℕ). behind_head (head_count b) n (read_words b ws)) (sym (drop_words h bytes) ∙ ap words_of (sym (take_rest bytes (4 * h))))
    ∙ ap (behind_head (head_count b) n) read

pub read_err : (b : BoardValue) (n h : ℕ) (bytes : List ℕ) (i : ℕ) → h ≡ head_count b → n ≤ most_steps → read_words b (words_of (take (length bytes - 4 * h) (drop (4 * h) bytes))) ≡ Err i
    → values_of b n (words_of bytes) ≡ Err (Value (h + i))
read_err b n h bytes i e l read =
    by_state b n (words_of bytes) l
    ∙ ap (λ (k : ℕ). behind_head k n (read_words b (drop k (words_of bytes)))) (sym e)
    ∙ ap (λ (ws : List ℕ). behind_head h n (read_words b ws)) (sym (drop_words h bytes) ∙ ap words_of (sym (take_rest bytes (4 * h))))
    ∙ ap (behind_head h n) read

-- the place of a word out of range is small
pub place_small : (b : BoardValue) (h : ℕ) (bytes : List ℕ) (i : ℕ) → h ≡ head_count b → length bytes ≡ file_length b → length bytes < 2 ^ 26 → read_words b (words_of (take (length bytes - 4 * h) (drop (4 * h) bytes))) ≡ Err i → h + i < 2 ^ 24
place_small b h bytes i e l small read =
    let left = length-drop (4 * h) bytes in
    let count = length_words (drop (4 * h) bytes) (word_count b) (omega arith) in
    let below = among_words b (words_of (drop (4 * h) bytes)) i count (ap (λ (l : List ℕ). read_words b (words_of l)) (sym (take_rest bytes (4 * h))) ∙ read) in
    omega arith

-- ---- what is accepted was written

passed : (t : Bool) (e : Refusal) (r : Result SavedState Refusal) (x : SavedState) → (if not t then Err e else r) ≡ Ok x → (t ≡ true) × (r ≡ Ok x)
passed true e r x h = (refl, h)
passed false e r x h = cc

not_over : (t : Bool) (e : Refusal) (r : Result SavedState Refusal) (x : SavedState) → (if t then Err e else r) ≡ Ok x → (t ≡ false) × (r ≡ Ok x)
not_over true e r x h = cc
not_over false e r x h = (refl, h)

read_behind : (head n : ℕ) (r : Result State ℕ) (x : SavedState) → behind_head head n r ≡ Ok x → (r ≡ Ok x.state) × (x.step ≡ n)
read_behind head n (Ok s) x h =
    let e : ◌≡◌ {A = SavedState} (record { state = s; step = n }) x = cc in
    (ap (λ (y : SavedState). Ok y.state) e, sym (ap (λ (y : SavedState). y.step) e))
read_behind head n (Err i) x h = cc

begun : (words : List ℕ) (n : ℕ) → step_in words ≡ Some n → (rest : List ℕ) × (words ≡ magic ∷ n ∷ rest)
begun [] n h = cc
begun (w ∷ []) n h = cc
begun (w ∷ m ∷ words) n h =
    let parts = cond_some (w == magic) m n h in
    (words, ap (λ (x : ℕ). x ∷ m ∷ words) (eqb-true w magic parts.0) ∙ ap (λ (x : ℕ). magic ∷ x ∷ words) parts.1)

-- the tests that a file passed
pub record Accepted (b : BoardValue) (bytes : List ℕ) (x : SavedState) : Type 0 where
  pub step : step_in (words_of bytes) ≡ Some x.step
  pub board : begins_with (board_words b) (drop 2 (words_of bytes)) ≡ true
  pub long : length bytes ≡ file_length b
  pub few : x.step ≤ most_steps
  pub read : read_words b (drop (head_count b) (words_of bytes)) ≡ Ok x.state

tests_by : (b : BoardValue) (bytes : List ℕ) (x : SavedState) (o : Option ℕ) → step_in (words_of bytes) ≡ o → saved_by b bytes o ≡ Ok x → Accepted b bytes x
tests_by b bytes x None e h = cc
tests_by b bytes x (Some n) e h =
    let words = words_of bytes in
    let one = passed (begins_with (board_words b) (drop 2 words)) Board (if not (length bytes == file_length b) then Err Length else values_of b n words) x h in
    let two = passed (length bytes == file_length b) Length (values_of b n words) x one.1 in
    let three = not_over (nat_lt most_steps n) (Value 1) (behind_head (head_count b) n (read_words b (drop (head_count b) words))) x two.1 in
    let four = read_behind (head_count b) n (read_words b (drop (head_count b) words)) x three.1 in
    record {
      step = e ∙ ap Some (sym four.1);
      board = one.0;
      long = eqb-true (length bytes) (file_length b) two.0;
      few = let l = ltb-false most_steps n three.0 in let same = four.1 in omega arith;
      read = four.0;
    }

pub tests_of : (b : BoardValue) (bytes : List ℕ) (x : SavedState) → saved_of b bytes ≡ Ok x → Accepted b bytes x
unfolding saved_of
tests_of b bytes x h = tests_by b bytes x (step_in (words_of bytes)) refl h

shorter : (b : BoardValue) (rest : List ℕ) (n : ℕ) → drop (head_count b) (magic ∷ n ∷ rest) ≡ drop (length (board_words b)) rest
shorter b rest n =
    let e : head_count b ≡ suc (suc (length (board_words b))) = omega arith in
    ap (λ (k : ℕ). drop k (magic ∷ n ∷ rest)) e

-- the words of a file that passed the tests are a head and what stands behind it
pub split : (b : BoardValue) (bytes : List ℕ) (x : SavedState) → Accepted b bytes x → words_of bytes ≡ head_words b x.step ++ drop (head_count b) (words_of bytes)
split b bytes x h =
    let words = words_of bytes in
    let front = begun words x.step h.step in
    let rest = front.0 in
    let e : words ≡ magic ∷ x.step ∷ rest = front.1 in
    let board : begins_with (board_words b) rest ≡ true = ap (λ (ws : List ℕ). begins_with (board_words b) (drop 2 ws)) (sym e) ∙ h.board in
    e ∙ ap (λ (ws : List ℕ). magic ∷ x.step ∷ ws) (front_split (board_words b) rest board)
    ∙ ap (λ (ws : List ℕ). head_words b x.step ++ ws) (sym (shorter b rest x.step) ∙ ap (drop (head_count b)) (sym e))

-- the bytes of a file that passed the tests
pub same_bytes : (b : BoardValue) (bytes words : List ℕ) (x : SavedState) → AreBytes bytes → Accepted b bytes x → words ≡ drop (head_count b) (words_of bytes) → bytes ≡ bytes_of_words (head_words b x.step ++ words)
same_bytes b bytes words x h a e =
    sym (bytes_of_words_of bytes (head_count b + word_count b) h a.long)
    ∙ ap bytes_of_words (split b bytes x a ∙ ap (λ (ws : List ℕ). head_words b x.step ++ ws) (sym e))
