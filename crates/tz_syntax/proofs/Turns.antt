-- A line, byte by byte and token by token.
use Rattle.std.proofs.Common.{◌≡◌, ◌∙◌, ◌<◌, ◌≤◌, ◌+◌, ◌-◌, ◌==◌, ℕ, true, false, refl, sym, ap, List, [], ◌∷◌, ◌++◌, append_assoc, length, take, drop, get_or, eq-eqb, arith, Option, Some, None}
use Rattle.std.proofs.lemmas.Bool.{ne_eqb}
use Rattle.std.proofs.lemmas.List.{append-nil, drop_all, drop_more, take_all, take_more, take_rest}
use Rattle.tz_syntax.specs.Tokens.{TokenValue, Mark, before, end_run, is_blank, is_mark, is_word_byte, other_byte, token_of, tokens_behind, tokens_of, without_comment}

pub comment_more : (xs : List ℕ) (i : ℕ) → i < length xs → (get_or xs i 0 ≡ 59 → ⊥)
    → take i xs ++ without_comment (drop i xs) ≡ take (i + 1) xs ++ without_comment (drop (i + 1) xs)
unfolding without_comment
comment_more xs i h ne =
    let other : (get_or xs i 0 == 59) ≡ false = ne_eqb (get_or xs i 0) 59 ne in
    rw (drop_more xs i 0 h, take_more xs i 0 h, other) (sym (append_assoc (take i xs) (get_or xs i 0 ∷ []) (without_comment (drop (i + 1) xs))))

pub comment_here : (xs : List ℕ) (i : ℕ) → i < length xs → get_or xs i 0 ≡ 59 → take i xs ++ without_comment (drop i xs) ≡ take i xs
unfolding without_comment
comment_here xs i h is =
    let here : (get_or xs i 0 == 59) ≡ true = eq-eqb (get_or xs i 0) 59 is in
    rw (drop_more xs i 0 h, here) (append-nil (take i xs))

pub comment_none : (xs : List ℕ) (i : ℕ) → length xs ≤ i → take i xs ++ without_comment (drop i xs) ≡ xs
unfolding without_comment
comment_none xs i h = rw (drop_all i xs h, take_all i xs h) (append-nil xs)

-- a run that goes on
pub run_more : (xs : List ℕ) (i : ℕ) → i < length xs → is_word_byte (get_or xs i 0) ≡ true
    → tokens_behind (take i xs) (drop i xs) ≡ tokens_behind (take (i + 1) xs) (drop (i + 1) xs)
unfolding tokens_behind
run_more xs i h is = rw (drop_more xs i 0 h, take_more xs i 0 h, is) refl

-- a run that ends before a byte, and one that ends with the line
pub run_ends : (xs : List ℕ) (i : ℕ) → i < length xs → is_word_byte (get_or xs i 0) ≡ false
    → tokens_behind (take i xs) (drop i xs) ≡ end_run (take i xs) (tokens_behind [] (drop i xs))
unfolding tokens_behind
run_ends xs i h other = rw (drop_more xs i 0 h, other) refl

pub run_all : (xs : List ℕ) (i : ℕ) → length xs ≤ i → tokens_behind (take i xs) (drop i xs) ≡ end_run xs (tokens_behind [] [])
unfolding tokens_behind
run_all xs i h = rw (drop_all i xs h, take_all i xs h) refl

-- a line that begins with a byte that is in no run
pub other_first : (b : ℕ) (more : List ℕ) → is_word_byte b ≡ false → tokens_of (b ∷ more) ≡ other_byte b (tokens_of more)
unfolding tokens_of tokens_behind
other_first b more other = rw other refl

-- some tokens before others, where these are tokens
abbrev pub all_before : List TokenValue → Option (List TokenValue) → Option (List TokenValue)
all_before tokens None = None
all_before tokens (Some more) = Some (tokens ++ more)

-- nothing is left
pub tokens_of-none : (rest : List ℕ) (tokens : List TokenValue) → length rest ≡ 0 → all_before tokens (tokens_of rest) ≡ Some tokens
unfolding tokens_of tokens_behind
tokens_of-none [] tokens none = ap Some (append-nil tokens)
tokens_of-none (b ∷ rest) tokens none = absurd (omega arith)

-- a run at the front that is a token, or is none
pub run_token : (line run after : List ℕ) (answer : Option TokenValue) → tokens_behind [] line ≡ end_run run (tokens_behind [] after) → 0 < length run
    → token_of run ≡ answer → tokens_of line ≡ before answer (tokens_of after)
unfolding tokens_of
run_token line [] after answer parts some is = absurd (omega arith)
run_token line (b ∷ run) after answer parts some is = parts ∙ ap (λ (o : Option TokenValue). before o (tokens_behind [] after)) is

-- a byte at the front that is in no run
module _ (line : List ℕ) (some : 0 < length line) (other : is_word_byte (get_or line 0 0) ≡ false) where
  at_other : tokens_of line ≡ other_byte (get_or line 0 0) (tokens_of (take (length line - 1) (drop 1 line)))
  at_other =
      ap tokens_of (drop_more line 0 0 some) ∙ other_first (get_or line 0 0) (drop 1 line) other
      ∙ ap (λ (rest : List ℕ). other_byte (get_or line 0 0) (tokens_of rest)) (sym (take_rest line 1))

  pub at_blank : is_blank (get_or line 0 0) ≡ true → tokens_of line ≡ tokens_of (take (length line - 1) (drop 1 line))
  at_blank is = at_other ∙ rw is refl

  pub at_mark : is_blank (get_or line 0 0) ≡ false → is_mark (get_or line 0 0) ≡ true
      → tokens_of line ≡ before (Some (Mark (get_or line 0 0))) (tokens_of (take (length line - 1) (drop 1 line)))
  at_mark apart is = at_other ∙ rw (apart, is) refl

  pub at_none : is_blank (get_or line 0 0) ≡ false → is_mark (get_or line 0 0) ≡ false → tokens_of line ≡ None
  at_none apart neither = at_other ∙ rw (apart, neither) refl
