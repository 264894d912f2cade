-- How a word reads, beside what clap's own tests say of it.
use Rattle.std.proofs.Common.{◌≡◌, ◌∙◌, ◌==◌, ◌+◌, not, ℕ, suc, Bool, true, false, true≢false, refl, sym, ap, subst, arith, eq-eqb, List, [], ◌∷◌, Option, Some, None}
use Rattle.std.proofs.lemmas.Bool.{and_parts, eqb-true, ne_eqb}
use Rattle.std.proofs.lemmas.Slice.Eq.{bytes_eq-Decides}
use Rattle.std.specs.Prelude.{slice_get, if◌then◌else◌}
use Rattle.std.specs.List.{list_any, before_first, after_first, position_or_len}
use Rattle.std.specs.Str.{bytes_eq, chars}
use Rattle.clap.specs.Lexer.{long_of, short_of}
use Rattle.tz_words.specs.Leaf.{is_name}
use Rattle.tz_words.specs.Parts.{Text, Look, EndsOptions, Named, NamedWith, Refused, Positional, behind, look_of, option_look, other_look}

-- what clap's tests say of a word, by how it reads
pub data Seen (opt : Text) (word : Text) : Type 0 where
  EndsAll : bytes_eq word (45 ∷ 45 ∷ []) ≡ true → look_of opt word ≡ EndsOptions → Seen opt word
  NamesIt : bytes_eq word (45 ∷ 45 ∷ []) ≡ false → long_of word ≡ Some (opt, None) → look_of opt word ≡ Named → Seen opt word
  GivesIt : (v : Text) → bytes_eq word (45 ∷ 45 ∷ []) ≡ false → long_of word ≡ Some (opt, Some v) → look_of opt word ≡ NamedWith v → Seen opt word
  NamesOther : (name : Text) (v : Option Text) → bytes_eq word (45 ∷ 45 ∷ []) ≡ false → long_of word ≡ Some (name, v) → bytes_eq opt name ≡ false → look_of opt word ≡ Refused → Seen opt word
  Hyphened : (x : ℕ) (y : ℕ) (flags : Text) → bytes_eq word (45 ∷ 45 ∷ []) ≡ false → long_of word ≡ None → short_of word ≡ Some (y ∷ flags) → slice_get (chars (y ∷ flags)) 0 ≡ Some x → look_of opt word ≡ Refused → Seen opt word
  NoCharacter : (y : ℕ) (flags : Text) → bytes_eq word (45 ∷ 45 ∷ []) ≡ false → long_of word ≡ None → short_of word ≡ Some (y ∷ flags) → slice_get (chars (y ∷ flags)) 0 ≡ None → look_of opt word ≡ Positional → Seen opt word
  NoHyphen : bytes_eq word (45 ∷ 45 ∷ []) ≡ false → long_of word ≡ None → short_of word ≡ None → look_of opt word ≡ Positional → Seen opt word

abbrev is_equals : ℕ → Bool
is_equals c = c == 61

-- a byte that isn't `=` stands before the first `=`, and not behind it
before-other : (c : ℕ) (rest : Text) → is_equals c ≡ false → before_first is_equals (c ∷ rest) ≡ c ∷ before_first is_equals rest
before-other c rest e =
    let next : 1 + position_or_len is_equals rest ≡ suc (position_or_len is_equals rest) = omega arith in
    rw (e, next) refl

after-other : (c : ℕ) (rest : Text) → is_equals c ≡ false → after_first is_equals (c ∷ rest) ≡ after_first is_equals rest
after-other c rest e =
    let next : 1 + position_or_len is_equals rest + 1 ≡ suc (position_or_len is_equals rest + 1) = omega arith in
    rw (e, next) refl

-- how clap splits what stands behind `--`
abbrev split_look : Text → Text → Text → Bool → Look → Look
split_look opt before value given other = if bytes_eq opt before then (if given then NamedWith value else Named) else other

abbrev name_look : Text → Text → Look → Look
name_look opt text other = split_look opt (before_first is_equals text) (after_first is_equals text) (list_any is_equals text) other

pub not_true : (b : Bool) → not b ≡ true → b ≡ false
not_true true h = absurd (true≢false (sym h))
not_true false h = refl

option_look-behind : (opt text : Text) (other : Look) → is_name opt ≡ true → option_look (behind opt text) other ≡ name_look opt text other
option_look-behind [] [] other h = refl
option_look-behind [] (c ∷ rest) other h = by_test _ refl
  where
    by_test : (b : Bool) → is_equals c ≡ b → option_look (Some (c ∷ rest)) other ≡ name_look [] (c ∷ rest) other
    by_test true e = rw e refl
    by_test false e = rw (before-other c rest e, e) refl
option_look-behind (o ∷ opt) [] other h = refl
option_look-behind (o ∷ opt) (c ∷ rest) other h = by_test _ refl (option_look-behind opt rest other (and_parts (not (is_equals o)) (is_name opt) h).1)
  where
    no_equals : is_equals o ≡ false
    no_equals = not_true (is_equals o) (and_parts (not (is_equals o)) (is_name opt) h).0

    apart : (o == c) ≡ false → (b : Bool) → is_equals c ≡ b → other ≡ name_look (o ∷ opt) (c ∷ rest) other
    apart d true e = rw e refl
    apart d false e = rw (before-other c rest e, d) refl

    by_test : (b : Bool) → (o == c) ≡ b → option_look (behind opt rest) other ≡ name_look opt rest other
        → option_look (behind (o ∷ opt) (c ∷ rest)) other ≡ name_look (o ∷ opt) (c ∷ rest) other
    by_test true d ih =
        let e : is_equals c ≡ false = subst (λ (n : ℕ). is_equals n ≡ false) (eqb-true o c d) no_equals in
        rw (d, before-other c rest e, after-other c rest e, e, d) ih
    by_test false d ih = rw d (apart d _ refl)

chars-hyphen : (y : ℕ) (rest : Text) → chars (45 ∷ y ∷ rest) ≡ 45 ∷ chars (y ∷ rest)
unfolding chars
chars-hyphen y rest = refl

-- a word of two hyphens and more is longer than one character
other_look-long : (z : ℕ) (rest : Text) → other_look (45 ∷ 45 ∷ z ∷ rest) ≡ Refused
unfolding chars
other_look-long z rest = refl

other_look-one : other_look (45 ∷ []) ≡ Positional
unfolding chars
other_look-one = refl

module _ (opt : Text) (name : is_name opt ≡ true) where
  seen_long : (z : ℕ) (rest : Text) → Seen opt (45 ∷ 45 ∷ z ∷ rest)
  seen_long z rest = named _ refl _ refl
    where
      look : look_of opt (45 ∷ 45 ∷ z ∷ rest) ≡ name_look opt (z ∷ rest) Refused
      look = ap (λ (other : Look). option_look (behind opt (z ∷ rest)) other) (other_look-long z rest) ∙ option_look-behind opt (z ∷ rest) Refused name

      named : (b : Bool) → bytes_eq opt (before_first is_equals (z ∷ rest)) ≡ b → (c : Bool) → list_any is_equals (z ∷ rest) ≡ c → Seen opt (45 ∷ 45 ∷ z ∷ rest)
      named true e true h = let same = (bytes_eq-Decides opt (before_first is_equals (z ∷ rest))).0 e in
          GivesIt (after_first is_equals (z ∷ rest)) refl (rw (← same, h)) (look ∙ rw (e, h))
      named true e false h = let same = (bytes_eq-Decides opt (before_first is_equals (z ∷ rest))).0 e in
          NamesIt refl (rw (← same, h)) (look ∙ rw (e, h))
      named false e c h = NamesOther (before_first is_equals (z ∷ rest)) _ refl refl e (look ∙ rw e)

  -- the same test, either way round
  turned : (y : ℕ) → (y == 45) ≡ false → (45 == y) ≡ false
  turned y n = ne_eqb 45 y (λ e. true≢false (sym (eq-eqb y 45 (sym e)) ∙ n))

  seen_short : (y : ℕ) (rest : Text) → (y == 45) ≡ false → Seen opt (45 ∷ y ∷ rest)
  seen_short y rest n = spelled (chars (y ∷ rest)) refl
    where
      spelled : (cs : List ℕ) → chars (y ∷ rest) ≡ cs → Seen opt (45 ∷ y ∷ rest)
      spelled [] e = NoCharacter y rest (rw n) (rw n) (rw n) (rw e) (rw (n, turned y n, chars-hyphen y rest, e))
      spelled (c ∷ cs) e = Hyphened c y rest (rw n) (rw n) (rw n) (rw e) (rw (n, turned y n, chars-hyphen y rest, e))

  seen_two : (more : Text) → Seen opt (45 ∷ 45 ∷ more)
  seen_two [] = EndsAll refl refl
  seen_two (z ∷ more) = seen_long z more

  seen_hyphen : (rest : Text) → Seen opt (45 ∷ rest)
  seen_hyphen [] = NoHyphen refl refl refl other_look-one
  seen_hyphen (y ∷ rest) = second _ refl
    where
      second : (b : Bool) → (y == 45) ≡ b → Seen opt (45 ∷ y ∷ rest)
      second true e = let is : y ≡ 45 = eqb-true y 45 e in subst (λ (n : ℕ). Seen opt (45 ∷ n ∷ rest)) (sym is) (seen_two rest)
      second false e = seen_short y rest e

  pub seen : (word : Text) → Seen opt word
  seen [] = NoHyphen refl refl refl refl
  seen (x ∷ rest) = first _ refl
    where
      first : (b : Bool) → (x == 45) ≡ b → Seen opt (x ∷ rest)
      first true e = let is : x ≡ 45 = eqb-true x 45 e in subst (λ (n : ℕ). Seen opt (n ∷ rest)) (sym is) (seen_hyphen rest)
      first false e = NoHyphen (rw e) (rw e) (rw e) (rw (e, turned x e))
