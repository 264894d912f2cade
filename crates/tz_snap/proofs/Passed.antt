-- Words that go out by way of bytes that are held.
use Rattle.std.proofs.Common.{◌≡◌, ℕ, ◌+◌, List, [], ◌++◌, drop, Option, Some, None, Result, Ok, Err, refl, sym, ap, ◌∙◌, subst, append_assoc, append-nil}
use Rattle.std.specs.Prelude.{slice_get}
use Rattle.std.specs.Int.{w32, to_le_bytes}
use Rattle.tz_model.specs.declared.outside.SinkError.{SinkError}
use Rattle.tz_model.specs.Outside.{Put}
use Rattle.tz_model.proofs.Puts.{put_nothing, put_then, put_failed}
use Rattle.tz_snap.specs.FileWords.{bytes_of_words}
use Rattle.tz_snap.specs.Passing.{Passes}
use Rattle.tz_snap.proofs.Lists.{drop_some, drop_none}

-- nothing went out yet, and the text is held behind what was held
pub held_all : (w : Option (List ℕ)) (r : Option ℕ) (held text held' : List ℕ) → held' ≡ held ++ text → Passes w w r r held text held' (Ok tt)
held_all w r held text held' e = record {
  gone = [];
  rest = held';
  put = put_nothing w r;
  whole = e;
  kept = refl;
}

-- what was held went out, and the text is held alone
pub held_anew : (w w' : Option (List ℕ)) (r r' : Option ℕ) (held text held' : List ℕ) → Put w w' r r' held (Ok tt) → held' ≡ text → Passes w w' r r' held text held' (Ok tt)
held_anew w w' r r' held text held' p e = record {
  gone = held;
  rest = held';
  put = p;
  whole = ap (λ (x : List ℕ). held ++ x) e;
  kept = refl;
}

-- what was held didn't go out
pub held_failed : (w w' : Option (List ℕ)) (r r' : Option ℕ) (held text held' : List ℕ) (error : SinkError) → Put w w' r r' held (Err error) → Passes w w' r r' held text held' (Err error)
held_failed w w' r r' held text held' error p = record {
  gone = held;
  rest = text;
  put = p;
  whole = refl;
  kept = tt;
}

-- so many words passed: what went out, what is held and the bytes of the other words are the bytes of all
pub record SoFar (words : List ℕ) (w0 w : Option (List ℕ)) (r0 r : Option ℕ) (held : List ℕ) (count : ℕ) : Type 0 where
  pub done : List ℕ
  pub put : Put w0 w r0 r done (Ok tt)
  pub whole : done ++ (held ++ bytes_of_words (drop count words)) ≡ bytes_of_words words

pub none_passed : (words : List ℕ) (w : Option (List ℕ)) (r : Option ℕ) (held : List ℕ) → held ≡ [] → SoFar words w w r r held 0
none_passed words w r held e = record {
  done = [];
  put = put_nothing w r;
  whole = ap (λ (x : List ℕ). x ++ bytes_of_words words) e;
}

-- what is left, with a word of it apart
word_apart : (words held : List ℕ) (count word : ℕ) → slice_get words count ≡ Some word →
    held ++ bytes_of_words (drop count words) ≡ held ++ to_le_bytes w32 word ++ bytes_of_words (drop (count + 1) words)
word_apart words held count word e =
    ap (λ (x : List ℕ). held ++ bytes_of_words x) (drop_some words count word e)
    ∙ sym (append_assoc held (to_le_bytes w32 word) (bytes_of_words (drop (count + 1) words)))

pub one_passed : (words : List ℕ) (w0 w w' : Option (List ℕ)) (r0 r r' : Option ℕ) (held held' : List ℕ) (count word : ℕ) →
    slice_get words count ≡ Some word → SoFar words w0 w r0 r held count → Passes w w' r r' held (to_le_bytes w32 word) held' (Ok tt) → SoFar words w0 w' r0 r' held' (count + 1)
one_passed words w0 w w' r0 r r' held held' count word e h p =
    let more = bytes_of_words (drop (count + 1) words) in
    record {
      done = h.done ++ p.gone;
      put = put_then w0 w w' r0 r r' h.done p.gone (Ok tt) h.put p.put;
      whole = append_assoc h.done p.gone (held' ++ more)
          ∙ ap (λ (x : List ℕ). h.done ++ x) (sym (append_assoc p.gone held' more)
          ∙ ap (λ (x : List ℕ). p.gone ++ x ++ more) (sym p.kept)
          ∙ ap (λ (x : List ℕ). x ++ more) p.whole
          ∙ sym (word_apart words held count word e))
          ∙ h.whole;
    }

pub one_failed : (words : List ℕ) (w0 w w' : Option (List ℕ)) (r0 r r' : Option ℕ) (held held' : List ℕ) (count word : ℕ) (error : SinkError) →
    slice_get words count ≡ Some word → SoFar words w0 w r0 r held count → Passes w w' r r' held (to_le_bytes w32 word) held' (Err error) → Put w0 w' r0 r' (bytes_of_words words) (Err error)
one_failed words w0 w w' r0 r r' held held' count word error e h p =
    let more = bytes_of_words (drop (count + 1) words) in
    let left : p.gone ++ (p.rest ++ more) ≡ held ++ bytes_of_words (drop count words) =
    sym (append_assoc p.gone p.rest more) ∙ ap (λ (x : List ℕ). x ++ more) p.whole ∙ sym (word_apart words held count word e) in
    subst (λ (x : List ℕ). Put w0 w' r0 r' x (Err error)) (ap (λ (x : List ℕ). h.done ++ x) left ∙ h.whole)
    (put_then w0 w w' r0 r r' h.done (p.gone ++ (p.rest ++ more)) (Err error) h.put (put_failed w w' r r' p.gone (p.rest ++ more) error p.put))

-- no word is left, and what is held goes out
pub all_passed : (words : List ℕ) (w0 w w' : Option (List ℕ)) (r0 r r' : Option ℕ) (held : List ℕ) (count : ℕ) (result : Result Unit SinkError) →
    slice_get words count ≡ None → SoFar words w0 w r0 r held count → Put w w' r r' held result → Put w0 w' r0 r' (bytes_of_words words) result
all_passed words w0 w w' r0 r r' held count result e h p =
    let all : h.done ++ held ≡ bytes_of_words words =
    ap (λ (x : List ℕ). h.done ++ x) (sym (append-nil held) ∙ ap (λ (x : List ℕ). held ++ bytes_of_words x) (sym (drop_none words count e))) ∙ h.whole in
    subst (λ (x : List ℕ). Put w0 w' r0 r' x result) all (put_then w0 w w' r0 r r' h.done held result h.put p)
