-- Several puts in a row are one put of all their bytes.
use Rattle.std.proofs.Common.{◌≡◌, ℕ, ◌+◌, ◌≤◌, List, [], ◌++◌, length, Option, Some, None, Result, Ok, Err, refl, sym, ap, ◌∙◌, subst, arith, append_assoc, append-nil, length-append}
use Rattle.std.specs.Prelude.{IsOk, OnOk, IfSome}
use Rattle.tz_model.specs.declared.outside.SinkError.{SinkError}
use Rattle.tz_model.specs.Outside.{Gains, Put, space_after}

gains_nothing : (written : Option (List ℕ)) → Gains written written []
gains_nothing None = refl
gains_nothing (Some old) = ap Some (sym (append-nil old))

gains_then : (a b c : Option (List ℕ)) (x y : List ℕ) → Gains a b x → Gains b c y → Gains a c (x ++ y)
gains_then None b c x y p q = subst (λ (w : Option (List ℕ)). Gains w c y) p q
gains_then (Some old) b c x y p q = subst (λ (w : Option (List ℕ)). Gains w c y) p q ∙ ap Some (append_assoc old x y)

space_after_nothing : (room : Option ℕ) → room ≡ space_after room 0
space_after_nothing None = refl
space_after_nothing (Some n) = ap Some (omega arith)

space_after_both : (room : Option ℕ) (m n : ℕ) → space_after (space_after room m) n ≡ space_after room (m + n)
space_after_both None m n = refl
space_after_both (Some k) m n = ap Some (omega arith)

nothing_fits : (room : Option ℕ) → IfSome room (λ n. 0 ≤ n → IsOk {T = Unit {0}} {E = SinkError} (Ok tt))
nothing_fits None = tt
nothing_fits (Some n) = λ _. refl

-- no put at all is a put of no bytes
pub put_nothing : (written : Option (List ℕ)) (room : Option ℕ) → Put written written room room [] (Ok tt)
put_nothing written room = record {
  gained = [];
  written = gains_nothing written;
  front = ([], refl);
  space = space_after_nothing room;
  whole = refl;
  fits = nothing_fits room;
}

-- room for two texts leaves, behind the first, room for the second
fits_then : (room : Option ℕ) (a b : List ℕ) (r : Result Unit SinkError) →
    IfSome (space_after room (length a)) (λ n. length b ≤ n → IsOk r) → IfSome room (λ n. length (a ++ b) ≤ n → IsOk r)
fits_then None a b r h = tt
fits_then (Some n) a b r h = λ l. let e = length-append a b in h (omega arith)

whole_then : (a b gained : List ℕ) (r : Result Unit SinkError) → OnOk r (gained ≡ b) → OnOk r (a ++ gained ≡ a ++ b)
whole_then a b gained (Ok x) h = ap (λ (y : List ℕ). a ++ y) h
whole_then a b gained (Err e) h = tt

-- a put that went well, and then another
pub put_then : (w w1 w2 : Option (List ℕ)) (s s1 s2 : Option ℕ) (a b : List ℕ) (r : Result Unit SinkError) →
    Put w w1 s s1 a (Ok tt) → Put w1 w2 s1 s2 b r → Put w w2 s s2 (a ++ b) r
put_then w w1 w2 s s1 s2 a b r p q =
    let first : p.gained ≡ a = p.whole in
    let left : s1 ≡ space_after s (length a) = p.space ∙ ap (λ (x : List ℕ). space_after s (length x)) first in
    record {
      gained = a ++ q.gained;
      written = gains_then w w1 w2 a q.gained (subst (λ (x : List ℕ). Gains w w1 x) first p.written) q.written;
      front = (q.front.0, append_assoc a q.gained q.front.0 ∙ ap (λ (x : List ℕ). a ++ x) q.front.1);
      space = q.space ∙ ap (λ (x : Option ℕ). space_after x (length q.gained)) left
          ∙ space_after_both s (length a) (length q.gained) ∙ ap (space_after s) (sym (length-append a q.gained));
      whole = whole_then a b q.gained r q.whole;
      fits = fits_then s a b r (subst (λ (x : Option ℕ). IfSome x (λ n. length b ≤ n → IsOk r)) left q.fits);
    }

fits_more : (room : Option ℕ) (a b : List ℕ) (r : Result Unit SinkError) → IfSome room (λ n. length a ≤ n → IsOk r) → IfSome room (λ n. length (a ++ b) ≤ n → IsOk r)
fits_more None a b r h = tt
fits_more (Some n) a b r h = λ l. let e = length-append a b in h (omega arith)

-- a put that failed, and no more put after it
pub put_failed : (w w1 : Option (List ℕ)) (s s1 : Option ℕ) (a b : List ℕ) (e : SinkError) → Put w w1 s s1 a (Err e) → Put w w1 s s1 (a ++ b) (Err e)
put_failed w w1 s s1 a b e p = record {
  gained = p.gained;
  written = p.written;
  front = (p.front.0 ++ b, sym (append_assoc p.gained p.front.0 b) ∙ ap (λ (x : List ℕ). x ++ b) p.front.1);
  space = p.space;
  whole = tt;
  fits = fits_more s a b (Err e) p.fits;
}
