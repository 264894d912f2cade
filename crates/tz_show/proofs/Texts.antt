-- Texts by number, as a loop appends or puts them one after the other.
use Rattle.std.proofs.Common.{◌≡◌, ℕ, zero, suc, ◌+◌, ◌-◌, ◌<◌, List, [], ◌++◌, Option, Ok, Err, sym, ap, ◌∙◌, subst, arith, add-one, append_assoc, append-nil, refl}
use Rattle.tz_model.specs.declared.outside.SinkError.{SinkError}
use Rattle.tz_model.specs.Outside.{Put}
use Rattle.tz_model.proofs.Puts.{put_nothing, put_then, put_failed}
use Rattle.tz_show.specs.Rows.{texts_below}

texts_none : (f : ℕ → List ℕ) → texts_below f 0 ≡ []
unfolding texts_below
texts_none f = refl

texts_more : (f : ℕ → List ℕ) (k : ℕ) → texts_below f (k + 1) ≡ texts_below f k ++ f k
unfolding texts_below
texts_more f k = rw add-one refl

-- ---- texts that are appended

pub texts_start : (f : ℕ → List ℕ) (start : List ℕ) → start ≡ start ++ texts_below f 0
texts_start f start = sym (append-nil start) ∙ ap (λ (x : List ℕ). start ++ x) (sym (texts_none f))

pub texts_step : (f : ℕ → List ℕ) (k : ℕ) (start now next : List ℕ) → now ≡ start ++ texts_below f k → next ≡ now ++ f k → next ≡ start ++ texts_below f (k + 1)
texts_step f k start now next p q =
    q ∙ ap (λ (x : List ℕ). x ++ f k) p ∙ append_assoc start (texts_below f k) (f k) ∙ ap (λ (x : List ℕ). start ++ x) (sym (texts_more f k))

-- ---- texts that are put

-- what is left of the texts behind that of k
left_behind : (ℕ → List ℕ) → ℕ → ℕ → List ℕ
left_behind f k zero = []
left_behind f k (suc d) = left_behind f k d ++ f (k + 1 + d)

texts_split : (f : ℕ → List ℕ) (k d : ℕ) → texts_below f (k + 1 + d) ≡ texts_below f k ++ (f k ++ left_behind f k d)
unfolding left_behind
texts_split f k zero =
    let e : k + 1 + 0 ≡ k + 1 = omega arith in
    rw e (texts_more f k ∙ ap (λ (x : List ℕ). texts_below f k ++ x) (sym (append-nil (f k))))
texts_split f k (suc d) =
    let e : k + 1 + suc d ≡ k + 1 + d + 1 = omega arith in
    rw e
    (texts_more f (k + 1 + d) ∙ ap (λ (x : List ℕ). x ++ f (k + 1 + d)) (texts_split f k d)
    ∙ append_assoc (texts_below f k) (f k ++ left_behind f k d) (f (k + 1 + d))
    ∙ ap (λ (x : List ℕ). texts_below f k ++ x) (append_assoc (f k) (left_behind f k d) (f (k + 1 + d))))

pub put_start : (f : ℕ → List ℕ) (w : Option (List ℕ)) (r : Option ℕ) → Put w w r r (texts_below f 0) (Ok tt)
put_start f w r = subst (λ (x : List ℕ). Put w w r r x (Ok tt)) (sym (texts_none f)) (put_nothing w r)

module _ (f : ℕ → List ℕ) (k : ℕ) (w0 w w' : Option (List ℕ)) (r0 r r' : Option ℕ) where
  pub put_more : Put w0 w r0 r (texts_below f k) (Ok tt) → Put w w' r r' (f k) (Ok tt) → Put w0 w' r0 r' (texts_below f (k + 1)) (Ok tt)
  put_more h p = subst (λ (x : List ℕ). Put w0 w' r0 r' x (Ok tt)) (sym (texts_more f k)) (put_then w0 w w' r0 r r' (texts_below f k) (f k) (Ok tt) h p)

  pub put_stops : (n : ℕ) (error : SinkError) → k < n → Put w0 w r0 r (texts_below f k) (Ok tt) → Put w w' r r' (f k) (Err error) → Put w0 w' r0 r' (texts_below f n) (Err error)
  put_stops n error l h p =
      let more = left_behind f k (n - (k + 1)) in
      let m : k + 1 + (n - (k + 1)) ≡ n = omega arith in
      let e : texts_below f k ++ (f k ++ more) ≡ texts_below f n = sym (texts_split f k (n - (k + 1))) ∙ ap (texts_below f) m in
      subst (λ (x : List ℕ). Put w0 w' r0 r' x (Err error)) e
      (put_then w0 w w' r0 r r' (texts_below f k) (f k ++ more) (Err error) h (put_failed w w' r r' (f k) more error p))
