-- The lines that went out so far, and those that are left.
use Rattle.std.proofs.Common.{◌≡◌, ◌∙◌, ℕ, List, [], ◌++◌, Option, Ok, Err, ap, subst, append_assoc}
use Rattle.tz_model.specs.declared.outside.SinkError.{SinkError}
use Rattle.tz_model.specs.Outside.{Put}
use Rattle.tz_model.proofs.Puts.{put_nothing, put_then, put_failed}

-- some of the whole text went out, and this is left of it
pub record Sent (whole : List ℕ) (w0 w : Option (List ℕ)) (r0 r : Option ℕ) (left : List ℕ) : Type 0 where
  pub done : List ℕ
  pub put : Put w0 w r0 r done (Ok tt)
  pub text : done ++ left ≡ whole

pub sent_start : (whole left : List ℕ) (w : Option (List ℕ)) (r : Option ℕ) → left ≡ whole → Sent whole w w r r left
sent_start whole left w r e = record { done = []; put = put_nothing w r; text = e }

module _ (whole : List ℕ) (w0 w w' : Option (List ℕ)) (r0 r r' : Option ℕ) (left line more : List ℕ) where
  pub sent_line : Sent whole w0 w r0 r left → line ++ more ≡ left → Put w w' r r' line (Ok tt) → Sent whole w0 w' r0 r' more
  sent_line h e p = record {
    done = h.done ++ line;
    put = put_then w0 w w' r0 r r' h.done line (Ok tt) h.put p;
    text = append_assoc h.done line more ∙ ap (λ (x : List ℕ). h.done ++ x) e ∙ h.text;
  }

  pub sent_failed : (error : SinkError) → Sent whole w0 w r0 r left → line ++ more ≡ left → Put w w' r r' line (Err error) → Put w0 w' r0 r' whole (Err error)
  sent_failed error h e p =
      let all : h.done ++ (line ++ more) ≡ whole = ap (λ (x : List ℕ). h.done ++ x) e ∙ h.text in
      subst (λ (x : List ℕ). Put w0 w' r0 r' x (Err error)) all
      (put_then w0 w w' r0 r r' h.done (line ++ more) (Err error) h.put (put_failed w w' r r' line more error p))
