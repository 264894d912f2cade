-- Texts that are appended, and texts that went out, one after the other.
use Rattle.std.proofs.Common.{◌≡◌, ℕ, List, [], ◌++◌, Option, Ok, Err, sym, ap, ◌∙◌, subst, append_assoc, append-nil, refl}
use Rattle.tz_model.specs.declared.outside.SinkError.{SinkError}
use Rattle.tz_model.specs.Outside.{Put}
use Rattle.tz_model.proofs.Puts.{put_nothing, put_then, put_failed}

pub follows : (a b c x y : List ℕ) → b ≡ a ++ x → c ≡ b ++ y → c ≡ a ++ (x ++ y)
follows a b c x y p q = q ∙ ap (λ (t : List ℕ). t ++ y) p ∙ append_assoc a x y

-- ---- texts that went out so far, and what is left

pub record Sent (whole : List ℕ) (w0 w : Option (List ℕ)) (r0 r : Option ℕ) (left : List ℕ) : Type 0 where
  pub done : List ℕ
  pub put : Put w0 w r0 r done (Ok tt)
  pub text : done ++ left ≡ whole

pub sent_start : (whole : List ℕ) (w : Option (List ℕ)) (r : Option ℕ) → Sent whole w w r r whole
sent_start whole w r = record { done = []; put = put_nothing w r; text = refl }

pub sent_end : (whole : List ℕ) (w0 w : Option (List ℕ)) (r0 r : Option ℕ) (left : List ℕ) → left ≡ [] → Sent whole w0 w r0 r left → Put w0 w r0 r whole (Ok tt)
sent_end whole w0 w r0 r left e h =
    let all : h.done ≡ whole = sym (append-nil h.done) ∙ ap (λ (x : List ℕ). h.done ++ x) (sym e) ∙ h.text in
    subst (λ (x : List ℕ). Put w0 w r0 r x (Ok tt)) all h.put

module _ (whole : List ℕ) (w0 w w' : Option (List ℕ)) (r0 r r' : Option ℕ) (left line more : List ℕ) where
  pub sent_line : Sent whole w0 w r0 r left → left ≡ line ++ more → Put w w' r r' line (Ok tt) → Sent whole w0 w' r0 r' more
  sent_line h e p = record {
    done = h.done ++ line;
    put = put_then w0 w w' r0 r r' h.done line (Ok tt) h.put p;
    text = append_assoc h.done line more ∙ ap (λ (x : List ℕ). h.done ++ x) (sym e) ∙ h.text;
  }

  pub sent_failed : (error : SinkError) → Sent whole w0 w r0 r left → left ≡ line ++ more → Put w w' r r' line (Err error) → Put w0 w' r0 r' whole (Err error)
  sent_failed error h e p =
      let all : h.done ++ (line ++ more) ≡ whole = ap (λ (x : List ℕ). h.done ++ x) (sym e) ∙ h.text in
      subst (λ (x : List ℕ). Put w0 w' r0 r' x (Err error)) all
      (put_then w0 w w' r0 r r' h.done (line ++ more) (Err error) h.put (put_failed w w' r r' line more error p))
