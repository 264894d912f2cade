-- The text of a run that has been written so far, step by step.
use Rattle.std.proofs.Common.{◌≡◌, ℕ, suc, ◌+◌, ◌-◌, ◌<◌, ◌≤◌, List, [], ◌++◌, Option, Ok, Err, sym, ap, ◌∙◌, subst, arith, append_assoc, append-nil}
use Rattle.tz_model.specs.declared.outside.SinkError.{SinkError}
use Rattle.tz_model.specs.declared.report.Report.{Report}
use Rattle.tz_model.specs.declared.report.ScriptEvent.{ScriptEvent}
use Rattle.tz_model.specs.declared.report.View.TheVariants.{All}
use Rattle.tz_model.specs.Outside.{Put}
use Rattle.tz_state.specs.State.{State}
use Rattle.tz_model.proofs.Puts.{put_nothing, put_then, put_failed}
use Rattle.tz_sem.specs.declared.account.Account.{Account}
use Rattle.tz_sem.specs.Account.{account}
use Rattle.tz_sem.specs.Run.{Events, state_after}
use Rattle.tz_sem.specs.Step.{Stepped, step}
use Rattle.tz_text.specs.Line.{line}
use Rattle.tz_full.specs.Full.{full}
use Rattle.tz_run.specs.FullRun.{step_text, full_from}

-- what is written of a step is its text
pub text_told : (events : Events) (k : ℕ) (s s' : State) (due : List ScriptEvent) (r : Report) (t : Account) →
    due ≡ events k → step s due ≡ record { state = s'; report = r } → t ≡ account s due → line All k r ++ full t due r s' ≡ step_text (events k) k s
text_told events k s s' due r t e made told =
    ap (λ (x : Account). line All k r ++ full x due r s') told
    ∙ sym (ap (λ (x : Stepped). line All k x.report ++ full (account s due) due x.report x.state) made)
    ∙ ap (λ (d : List ScriptEvent). step_text d k s) e

-- the machine came from s0 to s at step k, and n steps are made from s0: the texts so far are written, and what is left
-- of the text and of the steps is what s gives
pub record SoFar (events : Events) (w0 w : Option (List ℕ)) (r0 r : Option ℕ) (s0 s : State) (k n : ℕ) : Type 0 where
  pub done : List ℕ
  pub put : Put w0 w r0 r done (Ok tt)
  pub text : done ++ full_from events k s (n - k) ≡ full_from events 0 s0 n
  pub state : state_after events k s (n - k) ≡ state_after events 0 s0 n

pub so_far_start : (events : Events) (w : Option (List ℕ)) (r : Option ℕ) (s : State) (n : ℕ) → SoFar events w w r r s s 0 n
so_far_start events w r s n =
    let e : n - 0 ≡ n = omega arith in
    record {
      done = [];
      put = put_nothing w r;
      text = ap (full_from events 0 s) e;
      state = ap (state_after events 0 s) e;
    }

text_more : (events : Events) (k n : ℕ) (s s' : State) → k < n → (step s (events k)).state ≡ s' →
    full_from events k s (n - k) ≡ step_text (events k) k s ++ full_from events (k + 1) s' (n - (k + 1))
text_more events k n s s' l e =
    let m : n - k ≡ suc (n - (k + 1)) = omega arith in
    rw m (ap (λ (x : State). step_text (events k) k s ++ full_from events (k + 1) x (n - (k + 1))) e)

state_more : (events : Events) (k n : ℕ) (s s' : State) → k < n → (step s (events k)).state ≡ s' → state_after events k s (n - k) ≡ state_after events (k + 1) s' (n - (k + 1))
state_more events k n s s' l e =
    let m : n - k ≡ suc (n - (k + 1)) = omega arith in
    rw m (ap (λ (x : State). state_after events (k + 1) x (n - (k + 1))) e)

pub so_far_step : (events : Events) (w0 w w' : Option (List ℕ)) (r0 r r' : Option ℕ) (s0 s s' : State) (k n : ℕ) (text : List ℕ) →
    k < n → (step s (events k)).state ≡ s' → text ≡ step_text (events k) k s → SoFar events w0 w r0 r s0 s k n → Put w w' r r' text (Ok tt) → SoFar events w0 w' r0 r' s0 s' (k + 1) n
so_far_step events w0 w w' r0 r r' s0 s s' k n text l e told h p = record {
  done = h.done ++ text;
  put = put_then w0 w w' r0 r r' h.done text (Ok tt) h.put p;
  text = append_assoc h.done text (full_from events (k + 1) s' (n - (k + 1)))
      ∙ ap (λ (x : List ℕ). h.done ++ (x ++ full_from events (k + 1) s' (n - (k + 1)))) told
      ∙ ap (λ (x : List ℕ). h.done ++ x) (sym (text_more events k n s s' l e)) ∙ h.text;
  state = sym (state_more events k n s s' l e) ∙ h.state;
}

pub so_far_end : (events : Events) (w0 w : Option (List ℕ)) (r0 r : Option ℕ) (s0 s : State) (k n : ℕ) → n ≤ k → SoFar events w0 w r0 r s0 s k n → Put w0 w r0 r (full_from events 0 s0 n) (Ok tt)
so_far_end events w0 w r0 r s0 s k n l h =
    let m : n - k ≡ 0 = omega arith in
    let e : h.done ≡ full_from events 0 s0 n = sym (append-nil h.done) ∙ ap (λ x. h.done ++ full_from events k s x) (sym m) ∙ h.text in
    subst (λ (x : List ℕ). Put w0 w r0 r x (Ok tt)) e h.put

pub state_at_end : (events : Events) (w0 w : Option (List ℕ)) (r0 r : Option ℕ) (s0 s : State) (k n : ℕ) → n ≤ k → SoFar events w0 w r0 r s0 s k n → s ≡ state_after events 0 s0 n
state_at_end events w0 w r0 r s0 s k n l h =
    let m : n - k ≡ 0 = omega arith in
    ap (state_after events k s) (sym m) ∙ h.state

pub so_far_failed : (events : Events) (w0 w w' : Option (List ℕ)) (r0 r r' : Option ℕ) (s0 s s' : State) (k n : ℕ) (text : List ℕ) (error : SinkError) →
    k < n → (step s (events k)).state ≡ s' → text ≡ step_text (events k) k s → SoFar events w0 w r0 r s0 s k n → Put w w' r r' text (Err error) → Put w0 w' r0 r' (full_from events 0 s0 n) (Err error)
so_far_failed events w0 w w' r0 r r' s0 s s' k n text error l e told h p =
    let rest = full_from events (k + 1) s' (n - (k + 1)) in
    let whole : h.done ++ (text ++ rest) ≡ full_from events 0 s0 n =
    ap (λ (x : List ℕ). h.done ++ (x ++ rest)) told ∙ ap (λ (x : List ℕ). h.done ++ x) (sym (text_more events k n s s' l e)) ∙ h.text in
    subst (λ (x : List ℕ). Put w0 w' r0 r' x (Err error)) whole
    (put_then w0 w w' r0 r r' h.done _ (Err error) h.put (put_failed w w' r r' text rest error p))
