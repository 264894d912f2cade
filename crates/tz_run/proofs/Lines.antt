-- The lines that a run has written so far.
use Rattle.std.proofs.Common.{◌≡◌, ℕ, suc, ◌+◌, ◌-◌, ◌<◌, ◌≤◌, List, [], ◌++◌, Option, Ok, Err, sym, ap, ◌∙◌, subst, arith, append_assoc, append-nil}
use Rattle.tz_model.specs.declared.outside.SinkError.{SinkError}
use Rattle.tz_model.specs.declared.report.Report.{Report}
use Rattle.tz_model.specs.declared.report.View.{View}
use Rattle.tz_model.specs.Outside.{Put}
use Rattle.tz_state.specs.State.{State}
use Rattle.tz_model.proofs.Puts.{put_nothing, put_then, put_failed}
use Rattle.tz_sem.specs.Run.{Events, state_after}
use Rattle.tz_sem.specs.Step.{Stepped, step}
use Rattle.tz_text.specs.Line.{line}
use Rattle.tz_twin.specs.Trace.{text_from}

-- the machine came from s0 at step `first` to s at step k, and n steps are made from s0: the lines so far are
-- written, and what is left of the text and of the steps is what s gives
pub record SoFar (view : View) (events : Events) (w0 w : Option (List ℕ)) (r0 r : Option ℕ) (s0 s : State) (first k n : ℕ) : Type 0 where
  pub done : List ℕ
  pub put : Put w0 w r0 r done (Ok tt)
  pub text : done ++ text_from view events k s (first + n - k) ≡ text_from view events first s0 n
  pub state : state_after events k s (first + n - k) ≡ state_after events first s0 n

pub so_far_start : (view : View) (events : Events) (w : Option (List ℕ)) (r : Option ℕ) (s : State) (first n : ℕ) → SoFar view events w w r r s s first first n
so_far_start view events w r s first n =
    let e : first + n - first ≡ n = omega arith in
    record {
      done = [];
      put = put_nothing w r;
      text = ap (text_from view events first s) e;
      state = ap (state_after events first s) e;
    }

text_more : (view : View) (events : Events) (k n : ℕ) (s s' : State) (r : Report) → k < n → step s (events k) ≡ record { state = s'; report = r } →
    text_from view events k s (n - k) ≡ line view k r ++ text_from view events (k + 1) s' (n - (k + 1))
text_more view events k n s s' r l e =
    let m : n - k ≡ suc (n - (k + 1)) = omega arith in
    rw m (ap (λ (x : Stepped). line view k x.report ++ text_from view events (k + 1) x.state (n - (k + 1))) e)

state_more : (events : Events) (k n : ℕ) (s s' : State) (r : Report) → k < n → step s (events k) ≡ record { state = s'; report = r } → state_after events k s (n - k) ≡ state_after events (k + 1) s' (n - (k + 1))
state_more events k n s s' r l e =
    let m : n - k ≡ suc (n - (k + 1)) = omega arith in
    rw m (ap (λ (x : Stepped). state_after events (k + 1) x.state (n - (k + 1))) e)

pub so_far_step : (view : View) (events : Events) (w0 w w' : Option (List ℕ)) (r0 r r' : Option ℕ) (s0 s s' : State) (first k n : ℕ) (report : Report) →
    k < first + n → step s (events k) ≡ record { state = s'; report = report } → SoFar view events w0 w r0 r s0 s first k n → Put w w' r r' (line view k report) (Ok tt) → SoFar view events w0 w' r0 r' s0 s' first (k + 1) n
so_far_step view events w0 w w' r0 r r' s0 s s' first k n report l e h p = record {
  done = h.done ++ line view k report;
  put = put_then w0 w w' r0 r r' h.done (line view k report) (Ok tt) h.put p;
  text = append_assoc h.done (line view k report) (text_from view events (k + 1) s' (first + n - (k + 1)))
      ∙ ap (λ (x : List ℕ). h.done ++ x) (sym (text_more view events k (first + n) s s' report l e)) ∙ h.text;
  state = sym (state_more events k (first + n) s s' report l e) ∙ h.state;
}

pub so_far_end : (view : View) (events : Events) (w0 w : Option (List ℕ)) (r0 r : Option ℕ) (s0 s : State) (first k n : ℕ) → first + n ≤ k → SoFar view events w0 w r0 r s0 s first k n → Put w0 w r0 r (text_from view events first s0 n) (Ok tt)
so_far_end view events w0 w r0 r s0 s first k n l h =
    let m : first + n - k ≡ 0 = omega arith in
    let e : h.done ≡ text_from view events first s0 n = sym (append-nil h.done) ∙ ap (λ x. h.done ++ text_from view events k s x) (sym m) ∙ h.text in
    subst (λ (x : List ℕ). Put w0 w r0 r x (Ok tt)) e h.put

pub state_at_end : (view : View) (events : Events) (w0 w : Option (List ℕ)) (r0 r : Option ℕ) (s0 s : State) (first k n : ℕ) → first + n ≤ k → SoFar view events w0 w r0 r s0 s first k n → s ≡ state_after events first s0 n
state_at_end view events w0 w r0 r s0 s first k n l h =
    let m : first + n - k ≡ 0 = omega arith in
    ap (state_after events k s) (sym m) ∙ h.state

pub so_far_failed : (view : View) (events : Events) (w0 w w' : Option (List ℕ)) (r0 r r' : Option ℕ) (s0 s s' : State) (first k n : ℕ) (report : Report) (error : SinkError) →
    k < first + n → step s (events k) ≡ record { state = s'; report = report } → SoFar view events w0 w r0 r s0 s first k n → Put w w' r r' (line view k report) (Err error) → Put w0 w' r0 r' (text_from view events first s0 n) (Err error)
so_far_failed view events w0 w w' r0 r r' s0 s s' first k n report error l e h p =
    let rest = text_from view events (k + 1) s' (first + n - (k + 1)) in
    let whole : h.done ++ (line view k report ++ rest) ≡ text_from view events first s0 n = ap (λ (x : List ℕ). h.done ++ x) (sym (text_more view events k (first + n) s s' report l e)) ∙ h.text in
    subst (λ (x : List ℕ). Put w0 w' r0 r' x (Err error)) whole
    (put_then w0 w w' r0 r r' h.done _ (Err error) h.put (put_failed w w' r r' (line view k report) rest error p))

-- ---- steps without their lines

-- after k of n steps from s0 the machine is at s: what is left of the steps is what s gives
pub record Reached (events : Events) (s0 s : State) (k n : ℕ) : Type 0 where
  pub state : state_after events k s (n - k) ≡ state_after events 0 s0 n

pub reached_start : (events : Events) (s : State) (n : ℕ) → Reached events s s 0 n
reached_start events s n =
    let e : n - 0 ≡ n = omega arith in
    record { state = ap (state_after events 0 s) e }

pub reached_step : (events : Events) (s0 s s' : State) (k n : ℕ) (report : Report) →
    k < n → step s (events k) ≡ record { state = s'; report = report } → Reached events s0 s k n → Reached events s0 s' (k + 1) n
reached_step events s0 s s' k n report l e h = record { state = sym (state_more events k n s s' report l e) ∙ h.state }

pub reached_end : (events : Events) (s0 s : State) (k n : ℕ) → n ≤ k → Reached events s0 s k n → s ≡ state_after events 0 s0 n
reached_end events s0 s k n l h =
    let m : n - k ≡ 0 = omega arith in
    ap (state_after events k s) (sym m) ∙ h.state
