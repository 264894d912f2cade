-- The reports that are tallied so far.
use Rattle.std.proofs.Common.{◌≡◌, ℕ, suc, ◌+◌, ◌-◌, ◌<◌, ◌≤◌, Bool, cond, List, [], ◌∷◌, ◌++◌, length, refl, sym, ap, ◌∙◌, arith, append_assoc, append-nil, length-append, zero-add}
use Rattle.std.specs.List.{count_by}
use Rattle.std.proofs.lemmas.List.Sums.{sum_by-append, count_by-le-length}
use Rattle.tz_model.specs.declared.report.Report.{Report}
use Rattle.tz_state.specs.State.{State}
use Rattle.tz_sem.specs.Run.{Events, state_after}
use Rattle.tz_sem.specs.Step.{Stepped, step}
use Rattle.tz_text.specs.Line.{is_hidden}
use Rattle.tz_run.specs.declared.tally.Tally.{Tally}
use Rattle.tz_run.specs.Tallies.{shows_taken, shows_ran, reports_of, tally_in, tally_of}

-- after k of n steps from s0 the machine is at s: `done` are the reports so far, and with those of the steps that are
-- left they are all; the tally is that of `done`
pub record Tallied (events : Events) (s0 s : State) (k n : ℕ) (tally : Tally) : Type 0 where
  pub done : List Report
  pub all : done ++ reports_of events k s (n - k) ≡ reports_of events 0 s0 n
  pub state : state_after events k s (n - k) ≡ state_after events 0 s0 n
  pub long : length done ≡ k
  pub secure : tally.secure ≡ count_by is_hidden done
  pub taken : tally.taken ≡ count_by shows_taken done
  pub ran : tally.ran ≡ count_by shows_ran done

pub tallied_start : (events : Events) (s : State) (n : ℕ) → Tallied events s s 0 n (record { secure = 0; taken = 0; ran = 0 })
tallied_start events s n =
    let e : n - 0 ≡ n = omega arith in
    record { done = []; all = ap (reports_of events 0 s) e; state = ap (state_after events 0 s) e; long = refl; secure = refl; taken = refl; ran = refl }

reports_more : (events : Events) (k n : ℕ) (s s' : State) (r : Report) → k < n → step s (events k) ≡ record { state = s'; report = r } → reports_of events k s (n - k) ≡ r ∷ reports_of events (k + 1) s' (n - (k + 1))
reports_more events k n s s' r l e =
    let m : n - k ≡ suc (n - (k + 1)) = omega arith in
    rw m (ap (λ (x : Stepped). x.report ∷ reports_of events (k + 1) x.state (n - (k + 1))) e)

states_more : (events : Events) (k n : ℕ) (s s' : State) (r : Report) → k < n → step s (events k) ≡ record { state = s'; report = r } → state_after events k s (n - k) ≡ state_after events (k + 1) s' (n - (k + 1))
states_more events k n s s' r l e =
    let m : n - k ≡ suc (n - (k + 1)) = omega arith in
    rw m (ap (λ (x : Stepped). state_after events (k + 1) x.state (n - (k + 1))) e)

one_more : (p : Report → Bool) (rs : List Report) (r : Report) → count_by p (rs ++ r ∷ []) ≡ count_by p rs + cond (p r) 1 0
one_more p rs r = sum_by-append (λ x. cond (p x) 1 0) rs (r ∷ []) ∙ ap (λ (n : ℕ). count_by p rs + n) (zero-add (cond (p r) 1 0))

counts_more : (p : Report → Bool) (rs : List Report) (r : Report) (old new : ℕ) → old ≡ count_by p rs → new ≡ old + cond (p r) 1 0 → new ≡ count_by p (rs ++ r ∷ [])
counts_more p rs r old new was is = is ∙ ap (λ (n : ℕ). n + cond (p r) 1 0) was ∙ sym (one_more p rs r)

pub tallied_step : (events : Events) (s0 s s' : State) (k n : ℕ) (old new : Tally) (r : Report) → k < n → step s (events k) ≡ record { state = s'; report = r }
    → new.secure ≡ old.secure + cond (is_hidden r) 1 0 → new.taken ≡ old.taken + cond (shows_taken r) 1 0 → new.ran ≡ old.ran + cond (shows_ran r) 1 0
    → Tallied events s0 s k n old → Tallied events s0 s' (k + 1) n new
tallied_step events s0 s s' k n old new r l e secure taken ran h =
    let long : length h.done ≡ k = h.long in
    record {
      done = h.done ++ r ∷ [];
      all = append_assoc h.done (r ∷ []) (reports_of events (k + 1) s' (n - (k + 1)))
          ∙ ap (λ (x : List Report). h.done ++ x) (sym (reports_more events k n s s' r l e)) ∙ h.all;
      state = sym (states_more events k n s s' r l e) ∙ h.state;
      long = length-append h.done (r ∷ []) ∙ ap (λ (m : ℕ). m + 1) long;
      secure = counts_more is_hidden h.done r old.secure new.secure h.secure secure;
      taken = counts_more shows_taken h.done r old.taken new.taken h.taken taken;
      ran = counts_more shows_ran h.done r old.ran new.ran h.ran ran;
    }

-- ---- room for one more

few : (p : Report → Bool) (rs : List Report) (count k n : ℕ) → count ≡ count_by p rs → length rs ≡ k → k < n → n < 4294967296 → count < 4294967295
few p rs count k n is long l fit = let most = count_by-le-length p rs in omega (arith, is, long, most, l, fit)

pub secure_room : (events : Events) (s0 s : State) (k n : ℕ) (tally : Tally) → Tallied events s0 s k n tally → k < n → n < 4294967296 → tally.secure < 4294967295
secure_room events s0 s k n tally h l fit = few is_hidden h.done tally.secure k n h.secure h.long l fit

pub taken_room : (events : Events) (s0 s : State) (k n : ℕ) (tally : Tally) → Tallied events s0 s k n tally → k < n → n < 4294967296 → tally.taken < 4294967295
taken_room events s0 s k n tally h l fit = few shows_taken h.done tally.taken k n h.taken h.long l fit

pub ran_room : (events : Events) (s0 s : State) (k n : ℕ) (tally : Tally) → Tallied events s0 s k n tally → k < n → n < 4294967296 → tally.ran < 4294967295
ran_room events s0 s k n tally h l fit = few shows_ran h.done tally.ran k n h.ran h.long l fit

-- ---- the end

done_all : (events : Events) (s0 s : State) (k n : ℕ) (tally : Tally) → n ≤ k → (h : Tallied events s0 s k n tally) → h.done ≡ reports_of events 0 s0 n
done_all events s0 s k n tally l h =
    let m : n - k ≡ 0 = omega arith in
    sym (append-nil h.done) ∙ ap (λ (x : ℕ). h.done ++ reports_of events k s x) (sym m) ∙ h.all

same_tally : (tally : Tally) (rs : List Report) → tally.secure ≡ count_by is_hidden rs → tally.taken ≡ count_by shows_taken rs → tally.ran ≡ count_by shows_ran rs → tally ≡ tally_in rs
same_tally tally rs secure taken ran = rw (secure, taken, ran) refl

pub tally_at_end : (events : Events) (s0 s : State) (k n : ℕ) (tally : Tally) → n ≤ k → Tallied events s0 s k n tally → tally ≡ tally_of events 0 s0 n
tally_at_end events s0 s k n tally l h = same_tally tally h.done h.secure h.taken h.ran ∙ ap tally_in (done_all events s0 s k n tally l h)

pub tallied_state : (events : Events) (s0 s : State) (k n : ℕ) (tally : Tally) → n ≤ k → Tallied events s0 s k n tally → s ≡ state_after events 0 s0 n
tallied_state events s0 s k n tally l h =
    let m : n - k ≡ 0 = omega arith in
    ap (state_after events k s) (sym m) ∙ h.state
