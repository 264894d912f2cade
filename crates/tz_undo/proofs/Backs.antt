-- Steps back lead to where the steps began, and what stands before is where they began.
use Rattle.std.proofs.Common.{◌≡◌, ℕ, zero, suc, ◌+◌, ◌-◌, ◌≤◌, List, [], ◌∷◌, length, take, refl, sym, ap, ◌∙◌, subst, arith}
use Rattle.std.proofs.lemmas.List.{take-take, take_all}
use Rattle.std.proofs.lemmas.Grind.{common_steps}
use Rattle.tz_state.specs.State.{State}
use Rattle.tz_model.specs.declared.report.ScriptEvent.{ScriptEvent}
use Rattle.tz_sem.specs.Step.{step}
use Rattle.tz_undo.specs.History.{HistoryValue, stepped, backed_to, backed, all_stepped, all_backed, states_onto, states_before}

-- the last of several steps back
last_back : (n : ℕ) (h : HistoryValue) → all_backed (suc n) h ≡ backed (all_backed n h)
unfolding all_backed
last_back zero h = refl
last_back (suc n) h = last_back n (backed h)

-- a history is at a state, with so many of given states before it
record IsAt (s : State) (n : ℕ) (ss : List State) (h : HistoryValue) : Type 0 where
  pub now : h.now ≡ s
  pub before : take n h.before ≡ take n ss

-- where a step led, a step back leads to where it began
back_to : (kept n : ℕ) (r s : State) (ss : List State) (h : HistoryValue) → suc n ≤ kept → IsAt r (suc n) (take kept (s ∷ ss)) h → IsAt s n ss (backed h)
back_to kept n r s ss h few at = go h.before (at.before ∙ take-take (suc n) kept (s ∷ ss) few)
  where
    go : (bs : List State) → take (suc n) bs ≡ take (suc n) (s ∷ ss) → IsAt s n ss (backed_to h bs)
    go [] e = absurd (cc)
    go (b ∷ bs) e = record { now = cc; before = cc }

all_back : (h : HistoryValue) (dues : List (List ScriptEvent)) (n : ℕ) → length dues + n ≡ h.kept → IsAt h.now n h.before (all_backed (length dues) (all_stepped h dues))
unfolding all_backed all_stepped
all_back h [] n e = record { now = refl; before = refl }
all_back h (due ∷ dues) n e =
    subst (λ (v : HistoryValue). IsAt h.now n h.before v) (sym (last_back (length dues) (all_stepped (stepped h due) dues)))
    (back_to h.kept n (step h.now due).state h.now h.before (all_backed (length dues) (all_stepped (stepped h due) dues)) (omega arith)
    (all_back (stepped h due) dues (suc n) (omega arith)))

pub goes_back : (h : HistoryValue) (dues : List (List ScriptEvent)) → length dues ≤ h.kept → (all_backed (length dues) (all_stepped h dues)).now ≡ h.now
goes_back h dues few = (all_back h dues (h.kept - length dues) (omega arith)).now

-- ---- what stands before

-- more states than are kept make no difference before others
onto_take : (k : ℕ) (bs : List State) (s : State) (dues : List (List ScriptEvent)) → take k (states_onto (take k bs) s dues) ≡ take k (states_onto bs s dues)
unfolding states_onto
onto_take k bs s [] = take-take k k bs (omega arith)
onto_take k bs s (due ∷ dues) =
    sym (onto_take k (s ∷ take k bs) (step s due).state dues)
    ∙ ap (λ (l : List State). take k (states_onto l (step s due).state dues)) (take_onto k s bs)
    ∙ onto_take k (s ∷ bs) (step s due).state dues
  where
    take_onto : (k : ℕ) (s : State) (bs : List State) → take k (s ∷ take k bs) ≡ take k (s ∷ bs)
    take_onto zero s bs = refl
    take_onto (suc k) s bs = ap (λ (l : List State). s ∷ l) (take-take k (suc k) bs (omega arith))

pub are_kept : (h : HistoryValue) (dues : List (List ScriptEvent)) → length h.before ≤ h.kept → (all_stepped h dues).before ≡ take h.kept (states_before h dues)
unfolding all_stepped states_onto
are_kept h [] few = sym (take_all h.kept h.before few)
are_kept h (due ∷ dues) few =
    are_kept (stepped h due) dues (grind (arith, common_steps)) ∙ onto_take h.kept (h.now ∷ h.before) (step h.now due).state dues
