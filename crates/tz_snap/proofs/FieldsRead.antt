-- Fields that are read one by one: each from the word of its index, the first of which is k.
use Rattle.std.proofs.Common.{◌≡◌, ℕ, zero, suc, ◌+◌, ◌^◌, ◌<◌, ◌≤◌, Bool, true, false, if◌then◌else◌, List, [], ◌∷◌, ◌++◌, length, drop, map, Some, Result, Ok, Err, refl, sym, ap, ◌∙◌, subst, arith}
use Rattle.std.specs.Prelude.{slice_get, slice_index}
use Rattle.std.proofs.lemmas.Bool.{eqb-true, eq-eqb}
use Rattle.std.proofs.lemmas.Option.{slice_get-get_or}
use Rattle.tz_state.specs.State.{State}
use Rattle.tz_fields.specs.declared.fields.Field.{Field}
use Rattle.tz_fields.specs.StateWords.{word_of}
use Rattle.tz_fields.specs.ReadWords.{IsTold, fits, read_fields, written}
use Rattle.tz_snap.proofs.Lists.{drop_some}

-- the state after all of them are written
abbrev pub written_by : (ℕ → ℕ) → List Field → ℕ → State → State
written_by v [] k s = s
written_by v (f ∷ fs) k s = written_by v fs (k + 1) (written s f (v k))

-- each holds its word where it is written
abbrev pub Fit : (ℕ → ℕ) → List Field → ℕ → State → Type 0
Fit v [] k s = Unit {0}
Fit v (f ∷ fs) k s = (word_of (written s f (v k)) f ≡ v k) × Fit v fs (k + 1) (written s f (v k))

-- each with its index meets something
abbrev pub Each : (ℕ → Field → Type 0) → List Field → ℕ → Type 0
Each P [] k = Unit {0}
Each P (f ∷ fs) k = P k f × Each P fs (k + 1)

-- a field of a state has the word of an index
abbrev pub Has : (ℕ → ℕ) → State → ℕ → Field → Type 0
Has v s k f = word_of s f ≡ v k

-- and written to the field the word leaves the state as it is
abbrev pub Leaves : (ℕ → ℕ) → State → ℕ → Field → Type 0
Leaves v s k f = written s f (v k) ≡ s

-- ---- reading is writing each where it holds its word

pub at_index : (ws : List ℕ) (k : ℕ) → k < length ws → drop k ws ≡ slice_index ws k ∷ drop (k + 1) ws
at_index ws k l = drop_some ws k (slice_index ws k) (slice_get-get_or ws k 0 l)

one_more : (ws : List ℕ) (f : Field) (fs : List Field) (k : ℕ) (s : State) → k < length ws →
    read_fields (f ∷ fs) (drop k ws) k s ≡ (if fits s f (slice_index ws k) then read_fields fs (drop (k + 1) ws) (k + 1) (written s f (slice_index ws k)) else Err k)
unfolding read_fields
one_more ws f fs k s l = ap (λ (xs : List ℕ). read_fields (f ∷ fs) xs k s) (at_index ws k l)

pub fit_read : (ws : List ℕ) (fs : List Field) (k : ℕ) (s : State) → k + length fs ≤ length ws → Fit (slice_index ws) fs k s → read_fields fs (drop k ws) k s ≡ Ok (written_by (slice_index ws) fs k s)
unfolding read_fields
fit_read ws [] k s l h = refl
fit_read ws (f ∷ fs) k s l h =
    let w = slice_index ws k in
    let rest = read_fields fs (drop (k + 1) ws) (k + 1) (written s f w) in
    one_more ws f fs k s (omega arith)
    ∙ ap (λ (t : Bool). if t then rest else Err k) (eq-eqb (word_of (written s f w) f) w h.0)
    ∙ fit_read ws fs (k + 1) (written s f w) (omega arith) h.1

pub passed : (t : Bool) (k : ℕ) (r : Result State ℕ) (u : State) → (if t then r else Err k) ≡ Ok u → (t ≡ true) × (r ≡ Ok u)
passed true k r u e = (refl, e)
passed false k r u e = cc

pub same_state : (s u : State) → ◌≡◌ {A = Result State ℕ} (Ok s) (Ok u) → s ≡ u
same_state s u e = cc

pub read_fit : (ws : List ℕ) (fs : List Field) (k : ℕ) (s u : State) → k + length fs ≤ length ws → read_fields fs (drop k ws) k s ≡ Ok u
    → Fit (slice_index ws) fs k s × (written_by (slice_index ws) fs k s ≡ u)
unfolding read_fields
read_fit ws [] k s u l e = (tt, same_state s u e)
read_fit ws (f ∷ fs) k s u l e =
    let w = slice_index ws k in
    let parts = passed (fits s f w) k (read_fields fs (drop (k + 1) ws) (k + 1) (written s f w)) u (sym (one_more ws f fs k s (omega arith)) ∙ e) in
    let rest = read_fit ws fs (k + 1) (written s f w) u (omega arith) parts.1 in
    ((eqb-true (word_of (written s f w) f) w parts.0, rest.0), rest.1)

-- ---- two lists of fields, the second of which begins at n

pub each_both : (P : ℕ → Field → Type 0) (fs gs : List Field) (k n : ℕ) → k + length fs ≡ n → Each P fs k → Each P gs n → Each P (fs ++ gs) k
each_both P [] gs k n e h i = let same : n ≡ k = omega arith in subst (λ (i : ℕ). Each P gs i) same i
each_both P (f ∷ fs) gs k n e h i = (h.0, each_both P fs gs (k + 1) n (omega arith) h.1 i)

pub each_apart : (P : ℕ → Field → Type 0) (fs gs : List Field) (k n : ℕ) → k + length fs ≡ n → Each P (fs ++ gs) k → Each P fs k × Each P gs n
each_apart P [] gs k n e h = let same : k ≡ n = omega arith in (tt, subst (λ (i : ℕ). Each P gs i) same h)
each_apart P (f ∷ fs) gs k n e h = let rest = each_apart P fs gs (k + 1) n (omega arith) h.1 in ((h.0, rest.0), rest.1)

module _ (v : ℕ → ℕ) where
  pub written_both : (fs gs : List Field) (k n : ℕ) (s : State) → k + length fs ≡ n → written_by v (fs ++ gs) k s ≡ written_by v gs n (written_by v fs k s)
  written_both [] gs k n s e = let same : k ≡ n = omega arith in ap (λ (i : ℕ). written_by v gs i s) same
  written_both (f ∷ fs) gs k n s e = written_both fs gs (k + 1) n (written s f (v k)) (omega arith)

  pub fit_both : (fs gs : List Field) (k n : ℕ) (s : State) → k + length fs ≡ n → Fit v fs k s → Fit v gs n (written_by v fs k s) → Fit v (fs ++ gs) k s
  fit_both [] gs k n s e h i = let same : n ≡ k = omega arith in subst (λ (i : ℕ). Fit v gs i s) same i
  fit_both (f ∷ fs) gs k n s e h i = (h.0, fit_both fs gs (k + 1) n (written s f (v k)) (omega arith) h.1 i)

  pub fit_apart : (fs gs : List Field) (k n : ℕ) (s : State) → k + length fs ≡ n → Fit v (fs ++ gs) k s → Fit v fs k s × Fit v gs n (written_by v fs k s)
  fit_apart [] gs k n s e h = let same : k ≡ n = omega arith in (tt, subst (λ (i : ℕ). Fit v gs i s) same h)
  fit_apart (f ∷ fs) gs k n s e h = let rest = fit_apart fs gs (k + 1) n (written s f (v k)) (omega arith) h.1 in ((h.0, rest.0), rest.1)

  -- ---- settled fields

  pub stays : (fs : List Field) (k : ℕ) (s : State) → Each (Leaves v s) fs k → written_by v fs k s ≡ s
  stays [] k s h = refl
  stays (f ∷ fs) k s h = ap (written_by v fs (k + 1)) h.0 ∙ stays fs (k + 1) s h.1

  -- a field whose word tells all that it holds is settled
  pub told_settled : (fs : List Field) (k : ℕ) (s : State) → ((j : ℕ) (f : Field) → slice_get fs j ≡ Some f → IsTold s f) → Each (Has v s) fs k → Each (Leaves v s) fs k
  told_settled [] k s all h = tt
  told_settled (f ∷ fs) k s all h = (ap (written s f) (sym h.0) ∙ (all 0 f refl).1, told_settled fs (k + 1) s (λ j g e. all (suc j) g e) h.1)

  -- and the other way round
  pub settled_told : (fs : List Field) (k : ℕ) (s : State) → ((j : ℕ) → v j < 2 ^ 32) → Each (Has v s) fs k → Each (Leaves v s) fs k → (j : ℕ) (f : Field) → slice_get fs j ≡ Some f → IsTold s f
  settled_told [] k s small h i j f e = cc
  settled_told (g ∷ fs) k s small h i zero f e =
      let same : g ≡ f = cc in
      let below = small k in
      let is = h.0 in
      subst (IsTold s) same ((omega arith, ap (written s g) h.0 ∙ i.0))
  settled_told (g ∷ fs) k s small h i (suc j) f e = settled_told fs (k + 1) s small h.1 i.1 j f e

-- ---- words of a list

pub first_of : (ws : List ℕ) (k w : ℕ) (xs : List ℕ) → drop k ws ≡ w ∷ xs → (slice_index ws k ≡ w) × (drop (k + 1) ws ≡ xs)
first_of [] zero w xs e = cc
first_of [] (suc k) w xs e = cc
first_of (x ∷ ws) zero w xs e = (cc, cc)
first_of (x ∷ ws) (suc k) w xs e =
    let rest = first_of ws k w xs e in
    let next : suc k + 1 ≡ suc (k + 1) = omega arith in
    (rest.0, ap (λ (i : ℕ). drop i (x ∷ ws)) next ∙ rest.1)

-- words that begin with those of fields
pub words_told : (ws : List ℕ) (fs : List Field) (k : ℕ) (s : State) (rest : List ℕ) → drop k ws ≡ map (word_of s) fs ++ rest → Each (Has (slice_index ws) s) fs k
words_told ws [] k s rest e = tt
words_told ws (f ∷ fs) k s rest e = let both = first_of ws k (word_of s f) (map (word_of s) fs ++ rest) e in (sym both.0, words_told ws fs (k + 1) s rest both.1)

pub told_words : (ws : List ℕ) (fs : List Field) (k n : ℕ) (s : State) → k + length fs ≡ n → n ≤ length ws → Each (Has (slice_index ws) s) fs k → drop k ws ≡ map (word_of s) fs ++ drop n ws
told_words ws [] k n s e l h = let same : k ≡ n = omega arith in ap (λ (i : ℕ). drop i ws) same
told_words ws (f ∷ fs) k n s e l h =
    at_index ws k (omega arith) ∙ ap (λ (w : ℕ). w ∷ drop (k + 1) ws) (sym h.0) ∙ ap (λ (xs : List ℕ). word_of s f ∷ xs) (told_words ws fs (k + 1) n s (omega arith) l h.1)
