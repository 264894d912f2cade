-- The entries that are counted so far.
use Rattle.std.proofs.Common.{◌≡◌, ℕ, suc, ◌+◌, ◌-◌, ◌<◌, ◌≤◌, List, [], ◌∷◌, ◌++◌, length, map, get_or, ◌^◌, Option, Some, None, refl, sym, ap, ◌∙◌, arith, append_assoc, append-nil, length-append}
use Rattle.std.specs.Prelude.{replicate}
use Rattle.std.proofs.lemmas.List.{length-map}
use Rattle.tz_model.specs.declared.report.Report.{Report}
use Rattle.tz_state.specs.State.{State}
use Rattle.tz_sem.specs.Run.{Events, state_after}
use Rattle.tz_sem.specs.Step.{Stepped, step}
use Rattle.tz_gates.specs.Entries.{entry_of, listed, entered, count_at, count_elsewhere}
use Rattle.tz_gates.proofs.Hits.{no_hits, hits_few, others_few}

-- after k of n steps from s0 the machine is at s: `done` are the entries so far, and with those of the steps that are
-- left they are all; the hits and the others are those of `done`
pub record SoFar (events : Events) (gates : List ℕ) (s0 s : State) (k n : ℕ) (hits : List ℕ) (others : ℕ) : Type 0 where
  pub done : List ℕ
  pub all : done ++ entered events k s (n - k) ≡ entered events 0 s0 n
  pub state : state_after events k s (n - k) ≡ state_after events 0 s0 n
  pub few : length done ≤ k
  pub counted : hits ≡ map (count_at done) gates
  pub elsewhere : others ≡ count_elsewhere done gates

pub so_far_start : (events : Events) (gates : List ℕ) (s : State) (n : ℕ) (hits : List ℕ) → hits ≡ replicate (length gates) 0 → SoFar events gates s s 0 n hits 0
so_far_start events gates s n hits zeros =
    let e : n - 0 ≡ n = omega arith in
    record { done = []; all = ap (entered events 0 s) e; state = ap (state_after events 0 s) e; few = omega arith; counted = zeros ∙ no_hits gates; elsewhere = refl }

entered_more : (events : Events) (k n : ℕ) (s s' : State) (r : Report) → k < n → step s (events k) ≡ record { state = s'; report = r } → entered events k s (n - k) ≡ listed (entry_of r) ++ entered events (k + 1) s' (n - (k + 1))
unfolding entered
entered_more events k n s s' r l e =
    let m : n - k ≡ suc (n - (k + 1)) = omega arith in
    rw m (ap (λ (x : Stepped). listed (entry_of x.report) ++ entered events (k + 1) x.state (n - (k + 1))) e)

state_more : (events : Events) (k n : ℕ) (s s' : State) (r : Report) → k < n → step s (events k) ≡ record { state = s'; report = r } → state_after events k s (n - k) ≡ state_after events (k + 1) s' (n - (k + 1))
state_more events k n s s' r l e =
    let m : n - k ≡ suc (n - (k + 1)) = omega arith in
    rw m (ap (λ (x : Stepped). state_after events (k + 1) x.state (n - (k + 1))) e)

length_listed : (o : Option ℕ) → length (listed o) ≤ 1
length_listed None = omega arith
length_listed (Some p) = omega arith

pub so_far_step : (events : Events) (gates : List ℕ) (s0 s s' : State) (k n : ℕ) (hits hits' : List ℕ) (others others' : ℕ) (r : Report) → k < n → step s (events k) ≡ record { state = s'; report = r }
    → (h : SoFar events gates s0 s k n hits others) → hits' ≡ map (count_at (h.done ++ listed (entry_of r))) gates → others' ≡ count_elsewhere (h.done ++ listed (entry_of r)) gates
    → SoFar events gates s0 s' (k + 1) n hits' others'
so_far_step events gates s0 s s' k n hits hits' others others' r l e h new new_others =
    let now = listed (entry_of r) in
    let longer : length (h.done ++ listed (entry_of r)) ≡ length h.done + length (listed (entry_of r)) = length-append h.done (listed (entry_of r)) in
    let one = length_listed (entry_of r) in
    let few : length h.done ≤ k = h.few in
    record {
      done = h.done ++ listed (entry_of r);
      all = append_assoc h.done (listed (entry_of r)) (entered events (k + 1) s' (n - (k + 1)))
          ∙ ap (λ (x : List ℕ). h.done ++ x) (sym (entered_more events k n s s' r l e)) ∙ h.all;
      state = sym (state_more events k n s s' r l e) ∙ h.state;
      few = omega arith;
      counted = new;
      elsewhere = new_others;
    }

-- a step that doesn't enter
pub so_far_quiet : (events : Events) (gates : List ℕ) (s0 s s' : State) (k n : ℕ) (hits hits' : List ℕ) (others others' : ℕ) (r : Report) → k < n → step s (events k) ≡ record { state = s'; report = r } → entry_of r ≡ None
    → hits' ≡ hits → others' ≡ others → SoFar events gates s0 s k n hits others → SoFar events gates s0 s' (k + 1) n hits' others'
so_far_quiet events gates s0 s s' k n hits hits' others others' r l e none old old_others h =
    let same : h.done ≡ h.done ++ listed (entry_of r) = sym (append-nil h.done) ∙ ap (λ (o : Option ℕ). h.done ++ listed o) (sym none) in
    so_far_step events gates s0 s s' k n hits hits' others others' r l e h (old ∙ h.counted ∙ ap (λ (d : List ℕ). map (count_at d) gates) same)
    (old_others ∙ h.elsewhere ∙ ap (λ (d : List ℕ). count_elsewhere d gates) same)

-- one that does
pub so_far_entry : (events : Events) (gates : List ℕ) (s0 s s' : State) (k n : ℕ) (hits hits' : List ℕ) (others others' : ℕ) (r : Report) (p : ℕ) → k < n → step s (events k) ≡ record { state = s'; report = r } → entry_of r ≡ Some p
    → (h : SoFar events gates s0 s k n hits others) → hits' ≡ map (count_at (h.done ++ p ∷ [])) gates → others' ≡ count_elsewhere (h.done ++ p ∷ []) gates → SoFar events gates s0 s' (k + 1) n hits' others'
so_far_entry events gates s0 s s' k n hits hits' others others' r p l e some h new new_others =
    let same : h.done ++ p ∷ [] ≡ h.done ++ listed (entry_of r) = ap (λ (o : Option ℕ). h.done ++ listed o) (sym some) in
    so_far_step events gates s0 s s' k n hits hits' others others' r l e h (new ∙ ap (λ (d : List ℕ). map (count_at d) gates) same) (new_others ∙ ap (λ (d : List ℕ). count_elsewhere d gates) same)

none_left : (events : Events) (k : ℕ) (s : State) (done : List ℕ) → done ++ entered events k s 0 ≡ done
unfolding entered
none_left events k s done = append-nil done

done_all : (events : Events) (gates : List ℕ) (s0 s : State) (k n : ℕ) (hits : List ℕ) (others : ℕ) → n ≤ k → (h : SoFar events gates s0 s k n hits others) → h.done ≡ entered events 0 s0 n
done_all events gates s0 s k n hits others l h =
    let m : n - k ≡ 0 = omega arith in
    sym (none_left events k s h.done) ∙ ap (λ (x : ℕ). h.done ++ entered events k s x) (sym m) ∙ h.all

pub hits_at_end : (events : Events) (gates : List ℕ) (s0 s : State) (k n : ℕ) (hits : List ℕ) (others : ℕ) → n ≤ k → SoFar events gates s0 s k n hits others → hits ≡ map (count_at (entered events 0 s0 n)) gates
hits_at_end events gates s0 s k n hits others l h = h.counted ∙ ap (λ (d : List ℕ). map (count_at d) gates) (done_all events gates s0 s k n hits others l h)

pub others_at_end : (events : Events) (gates : List ℕ) (s0 s : State) (k n : ℕ) (hits : List ℕ) (others : ℕ) → n ≤ k → SoFar events gates s0 s k n hits others → others ≡ count_elsewhere (entered events 0 s0 n) gates
others_at_end events gates s0 s k n hits others l h = h.elsewhere ∙ ap (λ (d : List ℕ). count_elsewhere d gates) (done_all events gates s0 s k n hits others l h)

pub state_at_end : (events : Events) (gates : List ℕ) (s0 s : State) (k n : ℕ) (hits : List ℕ) (others : ℕ) → n ≤ k → SoFar events gates s0 s k n hits others → s ≡ state_after events 0 s0 n
state_at_end events gates s0 s k n hits others l h =
    let m : n - k ≡ 0 = omega arith in
    ap (state_after events k s) (sym m) ∙ h.state

-- there are fewer entries than steps, and so room for one more
pub as_long : (events : Events) (gates : List ℕ) (s0 s : State) (k n : ℕ) (hits : List ℕ) (others : ℕ) → SoFar events gates s0 s k n hits others → length hits ≡ length gates
as_long events gates s0 s k n hits others h = ap (λ (x : List ℕ). length x) h.counted ∙ length-map gates (count_at h.done)

pub hits_room : (events : Events) (gates : List ℕ) (s0 s : State) (k n : ℕ) (hits : List ℕ) (others : ℕ) → SoFar events gates s0 s k n hits others → k < n → n < 2 ^ 32 → (j : ℕ) → j < length hits → get_or hits j 0 < 4294967295
hits_room events gates s0 s k n hits others h l fit j m =
    let long : length hits ≡ length gates = as_long events gates s0 s k n hits others h in
    let at : get_or hits j 0 ≡ get_or (map (count_at h.done) gates) j 0 = ap (λ (x : List ℕ). get_or x j 0) h.counted in
    let most : get_or (map (count_at h.done) gates) j 0 ≤ length h.done = hits_few gates h.done j (omega arith) in
    let few : length h.done ≤ k = h.few in
    omega arith

pub others_room : (events : Events) (gates : List ℕ) (s0 s : State) (k n : ℕ) (hits : List ℕ) (others : ℕ) → SoFar events gates s0 s k n hits others → k < n → n < 2 ^ 32 → others < 4294967295
others_room events gates s0 s k n hits others h l fit =
    let is : others ≡ count_elsewhere h.done gates = h.elsewhere in
    let most : count_elsewhere h.done gates ≤ length h.done = others_few gates h.done in
    let few : length h.done ≤ k = h.few in
    omega arith
