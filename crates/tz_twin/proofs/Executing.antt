-- An instruction of Non-secure code: what it leaves is open, and the same in twins.
use Rattle.std.proofs.Common.{◌≡◌, ℕ, ℤ, Bool, true, false, cond, not, ◌&&◌, List, [], Option, Some, None, Result, Ok, Err, refl, sym, subst}
use Rattle.std.specs.Prelude.{IfSome}
use Rattle.tz_table.specs.declared.units.Side.{Side}
use Rattle.tz_table.specs.declared.units.Side.TheVariants.{Secure, NonSecure}
use Rattle.tz_table.specs.declared.units.Code.{Code}
use Rattle.tz_table.specs.declared.decoded.Decoded.{Decoded}
use Rattle.tz_table.specs.declared.decoded.Decoded.TheVariants.{One, NoCoprocessor, Undefined}
use Rattle.tz_table.specs.declared.instruction.Insn.{Insn}
use Rattle.tz_table.specs.declared.instruction.Insn.TheVariants.{TestTarget}
use Rattle.tz_model.specs.declared.report.Fault.{Fault}
use Rattle.tz_model.specs.declared.report.Fault.TheVariants.{Undef, NoCp, Unaligned}
use Rattle.tz_model.specs.declared.report.Outcome.{Outcome}
use Rattle.tz_model.specs.declared.report.Outcome.TheVariants.{Next}
use Rattle.tz_model.specs.declared.report.Store.{Store}
use Rattle.tz_regs.specs.declared.parts.BusStatus.{BusStatus}
use Rattle.tz_regs.specs.declared.parts.Core.{Core}
use Rattle.tz_regs.specs.Special.{Named, named_of}
use Rattle.tz_state.specs.declared.probe.Probe.{Probe}
use Rattle.tz_regs.specs.declared.parts.Registers.{Registers}
use Rattle.tz_state.specs.declared.request.Exclusive.{Exclusive}
use Rattle.tz_state.specs.Memory.{Memory}
use Rattle.tz_state.specs.Access.{is_aligned, Reached, reached_in}
use Rattle.tz_state.specs.State.{State, priority_in, asker_in, is_held}
use Rattle.tz_state.specs.declared.asker.Asker.{Asker}
use Rattle.tz_state.specs.Target.{target_word}
use Rattle.tz_sem.specs.declared.family.Family.{Family}
use Rattle.tz_sem.specs.declared.family.Family.TheVariants.{Alu, LoadStore, Branch, System}
use Rattle.tz_sem.specs.Local.{Local, Finished, FinishedNamed, local_of, put, finished_in, finished_named}
use Rattle.tz_sem.specs.Alu.{finish_alu}
use Rattle.tz_sem.specs.LoadStore.{refusal, plan_load_store, finish_load_store}
use Rattle.tz_sem.specs.Branch.{plan_branch, finish_branch}
use Rattle.tz_sem.specs.System.{finish_system, clears_monitor, probe_of}
use Rattle.tz_sem.specs.ItRules.{is_misplaced, is_passed_over, ignores_condition}
use Rattle.tz_sem.specs.Exec.{Ported, ported, unless_refused, after_accesses, probed, cleared_by, Executed, alone, beside, through, Exclusivity, Free, Marks, Takes, exclusivity, marked_by, marked, loads_stores, stores_exclusive, exclusively, family_of, executed_by, executed}
use Rattle.tz_sem.specs.declared.ending.Course.{Course}
use Rattle.tz_sem.specs.Step.{executes, placed, decoded}
use Rattle.tz_sem.proofs.Kept.{executed_number, executed_call}
use Rattle.tz_twin.proofs.Split.{Open, Rest, join_bus, join, Same}
use Rattle.tz_twin.proofs.Both.{Both, both_cond}
use Rattle.tz_twin.proofs.Registers.{Written, moved}
use Rattle.tz_twin.proofs.Accesses.{SameAnswers, reached, rested, answers_same}
use Rattle.tz_twin.proofs.Faults.{is_own, Own, OwnSome, own_answers, own_alu, own_refusal, own_load_store, own_branch, own_system}
use Rattle.tz_twin.proofs.Leaving.{Leaves, Left, left_all, left_again, both_faults, both_fault, CallsNone, Follows, goes_on_same, skips_same}

-- what instructions left of twins: one open part, the same stores and outcome, and rests that are the same to
-- Non-secure code; a fault of no Secure side
pub record Alike (o : Open) (x x' : Rest) (e e' : Executed) : Type 0 where
  pub part : Open
  pub rest : Rest
  pub rest' : Rest
  pub state : e.state ≡ join part rest
  pub state' : e'.state ≡ join part rest'
  pub stores : e.stores ≡ e'.stores
  pub outcome : e.outcome ≡ e'.outcome
  pub own : Own e.outcome
  pub left : Left o x x' part rest rest'

-- the step goes on alike
concluded : (o p : Open) (x x' y y' : Rest) (r : Registers) (before before' : Core) (course : Course) (code : Code) (i : Insn) (stores : List Store) (out : Result Outcome Fault) → Own out → CallsNone out → Follows course r before before'
    → p.registers.ipsr ≡ o.registers.ipsr → Left o x x' p y y'
    → Both (join o x) (join o x') (executes before course code i (record { state = join p y; stores = stores; outcome = out })) (executes before' course code i (record { state = join p y'; stores = stores; outcome = out }))
unfolding Own
concluded o p x x' y y' r before before' course code i stores (Ok outcome) own calls f n h = goes_on_same o p x x' y y' r before before' course code i stores outcome calls f n h
concluded o p x x' y y' r before before' course code i stores (Err fault) own calls f n h = both_faults o p x x' y y' course fault stores own h

executes_same : (o : Open) (x x' : Rest) (r : Registers) (before before' : Core) (course : Course) (code : Code) (i : Insn) (e e' : Executed) → CallsNone e.outcome → Follows course r before before'
    → e.state.core.registers.ipsr ≡ o.registers.ipsr → Alike o x x' e e'
    → Both (join o x) (join o x') (executes before course code i e) (executes before' course code i e')
executes_same o x x' r before before' course code i e e' calls f n a =
    let here : e ≡ record { state = join a.part a.rest; stores = e.stores; outcome = e.outcome } =
    λ j. record { state = a.state j; stores = e.stores; outcome = e.outcome } in
    let there : e' ≡ record { state = join a.part a.rest'; stores = e.stores; outcome = e.outcome } =
    λ j. record { state = a.state' j; stores = sym a.stores j; outcome = sym a.outcome j } in
    subst (λ (y : Executed). Both (join o x) (join o x') (executes before course code i y) (executes before' course code i e')) (sym here)
    (subst (λ (y : Executed). Both (join o x) (join o x') (executes before course code i (record { state = join a.part a.rest; stores = e.stores; outcome = e.outcome })) (executes before' course code i y)) (sym there)
    (concluded o a.part x x' a.rest a.rest' r before before' course code i e.stores e.outcome a.own calls f
    (subst (λ (s : State). s.core.registers.ipsr ≡ o.registers.ipsr) a.state n) a.left))

alike_cond : (o : Open) (x x' : Rest) (t : Bool) (e f e' f' : Executed) → Alike o x x' e e' → Alike o x x' f f' → Alike o x x' (cond t e f) (cond t e' f')
alike_cond o x x' true e f e' f' p q = p
alike_cond o x x' false e f e' f' p q = q

-- no access was made
alike_open : (o p : Open) (x x' : Rest) (outcome : Result Outcome Fault) → Own outcome → Left o x x' p x x'
    → Alike o x x' (record { state = join p x; stores = []; outcome = outcome }) (record { state = join p x'; stores = []; outcome = outcome })
alike_open o p x x' outcome own h = record {
  part = p;
  rest = x;
  rest' = x';
  state = refl;
  state' = refl;
  stores = refl;
  outcome = refl;
  own = own;
  left = h;
}

-- ---- instructions that make no access

left_open : Open → Local → Open
left_open o l = record o { registers = l.registers; stacks_ns = l.own }

left_local : (o p : Open) (x x' y y' : Rest) (l : Local) → Left o x x' p y y' → Left o x x' (left_open p l) y y'
unfolding left_open
left_local o p x x' y y' l h = left_again o x x' p (left_open p l) y y' refl refl refl refl h

alike_alone : (o : Open) (x x' : Rest) (f : Finished) → Own f → Same o x x' → Alike o x x' (alone (join o x) (finished_in (join o x).core f)) (alone (join o x') (finished_in (join o x').core f))
unfolding left_open Own
alike_alone o x x' (Ok f) own same = alike_open o (left_open o f.0) x x' (Ok f.1) tt (left_local o o x x' x x' f.0 (left_all o x x' same))
alike_alone o x x' (Err fault) own same = alike_open o o x x' (Err fault) own (left_all o x x' same)

-- ---- system instructions

left_named : Open → Named → Option Exclusive → Open
left_named o n monitor =
    record o { registers = n.registers; stacks_ns = n.own; masks = record n.masks { s = o.masks.s }; event = n.event; monitor = monitor }

named_left : (o : Open) (x x' : Rest) (n : Named) (monitor : Option Exclusive) → Same o x x' → Left o x x' (left_named o n monitor) x x'
unfolding left_named
named_left o x x' n monitor same = left_again o x x' o (left_named o n monitor) x x' refl refl refl refl (left_all o x x' same)

-- what TT tells Non-secure code is open
target_same : (o : Open) (x x' : Rest) (p : Probe) → p.side ≡ NonSecure → target_word (join_bus o x) p ≡ target_word (join_bus o x') p
unfolding target_word
target_same o x x' p e = go p.side e where
  go : (side : Side) → side ≡ NonSecure → target_word (join_bus o x) (record p { side = side }) ≡ target_word (join_bus o x') (record p { side = side })
  go Secure h = cc
  go NonSecure h = refl

word_same : (o : Open) (x x' : Rest) (p : Option Probe) → IfSome p (λ q. q.side ≡ NonSecure) → probed (join_bus o x) p ≡ probed (join_bus o x') p
word_same o x x' None e = refl
word_same o x x' (Some p) e = target_same o x x' p e

-- Non-secure code asks as such
asks_open : (priority : ℤ) (i : Insn) (n : Named) → n.side ≡ NonSecure → IfSome (probe_of priority i n) (λ p. p.side ≡ NonSecure)
asks_open priority (TestTarget a t rd rn) n e = e
asks_open priority i n e = tt

alike_named : (o : Open) (x x' : Rest) (clears : Bool) (f : FinishedNamed) → Own f → Same o x x'
    → Alike o x x' (beside (join o x) (ported (cond clears (record (join_bus o x) { monitor = None }) (join_bus o x)) (finished_named (join o x).core f)))
    (beside (join o x') (ported (cond clears (record (join_bus o x') { monitor = None }) (join_bus o x')) (finished_named (join o x').core f)))
unfolding left_named Own
alike_named o x x' true (Ok f) own same = alike_open o (left_named o f.0 None) x x' (Ok f.1) tt (named_left o x x' f.0 None same)
alike_named o x x' false (Ok f) own same = alike_open o (left_named o f.0 o.monitor) x x' (Ok f.1) tt (named_left o x x' f.0 o.monitor same)
alike_named o x x' true (Err fault) own same =
    alike_open o (record o { monitor = None }) x x' (Err fault) own (left_again o x x' o (record o { monitor = None }) x x' refl refl refl refl (left_all o x x' same))
alike_named o x x' false (Err fault) own same = alike_open o o x x' (Err fault) own (left_all o x x' same)

alike_system : (o : Open) (x x' : Rest) (i : Insn) → Same o x x' → Alike o x x' (executed_by System (join o x) i) (executed_by System (join o x') i)
alike_system o x x' i same =
    let n = named_of (join o x).core in
    let p = priority_in (join o x) in
    subst (λ w. Alike o x x' (executed_by System (join o x) i) (beside (join o x') (ported (cleared_by i (join_bus o x')) (finished_named (join o x').core (finish_system p i n w)))))
    (word_same o x x' (probe_of p i n) (asks_open p i n refl))
    (alike_named o x x' (clears_monitor i) (finish_system p i n (probed (join_bus o x) (probe_of p i n))) (own_system p i n (probed (join_bus o x) (probe_of p i n))) same)

-- ---- instructions that make accesses

-- what was reached by accesses, as a part and a rest
left_by_answers : {A : Type 0} (k : Asker) (o : Open) (x x' : Rest) (a a' : Reached × A) → Same o x x' → (h : SameAnswers k o x x' a a') → Left o x x' (moved o h.part) (rested x h.bus h.memory) (rested x' h.bus' h.memory')
left_by_answers k o x x' a a' same h = record {
  same = h.same;
  leaves = record {
    board = refl;
    sau = refl;
    masks = refl;
    exceptions = h.quiet;
    bytes = h.kept;
    stacks = refl;
    status = refl;
    mpu = refl;
  };
  leaves' = record {
    board = refl;
    sau = refl;
    masks = refl;
    exceptions = h.quiet;
    bytes = h.kept';
    stacks = refl;
    status = refl;
    mpu = refl;
  };
}

-- by their words
alike_words : (k : Asker) (o : Open) (x x' : Rest) (w : Written) (b b' : BusStatus) (n n' : Memory) (stores : List Store) (finish : List ℕ → Finished) (words : Result (List ℕ) Fault)
    → Own words → ((read : List ℕ) → Own (finish read)) → Left o x x' (moved o w) (rested x b n) (rested x' b' n')
    → Alike o x x' (through (join o x) (after_accesses (join o x).core (reached k (moved o w) (rested x b n) stores, words) finish))
    (through (join o x') (after_accesses (join o x').core (reached k (moved o w) (rested x' b' n') stores, words) finish))
unfolding left_open Own
alike_words k o x x' w b b' n n' stores finish (Err fault) own owns h = record {
  part = moved o w;
  rest = rested x b n;
  rest' = rested x' b' n';
  state = refl;
  state' = refl;
  stores = refl;
  outcome = refl;
  own = own;
  left = h;
}
alike_words k o x x' w b b' n n' stores finish (Ok words) own owns h = go (finish words) (owns words) where
  go : (f : Finished) → Own f → Alike o x x' (through (join o x) (ported (reached k (moved o w) (rested x b n) stores) (finished_in (join o x).core f)))
      (through (join o x') (ported (reached k (moved o w) (rested x' b' n') stores) (finished_in (join o x').core f)))
  go (Ok f) p = record {
    part = left_open (moved o w) f.0;
    rest = rested x b n;
    rest' = rested x' b' n';
    state = refl;
    state' = refl;
    stores = refl;
    outcome = refl;
    own = tt;
    left = left_local o (moved o w) x x' (rested x b n) (rested x' b' n') f.0 h;
  }
  go (Err fault) p = record {
    part = moved o w;
    rest = rested x b n;
    rest' = rested x' b' n';
    state = refl;
    state' = refl;
    stores = refl;
    outcome = refl;
    own = p;
    left = h;
  }

alike_ported : (k : Asker) (o : Open) (x x' : Rest) (finish : List ℕ → Finished) (a a' : Reached × Result (List ℕ) Fault) → Same o x x' → Own a.1 → ((read : List ℕ) → Own (finish read)) → SameAnswers k o x x' a a'
    → Alike o x x' (through (join o x) (after_accesses (join o x).core a finish)) (through (join o x') (after_accesses (join o x').core a' finish))
alike_ported k o x x' finish a a' same own owns h =
    let q = moved o h.part in
    let y = rested x h.bus h.memory in
    let y' = rested x' h.bus' h.memory' in
    let here : a ≡ (reached k q y h.stores, a.1) = λ j. (h.held j, a.1) in
    let there : a' ≡ (reached k q y' h.stores, a.1) = λ j. (h.held' j, sym h.answer j) in
    subst (λ (b : Reached × Result (List ℕ) Fault). Alike o x x' (through (join o x) (after_accesses (join o x).core b finish)) (through (join o x') (after_accesses (join o x').core a' finish))) (sym here)
    (subst (λ (b : Reached × Result (List ℕ) Fault). Alike o x x' (through (join o x) (after_accesses (join o x).core (reached k q y h.stores, a.1) finish)) (through (join o x') (after_accesses (join o x').core b finish))) (sym there)
    (alike_words k o x x' h.part h.bus h.bus' h.memory h.memory' h.stores finish a.1 own owns (left_by_answers k o x x' a a' same h)))

-- one that may be refused before its accesses
alike_refused : (o : Open) (x x' : Rest) (refused : Option Fault) (p p' : Ported Reached) → OwnSome refused → Same o x x' → Alike o x x' (through (join o x) p) (through (join o x') p')
    → Alike o x x' (through (join o x) (unless_refused refused (join o x).core (reached_in (join o x)) p)) (through (join o x') (unless_refused refused (join o x').core (reached_in (join o x')) p'))
unfolding Own OwnSome
alike_refused o x x' (Some fault) p p' own same h = alike_open o o x x' (Err fault) own (left_all o x x' same)
alike_refused o x x' None p p' own same h = h

alike_loads : (o : Open) (x x' : Rest) (i : Insn) → Same o x x' → Alike o x x' (loads_stores (join o x) i) (loads_stores (join o x') i)
alike_loads o x x' i same =
    let l = local_of (join o x).core in
    let k = asker_in (join o x) in
    alike_refused o x x' (refusal i l) _ _ (own_refusal i l refl) same
    (alike_ported k o x x' (finish_load_store i l) _ _ same (own_answers (plan_load_store i l) (reached_in (join o x)) refl) (λ read. own_load_store i l read)
    (answers_same k (plan_load_store i l) o x x' [] same))

-- ---- the exclusive monitor

alike_marked : (o : Open) (x x' : Rest) (m : Exclusive) (e e' : Executed) → Alike o x x' e e' → Alike o x x' (marked m e) (marked m e')
alike_marked o x x' m e e' a = record {
  part = record a.part { monitor = marked_by e.outcome m a.part.monitor };
  rest = a.rest;
  rest' = a.rest';
  state = λ j. record (a.state j) { bus = record (a.state j).bus { monitor = marked_by e.outcome m (a.state j).bus.monitor } };
  state' = λ j. record (a.state' j) { bus = record (a.state' j).bus { monitor = marked_by (sym a.outcome j) m (a.state' j).bus.monitor } };
  stores = a.stores;
  outcome = a.outcome;
  own = a.own;
  left = left_again o x x' a.part (record a.part { monitor = marked_by e.outcome m a.part.monitor }) a.rest a.rest' refl refl refl refl a.left;
}

-- with the monitor cleared before
unmonitored : Open → Open
unmonitored o = record o { monitor = None }

same_unmonitored : (o : Open) (x x' : Rest) → Same o x x' → Same (unmonitored o) x x'
unfolding unmonitored
same_unmonitored o x x' same = record { bytes = same.bytes; bus = same.bus }

leaves_before : (o : Open) (x : Rest) (p : Open) (y : Rest) → Leaves (unmonitored o) x p y → Leaves o x p y
unfolding unmonitored
leaves_before o x p y h = record {
  board = h.board;
  sau = h.sau;
  masks = h.masks;
  exceptions = h.exceptions;
  bytes = h.bytes;
  stacks = h.stacks;
  status = h.status;
  mpu = h.mpu;
}

alike_before : (o : Open) (x x' : Rest) (e e' : Executed) → Alike (unmonitored o) x x' e e' → Alike o x x' e e'
alike_before o x x' e e' a = record {
  part = a.part;
  rest = a.rest;
  rest' = a.rest';
  state = a.state;
  state' = a.state';
  stores = a.stores;
  outcome = a.outcome;
  own = a.own;
  left = record {
    same = a.left.same;
    leaves = leaves_before o x a.part a.rest a.left.leaves;
    leaves' = leaves_before o x' a.part a.rest' a.left.leaves';
  };
}

alike_stores : (o : Open) (x x' : Rest) (i : Insn) (m : Exclusive) (rd : ℕ) → Same o x x' → Alike o x x' (stores_exclusive (join o x) i m rd) (stores_exclusive (join o x') i m rd)
unfolding unmonitored left_open Own is_own
alike_stores o x x' i m rd same =
    let q = unmonitored o in
    let l = put (local_of (join o x).core) rd 1 in
    alike_cond o x x' (not (is_aligned m.size m.addr)) _ _ _ _ (alike_open o o x x' (Err Unaligned) refl (left_all o x x' same))
    (alike_cond o x x' (is_held o.monitor m) _ _ _ _ (alike_before o x x' _ _ (alike_loads q x x' i (same_unmonitored o x x' same)))
    (alike_before o x x' _ _
    (alike_open q (left_open q l) x x' (Ok Next) tt (left_local q q x x' x x' l (left_all q x x' (same_unmonitored o x x' same))))))

alike_exclusive : (o : Open) (x x' : Rest) (u : Exclusivity) (i : Insn) → Same o x x' → Alike o x x' (exclusively u (join o x) i) (exclusively u (join o x') i)
alike_exclusive o x x' Free i same = alike_loads o x x' i same
alike_exclusive o x x' (Marks m) i same = alike_marked o x x' m _ _ (alike_loads o x x' i same)
alike_exclusive o x x' (Takes m rd) i same = alike_stores o x x' i m rd same

-- ---- all

alike_family : (o : Open) (x x' : Rest) (i : Insn) (family : Family) → Same o x x' → Alike o x x' (executed_by family (join o x) i) (executed_by family (join o x') i)
alike_family o x x' i Alu same =
    let l = local_of (join o x).core in alike_alone o x x' (finish_alu i l) (own_alu i l refl) same
alike_family o x x' i LoadStore same = alike_exclusive o x x' (exclusivity i (local_of (join o x).core)) i same
alike_family o x x' i Branch same =
    let l = local_of (join o x).core in
    let k = asker_in (join o x) in
    alike_ported k o x x' (finish_branch i l) _ _ same (own_answers (plan_branch i l) (reached_in (join o x)) refl) (λ read. own_branch i l read)
    (answers_same k (plan_branch i l) o x x' [] same)
alike_family o x x' i System same = alike_system o x x' i same

-- ---- what it calls

apart : NonSecure ≡ Secure → ⊥
apart e = cc

-- only Secure code calls Non-secure code
calls_none : (o : Open) (x : Rest) (i : Insn) → CallsNone (executed (join o x) i).outcome
calls_none o x i to is = apart (executed_call (join o x) i to is).side

placed_same : (o : Open) (x x' : Rest) (course : Course) (code : Code) (i : Insn) → course.touched ≡ false → Same o x x' → Both (join o x) (join o x') (placed (join o x) course code i) (placed (join o x') course code i)
unfolding is_own
placed_same o x x' course code i quiet same =
    both_cond _ _ (is_misplaced i o.registers) _ _ _ _ (both_fault o x x' course Undef refl same)
    (both_cond _ _ (is_passed_over o.registers && not (ignores_condition NonSecure i)) _ _ _ _ (skips_same o x x' course code same)
    (executes_same o x x' o.registers (join o x).core (join o x').core course code i _ _ (calls_none o x i) (record { quiet = quiet; first = refl; second = refl }) (executed_number (join o x) i)
    (alike_family o x x' i (family_of i) same)))

-- one that looked at nothing Secure where it was fetched
pub decoded_same : (o : Open) (x x' : Rest) (course : Course) (code : Code) (d : Decoded) → course.touched ≡ false → Same o x x' → Both (join o x) (join o x') (decoded (join o x) course code d) (decoded (join o x') course code d)
unfolding is_own
decoded_same o x x' course code (One i width) quiet same = placed_same o x x' course code i quiet same
decoded_same o x x' course code NoCoprocessor quiet same =
    both_cond _ _ (is_passed_over o.registers) _ _ _ _ (skips_same o x x' course code same) (both_fault o x x' course NoCp refl same)
decoded_same o x x' course code (Undefined width) quiet same = both_fault o x x' course Undef refl same
