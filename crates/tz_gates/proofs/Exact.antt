-- Where what gates rest upon stays, each entry is at a gate.
use Rattle.std.proofs.Common.{◌≡◌, ℕ, zero, suc, ◌+◌, ◌%◌, ◌<◌, Bool, true, false, ◌&&◌, cond, List, Option, Some, None, refl, sym, ap, ◌∙◌, arith, inl, inr}
use Rattle.std.specs.Prelude.{◌==◌, nat_le, not, unwrap_or}
use Rattle.std.proofs.lemmas.Bool.{and_parts, and_from, not-true, eqb-true, eq-eqb}
use Rattle.std.proofs.lemmas.Bool.Decides.{nat_tests}
use Rattle.std.proofs.lemmas.List.Sums.{sum_by-append}
use Rattle.tz_table.specs.declared.units.Side.TheVariants.{NonSecure}
use Rattle.tz_table.specs.declared.units.Code.{Code}
use Rattle.tz_model.specs.declared.board.RegionSide.TheVariants as sides
use Rattle.tz_model.specs.declared.report.ScriptEvent.{ScriptEvent}
use Rattle.tz_model.specs.declared.report.StepKind.TheVariants.{Locked}
use Rattle.tz_model.specs.Board.{BoardValue, is_callable, is_multiple, are_regions}
use Rattle.tz_model.specs.Words.{wrap, is_nonsecure_side}
use Rattle.tz_regs.specs.declared.parts.Before.{Before}
use Rattle.tz_regs.specs.declared.parts.Core.{Core}
use Rattle.tz_regs.specs.declared.parts.Stacks.{Stacks}
use Rattle.tz_regs.specs.Registers.{before_in}
use Rattle.tz_state.specs.Attribution.{MapState, attribution, fetch_attribution, data_attribution, mapped_side, own_side, is_exempt, is_open}
use Rattle.tz_state.specs.State.{State, map_of, side_of}
use Rattle.tz_state.specs.Fetch.{is_entry}
use Rattle.tz_sem.specs.declared.ending.Cause.{Cause}
use Rattle.tz_sem.specs.declared.ending.Cause.TheVariants as causes
use Rattle.tz_sem.specs.Ended.{Ended, kind_without, told_by, ran_in, report_of}
use Rattle.tz_sem.specs.Run.{Events, state_after}
use Rattle.tz_sem.specs.Step.{ended, started, step}
use Rattle.tz_twin.specs.Integrity.{IsGatewayHalf, Came, ByException, ByReturn, ByUnstacking, WayIn}
use Rattle.tz_twin.proofs.Unharmed.{begins_kept, enters_secure}
use Rattle.tz_gates.specs.Gates.{is_gate_half, is_gate, gates_of}
use Rattle.tz_gates.specs.Entries.{is_sg, sg_place, goes_in, entry_of, listed, entered, is_among, count_elsewhere, other_entries}
use Rattle.tz_gates.specs.Stays.{KeepsGates, KeepsGatesFor, HasEvenPc}
use Rattle.tz_gates.proofs.Listed.{gate_among}
use Rattle.tz_gates.proofs.Finding.{callable_own, entry_stays, gate_back}
use Rattle.tz_gates.proofs.Entering.{goes_ended}
use Rattle.tz_gates.proofs.EvenTaken.{Even}
use Rattle.tz_gates.proofs.EvenStep.{even_after}

-- ---- what a report of an entry tells

record Entry (b : Before) (e : Ended) (p : ℕ) : Type 0 where
  pub code : Code
  pub start : is_nonsecure_side b.side ≡ true
  pub end : is_nonsecure_side (side_of e.state) ≡ false
  pub unlocked : e.state.core.run.locked ≡ false
  pub ran : e.ending.ran ≡ Some code
  pub sg : is_sg code ≡ true
  pub place : p ≡ b.registers.pc

quiet : (t : Bool) (c : Core) (cause : Cause) (p : ℕ) → sg_place (cond t Locked (kind_without c cause)) ≡ Some p → ⊥
quiet true c cause p h = cc
quiet false c causes.Went p h = cc
quiet false c causes.Returned p h = cc
quiet false c causes.Called p h = cc
quiet false c causes.CameBack p h = cc
quiet false c causes.Resumed p h = cc
quiet false c causes.Taken p h = cc

entry_told : (b : Before) (e : Ended) (p : ℕ) → entry_of (report_of b e) ≡ Some p → Entry b e p
entry_told b e p h = go (goes_in (report_of b e)) refl h where
  sides_told : goes_in (report_of b e) ≡ true → (is_nonsecure_side b.side ≡ true) × (is_nonsecure_side (side_of e.state) ≡ false)
  sides_told is =
      let g = and_parts (is_nonsecure_side b.side) (not (is_nonsecure_side (side_of e.state))) is in (g.0, not-true (is_nonsecure_side (side_of e.state)) g.1)

  by_code : goes_in (report_of b e) ≡ true → e.state.core.run.locked ≡ false → (code : Code) → e.ending.ran ≡ Some code → (t : Bool) → is_sg code ≡ t → cond t (Some b.registers.pc) None ≡ Some p → Entry b e p
  by_code is unlocked code ran true sg h =
      record { code = code; start = (sides_told is).0; end = (sides_told is).1; unlocked = unlocked; ran = ran; sg = sg; place = cc }
  by_code is unlocked code ran false sg h = absurd (cc)

  told : goes_in (report_of b e) ≡ true → (locked : Bool) → e.state.core.run.locked ≡ locked → (ran : Option Code) → e.ending.ran ≡ ran → sg_place (told_by b e (cond locked None ran)).kind ≡ Some p → Entry b e p
  told is true l ran r h = absurd (quiet e.state.core.run.locked e.state.core e.ending.cause p h)
  told is false l None r h = absurd (quiet e.state.core.run.locked e.state.core e.ending.cause p h)
  told is false l (Some code) r h = by_code is l code r (is_sg code) refl h

  go : (t : Bool) → goes_in (report_of b e) ≡ t → cond t (sg_place (told_by b e (ran_in e)).kind) None ≡ Some p → Entry b e p
  go true is h = told is e.state.core.run.locked refl e.ending.ran refl h
  go false is h = absurd (cc)

-- ---- SG ran at a gate

came_otherwise : (ipsr : ℕ) (stacks : Stacks) (after : State) (cause : Cause) → Came ipsr stacks after cause → cause ≡ causes.Went → ⊥
came_otherwise ipsr stacks after cause (ByException is given side handles) e = cc
came_otherwise ipsr stacks after cause (ByReturn is frame) e = cc
came_otherwise ipsr stacks after cause (ByUnstacking is frames) e = cc

callable_entry : (m : MapState) (a : ℕ) → (attribution m true NonSecure a).callable ≡ true → is_entry m a ≡ true
unfolding attribution
callable_entry m a e = e

-- none is in the private peripheral space or above
entry_low : (m : MapState) (a : ℕ) → is_entry m a ≡ true → a < 0xE0000000
unfolding fetch_attribution
entry_low m a h = go (nat_le 0xF0000000 a) (nat_le 0xE0000000 a) refl h where
  go : (t u : Bool) → nat_le 0xE0000000 a ≡ u → is_callable (cond t sides.Secure (cond u (own_side NonSecure) (mapped_side m a))) ≡ true → a < 0xE0000000
  go true u e h = cc
  go false true e h = cc
  go false false e h = grind (arith, nat_tests)

half_of_gate : (s t : State) (a : ℕ) → are_regions s.bus.board.regions ≡ true → a % 2 ≡ 0 → KeepsGates s t → IsGatewayHalf t a → is_gate_half s a ≡ true
half_of_gate s t a is even k h =
    let entry = callable_entry (map_of t) a h.callable.1 in
    let low : a < 0xE0000000 = entry_low (map_of t) a entry in
    gate_back s t a is even (omega arith) k entry h.mapped h.half

gate_from : (s t : State) (a : ℕ) → are_regions s.bus.board.regions ≡ true → is_multiple 2 a ≡ true → KeepsGates s t → IsGatewayHalf t a → IsGatewayHalf t (wrap (a + 2)) → is_gate s a ≡ true
unfolding is_gate
gate_from s t a is even k p q =
    let two : a % 2 ≡ 0 = eqb-true (a % 2) 0 even in
    let next : wrap (a + 2) % 2 ≡ 0 = omega arith in
    and_from (a % 2 == 0) (is_gate_half s a && is_gate_half s (wrap (a + 2))) even
    (and_from (is_gate_half s a) (is_gate_half s (wrap (a + 2))) (half_of_gate s t a is two k p) (half_of_gate s t (wrap (a + 2)) is next k q))

-- what Non-secure code may call is none of its data
entry_closed : (m : MapState) (a : ℕ) → is_entry m a ≡ true → is_open m a ≡ false
unfolding is_open data_attribution fetch_attribution
entry_closed m a entry =
    let low : a < 0xE0000000 = entry_low m a entry in
    let low_f : nat_le 0xF0000000 a ≡ false = grind (arith, nat_tests) in
    let low_e : nat_le 0xE0000000 a ≡ false = grind (arith, nat_tests) in
    let not_exempt : is_exempt a ≡ false = exempt_high a low in
    let mapped : is_callable (mapped_side m a) ≡ true = rw (low_f, low_e) at entry in
    rw not_exempt (callable_own (mapped_side m a) mapped)
  where
    exempt_high : (a : ℕ) → a < 0xE0000000 → is_exempt a ≡ false
    exempt_high a low = grind (arith, nat_tests)

-- so moves at the beginning of a step of Non-secure code leave it
keeps_started : (s t : State) (events : List ScriptEvent) → is_nonsecure_side (side_of t) ≡ true → KeepsGates s t → KeepsGates s (started t events)
keeps_started s t events is k = record {
  board = k.board;
  ctrl = k.ctrl;
  regions = k.regions;
  bytes = λ a entry.
      ap (λ (o : Option ℕ). unwrap_or o 0) ((begins_kept t events is).bytes a (entry_closed (map_of t) a (entry_stays s t a k ∙ entry)))
      ∙ k.bytes a entry;
}

entry_at_gate : (s t : State) (events : List ScriptEvent) (p : ℕ) → are_regions s.bus.board.regions ≡ true → KeepsGates s t → is_multiple 2 t.core.registers.pc ≡ true → entry_of (step t events).report ≡ Some p
    → is_among (gates_of s) p ≡ true
entry_at_gate s t events p is k even told =
    let h = entry_told (before_in t.core) (ended (started t events)) p told in
    by_way h (enters_secure t events h.start h.end h.unlocked)
  where
    by_way : Entry (before_in t.core) (ended (started t events)) p → WayIn (started t events) (step t events) (ended (started t events)).ending.cause → is_among (gates_of s) p ≡ true
    by_way h (inl g) =
        let gate = gate_from s (started t events) t.core.registers.pc is even (keeps_started s t events h.start k) g.first g.second in
        let low : t.core.registers.pc < 0xE0000000 = entry_low (map_of t) t.core.registers.pc (callable_entry (map_of t) t.core.registers.pc g.first.callable.1) in
        ap (is_among (gates_of s)) h.place ∙ gate_among s t.core.registers.pc (omega arith) gate
    by_way h (inr c) = absurd (came_otherwise _ _ _ _ c ((goes_ended (started t events)).goes h.code h.ran h.sg))

-- ---- runs

even_multiple : {n : ℕ} → Even n → is_multiple 2 n ≡ true
even_multiple {n} h = eq-eqb (n % 2) 0 h.even

one_listed : (gates : List ℕ) (o : Option ℕ) → ((p : ℕ) → o ≡ Some p → is_among gates p ≡ true) → count_elsewhere (listed o) gates ≡ 0
one_listed gates None h = refl
one_listed gates (Some p) h = rw (h p refl) refl

none_elsewhere : (s : State) (events : Events) (n k : ℕ) (t : State) → are_regions s.bus.board.regions ≡ true → ((j : ℕ) → j < n → KeepsGates s (state_after events k t j))
    → ((j : ℕ) → j < n → is_multiple 2 (state_after events k t j).core.registers.pc ≡ true) → count_elsewhere (entered events k t n) (gates_of s) ≡ 0
unfolding entered
none_elsewhere s events zero k t is keeps even = refl
none_elsewhere s events (suc n) k t is keeps even =
    let r = step t (events k) in
    let first : count_elsewhere (listed (entry_of r.report)) (gates_of s) ≡ 0 =
    one_listed (gates_of s) (entry_of r.report) (λ p told. entry_at_gate s t (events k) p is (keeps 0 (omega arith)) (even 0 (omega arith)) told) in
    let rest : count_elsewhere (entered events (k + 1) r.state n) (gates_of s) ≡ 0 =
    none_elsewhere s events n (k + 1) r.state is (λ j l. keeps (suc j) (omega arith)) (λ j l. even (suc j) (omega arith)) in
    sum_by-append (λ p. cond (not (is_among (gates_of s) p)) 1 0) (listed (entry_of r.report)) (entered events (k + 1) r.state n) ∙ rw (first, rest) refl

nothing_entered : (events : Events) (k : ℕ) (t : State) (gates : List ℕ) → other_entries events k t 0 gates ≡ 0
unfolding entered
nothing_entered events k t gates = refl

pub no_others : (s : State) (gates : List ℕ) (events : Events) (t : State) (n : ℕ) → are_regions t.bus.board.regions ≡ true → gates ≡ gates_of s → KeepsGatesFor s events t n → HasEvenPc t
    → other_entries events 0 t n gates ≡ 0
no_others s gates events t zero is all keeps even = nothing_entered events 0 t gates
no_others s gates events t (suc n) is all keeps even =
    let k = keeps 0 (omega arith) in
    let regions : are_regions s.bus.board.regions ≡ true = ap (λ (b : BoardValue). are_regions b.regions) (sym k.board) ∙ is in
    let start : Even t.core.registers.pc = record { even = eqb-true (t.core.registers.pc % 2) 0 even } in
    ap (other_entries events 0 t (suc n)) all ∙ none_elsewhere s events (suc n) 0 t regions keeps (λ j l. even_multiple (even_after events j 0 t start))
