-- A fetch of Non-secure code at a gate, where what the gate rests upon stays.
use Rattle.std.proofs.Common.{◌≡◌, ℕ, ◌+◌, ◌%◌, ◌^◌, ◌<◌, Bool, true, false, ◌&&◌, cond, Result, Ok, Err, refl, sym, ap, ◌∙◌, arith}
use Rattle.std.specs.Prelude.{◌==◌, not}
use Rattle.std.proofs.lemmas.Bool.{and_parts, and_from, eqb-true}
use Rattle.tz_table.specs.declared.units.Side.{Side}
use Rattle.tz_table.specs.declared.units.Side.TheVariants.{Secure, NonSecure}
use Rattle.tz_model.specs.declared.board.RegionSide.{RegionSide}
use Rattle.tz_model.specs.declared.board.RegionSide.TheVariants as sides
use Rattle.tz_model.specs.declared.report.Fault.{Fault}
use Rattle.tz_model.specs.declared.report.Fault.TheVariants.{EntryPoint, Exec, ExecBus}
use Rattle.tz_model.specs.declared.fetch.Fetched.{Fetched}
use Rattle.tz_model.specs.Board.{is_nonsecure, is_callable, are_regions}
use Rattle.tz_model.specs.Words.{wrap}
use Rattle.tz_state.specs.declared.fetcher.Fetcher.{Fetcher}
use Rattle.tz_state.specs.Memory.{byte_at, half_at}
use Rattle.tz_state.specs.Attribution.{MapState, fetch_attribution, mapped_side, sau_side}
use Rattle.tz_state.specs.State.{Bus, State, map_in, map_of}
use Rattle.tz_state.specs.Fetch.{is_entry, is_own_fetch, is_half_mapped, sg_half, wide, own_touch, own_fetch, gateway_fetch, fetch_by, fetch}
use Rattle.tz_access.proofs.Blocks.{entry_by_blocks}
use Rattle.tz_gates.specs.Gates.{is_gate_half, is_gate}
use Rattle.tz_gates.specs.Stays.{KeepsGates, lets_enter, gate_answer, FindsGates}
use Rattle.tz_gates.specs.Gates.{gates_of}
use Rattle.tz_gates.proofs.Listed.{contained_gate}

-- ---- what stays

-- attribution asks the board, and the SAU but for RNR
pub entry_stays : (s t : State) (a : ℕ) → KeepsGates s t → is_entry (map_of t) a ≡ is_entry (map_of s) a
unfolding fetch_attribution mapped_side sau_side
entry_stays s t a k = rw (k.ctrl, k.regions, k.board) refl

pub mapped_stays : (s t : State) (a : ℕ) → KeepsGates s t → is_half_mapped t.bus a ≡ is_half_mapped s.bus a
mapped_stays s t a k = rw k.board refl

-- both bytes of an even address are in one block
next_entry : (s : State) (a : ℕ) → are_regions s.bus.board.regions ≡ true → a % 2 ≡ 0 → a < 2 ^ 32 → is_entry (map_of s) (wrap (a + 1)) ≡ is_entry (map_of s) a
next_entry s a is even small = (entry_by_blocks (map_of s) is).same (wrap (a + 1)) a (omega arith)

pub half_stays : (s t : State) (a : ℕ) → are_regions s.bus.board.regions ≡ true → a % 2 ≡ 0 → a < 2 ^ 32 → KeepsGates s t → is_entry (map_of s) a ≡ true → half_at t.bus.memory a ≡ half_at s.bus.memory a
unfolding half_at
half_stays s t a is even small k entry =
    let low : byte_at t.bus.memory a ≡ byte_at s.bus.memory a = k.bytes a entry in
    let high : byte_at t.bus.memory (wrap (a + 1)) ≡ byte_at s.bus.memory (wrap (a + 1)) = k.bytes (wrap (a + 1)) (next_entry s a is even small ∙ entry) in
    rw (low, high) refl

-- a halfword of a gate in another state is what it was
record GateHalf (s : State) (a : ℕ) : Type 0 where
  pub entry : is_entry (map_of s) a ≡ true
  pub mapped : is_half_mapped s.bus a ≡ true
  pub half : (half_at s.bus.memory a == sg_half) ≡ true

gate_half : (s : State) (a : ℕ) → is_gate_half s a ≡ true → GateHalf s a
gate_half s a h =
    let p = and_parts (is_entry (map_of s) a) (is_half_mapped s.bus a && half_at s.bus.memory a == sg_half) h in
    let q = and_parts (is_half_mapped s.bus a) (half_at s.bus.memory a == sg_half) p.1 in
    record { entry = p.0; mapped = q.0; half = q.1 }

gate_half_stays : (s t : State) (a : ℕ) → are_regions s.bus.board.regions ≡ true → a % 2 ≡ 0 → a < 2 ^ 32 → KeepsGates s t → GateHalf s a → GateHalf t a
gate_half_stays s t a is even small k h = record {
  entry = entry_stays s t a k ∙ h.entry;
  mapped = mapped_stays s t a k ∙ h.mapped;
  half = ap (λ (n : ℕ). n == sg_half) (half_stays s t a is even small k h.entry) ∙ h.half;
}

-- ---- the fetch

pub callable_own : (r : RegionSide) → is_callable r ≡ true → is_nonsecure r ≡ false
callable_own sides.Secure e = cc
callable_own sides.Nsc e = refl
callable_own sides.NonSecure e = cc

not_own : (m : MapState) (a : ℕ) → is_entry m a ≡ true → is_own_fetch m NonSecure a ≡ false
unfolding is_own_fetch
not_own m a e = rw (callable_own (fetch_attribution m NonSecure a) e) refl

-- an answer that is a fault
abbrev faults_by : Fault → Result Fetched Fault
faults_by fault = Err fault

answer_by : (entry runs mapped sg : Bool) → entry ≡ true → mapped ≡ true → sg ≡ true
    → cond (not entry) (Err EntryPoint) (cond (not runs) (Err (Exec Secure)) (cond (not mapped) (Err ExecBus) (cond sg (Ok (wide sg_half sg_half true)) (Err EntryPoint))))
    ≡ cond runs (Ok (wide sg_half sg_half true)) (faults_by (Exec Secure))
answer_by true true true true e m g = refl
answer_by true false true true e m g = refl
answer_by false runs mapped sg e m g = cc
answer_by true runs false sg e m g = cc
answer_by true runs true false e m g = cc

gateway_answer : (b : Bus) (f : Fetcher) (a : ℕ) → (is_entry (map_in b) a && is_entry (map_in b) (wrap (a + 2))) ≡ true → (is_half_mapped b a && is_half_mapped b (wrap (a + 2))) ≡ true
    → (half_at b.memory a == sg_half && half_at b.memory (wrap (a + 2)) == sg_half) ≡ true → gateway_fetch b f a ≡ cond (lets_enter b f a) (Ok (wide sg_half sg_half true)) (faults_by (Exec Secure))
unfolding gateway_fetch
gateway_answer b f a entry mapped sg = answer_by _ (lets_enter b f a) _ _ entry mapped sg

by_nonsecure : (b : Bus) (f : Fetcher) (a : ℕ) → is_own_fetch (map_in b) NonSecure a ≡ false → fetch_by NonSecure b f a ≡ record { touched = true; answer = gateway_fetch b f a }
by_nonsecure b f a not_its = ap (λ (t : Bool). cond t (own_touch (own_fetch b f a)) (record { touched = true; answer = gateway_fetch b f a })) not_its

fetch_enters : (t : State) (f : Fetcher) (a : ℕ) → f.side ≡ NonSecure → GateHalf t a → GateHalf t (wrap (a + 2)) → fetch t.bus f a ≡ gate_answer t.bus f a
unfolding fetch
fetch_enters t f a is p q =
    ap (λ (side : Side). fetch_by side t.bus f a) is ∙ by_nonsecure t.bus f a (not_own (map_of t) a p.entry)
    ∙ ap (λ (x : Result Fetched Fault). record { touched = true; answer = x })
    (gateway_answer t.bus f a (and_from _ _ p.entry q.entry) (and_from _ _ p.mapped q.mapped) (and_from _ _ p.half q.half))

-- ---- gates

record Gate (s : State) (a : ℕ) : Type 0 where
  pub even : a % 2 ≡ 0
  pub first : GateHalf s a
  pub second : GateHalf s (wrap (a + 2))

gate_parts : (s : State) (a : ℕ) → is_gate s a ≡ true → Gate s a
unfolding is_gate
gate_parts s a h =
    let p = and_parts (a % 2 == 0) (is_gate_half s a && is_gate_half s (wrap (a + 2))) h in
    let q = and_parts (is_gate_half s a) (is_gate_half s (wrap (a + 2))) p.1 in
    record { even = eqb-true (a % 2) 0 p.0; first = gate_half s a q.0; second = gate_half s (wrap (a + 2)) q.1 }

pub finds_gates : (s : State) → are_regions s.bus.board.regions ≡ true → FindsGates s (gates_of s)
finds_gates s is t f a k side listed =
    let h = contained_gate s a listed in
    let g = gate_parts s a h.1 in
    let small : a < 2 ^ 32 = h.0 in
    let even : a % 2 ≡ 0 = g.even in
    let next : wrap (a + 2) % 2 ≡ 0 = omega arith in
    let below : wrap (a + 2) < 2 ^ 32 = omega arith in
    fetch_enters t f a side (gate_half_stays s t a is even small k g.first) (gate_half_stays s t (wrap (a + 2)) is next below k g.second)

-- and back: what is two halfwords of SG in a state in which gates stay is a gate
pub gate_back : (s t : State) (a : ℕ) → are_regions s.bus.board.regions ≡ true → a % 2 ≡ 0 → a < 2 ^ 32 → KeepsGates s t → is_entry (map_of t) a ≡ true → is_half_mapped t.bus a ≡ true → half_at t.bus.memory a ≡ sg_half
    → is_gate_half s a ≡ true
gate_back s t a is even small k entry mapped half =
    let there : is_entry (map_of s) a ≡ true = sym (entry_stays s t a k) ∙ entry in
    let same : half_at s.bus.memory a ≡ sg_half = sym (half_stays s t a is even small k there) ∙ half in
    let equal : (half_at s.bus.memory a == sg_half) ≡ true = ap (λ (n : ℕ). n == sg_half) same in
    and_from _ _ there (and_from _ _ (sym (mapped_stays s t a k) ∙ mapped) equal)
