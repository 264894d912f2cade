-- The gateway: Non-secure code that runs into Secure memory finds SG or faults, and looked at Secure state.
use Rattle.std.proofs.Common.{◌≡◌, ℕ, ◌+◌, ◌==◌, Bool, true, false, ◌&&◌, not, cond, List, [], Result, Ok, Err, refl, inl, inr, arith}
use Rattle.std.proofs.lemmas.Bool.Decides.{nat_tests}
use Rattle.tz_table.specs.declared.units.Side.TheVariants.{Secure, NonSecure}
use Rattle.tz_table.specs.declared.units.Code.{Code}
use Rattle.tz_model.specs.declared.board.RegionSide.{RegionSide}
use Rattle.tz_model.specs.declared.board.RegionSide.TheVariants as sides
use Rattle.tz_model.specs.declared.report.Fault.{Fault}
use Rattle.tz_model.specs.declared.report.Fault.TheVariants.{EntryPoint, Exec, ExecBus}
use Rattle.tz_model.specs.declared.report.Store.{Store}
use Rattle.tz_model.specs.declared.fetch.Fetched.{Fetched}
use Rattle.tz_model.specs.Board.{is_callable}
use Rattle.tz_model.specs.Words.{wrap}
use Rattle.tz_regs.specs.Registers.{side_in}
use Rattle.tz_state.specs.declared.fetcher.Fetcher.{Fetcher}
use Rattle.tz_state.specs.Memory.{half_at}
use Rattle.tz_state.specs.Attribution.{fetch_attribution, attribution, side_told}
use Rattle.tz_state.specs.State.{Bus, State, map_in}
use Rattle.tz_state.specs.Fetch.{is_entry, is_runnable, is_half_mapped, sg_half, wide, gateway_fetch}
use Rattle.tz_sem.specs.declared.ending.Course.{Course}
use Rattle.tz_sem.specs.Ended.{with_stores}
use Rattle.tz_sem.specs.Taking.{faults}
use Rattle.tz_sem.specs.Step.{runs_gateway, fetched, fetcher_in, course_in}
use Rattle.tz_twin.specs.Integrity.{IsGatewayHalf}
use Rattle.tz_twin.specs.Seen.{Seen, seen}
use Rattle.tz_twin.proofs.Bytes.{and_first, and_second}
use Rattle.tz_twin.proofs.Split.{Open, Rest, join_bus, join, board_seen}
use Rattle.tz_twin.proofs.After.{general_seen}
use Rattle.tz_twin.proofs.Both.{Touching, Arrives}
use Rattle.tz_twin.proofs.Arriving.{comes_faults}
use Rattle.tz_twin.proofs.Halting.{halts_faults, touching_halts, touching_secure}

-- a step that faults and looked at Secure state
pub touching_faults : (s0 s : State) (before : Seen) (negative : Bool) (fault : Fault) (stores : List Store) → board_seen before ≡ s.bus.board
    → (side_in s0.core ≡ NonSecure → general_seen before ≡ s.core.registers.general) → Touching s0 before (with_stores stores (faults s (record { touched = true; negative = negative }) fault))
touching_faults s0 s before negative fault stores e knows =
    let h = halts_faults (side_in s0.core) s (record { touched = true; negative = negative }) fault in
    touching_halts s0 s before true s.core.registers.general stores _ e knows (h.touched refl) h

-- SG that is reached from Non-secure state
pub touching_enters : (s0 s : State) (before : Seen) (negative : Bool) (code : Code) → board_seen before ≡ s.bus.board → Touching s0 before (runs_gateway s (record { touched = true; negative = negative }) code)
touching_enters s0 s before negative code e = touching_secure s0 before _ refl e refl

-- a halfword that every check of the gateway let pass
record Admitted (b : Bus) (k : Fetcher) (a : ℕ) : Type 0 where
  pub entry : is_entry (map_in b) a ≡ true
  pub runs : is_runnable b Secure k.secure_privileged k.negative a ≡ true
  pub mapped : is_half_mapped b a ≡ true
  pub half : half_at b.memory a ≡ sg_half

-- the answer is a fault, or SG reached through a gateway
data Gate (b : Bus) (k : Fetcher) (pc : ℕ) : Result Fetched Fault → Type 0 where
  Faults : (fault : Fault) → Gate b k pc (Err fault)
  Enters : Admitted b k pc → Admitted b k (wrap (pc + 2)) → Gate b k pc (Ok (wide sg_half sg_half true))

is_sg : (w : ℕ) → (w == sg_half) ≡ true → w ≡ sg_half
is_sg w e = grind (arith, nat_tests)

gateway_fetch_gate : (b : Bus) (k : Fetcher) (pc : ℕ) → Gate b k pc (gateway_fetch b k pc)
unfolding gateway_fetch
gateway_fetch_gate b k pc =
    go (is_entry (map_in b) pc && is_entry (map_in b) (wrap (pc + 2))) refl
    (is_runnable b Secure k.secure_privileged k.negative pc && is_runnable b Secure k.secure_privileged k.negative (wrap (pc + 2))) refl
    (is_half_mapped b pc && is_half_mapped b (wrap (pc + 2))) refl (half_at b.memory pc == sg_half && half_at b.memory (wrap (pc + 2)) == sg_half) refl
  where
    go : (entry : Bool) → (is_entry (map_in b) pc && is_entry (map_in b) (wrap (pc + 2))) ≡ entry
        → (runs : Bool) → (is_runnable b Secure k.secure_privileged k.negative pc && is_runnable b Secure k.secure_privileged k.negative (wrap (pc + 2))) ≡ runs
        → (mapped : Bool) → (is_half_mapped b pc && is_half_mapped b (wrap (pc + 2))) ≡ mapped
        → (sg : Bool) → (half_at b.memory pc == sg_half && half_at b.memory (wrap (pc + 2)) == sg_half) ≡ sg
        → Gate b k pc (cond (not entry) (Err EntryPoint) (cond (not runs) (Err (Exec Secure)) (cond (not mapped) (Err ExecBus) (cond sg (Ok (wide sg_half sg_half true)) (Err EntryPoint)))))
    go false e runs r mapped m sg h = Faults EntryPoint
    go true e false r mapped m sg h = Faults (Exec Secure)
    go true e true r false m sg h = Faults ExecBus
    go true e true r true m true h =
        Enters (record { entry = and_first _ _ e; runs = and_first _ _ r; mapped = and_first _ _ m; half = is_sg _ (and_first _ _ h) })
        (record { entry = and_second _ _ e; runs = and_second _ _ r; mapped = and_second _ _ m; half = is_sg _ (and_second _ _ h) })
    go true e true r true m false h = Faults EntryPoint

-- callable memory is Secure memory
callable_secure : (r : RegionSide) → is_callable r ≡ true → (side_told r ≡ Secure) × (is_callable r ≡ true)
callable_secure sides.Nsc e = (refl, refl)
callable_secure sides.Secure e = cc
callable_secure sides.NonSecure e = cc

gateway_half : (o : Open) (x : Rest) (a : ℕ) → Admitted (join_bus o x) (fetcher_in (join o x)) a → IsGatewayHalf (join o x) a
unfolding attribution
gateway_half o x a p = record {
  callable = callable_secure (fetch_attribution (map_in (join_bus o x)) NonSecure a) p.entry;
  runs = p.runs;
  mapped = p.mapped;
  half = p.half;
}

-- the course of a step that has looked at Secure state
abbrev pub looked : Open → Rest → Course
looked o x = course_in (join o x) true

gate_touching : (o : Open) (x : Rest) (a : Result Fetched Fault) → Gate (join_bus o x) (fetcher_in (join o x)) o.registers.pc a → Touching (join o x) (seen (join o x)) (fetched (join o x) (looked o x) a)
unfolding board_seen
gate_touching o x _ (Faults fault) = touching_faults (join o x) (join o x) (seen (join o x)) (looked o x).negative fault [] refl (λ e. refl)
gate_touching o x _ (Enters p q) = touching_enters (join o x) (join o x) (seen (join o x)) (looked o x).negative (wide sg_half sg_half true).code refl

gate_arrives : (o : Open) (x : Rest) (a : Result Fetched Fault) → Gate (join_bus o x) (fetcher_in (join o x)) o.registers.pc a → Arrives (join o x) (fetched (join o x) (looked o x) a)
gate_arrives o x _ (Faults fault) secure unlocked = inr (comes_faults o.registers.ipsr x.stacks_s (join o x) (looked o x) fault secure unlocked)
gate_arrives o x _ (Enters p q) secure unlocked =
    inl (record { first = gateway_half o x o.registers.pc p; second = gateway_half o x (wrap (o.registers.pc + 2)) q; told = refl; registers = refl })

-- a fetch that begins in Secure memory
pub touching_gateway : (o : Open) (x : Rest) → Touching (join o x) (seen (join o x)) (fetched (join o x) (looked o x) (gateway_fetch (join_bus o x) (fetcher_in (join o x)) o.registers.pc))
touching_gateway o x = gate_touching o x _ (gateway_fetch_gate (join_bus o x) (fetcher_in (join o x)) o.registers.pc)

pub arrives_gateway : (o : Open) (x : Rest) → Arrives (join o x) (fetched (join o x) (looked o x) (gateway_fetch (join_bus o x) (fetcher_in (join o x)) o.registers.pc))
arrives_gateway o x = gate_arrives o x _ (gateway_fetch_gate (join_bus o x) (fetcher_in (join o x)) o.registers.pc)
