-- The state in which a machine starts is one of its board.
use Rattle.std.proofs.Common.{◌≡◌, ℕ, zero, suc, ◌+◌, ◌-◌, ◌*◌, ◌/◌, ◌%◌, ◌^◌, ◌<◌, ◌≤◌, ◌==◌, nat_le, nat_lt, Bool, true, false, not, ◌&&◌, ◌||◌, if◌then◌else◌, List, [], ◌∷◌, ◌++◌, length, map, Some, refl, sym, ap, ◌∙◌, subst, arith}
use Rattle.std.specs.Prelude.{replicate, slice_get, slice_set}
use Rattle.std.proofs.lemmas.Bool.{and_parts, eqb-true, leb-true, ltb-true}
use Rattle.std.proofs.lemmas.List.{length-replicate, set-get_or}
use Rattle.tz_table.specs.declared.units.Side.{Side}
use Rattle.tz_table.specs.declared.units.Side.TheVariants.{Secure, NonSecure}
use Rattle.tz_model.specs.declared.board.Profile.{Profile}
use Rattle.tz_model.specs.declared.board.Profile.TheVariants.{V80, V81}
use Rattle.tz_model.specs.declared.board.SauRegion.{SauRegion}
use Rattle.tz_model.specs.Board.{BoardValue, IsBoard, is_vtor, is_multiple, is_sau_region, are_sau_regions}
use Rattle.tz_model.specs.Image.{SegmentValue, ImageValue}
use Rattle.tz_model.specs.Words.{even_of, wrap}
use Rattle.tz_regs.specs.Registers.{word_aligned}
use Rattle.tz_regs.specs.Special.{number_of}
use Rattle.tz_state.specs.declared.slot.SlotState.{SlotState}
use Rattle.tz_state.specs.declared.units.Bounds.{Bounds}
use Rattle.tz_state.specs.Memory.{Memory, byte_at, word_at, with_byte, with_bytes}
use Rattle.tz_state.specs.Regions.{no_bounds}
use Rattle.tz_state.specs.Slots.{idle, exception_number, first_interrupt_place, has_fixed_priority, is_always_enabled}
use Rattle.tz_state.specs.State.{State, mpu_of, with_bus, with_core, with_registers}
use Rattle.tz_state.specs.UnitRegisters.{bounds_at, bounds_of, reset_mpu, reset_sau, rlar_bits, started, with_rlar, with_rbar}
use Rattle.tz_state.specs.Zeros.{zero_memory}
use Rattle.tz_sem.specs.Boot.{boot, boot_memory, has_vectors, reset, with_segments}
use Rattle.tz_fields.specs.declared.fields.Field.{Field}
use Rattle.tz_fields.specs.declared.fields.Field.TheVariants.{Running}
use Rattle.tz_fields.specs.declared.fields.RunningField.TheVariants as run
use Rattle.tz_fields.specs.Fields.{fields, slot_places, mpu_region_fields, sau_region_fields}
use Rattle.tz_fields.specs.ReadWords.{IsState, IsTold, IsSlotTold, is_set, side_from, slot_from}
use Rattle.tz_snap.specs.FileWords.{AreBytes, HasBytes}
use Rattle.tz_snap.proofs.AllFields.{starts_of, grouped_all}
use Rattle.tz_snap.proofs.ChannelsRead.{start_told}
use Rattle.tz_snap.proofs.FieldsRead.{Each}
use Rattle.tz_snap.proofs.Groups.{core_fields, side_first, side_last, both_first, both_last}
use Rattle.tz_snap.proofs.MemoryRead.{SameAddresses, byte_kept, byte_small, zero_mapped, zero_small}
use Rattle.tz_snap.proofs.SlotsRead.{board_places, number_at, place_below, slot_in, with_slots}
use Rattle.tz_snap.proofs.StateFits.{word_fits}
use Rattle.tz_snap.proofs.UnitBounds.{set_at}
use Rattle.tz_snap.proofs.UnitFields.{mpu_fields, sau_fields, with_mpu_bounds, with_sau_bounds}
use Rattle.tz_snap.proofs.WordLaws.{blank_units, few_places, idle_slots}

-- a field of a state is told by its word
abbrev Tells : State → ℕ → Field → Type 0
Tells s k f = IsTold s f

-- ---- flags

flag_fits : (t : Bool) → number_of t < 2 ^ 32
flag_fits true = omega arith
flag_fits false = omega arith

flag_back : (t : Bool) → is_set (number_of t) ≡ t
flag_back true = refl
flag_back false = refl

-- xPSR that has T alone
xpsr_told : (s : State) (t : Bool) →
    IsTold (with_registers s (record s.core.registers { apsr = record { n = false; z = false; c = false; v = false; q = false }; it = 0; t = t; ipsr = 0 })) (Running run.Xpsr)
xpsr_told s true = (omega arith, refl)
xpsr_told s false = (omega arith, refl)

-- ---- regions

none_there : (n j : ℕ) → bounds_at (replicate n no_bounds) j ≡ no_bounds
none_there zero j = refl
none_there (suc n) zero = refl
none_there (suc n) (suc j) = none_there n j

no_bits : (p : Profile) → rlar_bits p 0 ≡ 0
no_bits V80 = refl
no_bits V81 = refl

mpu_rlar_back : (p : Profile) (x : Bounds) → x ≡ no_bounds → rlar_bits p x.rlar ≡ x.rlar
mpu_rlar_back p x e = ap (λ (r : Bounds). rlar_bits p r.rlar) e ∙ no_bits p ∙ ap (λ (r : Bounds). r.rlar) (sym e)

mpu_tells : (side : Side) (s : State) → ((j : ℕ) → bounds_at (mpu_of side s.bus).regions j ≡ no_bounds) → (n k j : ℕ) → Each (Tells s) (mpu_fields side j n) k
unfolding mpu_region_fields
mpu_tells side s none zero k j = tt
mpu_tells Secure s none (suc n) k j =
    let rs = s.bus.mpu_s.regions in
    let rbar : (bounds_at rs j).rbar ≡ 0 = ap (λ (r : Bounds). r.rbar) (none j) in
    let rlar : (bounds_at rs j).rlar ≡ 0 = ap (λ (r : Bounds). r.rlar) (none j) in (
      (omega arith, ap (with_mpu_bounds s Secure) (set_at rs j)),
      (
        (omega arith, ap (λ (w : ℕ). with_mpu_bounds s Secure (with_rlar rs j w)) (mpu_rlar_back s.bus.board.profile (bounds_at rs j) (none j)) ∙ ap (with_mpu_bounds s Secure) (set_at rs j)),
        mpu_tells Secure s none n (k + 1 + 1) (j + 1),
      ),
    )
mpu_tells NonSecure s none (suc n) k j =
    let rs = s.bus.mpu_ns.regions in
    let rbar : (bounds_at rs j).rbar ≡ 0 = ap (λ (r : Bounds). r.rbar) (none j) in
    let rlar : (bounds_at rs j).rlar ≡ 0 = ap (λ (r : Bounds). r.rlar) (none j) in (
      (omega arith, ap (with_mpu_bounds s NonSecure) (set_at rs j)),
      (
        (omega arith, ap (λ (w : ℕ). with_mpu_bounds s NonSecure (with_rlar rs j w)) (mpu_rlar_back s.bus.board.profile (bounds_at rs j) (none j)) ∙ ap (with_mpu_bounds s NonSecure) (set_at rs j)),
        mpu_tells NonSecure s none n (k + 1 + 1) (j + 1),
      ),
    )

-- what a region of the SAU can hold
record IsSauBounds (x : Bounds) : Type 0 where
  rbar : x.rbar < 2 ^ 32
  base : x.rbar / 32 * 32 ≡ x.rbar
  rlar : x.rlar < 2 ^ 32
  limit : x.rlar / 32 * 32 + x.rlar % 4 ≡ x.rlar

no_sau_bounds : IsSauBounds no_bounds
no_sau_bounds = record { rbar = omega arith; base = refl; rlar = omega arith; limit = refl }

start_bounds : (r : SauRegion) → is_sau_region r ≡ true → IsSauBounds (bounds_of r)
start_bounds r is =
    let one = and_parts (is_multiple 32 r.base) _ is in
    let two = and_parts (r.limit % 32 == 31) _ one.1 in
    let three = and_parts (nat_le r.base r.limit) (nat_lt r.limit (2 ^ 32)) two.1 in
    let base = eqb-true (r.base % 32) 0 one.0 in
    let limit = eqb-true (r.limit % 32) 31 two.0 in
    let order = leb-true r.base r.limit three.0 in
    let low = ltb-true r.limit (2 ^ 32) three.1 in
    go r.base r.limit r.nsc base limit order low
  where
    go : (base limit : ℕ) (nsc : Bool) → base % 32 ≡ 0 → limit % 32 ≡ 31 → base ≤ limit → limit < 2 ^ 32 → IsSauBounds (bounds_of (record { base = base; limit = limit; nsc = nsc }))
    go base limit true e f l h = record { rbar = omega arith; base = omega arith; rlar = omega arith; limit = omega arith }
    go base limit false e f l h = record { rbar = omega arith; base = omega arith; rlar = omega arith; limit = omega arith }

none_fits : (n j : ℕ) → IsSauBounds (bounds_at (replicate n no_bounds) j)
none_fits n j = subst IsSauBounds (sym (none_there n j)) no_sau_bounds

each_start : (rs : List SauRegion) (n j : ℕ) → are_sau_regions rs ≡ true → IsSauBounds (bounds_at (map bounds_of rs ++ replicate n no_bounds) j)
each_start [] n j is = none_fits n j
each_start (r ∷ rs) n zero is = start_bounds r (and_parts (is_sau_region r) (are_sau_regions rs) is).0
each_start (r ∷ rs) n (suc j) is = each_start rs n j (and_parts (is_sau_region r) (are_sau_regions rs) is).1

sau_tells : (s : State) → ((j : ℕ) → IsSauBounds (bounds_at s.bus.sau.regions j)) → (n k j : ℕ) → Each (Tells s) (sau_fields j n) k
unfolding sau_region_fields
sau_tells s each zero k j = tt
sau_tells s each (suc n) k j =
    let rs = s.bus.sau.regions in
    let x = each j in (
      (x.rbar, ap (λ (w : ℕ). with_sau_bounds s (with_rbar rs j w)) x.base ∙ ap (with_sau_bounds s) (set_at rs j)),
      (
        (x.rlar, ap (λ (w : ℕ). with_sau_bounds s (with_rlar rs j w)) x.limit ∙ ap (with_sau_bounds s) (set_at rs j)),
        sau_tells s each n (k + 1 + 1) (j + 1),
      ),
    )

started_fits : (rs : List SauRegion) → started rs < 2 ^ 32
started_fits [] = omega arith
started_fits (r ∷ rs) = omega arith

started_back : (rs : List SauRegion) → started rs % 4 ≡ started rs
started_back [] = refl
started_back (r ∷ rs) = refl

-- ---- slots

-- the word of a slot that is idle makes it so
idle_back : (i : ℕ) → slot_from i (number_at idle i) ≡ idle
idle_back i = go (is_always_enabled (exception_number i)) (has_fixed_priority (exception_number i)) (nat_lt i first_interrupt_place) where
  go : (always fixed low : Bool) →
      ◌≡◌ {A = SlotState} (record {
        pending = is_set ((0 + 2 ^ 8 * 0 + 2 ^ 9 * 0 + 2 ^ 10 * number_of (always || false) + 2 ^ 11 * 0) / 2 ^ 8);
        active = is_set ((0 + 2 ^ 8 * 0 + 2 ^ 9 * 0 + 2 ^ 10 * number_of (always || false) + 2 ^ 11 * 0) / 2 ^ 9);
        enabled = not always && is_set ((0 + 2 ^ 8 * 0 + 2 ^ 9 * 0 + 2 ^ 10 * number_of (always || false) + 2 ^ 11 * 0) / 2 ^ 10);
        priority = if fixed then 0 else (0 + 2 ^ 8 * 0 + 2 ^ 9 * 0 + 2 ^ 10 * number_of (always || false) + 2 ^ 11 * 0) % 2 ^ 8;
        target = if low then Secure else side_from ((0 + 2 ^ 8 * 0 + 2 ^ 9 * 0 + 2 ^ 10 * number_of (always || false) + 2 ^ 11 * 0) / 2 ^ 11);
      }) idle
  go true true true = refl
  go true true false = refl
  go true false true = refl
  go true false false = refl
  go false true true = refl
  go false true false = refl
  go false false true = refl
  go false false false = refl

idle_told : (s : State) (i : ℕ) → slot_in s.exceptions.slots i ≡ idle → IsSlotTold s i
idle_told s i e =
    let xs = s.exceptions.slots in
    ap (λ (x : SlotState). with_slots s (slice_set xs i (slot_from i (number_at x i)))) e
    ∙ ap (λ (x : SlotState). with_slots s (slice_set xs i x)) (idle_back i ∙ sym e)
    ∙ ap (with_slots s) (set-get_or xs i idle)

-- ---- memory

-- a memory with a byte at each address of regions, and nowhere else
record IsOf (b : BoardValue) (m : Memory) : Type 0 where
  mapped : SameAddresses m (zero_memory b.regions)
  small : (a : ℕ) → byte_at m a < 256

bytes_of : (b : BoardValue) (m : Memory) (a : ℕ) (bs : List ℕ) → AreBytes bs → IsOf b m → IsOf b (with_bytes m a bs)
unfolding with_bytes
bytes_of b m a [] all h = h
bytes_of b m a (x ∷ bs) all h =
    bytes_of b (with_byte m a x) (wrap (a + 1)) bs (λ k. all (suc k)) (record { mapped = λ c. byte_kept m a x c ∙ h.mapped c; small = byte_small m a x (all 0) h.small })

segments_of : (b : BoardValue) (m : Memory) (ss : List SegmentValue) → ((i : ℕ) (x : SegmentValue) → slice_get ss i ≡ Some x → AreBytes x.bytes) → IsOf b m → IsOf b (with_segments m ss)
unfolding with_segments
segments_of b m [] all h = h
segments_of b m (x ∷ ss) all h = segments_of b (with_bytes m x.base x.bytes) ss (λ i y e. all (suc i) y e) (bytes_of b m x.base x.bytes (all 0 x refl) h)

memory_of : (b : BoardValue) (secure nonsecure : ImageValue) → HasBytes secure → HasBytes nonsecure → IsOf b (boot_memory b secure nonsecure)
memory_of b secure nonsecure h i =
    segments_of b (with_segments (zero_memory b.regions) secure.segments) nonsecure.segments i
    (segments_of b (zero_memory b.regions) secure.segments h (record { mapped = λ a. refl; small = zero_small b.regions }))

-- ---- a reset

module _ (b : BoardValue) (m : Memory) (sp start : ℕ) (locked : Bool) (board : IsBoard b) (of : IsOf b m) (sp_fits : sp < 2 ^ 32) (start_fits : start < 2 ^ 32) where
  abbrev s : State
  s = reset b m sp start locked

  core_tells : Each (Tells s) core_fields 0
  core_tells =
      let n : 0 < 2 ^ 32 = omega arith in
      let even : even_of (even_of start) ≡ even_of start = omega arith in (
        (n, refl),
        (
          (flag_fits locked, ap (λ (x : Bool). with_core s (record s.core { run = record s.core.run { locked = x } })) (flag_back locked)),
          (
            (n, refl),
            (
              (n, refl),
              (
                (n, refl),
                (
                  (n, refl),
                  (
                    (n, refl),
                    (
                      (n, refl),
                      (
                        (n, refl),
                        (
                          (n, refl),
                          (
                            (n, refl),
                            (
                              (n, refl),
                              (
                                (n, refl),
                                (
                                  (n, refl),
                                  (
                                    (n, refl),
                                    (
                                      (n, refl),
                                      (
                                        (n, refl),
                                        ((omega arith, refl), ((omega arith, ap (λ (x : ℕ). with_registers s (record s.core.registers { pc = x })) even), (xpsr_told s (start % 2 == 1), tt))),
                                      ),
                                    ),
                                  ),
                                ),
                              ),
                            ),
                          ),
                        ),
                      ),
                    ),
                  ),
                ),
              ),
            ),
          ),
        ),
      )

  secure_tells : Each (Tells s) (side_first Secure) 22
  unfolding reset_mpu
  secure_tells =
      let n : 0 < 2 ^ 32 = omega arith in
      let aligned : word_aligned (word_aligned sp) ≡ word_aligned sp = omega arith in
      let vtor = and_parts (is_multiple 128 b.secure_vtor) (nat_lt b.secure_vtor (2 ^ 32)) (and_parts (is_vtor b.secure_vtor) (is_vtor b.nonsecure_vtor) board.vtors).0 in
      let low = ltb-true b.secure_vtor (2 ^ 32) vtor.1 in
      let multiple = eqb-true (b.secure_vtor % 128) 0 vtor.0 in
      let whole : b.secure_vtor / 128 * 128 ≡ b.secure_vtor = omega arith in (
        (omega arith, ap (λ (x : ℕ). with_core s (record s.core { stacks_s = record s.core.stacks_s { msp = x } })) aligned),
        (
          (n, refl),
          (
            (n, refl),
            (
              (n, refl),
              (
                (n, refl),
                (
                  (n, refl),
                  (
                    (n, refl),
                    (
                      (n, refl),
                      (
                        (low, ap (λ (x : ℕ). with_core s (record s.core { status = record s.core.status { s = record s.core.status.s { vtor = x } } })) whole),
                        ((n, refl), ((n, refl), ((n, refl), ((n, refl), ((n, refl), ((n, refl), ((n, refl), ((n, refl), ((n, refl), tt))))))))),
                      ),
                    ),
                  ),
                ),
              ),
            ),
          ),
        ),
      )

  nonsecure_tells : (k : ℕ) → Each (Tells s) (side_first NonSecure) k
  unfolding reset_mpu
  nonsecure_tells k =
      let n : 0 < 2 ^ 32 = omega arith in
      let vtor = and_parts (is_multiple 128 b.nonsecure_vtor) (nat_lt b.nonsecure_vtor (2 ^ 32)) (and_parts (is_vtor b.secure_vtor) (is_vtor b.nonsecure_vtor) board.vtors).1 in
      let low = ltb-true b.nonsecure_vtor (2 ^ 32) vtor.1 in
      let multiple = eqb-true (b.nonsecure_vtor % 128) 0 vtor.0 in
      let whole : b.nonsecure_vtor / 128 * 128 ≡ b.nonsecure_vtor = omega arith in (
        (n, refl),
        (
          (n, refl),
          (
            (n, refl),
            (
              (n, refl),
              (
                (n, refl),
                (
                  (n, refl),
                  (
                    (n, refl),
                    (
                      (n, refl),
                      (
                        (low, ap (λ (x : ℕ). with_core s (record s.core { status = record s.core.status { ns = record s.core.status.ns { vtor = x } } })) whole),
                        ((n, refl), ((n, refl), ((n, refl), ((n, refl), ((n, refl), ((n, refl), ((n, refl), ((n, refl), ((n, refl), tt))))))))),
                      ),
                    ),
                  ),
                ),
              ),
            ),
          ),
        ),
      )

  timer_tells : (side : Side) (k : ℕ) → Each (Tells s) (side_last side) k
  timer_tells Secure k = let n : 0 < 2 ^ 32 = omega arith in ((n, refl), ((n, refl), ((n, refl), tt)))
  timer_tells NonSecure k = let n : 0 < 2 ^ 32 = omega arith in ((n, refl), ((n, refl), ((n, refl), tt)))

  shared_tells : (k : ℕ) → Each (Tells s) both_first k
  unfolding reset_sau
  shared_tells k =
      let n : 0 < 2 ^ 32 = omega arith in
      ((started_fits b.sau, ap (λ (x : ℕ). with_bus s (record s.bus { sau = record s.bus.sau { ctrl = x } })) (started_back b.sau)), ((n, refl), tt))

  last_tells : (k : ℕ) → Each (Tells s) both_last k
  last_tells k = let n : 0 < 2 ^ 32 = omega arith in ((n, refl), ((n, refl), ((n, refl), ((n, refl), ((n, refl), ((n, refl), ((n, refl), tt)))))))

  secure_mpu_tells : (k : ℕ) → Each (Tells s) (mpu_fields Secure 0 b.mpu_secure) k
  unfolding reset_mpu
  secure_mpu_tells k = mpu_tells Secure s (none_there b.mpu_secure) b.mpu_secure k 0

  nonsecure_mpu_tells : (k : ℕ) → Each (Tells s) (mpu_fields NonSecure 0 b.mpu_nonsecure) k
  unfolding reset_mpu
  nonsecure_mpu_tells k = mpu_tells NonSecure s (none_there b.mpu_nonsecure) b.mpu_nonsecure k 0

  all_sau_tells : (k : ℕ) → Each (Tells s) (sau_fields 0 b.sau_regions) k
  unfolding reset_sau
  all_sau_tells k = sau_tells s (λ j. each_start b.sau (b.sau_regions - length b.sau) j board.sau) b.sau_regions k 0

  all_tell : Each (Tells s) (fields b) 0
  all_tell =
      let k = starts_of b in
      let n : 0 < 2 ^ 32 = omega arith in
      grouped_all (Tells s) b (record {
        groups = record {
          core = core_tells;
          secure = secure_tells;
          secure_timer = timer_tells Secure k.secure_timer;
          nonsecure = nonsecure_tells k.nonsecure;
          nonsecure_timer = timer_tells NonSecure k.nonsecure_timer;
          shared = shared_tells k.shared;
          last = last_tells k.last;
        };
        monitor = ((n, refl), ((n, refl), tt));
        secure = secure_mpu_tells k.secure_mpu;
        nonsecure = nonsecure_mpu_tells k.nonsecure_mpu;
        sau = all_sau_tells k.sau;
      })

  reset_state : IsState b s
  reset_state =
      let units = blank_units b m board in
      record {
        board = refl;
        interrupts = refl;
        general = refl;
        slots = length-replicate 272 idle;
        mpu_secure = units.secure;
        mpu_nonsecure = units.nonsecure;
        sau = units.sau;
        fields = each_at s (fields b) 0 all_tell;
        slot_fields = λ k i e. idle_told s i (idle_slots i (place_below 272 (slot_places b.interrupts) (board_places b.interrupts 272 (few_places b board)) k i e));
        channels = λ k f e. start_told s refl f;
        still = λ e. (refl, refl);
        others = λ i l out. idle_slots i l;
        mapped = λ a. of.mapped a ∙ zero_mapped b.regions a;
        bytes = of.small;
      }
    where
      each_at : (s : State) (fs : List Field) (k : ℕ) → Each (Tells s) fs k → (j : ℕ) (f : Field) → slice_get fs j ≡ Some f → IsTold s f
      each_at s [] k h j f e = cc
      each_at s (g ∷ fs) k h zero f e = let same : g ≡ f = cc in subst (IsTold s) same h.0
      each_at s (g ∷ fs) k h (suc j) f e = each_at s fs (k + 1) h.1 j f e

pub boot_state : (b : BoardValue) (secure nonsecure : ImageValue) → IsBoard b → HasBytes secure → HasBytes nonsecure → IsState b (boot b secure nonsecure)
unfolding boot
boot_state b secure nonsecure board h i =
    let m = boot_memory b secure nonsecure in
    let of = memory_of b secure nonsecure h i in
    go (has_vectors b) m of (word_at m b.secure_vtor) (word_at m (wrap (b.secure_vtor + 4))) (word_fits m of.small b.secure_vtor) (word_fits m of.small (wrap (b.secure_vtor + 4)))
  where
    go : (t : Bool) (m : Memory) → IsOf b m → (sp start : ℕ) → sp < 2 ^ 32 → start < 2 ^ 32 → IsState b (if t then reset b m sp start false else reset b m 0 0 true)
    go true m of sp start l l' = reset_state b m sp start false board of l l'
    go false m of sp start l l' = reset_state b m 0 0 true board of (omega arith) (omega arith)
