-- All fields of a state in groups, from the words of their indices. What the words of a group are written to is a value
-- of which each part is known but for the regions of the units, so that a state computes to what was written to it.
use Rattle.std.proofs.Common.{◌≡◌, ℕ, ◌+◌, List, [], ◌∷◌, length, map, None, Option, Some, refl, sym, ap, ◌∙◌, subst, arith}
use Rattle.std.specs.Prelude.{slice_index}
use Rattle.tz_table.specs.declared.units.Side.{Side}
use Rattle.tz_table.specs.declared.units.Side.TheVariants.{Secure, NonSecure}
use Rattle.tz_state.specs.declared.request.Exclusive.{Exclusive}
use Rattle.tz_table.specs.declared.units.Size.TheVariants.{Byte, Half, Word}
use Rattle.tz_model.specs.declared.channel.Channels.{Channels}
use Rattle.tz_regs.specs.Banks.{channels_of}
use Rattle.tz_state.specs.declared.slot.SlotState.{SlotState}
use Rattle.tz_state.specs.declared.units.Bounds.{Bounds}
use Rattle.tz_state.specs.State.{State, with_bus, with_registers, with_monitor}
use Rattle.tz_fields.specs.declared.fields.Field.{Field}
use Rattle.tz_fields.specs.declared.fields.Field.TheVariants.{Running, Banked, Shared}
use Rattle.tz_fields.specs.declared.fields.RunningField.TheVariants as run
use Rattle.tz_fields.specs.Fields.{banked_first, banked_last, shared_first, shared_last}
use Rattle.tz_fields.specs.StateWords.{held_size, held_address, size_number}
use Rattle.tz_fields.specs.ReadWords.{held_from, with_held_address}
use Rattle.tz_snap.proofs.FieldsRead.{written_by, Fit, Each, Has, Leaves, stays}
use Rattle.tz_snap.proofs.SlotsRead.{with_slots}
use Rattle.tz_snap.proofs.ChannelsRead.{with_channels_in}
use Rattle.tz_snap.proofs.UnitFields.{with_mpu_bounds, with_sau_bounds}

-- ---- groups

abbrev pub core_fields : List Field
core_fields =
    map Running
    (run.Side ∷ run.Locked ∷ run.Sleep ∷ run.Event
    ∷ run.General 0 ∷ run.General 1 ∷ run.General 2 ∷ run.General 3 ∷ run.General 4 ∷ run.General 5 ∷ run.General 6
    ∷ run.General 7 ∷ run.General 8 ∷ run.General 9 ∷ run.General 10 ∷ run.General 11 ∷ run.General 12
    ∷ run.Lr ∷ run.Pc ∷ run.Xpsr ∷ [])

abbrev pub monitor_fields : List Field
monitor_fields = map Running (run.MonitorSize ∷ run.MonitorAddress ∷ [])

abbrev pub side_first : Side → List Field
side_first side = map (Banked side) banked_first

abbrev pub side_last : Side → List Field
side_last side = map (Banked side) banked_last

abbrev pub both_first : List Field
both_first = map Shared shared_first

abbrev pub both_last : List Field
both_last = map Shared shared_last

-- where each group begins
pub record Starts : Type 0 where
  pub core : ℕ
  pub monitor : ℕ
  pub secure : ℕ
  pub secure_mpu : ℕ
  pub secure_timer : ℕ
  pub nonsecure : ℕ
  pub nonsecure_mpu : ℕ
  pub nonsecure_timer : ℕ
  pub shared : ℕ
  pub sau : ℕ
  pub last : ℕ

-- the regions of the units
pub record Units : Type 0 where
  pub secure : List Bounds
  pub nonsecure : List Bounds
  pub sau : List Bounds

-- ---- a state after groups

module _ (v : ℕ → ℕ) (k : Starts) (u : Units) where
  abbrev pub core_done : State → State
  core_done s = written_by v core_fields k.core s

  abbrev pub monitor_done : State → State
  monitor_done s = written_by v monitor_fields k.monitor (core_done s)

  abbrev pub secure_done : State → State
  secure_done s = written_by v (side_first Secure) k.secure (monitor_done s)

  abbrev pub secure_mpu_done : State → State
  secure_mpu_done s = with_mpu_bounds (secure_done s) Secure u.secure

  abbrev pub secure_timer_done : State → State
  secure_timer_done s = written_by v (side_last Secure) k.secure_timer (secure_mpu_done s)

  abbrev pub nonsecure_done : State → State
  nonsecure_done s = written_by v (side_first NonSecure) k.nonsecure (secure_timer_done s)

  abbrev pub nonsecure_mpu_done : State → State
  nonsecure_mpu_done s = with_mpu_bounds (nonsecure_done s) NonSecure u.nonsecure

  abbrev pub nonsecure_timer_done : State → State
  nonsecure_timer_done s = written_by v (side_last NonSecure) k.nonsecure_timer (nonsecure_mpu_done s)

  abbrev pub shared_done : State → State
  shared_done s = written_by v both_first k.shared (nonsecure_timer_done s)

  abbrev pub sau_done : State → State
  sau_done s = with_sau_bounds (shared_done s) u.sau

  abbrev pub all_done : State → State
  all_done s = written_by v both_last k.last (sau_done s)

-- a state with a place for each of R0 to R12, whose monitor holds nothing
abbrev pub readied : State → List ℕ → State
readied s rs = with_bus (with_registers s (record s.core.registers { general = rs })) (with_monitor s.bus None)

abbrev pub thirteen : List ℕ → List ℕ
thirteen xs =
    slice_index xs 0 ∷ slice_index xs 1 ∷ slice_index xs 2 ∷ slice_index xs 3 ∷ slice_index xs 4 ∷ slice_index xs 5 ∷ slice_index xs 6
    ∷ slice_index xs 7 ∷ slice_index xs 8 ∷ slice_index xs 9 ∷ slice_index xs 10 ∷ slice_index xs 11 ∷ slice_index xs 12 ∷ []

-- ---- what holds its word where it is written has that word at the end

-- all groups but the monitor's and the regions'
pub record GroupsFit (v : ℕ → ℕ) (k : Starts) (u : Units) (s : State) : Type 0 where
  pub core : Fit v core_fields k.core s
  pub secure : Fit v (side_first Secure) k.secure (monitor_done v k u s)
  pub secure_timer : Fit v (side_last Secure) k.secure_timer (secure_mpu_done v k u s)
  pub nonsecure : Fit v (side_first NonSecure) k.nonsecure (secure_timer_done v k u s)
  pub nonsecure_timer : Fit v (side_last NonSecure) k.nonsecure_timer (nonsecure_mpu_done v k u s)
  pub shared : Fit v both_first k.shared (nonsecure_timer_done v k u s)
  pub last : Fit v both_last k.last (sau_done v k u s)

-- all groups but those meet something
pub record InGroups (P : ℕ → Field → Type 0) (k : Starts) : Type 0 where
  pub core : Each P core_fields k.core
  pub secure : Each P (side_first Secure) k.secure
  pub secure_timer : Each P (side_last Secure) k.secure_timer
  pub nonsecure : Each P (side_first NonSecure) k.nonsecure
  pub nonsecure_timer : Each P (side_last NonSecure) k.nonsecure_timer
  pub shared : Each P both_first k.shared
  pub last : Each P both_last k.last

-- in the end slots and channels are written, too
abbrev pub with_rest : State → List SlotState → Channels → State
with_rest s xs c = with_channels_in (with_slots s xs) c

pub groups_told : (v : ℕ → ℕ) (k : Starts) (u : Units) (s : State) (rs : List ℕ) (xs : List SlotState) (c : Channels) → GroupsFit v k u (readied s (thirteen rs))
    → InGroups (Has v (with_rest (all_done v k u (readied s (thirteen rs))) xs c)) k
groups_told v k u s rs xs c h = record { core = h.core; secure = h.secure; secure_timer = h.secure_timer; nonsecure = h.nonsecure; nonsecure_timer = h.nonsecure_timer; shared = h.shared; last = h.last }

pub groups_fit : (v : ℕ → ℕ) (k : Starts) (u : Units) (s : State) (rs : List ℕ) → InGroups (Has v (all_done v k u (readied s (thirteen rs)))) k → GroupsFit v k u (readied s (thirteen rs))
groups_fit v k u s rs h = record { core = h.core; secure = h.secure; secure_timer = h.secure_timer; nonsecure = h.nonsecure; nonsecure_timer = h.nonsecure_timer; shared = h.shared; last = h.last }

-- ---- and none changes the end any more

-- for each field that the state is itself
abbrev Same : List Field → State → Type 0
Same [] s = Unit {0}
Same (f ∷ fs) s = (s ≡ s) × Same fs s

same : (fs : List Field) (s : State) → Same fs s
same [] s = tt
same (f ∷ fs) s = (refl, same fs s)

pub groups_settled : (v : ℕ → ℕ) (k : Starts) (u : Units) (s : State) (rs : List ℕ) (xs : List SlotState) (c : Channels) → InGroups (Leaves v (with_rest (all_done v k u (readied s (thirteen rs))) xs c)) k
groups_settled v k u s rs xs c =
    let t = with_rest (all_done v k u (readied s (thirteen rs))) xs c in
    record {
      core = same core_fields t;
      secure = same (side_first Secure) t;
      secure_timer = same (side_last Secure) t;
      nonsecure = same (side_first NonSecure) t;
      nonsecure_timer = same (side_last NonSecure) t;
      shared = same both_first t;
      last = same both_last t;
    }

-- ---- the monitor

size_kept : (m : Option Exclusive) (w : ℕ) → held_size (with_held_address m w) ≡ held_size m
size_kept None w = refl
size_kept (Some e) w = refl

size_back : (m : Option Exclusive) → held_from (held_address m) (held_size m) ≡ m
size_back None = refl
size_back (Some e) =
    elim e.size as (λ x. held_from e.addr (size_number x) ≡ Some (record { addr = e.addr; size = x })) [ Byte ↦ refl | Half ↦ refl | Word ↦ refl ]

address_back : (m : Option Exclusive) → with_held_address m (held_address m) ≡ m
address_back None = refl
address_back (Some e) = refl

held_back : (m : Option Exclusive) → with_held_address (held_from 0 (held_size m)) (held_address m) ≡ m
held_back None = refl
held_back (Some e) =
    elim e.size as (λ x. with_held_address (held_from 0 (size_number x)) e.addr ≡ Some (record { addr = e.addr; size = x })) [ Byte ↦ refl | Half ↦ refl | Word ↦ refl ]

-- what these words make of a monitor that holds nothing
abbrev pub monitor_from : ℕ → ℕ → Option Exclusive
monitor_from size addr = with_held_address (held_from 0 size) addr

monitor_is : (m : Option Exclusive) (size addr : ℕ) → held_size m ≡ size → held_address m ≡ addr → monitor_from size addr ≡ m
monitor_is m size addr e f = ap (λ (x : ℕ). monitor_from x addr) (sym e) ∙ ap (monitor_from (held_size m)) (sym f) ∙ held_back m

thirteen_of : (xs : List ℕ) → length xs ≡ 13 → thirteen xs ≡ xs
thirteen_of xs e = go xs e where
  go : (xs : List ℕ) → length xs ≡ 13 → thirteen xs ≡ xs
  go (a ∷ b ∷ c ∷ d ∷ e ∷ f ∷ g ∷ h ∷ i ∷ j ∷ l ∷ m ∷ n ∷ []) is = refl
  go other is = absurd (omega arith)

-- s with what no field tells as t has it, and with this in the monitor
abbrev pub grafted : State → Option Exclusive → State → State
grafted t m s =
    record (with_channels_in s (channels_of t.core)) {
      exceptions = record s.exceptions { slots = t.exceptions.slots; interrupts = t.exceptions.interrupts };
      bus = record s.bus { memory = t.bus.memory; board = t.bus.board; monitor = m };
    }

abbrev opened : State → List ℕ → State
opened s rs = with_registers s (record s.core.registers { general = rs })

module _ (v : ℕ → ℕ) (k : Starts) (u : Units) where
  pub monitor_told : (s : State) (rs : List ℕ) (xs : List SlotState) (c : Channels) → Fit v monitor_fields k.monitor (core_done v k u (readied s (thirteen rs)))
      → Each (Has v (with_rest (all_done v k u (readied s (thirteen rs))) xs c)) monitor_fields k.monitor
  monitor_told s rs xs c h = (size_kept (held_from 0 (v k.monitor)) (v (k.monitor + 1)) ∙ h.0, (h.1.0, tt))

  monitor_settled_of : (s : State) → Each (Has v s) monitor_fields k.monitor → Each (Leaves v s) monitor_fields k.monitor
  monitor_settled_of s h =
      let m = s.bus.monitor in (
        ap (λ (x : Option Exclusive). with_bus s (with_monitor s.bus x)) (ap (held_from (held_address m)) (sym h.0) ∙ size_back m),
        (ap (λ (x : Option Exclusive). with_bus s (with_monitor s.bus x)) (ap (with_held_address m) (sym h.1.0) ∙ address_back m), tt),
      )

  pub monitor_settled : (s : State) (rs : List ℕ) (xs : List SlotState) (c : Channels) → Fit v monitor_fields k.monitor (core_done v k u (readied s (thirteen rs)))
      → Each (Leaves v (with_rest (all_done v k u (readied s (thirteen rs))) xs c)) monitor_fields k.monitor
  monitor_settled s rs xs c h = monitor_settled_of (with_rest (all_done v k u (readied s (thirteen rs))) xs c) (monitor_told s rs xs c h)

  pub monitor_fit : (t s : State) (rs : List ℕ) → Each (Has v s) monitor_fields k.monitor → Fit v monitor_fields k.monitor (core_done v k u (readied t (thirteen rs)))
  monitor_fit t s rs h =
      let is = monitor_is s.bus.monitor (v k.monitor) (v (k.monitor + 1)) h.0 h.1.0 in
      (sym (size_kept (held_from 0 (v k.monitor)) (v (k.monitor + 1))) ∙ ap held_size is ∙ h.0, (ap held_address is ∙ h.1.0, tt))

  -- ---- words of a state, written to another one

  -- what is written doesn't depend on what it is written to
  written_alike : (t s : State) (rs qs : List ℕ) →
      all_done v k u (readied t (thirteen rs)) ≡ grafted t (monitor_from (v k.monitor) (v (k.monitor + 1))) (all_done v k u (opened s (thirteen qs)))
  written_alike t s rs qs = refl

  pub record AreUnits (s : State) : Type 0 where
    pub secure : u.secure ≡ s.bus.mpu_s.regions
    pub nonsecure : u.nonsecure ≡ s.bus.mpu_ns.regions
    pub sau : u.sau ≡ s.bus.sau.regions

  all_stay : (s : State) → InGroups (Leaves v s) k → Each (Leaves v s) monitor_fields k.monitor → AreUnits s → all_done v k u s ≡ s
  all_stay s h m r =
      let last = written_by v both_last k.last in
      let sau : State → State = λ t. last (with_sau_bounds t u.sau) in
      let shared : State → State = λ t. sau (written_by v both_first k.shared t) in
      let timer : State → State = λ t. shared (written_by v (side_last NonSecure) k.nonsecure_timer t) in
      let mpu : State → State = λ t. timer (with_mpu_bounds t NonSecure u.nonsecure) in
      let ns : State → State = λ t. mpu (written_by v (side_first NonSecure) k.nonsecure t) in
      let timer_s : State → State = λ t. ns (written_by v (side_last Secure) k.secure_timer t) in
      let mpu_s : State → State = λ t. timer_s (with_mpu_bounds t Secure u.secure) in
      let sec : State → State = λ t. mpu_s (written_by v (side_first Secure) k.secure t) in
      let monitor : State → State = λ t. sec (written_by v monitor_fields k.monitor t) in
      ap monitor (stays v core_fields k.core s h.core)
      ∙ ap sec (stays v monitor_fields k.monitor s m)
      ∙ ap mpu_s (stays v (side_first Secure) k.secure s h.secure)
      ∙ ap timer_s (ap (with_mpu_bounds s Secure) r.secure)
      ∙ ap ns (stays v (side_last Secure) k.secure_timer s h.secure_timer)
      ∙ ap mpu (stays v (side_first NonSecure) k.nonsecure s h.nonsecure)
      ∙ ap timer (ap (with_mpu_bounds s NonSecure) r.nonsecure)
      ∙ ap shared (stays v (side_last NonSecure) k.nonsecure_timer s h.nonsecure_timer)
      ∙ ap sau (stays v both_first k.shared s h.shared)
      ∙ ap last (ap (with_sau_bounds s) r.sau)
      ∙ stays v both_last k.last s h.last

  pub all_back : (t s : State) (rs : List ℕ) → length s.core.registers.general ≡ 13 → InGroups (Leaves v s) k → Each (Has v s) monitor_fields k.monitor → AreUnits s →
      all_done v k u (readied t (thirteen rs)) ≡ grafted t s.bus.monitor s
  all_back t s rs size h m r =
      let qs = s.core.registers.general in
      let w = monitor_from (v k.monitor) (v (k.monitor + 1)) in
      written_alike t s rs qs
      ∙ ap (λ (xs : List ℕ). grafted t w (all_done v k u (opened s xs))) (thirteen_of qs size)
      ∙ ap (grafted t w) (all_stay s h (monitor_settled_of s m) r)
      ∙ ap (λ (x : Option Exclusive). grafted t x s) (monitor_is s.bus.monitor (v k.monitor) (v (k.monitor + 1)) m.0 m.1.0)

  -- the words of s fit where all is written to t
  pub groups_accept : (t s : State) (rs : List ℕ) → all_done v k u (readied t (thirteen rs)) ≡ grafted t s.bus.monitor s → InGroups (Has v s) k → GroupsFit v k u (readied t (thirteen rs))
  groups_accept t s rs e h =
      let there : InGroups (Has v (grafted t s.bus.monitor s)) k =
      record { core = h.core; secure = h.secure; secure_timer = h.secure_timer; nonsecure = h.nonsecure; nonsecure_timer = h.nonsecure_timer; shared = h.shared; last = h.last }
      in
      groups_fit v k u t rs (subst (λ (x : State). InGroups (Has v x) k) (sym e) there)
