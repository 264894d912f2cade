-- What nothing tells apart is the same, and nothing is told apart from itself.
use Rattle.std.proofs.Common.{◌≡◌, ℕ, Bool, true, false, ◌&&◌, ◌||◌, List, [], ◌∷◌, Option, Some, None, refl, sym, ap, ◌∙◌}
use Rattle.std.specs.Prelude.{◌==◌, not, if◌then◌else◌, is_some}
use Rattle.std.specs.Bool.{Decides}
use Rattle.std.specs.List.{list_any}
use Rattle.std.specs.Ordering.{nat_cmp, eq_by_cmp}
use Rattle.std.specs.FinMap.{get, keys, contains_key-keys}
use Rattle.std.specs.Cmp.{unsigned_tied}
use Rattle.std.specs.Cmp.Lexicographic.{pointwise, pointwise_decides}
use Rattle.std.proofs.Math.Path.{fun_ext}
use Rattle.std.proofs.lemmas.Bool.{eqb-true, not-false, or_parts}
use Rattle.std.proofs.lemmas.Bool.Decides.{Decides-eqb}
use Rattle.tz_table.specs.declared.units.Side.{Side}
use Rattle.tz_table.specs.declared.units.Side.TheVariants.{Secure, NonSecure}
use Rattle.tz_state.specs.declared.units.Bounds.{Bounds}
use Rattle.tz_state.specs.declared.slot.SlotState.{SlotState}
use Rattle.tz_state.specs.Attribution.{SauState, MapState, is_open}
use Rattle.tz_state.specs.Protection.{MpuState}
use Rattle.tz_state.specs.Slots.{ExceptionsValue}
use Rattle.tz_state.specs.State.{Bus, map_in}
use Rattle.tz_state.specs.Difference.{is_same_flag, is_same_side, is_same_bounds, is_same_slot, is_same_choice, sau_differs, mpu_differs, exceptions_differ, is_same_byte, byte_differs, open_byte_differs, open_bytes_differ}

-- ---- tests that decide

-- a test that follows another
and_decides : {P Q : Type 0} (p q : Bool) → Decides p P → Decides q Q → Decides (p && q) (P × Q)
and_decides true q d e = (λ h. (d.0 refl, e.0 h), λ h. e.1 h.1)
and_decides false q d e = (λ h. (d.0 h, absurd cc), λ h. d.1 h.0)

-- what is told is told by its parts
by_parts : {P Q : Type 0} (p : Bool) → Decides p P → (P → Q) → (Q → P) → Decides p Q
by_parts p d there back = (λ h. there (d.0 h), λ h. d.1 (back h))

flag_decides : (p q : Bool) → Decides (is_same_flag p q) (p ≡ q)
flag_decides true q = (λ h. sym h, λ h. sym h)
flag_decides false true = (λ h. h, λ h. h)
flag_decides false false = (λ h. refl, λ h. refl)

side_decides : (s t : Side) → Decides (is_same_side s t) (s ≡ t)
side_decides Secure Secure = (λ h. refl, λ h. refl)
side_decides Secure NonSecure = (λ h. absurd cc, λ h. absurd cc)
side_decides NonSecure Secure = (λ h. absurd cc, λ h. absurd cc)
side_decides NonSecure NonSecure = (λ h. refl, λ h. refl)

bounds_decides : (r q : Bounds) → Decides (is_same_bounds r q) (r ≡ q)
bounds_decides r q =
    by_parts (is_same_bounds r q) (and_decides (r.rbar == q.rbar) (r.rlar == q.rlar) (Decides-eqb r.rbar q.rbar) (Decides-eqb r.rlar q.rlar))
    (λ h. λ i. record { rbar = h.0 i; rlar = h.1 i })
    (λ h. (ap (λ (x : Bounds). x.rbar) h, ap (λ (x : Bounds). x.rlar) h))

slot_decides : (s t : SlotState) → Decides (is_same_slot s t) (s ≡ t)
slot_decides s t =
    by_parts (is_same_slot s t)
    (and_decides _ _ (flag_decides s.pending t.pending) (and_decides _ _ (flag_decides s.active t.active)
    (and_decides _ _ (flag_decides s.enabled t.enabled) (and_decides _ _ (Decides-eqb s.priority t.priority) (side_decides s.target t.target)))))
    (λ h. λ i. record { pending = h.0 i; active = h.1.0 i; enabled = h.1.1.0 i; priority = h.1.1.1.0 i; target = h.1.1.1.1 i })
    (λ h. (
      ap (λ (x : SlotState). x.pending) h,
      (
        ap (λ (x : SlotState). x.active) h,
        (
          ap (λ (x : SlotState). x.enabled) h,
          (ap (λ (x : SlotState). x.priority) h, ap (λ (x : SlotState). x.target) h),
        ),
      ),
    ))

-- ---- the units

sau_decides : (u v : SauState) → Decides (u.ctrl == v.ctrl && (u.rnr == v.rnr && pointwise is_same_bounds u.regions v.regions)) (u ≡ v)
sau_decides u v =
    by_parts _
    (and_decides _ _ (Decides-eqb u.ctrl v.ctrl) (and_decides _ _ (Decides-eqb u.rnr v.rnr) (pointwise_decides bounds_decides u.regions v.regions)))
    (λ h. λ i. record { ctrl = h.0 i; rnr = h.1.0 i; regions = h.1.1 i })
    (λ h. (ap (λ (x : SauState). x.ctrl) h, (ap (λ (x : SauState). x.rnr) h, ap (λ (x : SauState). x.regions) h)))

pub same_sau : (u v : SauState) → sau_differs u v ≡ false → u ≡ v
unfolding sau_differs
same_sau u v e = (sau_decides u v).0 (not-false _ e)

pub sau_itself : (u : SauState) → sau_differs u u ≡ false
unfolding sau_differs
sau_itself u = ap not ((sau_decides u u).1 refl)

mpu_decides : (m n : MpuState) → Decides (m.ctrl == n.ctrl && (m.rnr == n.rnr && (m.mair0 == n.mair0 && (m.mair1 == n.mair1 && pointwise is_same_bounds m.regions n.regions)))) (m ≡ n)
mpu_decides m n =
    by_parts _
    (and_decides _ _ (Decides-eqb m.ctrl n.ctrl) (and_decides _ _ (Decides-eqb m.rnr n.rnr) (and_decides _ _ (Decides-eqb m.mair0 n.mair0)
    (and_decides _ _ (Decides-eqb m.mair1 n.mair1) (pointwise_decides bounds_decides m.regions n.regions)))))
    (λ h. λ i. record { ctrl = h.0 i; rnr = h.1.0 i; mair0 = h.1.1.0 i; mair1 = h.1.1.1.0 i; regions = h.1.1.1.1 i })
    (λ h. (
      ap (λ (x : MpuState). x.ctrl) h,
      (
        ap (λ (x : MpuState). x.rnr) h,
        (
          ap (λ (x : MpuState). x.mair0) h,
          (ap (λ (x : MpuState). x.mair1) h, ap (λ (x : MpuState). x.regions) h),
        ),
      ),
    ))

pub same_mpu : (m n : MpuState) → mpu_differs m n ≡ false → m ≡ n
unfolding mpu_differs
same_mpu m n e = (mpu_decides m n).0 (not-false _ e)

pub mpu_itself : (m : MpuState) → mpu_differs m m ≡ false
unfolding mpu_differs
mpu_itself m = ap not ((mpu_decides m m).1 refl)

-- ---- the exceptions

-- equal in all but the timers
record SameSlots (e f : ExceptionsValue) : Type 0 where
  slots : e.slots ≡ f.slots
  interrupts : e.interrupts ≡ f.interrupts
  prigroup_s : e.prigroup_s ≡ f.prigroup_s
  prigroup_ns : e.prigroup_ns ≡ f.prigroup_ns
  pris : e.pris ≡ f.pris
  bfhfnmins : e.bfhfnmins ≡ f.bfhfnmins

exceptions_decide : (e f : ExceptionsValue)
    → Decides (pointwise is_same_slot e.slots f.slots && (e.interrupts == f.interrupts && is_same_choice e f)) (SameSlots e f)
exceptions_decide e f =
    by_parts _
    (and_decides _ _ (pointwise_decides slot_decides e.slots f.slots) (and_decides _ _ (Decides-eqb e.interrupts f.interrupts)
    (and_decides _ _ (Decides-eqb e.prigroup_s f.prigroup_s) (and_decides _ _ (Decides-eqb e.prigroup_ns f.prigroup_ns)
    (and_decides _ _ (flag_decides e.pris f.pris) (flag_decides e.bfhfnmins f.bfhfnmins))))))
    (λ h. record { slots = h.0; interrupts = h.1.0; prigroup_s = h.1.1.0; prigroup_ns = h.1.1.1.0; pris = h.1.1.1.1.0; bfhfnmins = h.1.1.1.1.1 })
    (λ h. (h.slots, (h.interrupts, (h.prigroup_s, (h.prigroup_ns, (h.pris, h.bfhfnmins))))))

pub same_exceptions : (e f : ExceptionsValue) → exceptions_differ e f ≡ false → e.timer_s ≡ f.timer_s → e.timer_ns ≡ f.timer_ns → e ≡ f
unfolding exceptions_differ
same_exceptions e f d s ns =
    let h = (exceptions_decide e f).0 (not-false _ d) in
    λ i. record {
      slots = h.slots i;
      interrupts = h.interrupts i;
      prigroup_s = h.prigroup_s i;
      prigroup_ns = h.prigroup_ns i;
      pris = h.pris i;
      bfhfnmins = h.bfhfnmins i;
      timer_s = s i;
      timer_ns = ns i;
    }

pub exceptions_itself : (e : ExceptionsValue) → exceptions_differ e e ≡ false
unfolding exceptions_differ
exceptions_itself e =
    ap not ((exceptions_decide e e).1 (record { slots = refl; interrupts = refl; prigroup_s = refl; prigroup_ns = refl; pris = refl; bfhfnmins = refl }))

-- ---- memory

byte_decides : (o p : Option ℕ) → Decides (is_same_byte o p) (o ≡ p)
byte_decides None None = (λ h. refl, λ h. refl)
byte_decides None (Some y) = (λ h. absurd cc, λ h. absurd cc)
byte_decides (Some x) None = (λ h. absurd cc, λ h. absurd cc)
byte_decides (Some x) (Some y) = by_parts (x == y) (Decides-eqb x y) (λ h. ap Some h) (λ h. cc)

both_none : (o p : Option ℕ) → is_some o ≡ false → is_some p ≡ false → o ≡ p
both_none None None e f = refl
both_none None (Some y) e f = absurd cc
both_none (Some x) p e f = absurd cc

-- what no element passes, one that stands in the list doesn't
none_passes : (p : ℕ → Bool) (ks : List ℕ) (a : ℕ) → list_any p ks ≡ false → list_any (eq_by_cmp nat_cmp a) ks ≡ true → p a ≡ false
none_passes p [] a e there = absurd cc
none_passes p (k ∷ ks) a e there =
    elim (eq_by_cmp nat_cmp a k) as (λ b. eq_by_cmp nat_cmp a k ≡ b → p a ≡ false) [
      | true ↦ λ is. ap p (eqb-true a k (sym (unsigned_tied a k) ∙ is)) ∙ (or_parts (p k) (list_any p ks) e).0
      | false ↦ λ is.
          let there' : list_any (eq_by_cmp nat_cmp a) ks ≡ true = rw is at there in
          none_passes p ks a (or_parts (p k) (list_any p ks) e).1 there'
    ] refl

none_of : (p : ℕ → Bool) (ks : List ℕ) → ((a : ℕ) → p a ≡ false) → list_any p ks ≡ false
none_of p [] none = refl
none_of p (k ∷ ks) none = rw (none k) (none_of p ks none)

same_at : (b c : Bus) (a : ℕ) → is_open (map_in b) a ≡ true → is_open (map_in c) a ≡ true → open_byte_differs b c a ≡ false → get b.memory a ≡ get c.memory a
same_at b c a mine others e =
    let e' : byte_differs b.memory c.memory a ≡ false = rw (mine, others) at e in
    (byte_decides (get b.memory a) (get c.memory a)).0 (not-false _ e')

-- where no open byte differs, the two have the same at each address that is open in both
pub same_bytes : (b c : Bus) → open_bytes_differ b c ≡ false → (a : ℕ) → is_open (map_in b) a ≡ true → is_open (map_in c) a ≡ true → get b.memory a ≡ get c.memory a
unfolding open_bytes_differ
same_bytes b c e a mine others =
    let none = or_parts (list_any (open_byte_differs b c) (keys b.memory)) (list_any (open_byte_differs b c) (keys c.memory)) e in
    let by_other : is_some (get b.memory a) ≡ false → get b.memory a ≡ get c.memory a = λ not_mine.
    elim (is_some (get c.memory a)) as (λ t. is_some (get c.memory a) ≡ t → get b.memory a ≡ get c.memory a) [
      | true ↦ λ is. same_at b c a mine others (none_passes (open_byte_differs b c) (keys c.memory) a none.1 (sym (contains_key-keys c.memory a) ∙ is))
      | false ↦ λ is. both_none (get b.memory a) (get c.memory a) not_mine is
    ] refl in
    elim (is_some (get b.memory a)) as (λ t. is_some (get b.memory a) ≡ t → get b.memory a ≡ get c.memory a) [
      | true ↦ λ is. same_at b c a mine others (none_passes (open_byte_differs b c) (keys b.memory) a none.0 (sym (contains_key-keys b.memory a) ∙ is))
      | false ↦ by_other
    ] refl

in_turn : (p q r : Bool) → (p ≡ true → q ≡ true → r ≡ false) → (p && (q && r)) ≡ false
in_turn false q r h = refl
in_turn true false r h = refl
in_turn true true r h = h refl refl

same_differs : (b c : Bus) (a : ℕ) → (is_open (map_in b) a ≡ true → is_open (map_in c) a ≡ true → get b.memory a ≡ get c.memory a) → open_byte_differs b c a ≡ false
same_differs b c a same =
    in_turn (is_open (map_in b) a) (is_open (map_in c) a) (byte_differs b.memory c.memory a)
    (λ mine others. ap not ((byte_decides (get b.memory a) (get c.memory a)).1 (same mine others)))

-- the test of all keys tells of each address
pub none_differs : (b c : Bus) → open_bytes_differ b c ≡ false → (a : ℕ) → open_byte_differs b c a ≡ false
none_differs b c e a = same_differs b c a (same_bytes b c e a)

pub differs_nowhere : (b c : Bus) → ((a : ℕ) → open_byte_differs b c a ≡ false) → open_bytes_differ b c ≡ false
unfolding open_bytes_differ
differs_nowhere b c none = rw (none_of (open_byte_differs b c) (keys b.memory) none) (none_of (open_byte_differs b c) (keys c.memory) none)

pub bytes_alike : (b c : Bus) → ((a : ℕ) → is_open (map_in b) a ≡ true → is_open (map_in c) a ≡ true → get b.memory a ≡ get c.memory a) → open_bytes_differ b c ≡ false
bytes_alike b c same = differs_nowhere b c (λ a. same_differs b c a (same a))

-- what Non-secure code may read, by address
abbrev pub shown : Bus → ℕ → Option ℕ
shown b a = if is_open (map_in b) a then get b.memory a else None

shown_same : (p q : Bool) (x y : Option ℕ) → p ≡ q → (p ≡ true → q ≡ true → x ≡ y) → (if p then x else None) ≡ (if q then y else None)
shown_same true true x y e same = same refl refl
shown_same true false x y e same = absurd cc
shown_same false true x y e same = absurd cc
shown_same false false x y e same = refl

pub same_shown : (b c : Bus) → map_in b ≡ map_in c → open_bytes_differ b c ≡ false → shown b ≡ shown c
same_shown b c maps e =
    fun_ext (λ a. shown_same (is_open (map_in b) a) (is_open (map_in c) a) (get b.memory a) (get c.memory a)
    (ap (λ (m : MapState). is_open m a) maps) (same_bytes b c e a))

shown_at : (p q : Bool) (x y : Option ℕ) → (if p then x else None) ≡ (if q then y else None) → p ≡ true → q ≡ true → x ≡ y
shown_at true true x y e p q = e
shown_at true false x y e p q = absurd cc
shown_at false q' x y e p q = absurd cc

pub shown_alike : (b c : Bus) → shown b ≡ shown c → open_bytes_differ b c ≡ false
shown_alike b c e =
    bytes_alike b c (λ a. shown_at (is_open (map_in b) a) (is_open (map_in c) a) (get b.memory a) (get c.memory a) (ap (λ (f : ℕ → Option ℕ). f a) e))
