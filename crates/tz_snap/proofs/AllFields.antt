-- All fields of a board, group by group: where each group begins, and that words fit all fields where they fit each group.
use Rattle.std.proofs.Common.{◌≡◌, ℕ, ◌+◌, ◌*◌, List, [], ◌∷◌, ◌++◌, length, map, refl, sym, ap, ◌∙◌, subst, arith}
use Rattle.std.proofs.lemmas.List.{length-map}
use Rattle.tz_table.specs.declared.units.Side.{Side}
use Rattle.tz_table.specs.declared.units.Side.TheVariants.{Secure, NonSecure}
use Rattle.tz_model.specs.Board.{BoardValue}
use Rattle.tz_state.specs.State.{State, mpu_of}
use Rattle.tz_state.specs.UnitRegisters.{rlar_bits}
use Rattle.tz_fields.specs.declared.fields.Field.{Field}
use Rattle.tz_fields.specs.declared.fields.Field.TheVariants.{Running, Banked, Shared}
use Rattle.tz_fields.specs.Fields.{fields, running_fields, banked_fields, banked_last, shared_fields, shared_last, mpu_region_fields, sau_region_fields}
use Rattle.tz_snap.proofs.Counts.{mpu_regions, sau_regions}
use Rattle.tz_snap.proofs.FieldsRead.{written_by, Fit, Each, written_both, fit_both, fit_apart, each_both, each_apart}
use Rattle.tz_snap.proofs.UnitBounds.{bounds_from, Kept, kept_fit, fit_kept, all_kept}
use Rattle.tz_snap.proofs.UnitFields.{mpu_fields, sau_fields, with_mpu_bounds, with_sau_bounds, all_bits, sau_rbar_bits, sau_rlar_bits, mpu_written, mpu_fit, fit_mpu, sau_written, sau_fit, fit_sau}
use Rattle.tz_snap.proofs.Groups.{core_fields, monitor_fields, side_first, side_last, both_first, both_last, Starts, Units, core_done, monitor_done, secure_done, secure_mpu_done, secure_timer_done, nonsecure_done, nonsecure_mpu_done, nonsecure_timer_done, shared_done, sau_done, all_done, readied, thirteen, GroupsFit, InGroups}

-- ---- the groups one behind the other

map_both : {X : Type 0} (f : X → Field) (xs ys : List X) (more : List Field) → map f (xs ++ ys) ++ more ≡ map f xs ++ (map f ys ++ more)
map_both f [] ys more = refl
map_both f (x ∷ xs) ys more = ap (λ (fs : List Field). f x ∷ fs) (map_both f xs ys more)

map_apart : {X : Type 0} (f : X → Field) (xs ys : List X) → map f (xs ++ ys) ≡ map f xs ++ map f ys
map_apart f [] ys = refl
map_apart f (x ∷ xs) ys = ap (λ (fs : List Field). f x ∷ fs) (map_apart f xs ys)

abbrev from_sau : BoardValue → List Field
from_sau b = sau_fields 0 b.sau_regions ++ both_last

abbrev from_nonsecure_timer : BoardValue → List Field
from_nonsecure_timer b = side_last NonSecure ++ (both_first ++ from_sau b)

abbrev from_nonsecure_mpu : BoardValue → List Field
from_nonsecure_mpu b = mpu_fields NonSecure 0 b.mpu_nonsecure ++ from_nonsecure_timer b

abbrev from_secure_timer : BoardValue → List Field
from_secure_timer b = side_last Secure ++ (side_first NonSecure ++ from_nonsecure_mpu b)

abbrev from_secure_mpu : BoardValue → List Field
from_secure_mpu b = mpu_fields Secure 0 b.mpu_secure ++ from_secure_timer b

abbrev grouped : BoardValue → List Field
grouped b = core_fields ++ (monitor_fields ++ (side_first Secure ++ from_secure_mpu b))

fields_grouped : (b : BoardValue) → fields b ≡ grouped b
unfolding fields banked_fields shared_fields
fields_grouped b =
    let shared = both_first ++ from_sau b in
    let one : map Shared (shared_fields b.sau_regions) ≡ shared =
    ap (λ (fs : List Field). both_first ++ fs) (map_apart Shared (sau_region_fields 0 b.sau_regions) shared_last) in
    let two : map (Banked NonSecure) (banked_fields b.mpu_nonsecure) ++ map Shared (shared_fields b.sau_regions) ≡ side_first NonSecure ++ from_nonsecure_mpu b =
    ap (λ (fs : List Field). map (Banked NonSecure) (banked_fields b.mpu_nonsecure) ++ fs) one
    ∙ ap (λ (fs : List Field). side_first NonSecure ++ fs) (map_both (Banked NonSecure) (mpu_region_fields 0 b.mpu_nonsecure) banked_last shared) in
    let ns = side_first NonSecure ++ from_nonsecure_mpu b in
    ap (λ (fs : List Field). map Running running_fields ++ (map (Banked Secure) (banked_fields b.mpu_secure) ++ fs)) two
    ∙ ap (λ (fs : List Field). map Running running_fields ++ (side_first Secure ++ fs)) (map_both (Banked Secure) (mpu_region_fields 0 b.mpu_secure) banked_last ns)

abbrev pub starts_of : BoardValue → Starts
starts_of b =
    record {
      core = 0;
      monitor = 20;
      secure = 22;
      secure_mpu = 40;
      secure_timer = 40 + 2 * b.mpu_secure;
      nonsecure = 43 + 2 * b.mpu_secure;
      nonsecure_mpu = 61 + 2 * b.mpu_secure;
      nonsecure_timer = 61 + 2 * b.mpu_secure + 2 * b.mpu_nonsecure;
      shared = 64 + 2 * b.mpu_secure + 2 * b.mpu_nonsecure;
      sau = 66 + 2 * b.mpu_secure + 2 * b.mpu_nonsecure;
      last = 66 + 2 * b.mpu_secure + 2 * b.mpu_nonsecure + 2 * b.sau_regions;
    }

mpu_count : (side : Side) (n : ℕ) → length (mpu_fields side 0 n) ≡ 2 * n
mpu_count side n = length-map (mpu_region_fields 0 n) (Banked side) ∙ mpu_regions 0 n

sau_count : (n : ℕ) → length (sau_fields 0 n) ≡ 2 * n
sau_count n = length-map (sau_region_fields 0 n) Shared ∙ sau_regions 0 n

-- where a group ends
mpu_end : (side : Side) (n k l : ℕ) → k + 2 * n ≡ l → k + length (mpu_fields side 0 n) ≡ l
mpu_end side n k l e = let count = mpu_count side n in omega arith

sau_end : (n k l : ℕ) → k + 2 * n ≡ l → k + length (sau_fields 0 n) ≡ l
sau_end n k l e = let count = sau_count n in omega arith

secure_mpu_end : (b : BoardValue) → (starts_of b).secure_mpu + length (mpu_fields Secure 0 b.mpu_secure) ≡ (starts_of b).secure_timer
secure_mpu_end b = mpu_end Secure b.mpu_secure (starts_of b).secure_mpu (starts_of b).secure_timer refl

nonsecure_mpu_end : (b : BoardValue) → (starts_of b).nonsecure_mpu + length (mpu_fields NonSecure 0 b.mpu_nonsecure) ≡ (starts_of b).nonsecure_timer
nonsecure_mpu_end b = mpu_end NonSecure b.mpu_nonsecure (starts_of b).nonsecure_mpu (starts_of b).nonsecure_timer refl

-- the regions that the words give
abbrev pub units_from : (ℕ → ℕ) → BoardValue → Units
units_from v b =
    record {
      secure = bounds_from v (starts_of b).secure_mpu b.mpu_secure;
      nonsecure = bounds_from v (starts_of b).nonsecure_mpu b.mpu_nonsecure;
      sau = bounds_from v (starts_of b).sau b.sau_regions;
    }

-- the units keep all of their words
pub record UnitsKept (v : ℕ → ℕ) (b : BoardValue) : Type 0 where
  pub secure : Kept all_bits (rlar_bits b.profile) v (starts_of b).secure_mpu b.mpu_secure
  pub nonsecure : Kept all_bits (rlar_bits b.profile) v (starts_of b).nonsecure_mpu b.mpu_nonsecure
  pub sau : Kept sau_rbar_bits sau_rlar_bits v (starts_of b).sau b.sau_regions

-- the units have as many regions as the board says
pub record HasUnits (b : BoardValue) (s : State) : Type 0 where
  pub secure : length s.bus.mpu_s.regions ≡ b.mpu_secure
  pub nonsecure : length s.bus.mpu_ns.regions ≡ b.mpu_nonsecure
  pub sau : length s.bus.sau.regions ≡ b.sau_regions

-- ---- all fields, and each group

-- all groups meet something
pub record IsGrouped (P : ℕ → Field → Type 0) (b : BoardValue) : Type 0 where
  pub groups : InGroups P (starts_of b)
  pub monitor : Each P monitor_fields (starts_of b).monitor
  pub secure : Each P (mpu_fields Secure 0 b.mpu_secure) (starts_of b).secure_mpu
  pub nonsecure : Each P (mpu_fields NonSecure 0 b.mpu_nonsecure) (starts_of b).nonsecure_mpu
  pub sau : Each P (sau_fields 0 b.sau_regions) (starts_of b).sau

pub grouped_all : (P : ℕ → Field → Type 0) (b : BoardValue) → IsGrouped P b → Each P (fields b) 0
grouped_all P b h =
    let k = starts_of b in
    let g = h.groups in
    let a = each_both P (sau_fields 0 b.sau_regions) both_last k.sau k.last (sau_end b.sau_regions k.sau k.last refl) h.sau g.last in
    let c = each_both P both_first (from_sau b) k.shared k.sau (omega arith) g.shared a in
    let d = each_both P (side_last NonSecure) (both_first ++ from_sau b) k.nonsecure_timer k.shared (omega arith) g.nonsecure_timer c in
    let e = each_both P (mpu_fields NonSecure 0 b.mpu_nonsecure) (from_nonsecure_timer b) k.nonsecure_mpu k.nonsecure_timer (nonsecure_mpu_end b) h.nonsecure d in
    let f = each_both P (side_first NonSecure) (from_nonsecure_mpu b) k.nonsecure k.nonsecure_mpu (omega arith) g.nonsecure e in
    let i = each_both P (side_last Secure) (side_first NonSecure ++ from_nonsecure_mpu b) k.secure_timer k.nonsecure (omega arith) g.secure_timer f in
    let j = each_both P (mpu_fields Secure 0 b.mpu_secure) (from_secure_timer b) k.secure_mpu k.secure_timer (secure_mpu_end b) h.secure i in
    let l = each_both P (side_first Secure) (from_secure_mpu b) k.secure k.secure_mpu (omega arith) g.secure j in
    let m = each_both P monitor_fields (side_first Secure ++ from_secure_mpu b) k.monitor k.secure (omega arith) h.monitor l in
    let all = each_both P core_fields (monitor_fields ++ (side_first Secure ++ from_secure_mpu b)) k.core k.monitor (omega arith) g.core m in
    subst (λ (fs : List Field). Each P fs 0) (sym (fields_grouped b)) all

pub all_grouped : (P : ℕ → Field → Type 0) (b : BoardValue) → Each P (fields b) 0 → IsGrouped P b
all_grouped P b h =
    let k = starts_of b in
    let all = subst (λ (fs : List Field). Each P fs 0) (fields_grouped b) h in
    let a = each_apart P core_fields (monitor_fields ++ (side_first Secure ++ from_secure_mpu b)) k.core k.monitor (omega arith) all in
    let c = each_apart P monitor_fields (side_first Secure ++ from_secure_mpu b) k.monitor k.secure (omega arith) a.1 in
    let d = each_apart P (side_first Secure) (from_secure_mpu b) k.secure k.secure_mpu (omega arith) c.1 in
    let e = each_apart P (mpu_fields Secure 0 b.mpu_secure) (from_secure_timer b) k.secure_mpu k.secure_timer (secure_mpu_end b) d.1 in
    let f = each_apart P (side_last Secure) (side_first NonSecure ++ from_nonsecure_mpu b) k.secure_timer k.nonsecure (omega arith) e.1 in
    let i = each_apart P (side_first NonSecure) (from_nonsecure_mpu b) k.nonsecure k.nonsecure_mpu (omega arith) f.1 in
    let j = each_apart P (mpu_fields NonSecure 0 b.mpu_nonsecure) (from_nonsecure_timer b) k.nonsecure_mpu k.nonsecure_timer (nonsecure_mpu_end b) i.1 in
    let l = each_apart P (side_last NonSecure) (both_first ++ from_sau b) k.nonsecure_timer k.shared (omega arith) j.1 in
    let m = each_apart P both_first (from_sau b) k.shared k.sau (omega arith) l.1 in
    let n = each_apart P (sau_fields 0 b.sau_regions) both_last k.sau k.last (sau_end b.sau_regions k.sau k.last refl) m.1 in
    record {
      groups = record { core = a.0; secure = d.0; secure_timer = f.0; nonsecure = i.0; nonsecure_timer = l.0; shared = m.0; last = n.1 };
      monitor = c.0;
      secure = e.0;
      nonsecure = j.0;
      sau = n.0;
    }

-- ---- all fields written

-- the regions of a unit that keeps the words
mpu_done : (v : ℕ → ℕ) (side : Side) (n k : ℕ) (s : State) → length (mpu_of side s.bus).regions ≡ n → Kept all_bits (rlar_bits s.bus.board.profile) v k n →
    written_by v (mpu_fields side 0 n) k s ≡ with_mpu_bounds s side (bounds_from v k n)
mpu_done v side n k s e h =
    mpu_written v side n k 0 s ∙ ap (with_mpu_bounds s side) (all_kept all_bits (rlar_bits s.bus.board.profile) v n k (mpu_of side s.bus).regions e h)

sau_is_done : (v : ℕ → ℕ) (n k : ℕ) (s : State) → length s.bus.sau.regions ≡ n → Kept sau_rbar_bits sau_rlar_bits v k n → written_by v (sau_fields 0 n) k s ≡ with_sau_bounds s (bounds_from v k n)
sau_is_done v n k s e h = sau_written v n k 0 s ∙ ap (with_sau_bounds s) (all_kept sau_rbar_bits sau_rlar_bits v n k s.bus.sau.regions e h)

module _ (v : ℕ → ℕ) (t : State) (rs : List ℕ) (has : HasUnits t.bus.board t) where
  abbrev board : BoardValue
  board = t.bus.board

  abbrev from : Starts
  from = starts_of board

  abbrev units : Units
  units = units_from v board

  abbrev ready : State
  ready = readied t (thirteen rs)

  secure_is : UnitsKept v board → written_by v (mpu_fields Secure 0 board.mpu_secure) from.secure_mpu (secure_done v from units ready) ≡ secure_mpu_done v from units ready
  secure_is h = mpu_done v Secure board.mpu_secure from.secure_mpu (secure_done v from units ready) has.secure h.secure

  nonsecure_is : UnitsKept v board → written_by v (mpu_fields NonSecure 0 board.mpu_nonsecure) from.nonsecure_mpu (nonsecure_done v from units ready) ≡ nonsecure_mpu_done v from units ready
  nonsecure_is h = mpu_done v NonSecure board.mpu_nonsecure from.nonsecure_mpu (nonsecure_done v from units ready) has.nonsecure h.nonsecure

  sau_is : UnitsKept v board → written_by v (sau_fields 0 board.sau_regions) from.sau (shared_done v from units ready) ≡ sau_done v from units ready
  sau_is h = sau_is_done v board.sau_regions from.sau (shared_done v from units ready) has.sau h.sau

  pub all_written : UnitsKept v board → written_by v (fields board) 0 ready ≡ all_done v from units ready
  all_written h =
      let b = board in
      let k = from in
      ap (λ (fs : List Field). written_by v fs 0 ready) (fields_grouped b)
      ∙ written_both v core_fields (monitor_fields ++ (side_first Secure ++ from_secure_mpu b)) k.core k.monitor ready (omega arith)
      ∙ written_both v monitor_fields (side_first Secure ++ from_secure_mpu b) k.monitor k.secure (core_done v k units ready) (omega arith)
      ∙ written_both v (side_first Secure) (from_secure_mpu b) k.secure k.secure_mpu (monitor_done v k units ready) (omega arith)
      ∙ written_both v (mpu_fields Secure 0 b.mpu_secure) (from_secure_timer b) k.secure_mpu k.secure_timer (secure_done v k units ready) (secure_mpu_end b)
      ∙ ap (written_by v (from_secure_timer b) k.secure_timer) (secure_is h)
      ∙ written_both v (side_last Secure) (side_first NonSecure ++ from_nonsecure_mpu b) k.secure_timer k.nonsecure (secure_mpu_done v k units ready) (omega arith)
      ∙ written_both v (side_first NonSecure) (from_nonsecure_mpu b) k.nonsecure k.nonsecure_mpu (secure_timer_done v k units ready) (omega arith)
      ∙ written_both v (mpu_fields NonSecure 0 b.mpu_nonsecure) (from_nonsecure_timer b) k.nonsecure_mpu k.nonsecure_timer (nonsecure_done v k units ready) (nonsecure_mpu_end b)
      ∙ ap (written_by v (from_nonsecure_timer b) k.nonsecure_timer) (nonsecure_is h)
      ∙ written_both v (side_last NonSecure) (both_first ++ from_sau b) k.nonsecure_timer k.shared (nonsecure_mpu_done v k units ready) (omega arith)
      ∙ written_both v both_first (from_sau b) k.shared k.sau (nonsecure_timer_done v k units ready) (omega arith)
      ∙ written_both v (sau_fields 0 b.sau_regions) both_last k.sau k.last (shared_done v k units ready) (sau_end b.sau_regions k.sau k.last refl)
      ∙ ap (written_by v both_last k.last) (sau_is h)

  -- words that fit all fields fit each group
  pub record AllFit : Type 0 where
    pub groups : GroupsFit v from units ready
    pub monitor : Fit v monitor_fields from.monitor (core_done v from units ready)
    pub kept : UnitsKept v board

  pub each_fits : Fit v (fields board) 0 ready → AllFit
  each_fits h =
      let b = board in
      let k = from in
      let all = subst (λ (fs : List Field). Fit v fs 0 ready) (fields_grouped b) h in
      let a = fit_apart v core_fields (monitor_fields ++ (side_first Secure ++ from_secure_mpu b)) k.core k.monitor ready (omega arith) all in
      let c = fit_apart v monitor_fields (side_first Secure ++ from_secure_mpu b) k.monitor k.secure (core_done v k units ready) (omega arith) a.1 in
      let d = fit_apart v (side_first Secure) (from_secure_mpu b) k.secure k.secure_mpu (monitor_done v k units ready) (omega arith) c.1 in
      let before = secure_done v k units ready in
      let e = fit_apart v (mpu_fields Secure 0 b.mpu_secure) (from_secure_timer b) k.secure_mpu k.secure_timer before (secure_mpu_end b) d.1 in
      let kept_s = kept_fit all_bits (rlar_bits b.profile) v b.mpu_secure k.secure_mpu 0 t.bus.mpu_s.regions (omega (arith, has.secure)) (mpu_fit v Secure b.mpu_secure k.secure_mpu 0 before e.0) in
      let on = subst (Fit v (from_secure_timer b) k.secure_timer) (mpu_done v Secure b.mpu_secure k.secure_mpu before has.secure kept_s) e.1 in
      let f = fit_apart v (side_last Secure) (side_first NonSecure ++ from_nonsecure_mpu b) k.secure_timer k.nonsecure (secure_mpu_done v k units ready) (omega arith) on in
      let i = fit_apart v (side_first NonSecure) (from_nonsecure_mpu b) k.nonsecure k.nonsecure_mpu (secure_timer_done v k units ready) (omega arith) f.1 in
      let before_ns = nonsecure_done v k units ready in
      let j = fit_apart v (mpu_fields NonSecure 0 b.mpu_nonsecure) (from_nonsecure_timer b) k.nonsecure_mpu k.nonsecure_timer before_ns (nonsecure_mpu_end b) i.1 in
      let fit_ns = mpu_fit v NonSecure b.mpu_nonsecure k.nonsecure_mpu 0 before_ns j.0 in
      let kept_ns = kept_fit all_bits (rlar_bits b.profile) v b.mpu_nonsecure k.nonsecure_mpu 0 t.bus.mpu_ns.regions (omega (arith, has.nonsecure)) fit_ns in
      let on_ns = subst (Fit v (from_nonsecure_timer b) k.nonsecure_timer) (mpu_done v NonSecure b.mpu_nonsecure k.nonsecure_mpu before_ns has.nonsecure kept_ns) j.1 in
      let l = fit_apart v (side_last NonSecure) (both_first ++ from_sau b) k.nonsecure_timer k.shared (nonsecure_mpu_done v k units ready) (omega arith) on_ns in
      let m = fit_apart v both_first (from_sau b) k.shared k.sau (nonsecure_timer_done v k units ready) (omega arith) l.1 in
      let before_sau = shared_done v k units ready in
      let n = fit_apart v (sau_fields 0 b.sau_regions) both_last k.sau k.last before_sau (sau_end b.sau_regions k.sau k.last refl) m.1 in
      let kept_sau = kept_fit sau_rbar_bits sau_rlar_bits v b.sau_regions k.sau 0 t.bus.sau.regions (omega (arith, has.sau)) (sau_fit v b.sau_regions k.sau 0 before_sau n.0) in
      let on_sau = subst (Fit v both_last k.last) (sau_is_done v b.sau_regions k.sau before_sau has.sau kept_sau) n.1 in
      record {
        groups = record { core = a.0; secure = d.0; secure_timer = f.0; nonsecure = i.0; nonsecure_timer = l.0; shared = m.0; last = on_sau };
        monitor = c.0;
        kept = record { secure = kept_s; nonsecure = kept_ns; sau = kept_sau };
      }

  pub all_fit : AllFit → Fit v (fields board) 0 ready
  all_fit h =
      let b = board in
      let k = from in
      let g = h.groups in
      let u = h.kept in
      let before_sau = shared_done v k units ready in
      let units_fit = fit_sau v b.sau_regions k.sau 0 before_sau (fit_kept sau_rbar_bits sau_rlar_bits v b.sau_regions k.sau 0 t.bus.sau.regions (omega (arith, has.sau)) u.sau) in
      let a = fit_both v (sau_fields 0 b.sau_regions) both_last k.sau k.last before_sau (sau_end b.sau_regions k.sau k.last refl) units_fit (subst (Fit v both_last k.last) (sym (sau_is u)) g.last) in
      let c = fit_both v both_first (from_sau b) k.shared k.sau (nonsecure_timer_done v k units ready) (omega arith) g.shared a in
      let d = fit_both v (side_last NonSecure) (both_first ++ from_sau b) k.nonsecure_timer k.shared (nonsecure_mpu_done v k units ready) (omega arith) g.nonsecure_timer c in
      let before_ns = nonsecure_done v k units ready in
      let ns_bounds = fit_kept all_bits (rlar_bits b.profile) v b.mpu_nonsecure k.nonsecure_mpu 0 t.bus.mpu_ns.regions (omega (arith, has.nonsecure)) u.nonsecure in
      let ns_fit = fit_mpu v NonSecure b.mpu_nonsecure k.nonsecure_mpu 0 before_ns ns_bounds in
      let e = fit_both v (mpu_fields NonSecure 0 b.mpu_nonsecure) (from_nonsecure_timer b) k.nonsecure_mpu k.nonsecure_timer before_ns (nonsecure_mpu_end b) ns_fit
      (subst (Fit v (from_nonsecure_timer b) k.nonsecure_timer) (sym (nonsecure_is u)) d) in
      let f = fit_both v (side_first NonSecure) (from_nonsecure_mpu b) k.nonsecure k.nonsecure_mpu (secure_timer_done v k units ready) (omega arith) g.nonsecure e in
      let i = fit_both v (side_last Secure) (side_first NonSecure ++ from_nonsecure_mpu b) k.secure_timer k.nonsecure (secure_mpu_done v k units ready) (omega arith) g.secure_timer f in
      let before = secure_done v k units ready in
      let s_bounds = fit_kept all_bits (rlar_bits b.profile) v b.mpu_secure k.secure_mpu 0 t.bus.mpu_s.regions (omega (arith, has.secure)) u.secure in
      let s_fit = fit_mpu v Secure b.mpu_secure k.secure_mpu 0 before s_bounds in
      let j = fit_both v (mpu_fields Secure 0 b.mpu_secure) (from_secure_timer b) k.secure_mpu k.secure_timer before (secure_mpu_end b) s_fit
      (subst (Fit v (from_secure_timer b) k.secure_timer) (sym (secure_is u)) i) in
      let l = fit_both v (side_first Secure) (from_secure_mpu b) k.secure k.secure_mpu (monitor_done v k units ready) (omega arith) g.secure j in
      let m = fit_both v monitor_fields (side_first Secure ++ from_secure_mpu b) k.monitor k.secure (core_done v k units ready) (omega arith) h.monitor l in
      let all = fit_both v core_fields (monitor_fields ++ (side_first Secure ++ from_secure_mpu b)) k.core k.monitor ready (omega arith) g.core m in
      subst (λ (fs : List Field). Fit v fs 0 ready) (sym (fields_grouped b)) all
