-- All fields of a board: what words that fit them make of a state, and that the words of a state fit them.
use Rattle.std.proofs.Common.{◌≡◌, ℕ, List, length, refl, sym, ap, ◌∙◌, subst, arith}
use Rattle.tz_table.specs.declared.units.Side.TheVariants.{Secure, NonSecure}
use Rattle.tz_model.specs.declared.board.Profile.{Profile}
use Rattle.tz_model.specs.Board.{BoardValue}
use Rattle.tz_model.specs.declared.channel.Channels.{Channels}
use Rattle.tz_state.specs.declared.slot.SlotState.{SlotState}
use Rattle.tz_state.specs.State.{State}
use Rattle.tz_state.specs.UnitRegisters.{rlar_bits}
use Rattle.tz_fields.specs.Fields.{fields}
use Rattle.tz_snap.proofs.FieldsRead.{written_by, Fit, Each, Has, Leaves}
use Rattle.tz_snap.proofs.UnitBounds.{Kept, told_bounds, bounds_told, settled_kept, kept_settled}
use Rattle.tz_snap.proofs.UnitFields.{all_bits, sau_rbar_bits, sau_rlar_bits, mpu_told, told_mpu, mpu_settled, settled_mpu, sau_told, told_sau, sau_settled, settled_sau}
use Rattle.tz_snap.proofs.Groups.{all_done, with_rest, readied, thirteen, grafted, groups_told, groups_settled, monitor_told, monitor_settled, monitor_fit, all_back, groups_accept}
use Rattle.tz_snap.proofs.AllFields.{starts_of, units_from, UnitsKept, HasUnits, AllFit, grouped_all, all_grouped, all_written, all_fit}

module _ (v : ℕ → ℕ) (t : State) (rs : List ℕ) (has : HasUnits t.bus.board t) where
  abbrev b : BoardValue
  b = t.bus.board

  abbrev ready : State
  ready = readied t (thirteen rs)

  -- the state with these words, and with slots and channels
  abbrev pub made : List SlotState → Channels → State
  made xs c = with_rest (all_done v (starts_of b) (units_from v b) ready) xs c

  pub made_told : (xs : List SlotState) (c : Channels) → AllFit v t rs has → Each (Has v (made xs c)) (fields b) 0
  made_told xs c h =
      let k = starts_of b in
      let u = units_from v b in
      grouped_all (Has v (made xs c)) b (record {
        groups = groups_told v k u t rs xs c h.groups;
        monitor = monitor_told v k u t rs xs c h.monitor;
        secure = told_mpu v Secure b.mpu_secure k.secure_mpu 0 (made xs c) (told_bounds v b.mpu_secure k.secure_mpu 0 u.secure refl);
        nonsecure = told_mpu v NonSecure b.mpu_nonsecure k.nonsecure_mpu 0 (made xs c) (told_bounds v b.mpu_nonsecure k.nonsecure_mpu 0 u.nonsecure refl);
        sau = told_sau v b.sau_regions k.sau 0 (made xs c) (told_bounds v b.sau_regions k.sau 0 u.sau refl);
      })

  pub made_settled : (xs : List SlotState) (c : Channels) → AllFit v t rs has → Each (Leaves v (made xs c)) (fields b) 0
  made_settled xs c h =
      let k = starts_of b in
      let u = units_from v b in
      let d = rlar_bits b.profile in
      grouped_all (Leaves v (made xs c)) b (record {
        groups = groups_settled v k u t rs xs c;
        monitor = monitor_settled v k u t rs xs c h.monitor;
        secure = settled_mpu v Secure b.mpu_secure k.secure_mpu 0 (made xs c)
            (settled_kept all_bits d v b.mpu_secure k.secure_mpu 0 u.secure h.kept.secure (told_bounds v b.mpu_secure k.secure_mpu 0 u.secure refl));
        nonsecure = settled_mpu v NonSecure b.mpu_nonsecure k.nonsecure_mpu 0 (made xs c)
            (settled_kept all_bits d v b.mpu_nonsecure k.nonsecure_mpu 0 u.nonsecure h.kept.nonsecure (told_bounds v b.mpu_nonsecure k.nonsecure_mpu 0 u.nonsecure refl));
        sau = settled_sau v b.sau_regions k.sau 0 (made xs c)
            (settled_kept sau_rbar_bits sau_rlar_bits v b.sau_regions k.sau 0 u.sau h.kept.sau (told_bounds v b.sau_regions k.sau 0 u.sau refl));
      })

  -- words of a state, and where they are written
  pub fields_accepted : (s : State) → HasUnits b s → s.bus.board ≡ b → length s.core.registers.general ≡ 13 → Each (Has v s) (fields b) 0 → Each (Leaves v s) (fields b) 0
      → Fit v (fields b) 0 ready × (written_by v (fields b) 0 ready ≡ grafted t s.bus.monitor s)
  fields_accepted s units board size told settled =
      let k = starts_of b in
      let u = units_from v b in
      let h = all_grouped (Has v s) b told in
      let i = all_grouped (Leaves v s) b settled in
      let secure = mpu_told v Secure b.mpu_secure k.secure_mpu 0 s h.secure in
      let nonsecure = mpu_told v NonSecure b.mpu_nonsecure k.nonsecure_mpu 0 s h.nonsecure in
      let sau = sau_told v b.sau_regions k.sau 0 s h.sau in
      let profile : s.bus.board.profile ≡ b.profile = ap (λ (x : BoardValue). x.profile) board in
      let secure_settled = mpu_settled v Secure b.mpu_secure k.secure_mpu 0 s i.secure in
      let nonsecure_settled = mpu_settled v NonSecure b.mpu_nonsecure k.nonsecure_mpu 0 s i.nonsecure in
      let kept : UnitsKept v b =
      record {
        secure = subst (λ (p : Profile). Kept all_bits (rlar_bits p) v k.secure_mpu b.mpu_secure) profile
            (kept_settled all_bits (rlar_bits s.bus.board.profile) v b.mpu_secure k.secure_mpu 0 s.bus.mpu_s.regions (omega (arith, units.secure)) secure secure_settled);
        nonsecure = subst (λ (p : Profile). Kept all_bits (rlar_bits p) v k.nonsecure_mpu b.mpu_nonsecure) profile
            (kept_settled all_bits (rlar_bits s.bus.board.profile) v b.mpu_nonsecure k.nonsecure_mpu 0 s.bus.mpu_ns.regions (omega (arith, units.nonsecure)) nonsecure nonsecure_settled);
        sau = kept_settled sau_rbar_bits sau_rlar_bits v b.sau_regions k.sau 0 s.bus.sau.regions (omega (arith, units.sau)) sau (sau_settled v b.sau_regions k.sau 0 s i.sau);
      }
      in
      let back = all_back v k u t s rs size i.groups h.monitor (record {
        secure = sym (bounds_told v b.mpu_secure k.secure_mpu 0 s.bus.mpu_s.regions (omega (arith, units.secure)) secure);
        nonsecure = sym (bounds_told v b.mpu_nonsecure k.nonsecure_mpu 0 s.bus.mpu_ns.regions (omega (arith, units.nonsecure)) nonsecure);
        sau = sym (bounds_told v b.sau_regions k.sau 0 s.bus.sau.regions (omega (arith, units.sau)) sau);
      }) in (
        all_fit v t rs has (record {
          groups = groups_accept v k u t s rs back h.groups;
          monitor = monitor_fit v k u t s rs h.monitor;
          kept = kept;
        }),
        all_written v t rs has kept ∙ back,
      )
