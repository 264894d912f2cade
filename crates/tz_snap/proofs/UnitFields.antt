-- The fields of the regions of a unit, that of the number j first, and what their words make of a state.
use Rattle.std.proofs.Common.{◌≡◌, ℕ, zero, suc, ◌+◌, ◌*◌, ◌/◌, ◌%◌, List, map, refl, ap}
use Rattle.tz_table.specs.declared.units.Side.{Side}
use Rattle.tz_table.specs.declared.units.Side.TheVariants.{Secure, NonSecure}
use Rattle.tz_state.specs.declared.units.Bounds.{Bounds}
use Rattle.tz_state.specs.State.{State, mpu_of, with_mpu, with_bus}
use Rattle.tz_state.specs.UnitRegisters.{rlar_bits}
use Rattle.tz_fields.specs.declared.fields.Field.{Field}
use Rattle.tz_fields.specs.declared.fields.Field.TheVariants.{Banked, Shared}
use Rattle.tz_fields.specs.declared.fields.BankedField.TheVariants.{MpuRbar, MpuRlar}
use Rattle.tz_fields.specs.declared.fields.SharedField.TheVariants.{SauRbar, SauRlar}
use Rattle.tz_fields.specs.Fields.{mpu_region_fields, sau_region_fields}
use Rattle.tz_fields.specs.ReadWords.{written}
use Rattle.tz_snap.proofs.FieldsRead.{written_by, Fit, Each, Has, Leaves}
use Rattle.tz_snap.proofs.UnitBounds.{bounds_written, FitBounds, ToldBounds, SettledBounds}

abbrev pub mpu_fields : Side → ℕ → ℕ → List Field
mpu_fields side j n = map (Banked side) (mpu_region_fields j n)

abbrev pub sau_fields : ℕ → ℕ → List Field
sau_fields j n = map Shared (sau_region_fields j n)

-- a state with other regions of an MPU, or of the SAU
abbrev pub with_mpu_bounds : State → Side → List Bounds → State
with_mpu_bounds s side rs = with_bus s (with_mpu s.bus side (record (mpu_of side s.bus) { regions = rs }))

abbrev pub with_sau_bounds : State → List Bounds → State
with_sau_bounds s rs = with_bus s (record s.bus { sau = record s.bus.sau { regions = rs } })

-- RBAR of an MPU keeps all of a word
abbrev pub all_bits : ℕ → ℕ
all_bits w = w

abbrev pub sau_rbar_bits : ℕ → ℕ
sau_rbar_bits w = w / 32 * 32

abbrev pub sau_rlar_bits : ℕ → ℕ
sau_rlar_bits w = w / 32 * 32 + w % 4

module _ (v : ℕ → ℕ) where
  -- ---- of an MPU

  pub mpu_written : (side : Side) (n k j : ℕ) (s : State) →
      written_by v (mpu_fields side j n) k s ≡ with_mpu_bounds s side (bounds_written all_bits (rlar_bits s.bus.board.profile) v k j n (mpu_of side s.bus).regions)
  unfolding mpu_region_fields
  mpu_written Secure zero k j s = refl
  mpu_written NonSecure zero k j s = refl
  mpu_written Secure (suc n) k j s = mpu_written Secure n (k + 1 + 1) (j + 1) (written (written s (Banked Secure (MpuRbar j)) (v k)) (Banked Secure (MpuRlar j)) (v (k + 1)))
  mpu_written NonSecure (suc n) k j s = mpu_written NonSecure n (k + 1 + 1) (j + 1) (written (written s (Banked NonSecure (MpuRbar j)) (v k)) (Banked NonSecure (MpuRlar j)) (v (k + 1)))

  pub mpu_fit : (side : Side) (n k j : ℕ) (s : State) → Fit v (mpu_fields side j n) k s → FitBounds all_bits (rlar_bits s.bus.board.profile) v k j n (mpu_of side s.bus).regions
  unfolding mpu_region_fields
  mpu_fit side zero k j s h = tt
  mpu_fit Secure (suc n) k j s h = (h.0, h.1.0, mpu_fit Secure n (k + 1 + 1) (j + 1) (written (written s (Banked Secure (MpuRbar j)) (v k)) (Banked Secure (MpuRlar j)) (v (k + 1))) h.1.1)
  mpu_fit NonSecure (suc n) k j s h = (h.0, h.1.0, mpu_fit NonSecure n (k + 1 + 1) (j + 1) (written (written s (Banked NonSecure (MpuRbar j)) (v k)) (Banked NonSecure (MpuRlar j)) (v (k + 1))) h.1.1)

  pub fit_mpu : (side : Side) (n k j : ℕ) (s : State) → FitBounds all_bits (rlar_bits s.bus.board.profile) v k j n (mpu_of side s.bus).regions → Fit v (mpu_fields side j n) k s
  unfolding mpu_region_fields
  fit_mpu side zero k j s h = tt
  fit_mpu Secure (suc n) k j s h = (h.0, (h.1, fit_mpu Secure n (k + 1 + 1) (j + 1) (written (written s (Banked Secure (MpuRbar j)) (v k)) (Banked Secure (MpuRlar j)) (v (k + 1))) h.2))
  fit_mpu NonSecure (suc n) k j s h = (h.0, (h.1, fit_mpu NonSecure n (k + 1 + 1) (j + 1) (written (written s (Banked NonSecure (MpuRbar j)) (v k)) (Banked NonSecure (MpuRlar j)) (v (k + 1))) h.2))

  pub mpu_told : (side : Side) (n k j : ℕ) (s : State) → Each (Has v s) (mpu_fields side j n) k → ToldBounds v k j n (mpu_of side s.bus).regions
  unfolding mpu_region_fields
  mpu_told side zero k j s h = tt
  mpu_told side (suc n) k j s h = (h.0, h.1.0, mpu_told side n (k + 1 + 1) (j + 1) s h.1.1)

  pub told_mpu : (side : Side) (n k j : ℕ) (s : State) → ToldBounds v k j n (mpu_of side s.bus).regions → Each (Has v s) (mpu_fields side j n) k
  unfolding mpu_region_fields
  told_mpu side zero k j s h = tt
  told_mpu side (suc n) k j s h = (h.0, (h.1, told_mpu side n (k + 1 + 1) (j + 1) s h.2))

  pub mpu_settled : (side : Side) (n k j : ℕ) (s : State) → Each (Leaves v s) (mpu_fields side j n) k → SettledBounds all_bits (rlar_bits s.bus.board.profile) v k j n (mpu_of side s.bus).regions
  unfolding mpu_region_fields
  mpu_settled side zero k j s h = tt
  mpu_settled Secure (suc n) k j s h = (ap (λ (t : State). t.bus.mpu_s.regions) h.0, ap (λ (t : State). t.bus.mpu_s.regions) h.1.0, mpu_settled Secure n (k + 1 + 1) (j + 1) s h.1.1)
  mpu_settled NonSecure (suc n) k j s h = (ap (λ (t : State). t.bus.mpu_ns.regions) h.0, ap (λ (t : State). t.bus.mpu_ns.regions) h.1.0, mpu_settled NonSecure n (k + 1 + 1) (j + 1) s h.1.1)

  pub settled_mpu : (side : Side) (n k j : ℕ) (s : State) → SettledBounds all_bits (rlar_bits s.bus.board.profile) v k j n (mpu_of side s.bus).regions → Each (Leaves v s) (mpu_fields side j n) k
  unfolding mpu_region_fields
  settled_mpu side zero k j s h = tt
  settled_mpu Secure (suc n) k j s h = (ap (with_mpu_bounds s Secure) h.0, (ap (with_mpu_bounds s Secure) h.1, settled_mpu Secure n (k + 1 + 1) (j + 1) s h.2))
  settled_mpu NonSecure (suc n) k j s h = (ap (with_mpu_bounds s NonSecure) h.0, (ap (with_mpu_bounds s NonSecure) h.1, settled_mpu NonSecure n (k + 1 + 1) (j + 1) s h.2))

  -- ---- of the SAU

  pub sau_written : (n k j : ℕ) (s : State) → written_by v (sau_fields j n) k s ≡ with_sau_bounds s (bounds_written sau_rbar_bits sau_rlar_bits v k j n s.bus.sau.regions)
  unfolding sau_region_fields
  sau_written zero k j s = refl
  sau_written (suc n) k j s = sau_written n (k + 1 + 1) (j + 1) (written (written s (Shared (SauRbar j)) (v k)) (Shared (SauRlar j)) (v (k + 1)))

  pub sau_fit : (n k j : ℕ) (s : State) → Fit v (sau_fields j n) k s → FitBounds sau_rbar_bits sau_rlar_bits v k j n s.bus.sau.regions
  unfolding sau_region_fields
  sau_fit zero k j s h = tt
  sau_fit (suc n) k j s h = (h.0, h.1.0, sau_fit n (k + 1 + 1) (j + 1) (written (written s (Shared (SauRbar j)) (v k)) (Shared (SauRlar j)) (v (k + 1))) h.1.1)

  pub fit_sau : (n k j : ℕ) (s : State) → FitBounds sau_rbar_bits sau_rlar_bits v k j n s.bus.sau.regions → Fit v (sau_fields j n) k s
  unfolding sau_region_fields
  fit_sau zero k j s h = tt
  fit_sau (suc n) k j s h = (h.0, (h.1, fit_sau n (k + 1 + 1) (j + 1) (written (written s (Shared (SauRbar j)) (v k)) (Shared (SauRlar j)) (v (k + 1))) h.2))

  pub sau_told : (n k j : ℕ) (s : State) → Each (Has v s) (sau_fields j n) k → ToldBounds v k j n s.bus.sau.regions
  unfolding sau_region_fields
  sau_told zero k j s h = tt
  sau_told (suc n) k j s h = (h.0, h.1.0, sau_told n (k + 1 + 1) (j + 1) s h.1.1)

  pub told_sau : (n k j : ℕ) (s : State) → ToldBounds v k j n s.bus.sau.regions → Each (Has v s) (sau_fields j n) k
  unfolding sau_region_fields
  told_sau zero k j s h = tt
  told_sau (suc n) k j s h = (h.0, (h.1, told_sau n (k + 1 + 1) (j + 1) s h.2))

  pub sau_settled : (n k j : ℕ) (s : State) → Each (Leaves v s) (sau_fields j n) k → SettledBounds sau_rbar_bits sau_rlar_bits v k j n s.bus.sau.regions
  unfolding sau_region_fields
  sau_settled zero k j s h = tt
  sau_settled (suc n) k j s h = (ap (λ (t : State). t.bus.sau.regions) h.0, ap (λ (t : State). t.bus.sau.regions) h.1.0, sau_settled n (k + 1 + 1) (j + 1) s h.1.1)

  pub settled_sau : (n k j : ℕ) (s : State) → SettledBounds sau_rbar_bits sau_rlar_bits v k j n s.bus.sau.regions → Each (Leaves v s) (sau_fields j n) k
  unfolding sau_region_fields
  settled_sau zero k j s h = tt
  settled_sau (suc n) k j s h = (ap (with_sau_bounds s) h.0, (ap (with_sau_bounds s) h.1, settled_sau n (k + 1 + 1) (j + 1) s h.2))
