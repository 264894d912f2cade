-- The two slots of a banked number are of the sides that they are named with.
use Rattle.std.proofs.Common.{◌≡◌, ◌⊎◌, inl, inr, ℕ, Bool, true, false, refl, arith}
use Rattle.std.specs.Prelude.{◌||◌}
use Rattle.std.proofs.lemmas.Bool.Decides.{nat_tests}
use Rattle.tz_table.specs.declared.units.Side.{Side}
use Rattle.tz_table.specs.declared.units.Side.TheVariants.{Secure, NonSecure}
use Rattle.tz_model.specs.declared.report.Slot.{Slot}
use Rattle.tz_state.specs.Slots.{ExceptionsValue, is_banked, index_of, side_at}
use Rattle.tz_frames.specs.Leave.{is_side}

-- the numbers, one by one
banked_one : (n : ℕ) → is_banked n ≡ true → (n ≡ 3) ⊎ ((n ≡ 4) ⊎ ((n ≡ 6) ⊎ ((n ≡ 11) ⊎ ((n ≡ 14) ⊎ (n ≡ 15)))))
banked_one n h = grind (arith, nat_tests)

of_side : (e : ExceptionsValue) (n : ℕ) (side : Side) → (n ≡ 3) ⊎ ((n ≡ 4) ⊎ ((n ≡ 6) ⊎ ((n ≡ 11) ⊎ ((n ≡ 14) ⊎ (n ≡ 15))))) → is_side side (side_at e (index_of (record { number = n; side = side }))) ≡ true
of_side e n Secure (inl p) = rw p refl
of_side e n NonSecure (inl p) = rw p refl
of_side e n Secure (inr (inl p)) = rw p refl
of_side e n NonSecure (inr (inl p)) = rw p refl
of_side e n Secure (inr (inr (inl p))) = rw p refl
of_side e n NonSecure (inr (inr (inl p))) = rw p refl
of_side e n Secure (inr (inr (inr (inl p)))) = rw p refl
of_side e n NonSecure (inr (inr (inr (inl p)))) = rw p refl
of_side e n Secure (inr (inr (inr (inr (inl p))))) = rw p refl
of_side e n NonSecure (inr (inr (inr (inr (inl p))))) = rw p refl
of_side e n Secure (inr (inr (inr (inr (inr p))))) = rw p refl
of_side e n NonSecure (inr (inr (inr (inr (inr p))))) = rw p refl

by_either : (b r : Bool) → (b ≡ true → r ≡ true) → r ≡ (b || r)
by_either true r h = h refl
by_either false r h = refl

pub banked_side : (e : ExceptionsValue) (slot : Slot) → is_side slot.side (side_at e (index_of slot)) ≡ (is_banked slot.number || is_side slot.side (side_at e (index_of slot)))
banked_side e slot = by_either (is_banked slot.number) _ (λ h. of_side e slot.number slot.side (banked_one slot.number h))
