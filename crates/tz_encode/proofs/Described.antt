-- From what is shown of each row to what its slots answer.
use Rattle.std.proofs.Common.{◌≡◌, ℕ, zero, suc, Bool, true, false, ◌&&◌, List, [], ◌∷◌, length, refl, sym, subst}
use Rattle.std.specs.Prelude.{ℤ, pos, slice_get, Some, ◌==◌}
use Rattle.std.proofs.lemmas.Bool.{and_parts, eqb-true, leb-true}
use Rattle.tz_table.specs.Rows.{TableRow, row_of}
use Rattle.tz_encode.specs.Codes.{InRow}
use Rattle.tz_encode.specs.Numbers.{take_all, values_in}
use Rattle.tz_encode.specs.declared.slot.CodeSlot.{CodeSlot}
use Rattle.tz_encode.proofs.Describes.{Describes, AllWritten, Holds}
use Rattle.tz_encode.specs.declared.limit.Limit.{Limit}
use Rattle.tz_encode.specs.declared.limit.Limit.TheVariants.{Any, NonZero}
use Rattle.tz_encode.proofs.Codings.{tells}
use Rattle.tz_encode.proofs.Making.{LaidOut, LaidOut-from, laid_out}
use Rattle.tz_encode.proofs.Others.{unlisted_told, up_to_written}
use Rattle.tz_encode.proofs.Shifted.{kind_slot, amount_slot, shifted_written, shifted_told}
use Rattle.tz_encode.proofs.Telling.{is_regular, all_regular, all_written, written, told, all_tell, all_told, values_told, eight}
use Rattle.tz_table.specs.NarrowRows.{ldm}
use Rattle.tz_table.specs.DataRows.{bfi, bfc}
use Rattle.tz_table.proofs.Scans.{holds_parts}
use Rattle.tz_encode.proofs.NarrowLimited.{ldm_reads}
use Rattle.tz_encode.proofs.Reading.{Reads, shape, slot}

-- slots that write and tell their values by themselves
pub regular : (r : TableRow) (form : ℕ) (ts : List CodeSlot) → Reads r form ts → all_regular ts ≡ true → all_tell ts ≡ true → Describes r form ts
regular r form ts d w t = record {
  values = d.values;
  kept = d.kept;
  held = d.held;
  written = λ f s c. all_written (pos form ∷ []) ts f s w;
  told = λ zs f s l k h. all_told (pos form ∷ []) ts zs f s t l k h;
  fills = d.fills;
}

-- a shifted register: kind and amount tell each other
pub shifted : (r : TableRow) (form : ℕ) (a c d g h i : CodeSlot) (l m : Limit) → Reads r form (a ∷ kind_slot l ∷ c ∷ d ∷ g ∷ h ∷ i ∷ amount_slot m ∷ []) → (is_regular a && is_regular c && is_regular d && is_regular g && is_regular h && is_regular i) ≡ true → (tells a.coding && tells c.coding && tells d.coding && tells g.coding && tells h.coding && tells i.coding) ≡ true → Describes r form (a ∷ kind_slot l ∷ c ∷ d ∷ g ∷ h ∷ i ∷ amount_slot m ∷ [])
shifted r form a c d g h i l m x w t = record {
  values = x.values;
  kept = x.kept;
  held = x.held;
  written = λ f s y. shifted_written (pos form) a c d g h i l m f s w;
  told = λ zs f s n k y. shifted_told (pos form) a c d g h i l m zs f s t n k y;
  fills = x.fills;
}

-- slots of which one is written again beside another place
pub written_by : (r : TableRow) (form : ℕ) (ts : List CodeSlot) → Reads r form ts → ((f s : ℕ) → InRow r f s → AllWritten (pos form ∷ []) ts f s) → all_tell ts ≡ true → Describes r form ts
written_by r form ts d w t = record {
  values = d.values;
  kept = d.kept;
  held = d.held;
  written = w;
  told = λ zs f s l k h. all_told (pos form ∷ []) ts zs f s t l k h;
  fills = d.fills;
}

-- LDM of 16 bits: the list tells whether its base is written back
ldm_eight : (z1 z2 z3 z4 z5 z6 z7 z8 : ℤ) (f s : ℕ) → take_all (pos 62 ∷ []) (shape 67) (z1 ∷ z2 ∷ z3 ∷ z4 ∷ z5 ∷ z6 ∷ z7 ∷ z8 ∷ []) ≡ true → Holds (pos 62 ∷ []) (shape 67) (z1 ∷ z2 ∷ z3 ∷ z4 ∷ z5 ∷ z6 ∷ z7 ∷ z8 ∷ []) f s → values_in (pos 62 ∷ []) (shape 67) f s ≡ z1 ∷ z2 ∷ z3 ∷ z4 ∷ z5 ∷ z6 ∷ z7 ∷ z8 ∷ []
ldm_eight z1 z2 z3 z4 z5 z6 z7 z8 f s k x =
    let k1 = and_parts _ _ k in
    let k2 = and_parts _ _ k1.1 in
    let k3 = and_parts _ _ k2.1 in
    let k4 = and_parts _ _ k3.1 in
    let k5 = and_parts _ _ k4.1 in
    let k6 = and_parts _ _ k5.1 in
    let k7 = and_parts _ _ k6.1 in
    let k8 = and_parts _ _ k7.1 in
    values_told (pos 62 ∷ []) (shape 67) (z1 ∷ z2 ∷ z3 ∷ z4 ∷ z5 ∷ z6 ∷ z7 ∷ z8 ∷ []) f s refl (
      told (slot 67 0) (pos 62 ∷ []) z1 f s refl k1.0 x.0,
      (
        unlisted_told Any (pos 62 ∷ z1 ∷ []) (pos 62 ∷ z1 ∷ z2 ∷ z3 ∷ z4 ∷ z5 ∷ []) z2 (slot 67 5) z6 f s refl refl (sym x.1.1.1.1.0) (sym x.1.1.1.1.1.0) k2.0 k6.0,
        (
          told (slot 67 2) (pos 62 ∷ z1 ∷ z2 ∷ []) z3 f s refl k3.0 x.1.1.0,
          (
            told (slot 67 3) (pos 62 ∷ z1 ∷ z2 ∷ z3 ∷ []) z4 f s refl k4.0 x.1.1.1.0,
            (
              told (slot 67 4) (pos 62 ∷ z1 ∷ z2 ∷ z3 ∷ z4 ∷ []) z5 f s refl k5.0 x.1.1.1.1.0,
              (
                told (slot 67 5) (pos 62 ∷ z1 ∷ z2 ∷ z3 ∷ z4 ∷ z5 ∷ []) z6 f s refl k6.0 x.1.1.1.1.1.0,
                (
                  told (slot 67 6) (pos 62 ∷ z1 ∷ z2 ∷ z3 ∷ z4 ∷ z5 ∷ z6 ∷ []) z7 f s refl k7.0 x.1.1.1.1.1.1.0,
                  (told (slot 67 7) (pos 62 ∷ z1 ∷ z2 ∷ z3 ∷ z4 ∷ z5 ∷ z6 ∷ z7 ∷ []) z8 f s refl k8.0 x.1.1.1.1.1.1.1.0, tt),
                ),
              ),
            ),
          ),
        ),
      ),
    )

ldm_told : (zs : List ℤ) (f s : ℕ) → 8 ≡ length zs → take_all (pos 62 ∷ []) (shape 67) zs ≡ true → Holds (pos 62 ∷ []) (shape 67) zs f s → values_in (pos 62 ∷ []) (shape 67) f s ≡ zs
ldm_told zs f s n =
    let v = eight zs n in
    subst (λ vs. take_all (pos 62 ∷ []) (shape 67) vs ≡ true → Holds (pos 62 ∷ []) (shape 67) vs f s → values_in (pos 62 ∷ []) (shape 67) f s ≡ vs) (sym v.are)
    (λ k x. ldm_eight v.z1 v.z2 v.z3 v.z4 v.z5 v.z6 v.z7 v.z8 f s k x)

pub ldm_described : Describes ldm 62 (shape 67)
ldm_described = record {
  values = ldm_reads.values;
  kept = ldm_reads.kept;
  held = ldm_reads.held;
  written = λ f s c. all_written (pos 62 ∷ []) (shape 67) f s refl;
  told = ldm_told;
  fills = ldm_reads.fills;
}

-- ---- all rows

-- each row is described by its slots, which lie beside its fixed bits
abbrev pub AllDescribed : List TableRow → List (List CodeSlot) → Type 0
AllDescribed [] tss = Unit {0}
AllDescribed (r ∷ rs) [] = ⊥
AllDescribed (r ∷ rs) (ts ∷ tss) = Describes r (row_of r).form ts × AllDescribed rs tss

abbrev pub all_laid_out : List TableRow → List (List CodeSlot) → Bool
all_laid_out [] tss = true
all_laid_out (r ∷ rs) [] = false
all_laid_out (r ∷ rs) (ts ∷ tss) = laid_out r ts && (length ts == 8) && all_laid_out rs tss

pub record Shaped (r : TableRow) (ts : List CodeSlot) : Type 0 where
  pub described : Describes r (row_of r).form ts
  pub laid : LaidOut r ts
  pub eight : length ts ≡ 8

pub shaped_at : (rs : List TableRow) (tss : List (List CodeSlot)) (k : ℕ) (r : TableRow) (ts : List CodeSlot) → AllDescribed rs tss → all_laid_out rs tss ≡ true → slice_get rs k ≡ Some r → slice_get tss k ≡ Some ts → Shaped r ts
shaped_at [] tss k r ts d l a b = cc
shaped_at (q ∷ rs) [] k r ts d l a b = absurd d
shaped_at (q ∷ rs) (us ∷ tss) zero r ts d l a b =
    let x = and_parts (laid_out q us && (length us == 8)) (all_laid_out rs tss) l in
    let y = and_parts (laid_out q us) (length us == 8) x.0 in
    let row : q ≡ r = cc in
    let slots : us ≡ ts = cc in
    subst (λ p. Shaped p ts) row (subst (λ vs. Shaped q vs) slots (record { described = d.0; laid = LaidOut-from q us y.0; eight = eqb-true _ _ y.1 }))
shaped_at (q ∷ rs) (us ∷ tss) (suc k) r ts d l a b =
    let x = and_parts (laid_out q us && (length us == 8)) (all_laid_out rs tss) l in
    shaped_at rs tss k r ts d.1 x.1 a b

-- ---- BFI and BFC: the highest bit of a field isn't below its lowest

pub bfi_written : (f s : ℕ) → InRow bfi f s → AllWritten (pos 39 ∷ []) (shape 140) f s
bfi_written f s c =
    let limits = (holds_parts bfi f s c.held).0 in
    let order = leb-true _ _ (and_parts _ _ limits).1 in
    (written (slot 140 0) _ f s refl, (written (slot 140 1) _ f s refl, (written (slot 140 2) _ f s refl, (written (slot 140 3) _ f s refl, (written (slot 140 4) _ f s refl, (written (slot 140 5) _ f s refl, (written (slot 140 6) _ f s refl, (up_to_written NonZero (slot 140 7).parts _ f s refl order, tt))))))))

pub bfc_written : (f s : ℕ) → InRow bfc f s → AllWritten (pos 40 ∷ []) (shape 141) f s
bfc_written f s c =
    let limits = (holds_parts bfc f s c.held).0 in
    let order = leb-true _ _ (and_parts _ _ limits).1 in
    (written (slot 141 0) _ f s refl, (written (slot 141 1) _ f s refl, (written (slot 141 2) _ f s refl, (written (slot 141 3) _ f s refl, (written (slot 141 4) _ f s refl, (written (slot 141 5) _ f s refl, (written (slot 141 6) _ f s refl, (up_to_written NonZero (slot 141 7).parts _ f s refl order, tt))))))))
