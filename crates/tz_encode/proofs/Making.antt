-- The code that is made of values which the slots take.
use Rattle.std.proofs.Common.{◌≡◌, ℕ, ◌+◌, ◌*◌, ◌/◌, ◌<◌, ◌^◌, Bool, true, ◌&&◌, List, [], ◌∷◌, ◌++◌, length, refl, ◌∙◌, ap, arith, subst}
use Rattle.std.specs.Prelude.{ℤ, ◌==◌, nat_lt}
use Rattle.std.proofs.lemmas.Bool.{and_parts, eqb-true, ltb-true}
use Rattle.tz_table.specs.Patterns.{in_cube}
use Rattle.tz_table.specs.Rows.{TableRow}
use Rattle.tz_table.specs.declared.units.Width.{Width}
use Rattle.tz_table.specs.declared.units.Width.TheVariants.{Narrow, Wide}
use Rattle.tz_table.proofs.Reduction.{inside, cube_of_all}
use Rattle.tz_encode.specs.Codes.{seconds}
use Rattle.tz_encode.specs.Numbers.{take_all, code_bits}
use Rattle.tz_encode.specs.Slots.{lies_in}
use Rattle.tz_encode.specs.declared.slot.Half.{Half}
use Rattle.tz_encode.specs.declared.slot.Half.TheVariants.{First, Second}
use Rattle.tz_encode.specs.declared.slot.Part.{Part}
use Rattle.tz_encode.specs.declared.slot.CodeSlot.{CodeSlot}
use Rattle.tz_encode.proofs.Apart.{all_apart, all_parts, same_half}
use Rattle.tz_encode.proofs.Describes.{Holds}
use Rattle.tz_encode.proofs.Writes.{Write, parts_of, after, after_all, written_all, below_all, all_below, sum_bits}
use Rattle.tz_encode.proofs.Cubes.{fixed, fields_at, all_fixed, all_apart_from, in_cube_by, same_kept}
use Rattle.tz_encode.proofs.Placing.{writes_of, after_writes, parts_of_writes, slots_zero, clear_writes, holds_written}

-- ---- what is computed of a row and its slots: fixed bits and parts are apart

abbrev pub only_first : List Part → Bool
only_first [] = true
only_first (p ∷ ps) = same_half p.half First && only_first ps

abbrev pub second_fits : Width → ℕ → List Part → Bool
second_fits Narrow s ps = s == 0 && only_first ps
second_fits Wide s ps = true

abbrev pub laid_out : TableRow → List CodeSlot → Bool
laid_out r ts =
    let c = r.pattern.cube in
    let ps = all_parts ts in
    let f = c.first_value in
    let s = c.second_value in
    all_apart ps && (all_apart_from (fixed c) ps && (all_apart (fixed c ++ ps) && (slots_zero ts f s && (all_below 16 ps && (inside (cube_of_all (fields_at (fixed c) f s)) c && (all_fixed c (fixed c) f s && (sum_bits First (fixed c) f s == f && (sum_bits Second (fixed c) f s == s && (nat_lt f 65536 && (nat_lt s 65536 && second_fits r.width s ps))))))))))

pub record LaidOut (r : TableRow) (ts : List CodeSlot) : Type 0 where
  pub apart : all_apart (all_parts ts) ≡ true
  pub fixed_apart : all_apart_from (fixed r.pattern.cube) (all_parts ts) ≡ true
  pub both_apart : all_apart (fixed r.pattern.cube ++ all_parts ts) ≡ true
  pub zeros : slots_zero ts r.pattern.cube.first_value r.pattern.cube.second_value ≡ true
  pub below : all_below 16 (all_parts ts) ≡ true
  pub covers : inside (cube_of_all (fields_at (fixed r.pattern.cube) r.pattern.cube.first_value r.pattern.cube.second_value)) r.pattern.cube ≡ true
  pub covered : all_fixed r.pattern.cube (fixed r.pattern.cube) r.pattern.cube.first_value r.pattern.cube.second_value ≡ true
  pub first_sum : sum_bits First (fixed r.pattern.cube) r.pattern.cube.first_value r.pattern.cube.second_value ≡ r.pattern.cube.first_value
  pub second_sum : sum_bits Second (fixed r.pattern.cube) r.pattern.cube.first_value r.pattern.cube.second_value ≡ r.pattern.cube.second_value
  pub first_below : r.pattern.cube.first_value < 65536
  pub second_below : r.pattern.cube.second_value < 65536
  pub second : second_fits r.width r.pattern.cube.second_value (all_parts ts) ≡ true

pub LaidOut-from : (r : TableRow) (ts : List CodeSlot) → laid_out r ts ≡ true → LaidOut r ts
LaidOut-from r ts h =
    let a = and_parts _ _ h in
    let b = and_parts _ _ a.1 in
    let c = and_parts _ _ b.1 in
    let d = and_parts _ _ c.1 in
    let e = and_parts _ _ d.1 in
    let g = and_parts _ _ e.1 in
    let i = and_parts _ _ g.1 in
    let j = and_parts _ _ i.1 in
    let k = and_parts _ _ j.1 in
    let l = and_parts _ _ k.1 in
    let m = and_parts _ _ l.1 in
    record {
      apart = a.0;
      fixed_apart = b.0;
      both_apart = c.0;
      zeros = d.0;
      below = e.0;
      covers = g.0;
      covered = i.0;
      first_sum = eqb-true _ _ j.0;
      second_sum = eqb-true _ _ k.0;
      first_below = ltb-true _ _ l.0;
      second_below = ltb-true _ _ m.0;
      second = m.1;
    }

-- ---- the code of values that the slots take

second_kept : (h : Half) (n x : ℕ) → same_half h First ≡ true → n + lies_in Second h x ≡ n
second_kept First n x e = omega arith
second_kept Second n x e = cc

stays_first : (ws : List Write) (n : ℕ) → only_first (parts_of ws) ≡ true → after_all Second ws n ≡ n
stays_first [] n h = refl
stays_first (w ∷ ws) n h =
    let x = and_parts (same_half w.part.half First) (only_first (parts_of ws)) h in
    stays_first ws (after Second w n) x.1 ∙ second_kept w.part.half n (w.digit * 2 ^ w.part.low) x.0

below_seconds : (w : Width) (ws : List Write) (s : ℕ) → second_fits w s (parts_of ws) ≡ true → after_all Second ws s / 2 ^ 16 ≡ 0 → after_all Second ws s < seconds w
below_seconds Narrow ws s h d =
    let x = and_parts (s == 0) (only_first (parts_of ws)) h in
    let none : s ≡ 0 = eqb-true _ _ x.0 in
    let same = stays_first ws s x.1 in
    omega arith
below_seconds Wide ws s h d = omega arith

small : (n : ℕ) → n < 65536 → n / 2 ^ 16 ≡ 0
small n h = omega arith

below_16 : (n : ℕ) → n / 2 ^ 16 ≡ 0 → n < 65536
below_16 n h = omega arith

-- a code with the row's fixed bits that holds the numbers of the values
pub record Made (r : TableRow) (e : List ℤ) (ts : List CodeSlot) (zs : List ℤ) (f s : ℕ) : Type 0 where
  pub first_fits : f < 65536
  pub second_fits : s < seconds r.width
  pub second_below : s < 65536
  pub fixed_bits : in_cube r.pattern.cube f s ≡ true
  pub numbers : Holds e ts zs f s

pub made_code : (r : TableRow) (e : List ℤ) (ts : List CodeSlot) (zs : List ℤ) → LaidOut r ts → length ts ≡ length zs → take_all e ts zs ≡ true → Made r e ts zs (r.pattern.cube.first_value + code_bits First e ts zs) (r.pattern.cube.second_value + code_bits Second e ts zs)
made_code r e ts zs o l h =
    let ws = writes_of e ts zs in
    let f = r.pattern.cube.first_value in
    let s = r.pattern.cube.second_value in
    let parts = parts_of_writes e ts zs l in
    let clear = clear_writes e ts zs f s o.zeros in
    let apart : all_apart (parts_of (writes_of e ts zs)) ≡ true = ap all_apart parts ∙ o.apart in
    let below : all_below 16 (parts_of (writes_of e ts zs)) ≡ true = ap (all_below 16) parts ∙ o.below in
    let first_is = after_writes First e ts zs f in
    let second_is = after_writes Second e ts zs s in
    let first_small : after_all First (writes_of e ts zs) f / 2 ^ 16 ≡ 0 = below_all First (writes_of e ts zs) f s 16 clear apart below ∙ small f o.first_below in
    let second_small : after_all Second (writes_of e ts zs) s / 2 ^ 16 ≡ 0 = below_all Second (writes_of e ts zs) f s 16 clear apart below ∙ small s o.second_below in
    let kept = same_kept (fixed r.pattern.cube) (writes_of e ts zs) f s clear apart (ap (all_apart_from (fixed r.pattern.cube)) parts ∙ o.fixed_apart) in
    let made : Made r e ts zs (after_all First (writes_of e ts zs) f) (after_all Second (writes_of e ts zs) s) = record {
      first_fits = below_16 (after_all First (writes_of e ts zs) f) first_small;
      second_fits = below_seconds r.width (writes_of e ts zs) s (ap (second_fits r.width s) parts ∙ o.second) second_small;
      second_below = below_16 (after_all Second (writes_of e ts zs) s) second_small;
      fixed_bits = in_cube_by r.pattern.cube (after_all First (writes_of e ts zs) f) (after_all Second (writes_of e ts zs) s) f s o.covers kept;
      numbers = holds_written e ts zs (after_all First (writes_of e ts zs) f) (after_all Second (writes_of e ts zs) s) h (written_all (writes_of e ts zs) f s clear apart);
    } in
    subst (λ n. Made r e ts zs n (s + code_bits Second e ts zs)) first_is (subst (λ n. Made r e ts zs (after_all First (writes_of e ts zs) f) n) second_is made)
