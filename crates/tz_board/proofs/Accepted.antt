-- What is accepted is within the ranges of a board.
use Rattle.std.proofs.Common.{◌≡◌, ◌≤◌, ◌<◌, refl, arith, true, ◌&&◌, nat_le, List, [], ◌∷◌, ◌++◌, length, None, IsTrue}
use Rattle.std.proofs.lemmas.Bool.{and_from, and_parts, le-leb}
use Rattle.tz_model.specs.Board.{BoardValue, IsBoard, are_regions, are_sau_regions, bytes_of, is_region, is_sau_region, is_vtor, most_bytes, within}
use Rattle.tz_model.specs.declared.board.Region.{Region}
use Rattle.tz_model.specs.declared.board.SauRegion.{SauRegion}
use Rattle.tz_board.specs.Boards.{first_overlap, is_small}
use Rattle.tz_board.proofs.Overlaps.{no_overlap}

pub are_regions-last : (rs : List Region) (r : Region) → IsTrue (are_regions rs) → IsTrue (is_region r) → IsTrue (are_regions (rs ++ r ∷ []))
are_regions-last [] r h here = and_from (is_region r) true here refl
are_regions-last (q ∷ rs) r h here =
    let parts = and_parts (is_region q) (are_regions rs) h in
    and_from (is_region q) (are_regions (rs ++ r ∷ [])) parts.0 (are_regions-last rs r parts.1 here)

pub are_sau_regions-last : (rs : List SauRegion) (r : SauRegion) → IsTrue (are_sau_regions rs) → IsTrue (is_sau_region r) → IsTrue (are_sau_regions (rs ++ r ∷ []))
are_sau_regions-last [] r h here = and_from (is_sau_region r) true here refl
are_sau_regions-last (q ∷ rs) r h here =
    let parts = and_parts (is_sau_region q) (are_sau_regions rs) h in
    and_from (is_sau_region q) (are_sau_regions (rs ++ r ∷ [])) parts.0 (are_sau_regions-last rs r parts.1 here)

-- a board within the limits meets what every board meets
pub is_board : (b : BoardValue) → IsTrue (is_vtor b.secure_vtor) → IsTrue (is_vtor b.nonsecure_vtor) → IsTrue (within 1 240 b.interrupts) → b.sau_regions ≤ 8 → b.mpu_secure ≤ 16 → b.mpu_nonsecure ≤ 16
    → 0 < length b.regions → IsTrue (are_regions b.regions) → IsTrue (are_sau_regions b.sau) → is_small b ≡ true → first_overlap [] b.regions ≡ None → IsBoard b
is_board b secure nonsecure interrupts sau_regions mpu_secure mpu_nonsecure some regions sau small apart =
    let all = and_parts (nat_le (length b.regions) 32) (nat_le (length b.sau) b.sau_regions && nat_le (bytes_of b.regions) most_bytes) small in
    let rest = and_parts (nat_le (length b.sau) b.sau_regions) (nat_le (bytes_of b.regions) most_bytes) all.1 in
    record {
      vtors = and_from (is_vtor b.secure_vtor) (is_vtor b.nonsecure_vtor) secure nonsecure;
      counts = and_from (within 1 240 b.interrupts) _ interrupts
          (and_from (nat_le b.sau_regions 8) _ (le-leb b.sau_regions 8 sau_regions) (and_from (nat_le b.mpu_secure 16) (nat_le b.mpu_nonsecure 16) (le-leb b.mpu_secure 16 mpu_secure) (le-leb b.mpu_nonsecure 16 mpu_nonsecure)));
      some_regions = and_from (nat_le 1 (length b.regions)) (nat_le (length b.regions) 32) (le-leb 1 (length b.regions) (omega arith)) all.0;
      regions = regions;
      apart = no_overlap b.regions apart;
      small = rest.1;
      few_sau = rest.0;
      sau = sau;
    }
