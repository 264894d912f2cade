-- The words before those of the state are words.
use Rattle.std.proofs.Common.{ℕ, ◌+◌, ◌^◌, ◌<◌, ◌≤◌, nat_le, nat_lt, Bool, true, false, if◌then◌else◌, List, [], ◌∷◌, length, arith, IsTrue}
use Rattle.std.proofs.lemmas.Bool.{and_parts, leb-true, ltb-true}
use Rattle.tz_model.specs.declared.board.Region.{Region}
use Rattle.tz_model.specs.declared.board.RegionKind.{RegionKind}
use Rattle.tz_model.specs.declared.board.RegionKind.TheVariants.{Rom, Ram}
use Rattle.tz_model.specs.declared.board.RegionSide.{RegionSide}
use Rattle.tz_model.specs.declared.board.RegionSide.TheVariants.{Secure, Nsc, NonSecure}
use Rattle.tz_model.specs.declared.board.Profile.{Profile}
use Rattle.tz_model.specs.declared.board.Profile.TheVariants.{V80, V81}
use Rattle.tz_model.specs.Board.{BoardValue, IsBoard, are_regions, is_region, is_multiple, is_vtor, within}
use Rattle.tz_snap.specs.StateFile.{kind_number, side_number, profile_number, profile_word, region_words, board_words, head_words, magic, most_steps}
use Rattle.tz_fields.specs.ReadWords.{AreWords}
use Rattle.tz_snap.proofs.Words.{no_words, one_more_word}

kind_fits : (k : RegionKind) → kind_number k < 2 ^ 32
kind_fits Rom = omega arith
kind_fits Ram = omega arith

side_fits : (s : RegionSide) → side_number s < 2 ^ 32
side_fits Secure = omega arith
side_fits Nsc = omega arith
side_fits NonSecure = omega arith

profile_fits : (p : Profile) (mover : Bool) → profile_number p + (if mover then 2 else 0) < 2 ^ 32
profile_fits V80 true = omega arith
profile_fits V80 false = omega arith
profile_fits V81 true = omega arith
profile_fits V81 false = omega arith

vtor_fits : (n : ℕ) → IsTrue (is_vtor n) → n < 2 ^ 32
vtor_fits n h = ltb-true n (2 ^ 32) (and_parts (is_multiple 128 n) (nat_lt n (2 ^ 32)) h).1

region_fits : (r : Region) → IsTrue (is_region r) → r.base + r.size ≤ 0xE0000000
region_fits r h =
    let one = and_parts (is_multiple 32 r.base) _ h in
    let two = and_parts (is_multiple 32 r.size) _ one.1 in
    let three = and_parts (nat_le 32 r.size) (nat_le (r.base + r.size) 0xE0000000) two.1 in
    leb-true (r.base + r.size) 0xE0000000 three.1

regions_fit : (rs : List Region) → IsTrue (are_regions rs) → AreWords (region_words rs)
regions_fit [] h = no_words
regions_fit (r ∷ rs) h =
    let parts = and_parts (is_region r) (are_regions rs) h in
    let fits = region_fits r parts.0 in
    let rest = region_words rs in
    let sides = side_number r.side ∷ rest in
    let kinds = kind_number r.kind ∷ sides in
    one_more_word r.base (r.size ∷ kinds) (omega arith)
    (one_more_word r.size kinds (omega arith)
    (one_more_word (kind_number r.kind) sides (kind_fits r.kind)
    (one_more_word (side_number r.side) rest (side_fits r.side) (regions_fit rs parts.1))))

-- the words of a board
pub board_fits : (b : BoardValue) → IsBoard b → AreWords (board_words b)
board_fits b h =
    let vtors = and_parts (is_vtor b.secure_vtor) (is_vtor b.nonsecure_vtor) h.vtors in
    let one = and_parts (within 1 240 b.interrupts) _ h.counts in
    let two = and_parts (nat_le b.sau_regions 8) _ one.1 in
    let three = and_parts (nat_le b.mpu_secure 16) (nat_le b.mpu_nonsecure 16) two.1 in
    let interrupts : b.interrupts ≤ 240 = leb-true b.interrupts 240 (and_parts (nat_le 1 b.interrupts) (nat_le b.interrupts 240) one.0).1 in
    let sau : b.sau_regions ≤ 8 = leb-true b.sau_regions 8 two.0 in
    let secure : b.mpu_secure ≤ 16 = leb-true b.mpu_secure 16 three.0 in
    let nonsecure : b.mpu_nonsecure ≤ 16 = leb-true b.mpu_nonsecure 16 three.1 in
    let count : length b.regions ≤ 32 = leb-true (length b.regions) 32 (and_parts (nat_le 1 (length b.regions)) (nat_le (length b.regions) 32) h.some_regions).1 in
    let eight = region_words b.regions in
    let seven = length b.regions ∷ eight in
    let six = profile_word b ∷ seven in
    let five = b.mpu_nonsecure ∷ six in
    let four = b.mpu_secure ∷ five in
    let third = b.sau_regions ∷ four in
    let second = b.interrupts ∷ third in
    one_more_word b.secure_vtor (b.nonsecure_vtor ∷ second) (vtor_fits b.secure_vtor vtors.0)
    (one_more_word b.nonsecure_vtor second (vtor_fits b.nonsecure_vtor vtors.1)
    (one_more_word b.interrupts third (omega arith)
    (one_more_word b.sau_regions four (omega arith)
    (one_more_word b.mpu_secure five (omega arith)
    (one_more_word b.mpu_nonsecure six (omega arith)
    (one_more_word (profile_word b) seven (profile_fits b.profile b.mover)
    (one_more_word (length b.regions) eight (omega arith) (regions_fit b.regions h.regions))))))))

-- the words before those of the state
pub head_fits : (b : BoardValue) (n : ℕ) → IsBoard b → n ≤ most_steps → AreWords (head_words b n)
head_fits b n h l = one_more_word magic (n ∷ board_words b) (omega arith) (one_more_word n (board_words b) (omega arith) (board_fits b h))
