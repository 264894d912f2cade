-- What stands in front of a place after a piece was copied there.
use Rattle.std.proofs.Common.{◌≡◌, ℕ, ◌+◌, ◌≤◌, List, ◌++◌, length, take, sym, ap, ◌∙◌, refl, arith, length-take-le, take-take, take_at, drop_at}
use Rattle.std.proofs.lemmas.Slice.{take-put_mid}
use borrow.Rule.Slice.PartMut.{put_mid}
use lib.Seq.{take-add}

-- the front of the piece, behind what stood there
pub take_put_front : (a k n : ℕ) (xs ys : List ℕ) → n ≤ length ys → a ≤ length xs → take (a + n) (put_mid a k xs ys) ≡ take a xs ++ take n ys
take_put_front a k n xs ys short within =
    let cut : length (take a xs) ≡ a = length-take-le a xs within in
    sym (take-take (a + n) (a + length ys) (put_mid a k xs ys) (omega arith))
    ∙ ap (take (a + n)) (take-put_mid a k xs ys (a + length ys) refl within)
    ∙ take-add a n (take a xs ++ ys)
    ∙ rw (take_at (take a xs) ys a cut, drop_at (take a xs) ys a cut)
