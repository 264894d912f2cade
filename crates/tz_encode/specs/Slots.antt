-- Where the bits of a number lie in a code.
use Rattle.std.specs.Prelude.{ℕ, ◌+◌, ◌*◌, ◌^◌, ◌==◌, if◌then◌else◌, List, [], ◌∷◌}
use Rattle.tz_table.specs.Fields.{bits}
use Rattle.tz_encode.specs.declared.slot.Half.{Half}
use Rattle.tz_encode.specs.declared.slot.Half.TheVariants.{First, Second}
use Rattle.tz_encode.specs.declared.slot.Part.{Part}
use Rattle.tz_encode.specs.declared.slot.Parts.{Parts}
use Rattle.tz_encode.specs.declared.slot.Parts.TheVariants as counts

abbrev pub parts_in : Parts → List Part
parts_in counts.Zero = []
parts_in (counts.One p) = p ∷ []
parts_in (counts.Two p q) = p ∷ q ∷ []
parts_in (counts.Three p q r) = p ∷ q ∷ r ∷ []
parts_in (counts.Four p q r t) = p ∷ q ∷ r ∷ t ∷ []
parts_in (counts.Five p q r t u) = p ∷ q ∷ r ∷ t ∷ u ∷ []

abbrev pub half_of : Half → ℕ → ℕ → ℕ
half_of First f s = f
half_of Second f s = s

-- the bits of a code under a part
abbrev pub bits_at : Part → ℕ → ℕ → ℕ
bits_at p f s = bits (half_of p.half f s) p.low p.width

-- x from bit n on
abbrev pub scaled : ℕ → ℕ → ℕ
scaled x n = if n == 0 then x else x * 2 ^ n

abbrev pub gathered_onto : ℕ → List Part → ℕ → ℕ → ℕ
gathered_onto n [] f s = n
gathered_onto n (p ∷ ps) f s = gathered_onto (n + scaled (bits_at p f s) p.shift) ps f s

-- the number whose bits a code holds under the parts
abbrev pub gathered : List Part → ℕ → ℕ → ℕ
gathered [] f s = 0
gathered (p ∷ ps) f s = gathered_onto (scaled (bits_at p f s) p.shift) ps f s

-- the bits of a number that a part holds
abbrev pub digit : Part → ℕ → ℕ
digit p n = bits n p.shift p.width

-- what the parts hold of a number: all of it where it fits
abbrev pub held_by : List Part → ℕ → ℕ
held_by [] n = 0
held_by (p ∷ ps) n = digit p n * 2 ^ p.shift + held_by ps n

abbrev pub lies_in : Half → Half → ℕ → ℕ
lies_in First First n = n
lies_in Second Second n = n
lies_in First Second n = 0
lies_in Second First n = 0

-- what a number adds to a halfword of a code
abbrev pub placed : Half → List Part → ℕ → ℕ
placed h [] n = 0
placed h (p ∷ ps) n = lies_in h p.half (digit p n * 2 ^ p.low) + placed h ps n
