-- Tests on the parts of a row, which compute.
use Rattle.std.specs.Prelude.{◌+◌, ◌&&◌, ◌||◌, not, nat_le, Bool, true, false, List, [], ◌∷◌, ◌++◌}
use Rattle.tz_encode.specs.Slots.{parts_in}
use Rattle.tz_encode.specs.declared.slot.Half.{Half}
use Rattle.tz_encode.specs.declared.slot.Half.TheVariants.{First, Second}
use Rattle.tz_encode.specs.declared.slot.Part.{Part}
use Rattle.tz_encode.specs.declared.slot.CodeSlot.{CodeSlot}

abbrev pub same_half : Half → Half → Bool
same_half First First = true
same_half First Second = false
same_half Second First = false
same_half Second Second = true

-- no bit is under both
abbrev pub apart : Part → Part → Bool
apart p q = not (same_half p.half q.half) || nat_le (p.low + p.width) q.low || nat_le (q.low + q.width) p.low

abbrev pub apart_from : Part → List Part → Bool
apart_from p [] = true
apart_from p (q ∷ qs) = apart p q && apart q p && apart_from p qs

-- no bit is under two of them
abbrev pub all_apart : List Part → Bool
all_apart [] = true
all_apart (p ∷ ps) = apart_from p ps && all_apart ps

abbrev pub all_parts : List CodeSlot → List Part
all_parts [] = []
all_parts (t ∷ ts) = (parts_in t.parts) ++ all_parts ts
