-- Places in a ring, of which as many have something that stands as there are from the newest on, backwards.
use Rattle.std.specs.Prelude.{ℕ, ◌+◌, ◌-◌, ◌==◌, if◌then◌else◌, List, ◌++◌, take, drop, reverse}

-- the place after one of so many, round
abbrev pub place_after : ℕ → ℕ → ℕ
place_after count place = if place + 1 == count then 0 else place + 1

-- the place before one of so many, round
abbrev pub place_before : ℕ → ℕ → ℕ
place_before count place = if place == 0 then count - 1 else place - 1

-- what the places have, from the one before `next` on, backwards and round
abbrev pub from_newest : {A : Type 0} → List A → ℕ → List A
from_newest places next = reverse (take next places) ++ reverse (drop next places)

-- the newest of these, so many
abbrev pub standing : {A : Type 0} → List A → ℕ → ℕ → List A
standing places next count = take count (from_newest places next)
