-- What the doubles of the outside hold.
use Rattle.std.specs.Prelude.{ℕ, if◌then◌else◌, List, [], ◌∷◌}
use Rattle.std.specs.String.{string_bytes}
use Rattle.std.specs.Str.{bytes_eq}
use Rattle.tz_testing.specs.declared.shelf_double.File.{File}
use Rattle.tz_model.specs.Outside.{Held, Absent, Holds}

-- the bytes of the first file of a name
abbrev pub held_in : List File → List ℕ → Held
held_in [] name = Absent
held_in (f ∷ fs) name = if bytes_eq (string_bytes f.name) name then Holds f.bytes.items else held_in fs name
