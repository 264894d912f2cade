use Rattle.std.proofs.Common.{◌≡◌, drop}
use Rattle.tz_testing.specs.Shelves.{held_in}
use Rattle.tz_testing.proofs.shelf_double.find.Given as goal

abbrev pub invariant-loop-file : goal.invariant-loop-file
invariant-loop-file l = held_in (drop l.file-index l.files) l.name ≡ held_in l.files l.name
