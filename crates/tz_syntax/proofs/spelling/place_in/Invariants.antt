use Rattle.std.proofs.Common.{◌≡◌, drop, map}
use Rattle.std.specs.List.{position_from}
use Rattle.tz_syntax.specs.Spelling.{place_in, spells}
use Rattle.tz_syntax.proofs.spelling.place_in.Given as goal

abbrev pub invariant-loop-place : goal.invariant-loop-place
invariant-loop-place l = position_from (spells l.word) l.place (map (λ name. name.now) (drop l.place l.names)) ≡ place_in (map (λ name. name.now) l.names) l.word
