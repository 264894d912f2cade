-- Tests on rows that compute: which sets of codes are apart, and what is left of a row where fields are
-- known.
use Rattle.std.specs.Prelude.{◌+◌, ◌-◌, ◌*◌, ◌^◌, if◌then◌else◌, Bool, true, not, ◌&&◌, ◌||◌, bit_and, bit_or, ◌==◌, List, [], ◌∷◌}
use Rattle.std.specs.List.{list_all, list_any}
use Rattle.tz_table.specs.Patterns.{Cube, Field, first, second, Pattern}
use Rattle.tz_table.specs.Rows.{TableRow, RefusedCodes}

-- ---- tests on constants, which compute

-- no code is in both: a bit that both fix differs
abbrev pub cubes_apart : Cube → Cube → Bool
cubes_apart a b = not ((bit_and b.first_mask a.first_value == bit_and a.first_mask b.first_value) && (bit_and b.second_mask a.second_value == bit_and a.second_mask b.second_value))

-- what both hold
abbrev pub meet : Cube → Cube → Cube
meet a b = record { first_mask = bit_or a.first_mask b.first_mask; first_value = bit_or a.first_value b.first_value; second_mask = bit_or a.second_mask b.second_mask; second_value = bit_or a.second_value b.second_value }

-- each code of a is in e
abbrev pub inside : Cube → Cube → Bool
inside a e = (bit_and e.first_mask a.first_mask == e.first_mask) && (bit_and e.first_mask a.first_value == e.first_value) && (bit_and e.second_mask a.second_mask == e.second_mask) && (bit_and e.second_mask a.second_value == e.second_value)

-- the cube of all codes
abbrev pub everything : Cube
everything = record { first_mask = 0; first_value = 0; second_mask = 0; second_value = 0 }

abbrev pub cube_of : Field → Cube
cube_of (first k w v) = record { first_mask = 2 ^ (w + k) - 2 ^ k; first_value = v * 2 ^ k; second_mask = 0; second_value = 0 }
cube_of (second k w v) = record { first_mask = 0; first_value = 0; second_mask = 2 ^ (w + k) - 2 ^ k; second_value = v * 2 ^ k }

abbrev pub cube_of_all : List Field → Cube
cube_of_all [] = everything
cube_of_all (x ∷ xs) = meet (cube_of x) (cube_of_all xs)

-- each code of a has all of the fields
abbrev pub implies : Cube → List Field → Bool
implies a xs = list_all (λ x. inside a (cube_of x)) xs

abbrev pub apart : Pattern → Pattern → Bool
apart p q = cubes_apart p.cube q.cube || list_any (implies (meet p.cube q.cube)) p.excepts || list_any (implies (meet p.cube q.cube)) q.excepts

unfoldable pub all_apart : List Pattern → Bool
all_apart [] = true
all_apart (p ∷ ps) = list_all (apart p) ps && all_apart ps

-- ---- what is left to test where a pattern is known to fit

-- no code that fits k is in c
abbrev pub rules_out : Pattern → Cube → Bool
rules_out k c = cubes_apart k.cube c || list_any (implies (meet k.cube c)) k.excepts

-- no code that fits k fits p
abbrev pub excluded : Pattern → Pattern → Bool
excluded k p = rules_out k p.cube || list_any (implies (meet k.cube p.cube)) p.excepts

-- the fields that k doesn't imply
abbrev pub fields_left : Cube → List Field → List Field
fields_left k [] = []
fields_left k (x ∷ xs) = if inside k (cube_of x) then fields_left k xs else (x ∷ fields_left k xs)

abbrev pub kept : Pattern → List (List Field) → List (List Field)
kept k [] = []
kept k (e ∷ es) = if rules_out k (cube_of_all e) then kept k es else (fields_left k.cube e ∷ kept k es)

abbrev pub left_of : Pattern → Pattern → Pattern
left_of k p = record { cube = (if inside k.cube p.cube then everything else p.cube); excepts = kept (record k { cube = meet k.cube p.cube }) p.excepts }

-- ---- what is left of the lists where a pattern is known to fit
abbrev pub refusals_left : Pattern → List RefusedCodes → List RefusedCodes
refusals_left k [] = []
refusals_left k (r ∷ rs) = if rules_out k r.cube then refusals_left k rs else (record r { cube = if inside k.cube r.cube then everything else r.cube } ∷ refusals_left k rs)

abbrev pub reduce : Pattern → List TableRow → List TableRow
reduce k [] = []
reduce k (e ∷ es) = if excluded k e.pattern then reduce k es else (record e { pattern = left_of k e.pattern } ∷ reduce k es)
