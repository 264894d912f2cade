-- Labels and their values.
use Rattle.std.specs.Prelude.{ℕ, false, List, Option, Some, None, is_some, option_and_then, if◌then◌else◌, Result, Ok, Err}
use Rattle.std.specs.BTreeMap.{BTreeMap, get_by}
use Rattle.std.specs.Cmp.Lexicographic.{slice_cmp}
use Rattle.std.specs.Map.{update}
use Rattle.std.specs.Ordering.{nat_cmp}
use Rattle.std.specs.Str.{bytes_eq}
use Rattle.std.specs.Borrow.{Bor}
use Rattle.tz_asm.specs.Refusals.{Refusal, TwoLabels}
use Rattle.tz_asm.specs.declared.values.Value.{Value}

-- the value of each label that a line defines: its place, or what an `.equ` gives it, which has none where its own
-- label has none
abbrev pub Places : Type 0
Places = List ℕ → Option (Option Value)

abbrev pub no_places : Places
no_places name = None

-- a place as the value of a label
abbrev pub known : ℕ → Option Value
known place = Some (record { negative = false; size = place })

-- the value of a label that has one
abbrev pub value_named : Places → List ℕ → Option Value
value_named places name = option_and_then (λ value. value) (places name)

-- a label that a line defines with a value. No two lines define one, and no line twice
unfoldable pub defined : ℕ → Option (List ℕ) → Option Value → Places → Result Places Refusal
defined line None value places = Ok places
defined line (Some name) value places =
    if is_some (places name) then Err (TwoLabels line) else Ok (update bytes_eq places name (Some value))

-- the values in a map
abbrev pub places_in : BTreeMap (Bor (List ℕ)) (Option Value) → Places
places_in map name = get_by (λ key. slice_cmp nat_cmp name key.now) map
