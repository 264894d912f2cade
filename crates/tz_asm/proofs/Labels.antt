-- The values of labels in a map.
use Rattle.std.proofs.Common.{◌≡◌, ℕ, sym, ap, List, [], Option, Some, None, Ok}
use Rattle.std.proofs.lemmas.Map.Text.{btree_map_updates_str}
use Rattle.std.specs.BTreeMap.{BTreeMap, Updates, is_at}
use Rattle.std.specs.Borrow.{Bor}
use Rattle.std.specs.Cmp.Lexicographic.{slice_cmp}
use Rattle.std.specs.Map.{lookup, update}
use Rattle.std.specs.Ordering.{nat_cmp}
use Rattle.std.specs.Str.{bytes_eq}
use Rattle.tz_asm.specs.Places.{Places, defined, no_places, places_in}
use Rattle.tz_asm.specs.declared.values.Value.{Value}

pub places_in-empty : (m : BTreeMap (Bor (List ℕ)) (Option Value)) → m.entries ≡ [] → places_in m ≡ no_places
places_in-empty m e = λ i. λ name. lookup (is_at (λ (key : Bor (List ℕ)). slice_cmp nat_cmp name key.now)) (e i)

pub places_in-put : (m n : BTreeMap (Bor (List ℕ)) (Option Value)) (key : Bor (List ℕ)) (value : Option Value)
    → Updates (λ x y. slice_cmp nat_cmp x.now y.now) m n key (Some value) → places_in n ≡ update bytes_eq (places_in m) key.now (Some value)
places_in-put m n key value h = λ i. λ name. btree_map_updates_str key.now m n (Some value) h name i

-- a label that no line defined before
pub defined-new : (line : ℕ) (name : List ℕ) (value : Option Value) (places after : Places) → None ≡ places name → after ≡ update bytes_eq places name (Some value)
    → defined line (Some name) value places ≡ Ok after
unfolding defined
defined-new line name value places after none is = rw (sym none) (ap Ok (sym is))
