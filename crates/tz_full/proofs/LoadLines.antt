-- The lines of one load and of two.
use Rattle.std.proofs.Common.{◌≡◌, ℕ, ◌+◌, Bool, List, [], ◌∷◌, ◌++◌, Option, ap, append-nil, append_assoc, refl, sym, ◌∙◌}
use Rattle.tz_table.specs.declared.units.Size.{Size}
use Rattle.tz_table.specs.declared.units.Size.TheVariants.{Word}
use Rattle.tz_model.specs.Ports.{Access, Load}
use Rattle.tz_model.specs.Words.{wrap}
use Rattle.tz_state.specs.State.{Bus}
use Rattle.tz_sem.specs.LoadStore.{pair_loads}
use Rattle.tz_full.specs.LoadLines.{load_line, loads_text}

pub one_load : (b : Bus) (word : Option ℕ) (size : Size) (a : ℕ) (must_align user : Bool) → loads_text b (word ∷ []) (Load size a must_align user ∷ []) ≡ load_line b size a word
unfolding loads_text
one_load b word size a must_align user = append-nil (load_line b size a word)

pub two_loads : (b : Bus) (first second : Option ℕ) (a : ℕ) → loads_text b (first ∷ second ∷ []) (pair_loads a) ≡ load_line b Word a first ++ load_line b Word (wrap (a + 4)) second
unfolding loads_text
two_loads b first second a = ap (λ (x : List ℕ). load_line b Word a first ++ x) (append-nil (load_line b Word (wrap (a + 4)) second))

pub no_loads : (b : Bus) (accesses : List Access) → loads_text b [] accesses ≡ []
unfolding loads_text
no_loads b accesses = refl

pub pair_follows : (start then end : List ℕ) (b : Bus) (first second : Option ℕ) (a : ℕ) → then ≡ start ++ load_line b Word a first → end ≡ then ++ load_line b Word (wrap (a + 4)) second → end ≡ start ++ loads_text b (first ∷ second ∷ []) (pair_loads a)
pair_follows start then end b first second a p q =
    q ∙ ap (λ (x : List ℕ). x ++ load_line b Word (wrap (a + 4)) second) p
    ∙ append_assoc start (load_line b Word a first) (load_line b Word (wrap (a + 4)) second)
    ∙ ap (λ (x : List ℕ). start ++ x) (sym (two_loads b first second a))
