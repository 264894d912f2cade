-- Lines of faults: what is told of a file, part by part.
use Rattle.std.proofs.Common.{◌≡◌, ℕ, List, ◌++◌, append_assoc, Option, Some, None, Result, Ok, Err, refl}
use Rattle.std.specs.Prelude.{IsSome, OnOk, codes}
use Rattle.tz_files.specs.declared.stops.LoadError.{LoadError}
use Rattle.tz_files.specs.Told.{Stop}
use Rattle.tz_files.specs.Lines.{stop_line, refused_line}
use Rattle.tz_files.specs.Faults.{code_with, line_with, stop_of, stop_with}

-- what two parts of a contract say where there is a value
pub on_ok_both : {T E P Q R : Type 0} (r : Result T E) → (P → Q → R) → OnOk r P → OnOk r Q → OnOk r R
on_ok_both (Ok x) f p q = f p q
on_ok_both (Err e) f p q = tt

-- a file that isn't read: what goes before its name, and the name
pub file_told : (fault : LoadError) (old front name mid after : List ℕ) → line_with (stop_of fault) ≡ front ++ (name ++ codes "\n")
    → mid ≡ old ++ front → after ≡ mid ++ name
    → after ++ codes "\n" ≡ old ++ line_with (stop_of fault)
file_told fault old front name mid after line before behind = rw (line, behind, before) (simp append_assoc)

-- a file that is refused: its name, what stands behind it, and the code of the refusal
pub refused_told : {E : Type 0} (fault : LoadError) (old name mid after : List ℕ) (code : E → List ℕ) (stop : E → Stop) (o : Option E)
    → stop_of fault ≡ stop_with stop o → ((e : E) → stop_line (stop e) ≡ refused_line name (code e))
    → mid ≡ old ++ (name ++ codes ": ") → after ≡ mid ++ code_with code o → IsSome o
    → after ++ codes "\n" ≡ old ++ line_with (stop_of fault)
refused_told fault old name mid after code stop None told line before behind some = absurd (cc)
refused_told fault old name mid after code stop (Some e) told line before behind some = rw (told, line e, behind, before) (simp append_assoc)

-- where there is a refusal there is a stop
pub some_stop : {E : Type 0} (fault : LoadError) (stop : E → Stop) (o : Option E) → stop_of fault ≡ stop_with stop o → IsSome o → IsSome (stop_of fault)
some_stop fault stop None told some = absurd (cc)
some_stop fault stop (Some e) told some = rw told refl
