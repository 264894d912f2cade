-- Names by their numbers. A number that stands for nothing has no name, and prints as nothing.
use Rattle.std.specs.Prelude.{ℕ, ◌-◌, nat_lt, if◌then◌else◌, List, [], ◌∷◌, codes, Option, Some, None, slice_get}

abbrev pub or_nothing : Option (List ℕ) → List ℕ
or_nothing None = []
or_nothing (Some name) = name

abbrev pub registers : List (List ℕ)
registers =
    codes "r0" ∷ codes "r1" ∷ codes "r2" ∷ codes "r3" ∷ codes "r4" ∷ codes "r5" ∷ codes "r6" ∷ codes "r7" ∷
    codes "r8" ∷ codes "r9" ∷ codes "r10" ∷ codes "r11" ∷ codes "r12" ∷ codes "sp" ∷ codes "lr" ∷ codes "pc" ∷ []

unfoldable pub register_text : ℕ → List ℕ
register_text k = or_nothing (slice_get registers k)

-- the conditions by the bits of a code
abbrev pub conditions : List (List ℕ)
conditions =
    codes "eq" ∷ codes "ne" ∷ codes "cs" ∷ codes "cc" ∷ codes "mi" ∷ codes "pl" ∷ codes "vs" ∷ codes "vc" ∷
    codes "hi" ∷ codes "ls" ∷ codes "ge" ∷ codes "lt" ∷ codes "gt" ∷ codes "le" ∷ codes "al" ∷ []

unfoldable pub condition_text : ℕ → List ℕ
condition_text k = or_nothing (slice_get conditions k)

-- the shifts that have an amount
abbrev pub shifts : List (List ℕ)
shifts = codes "lsl" ∷ codes "lsr" ∷ codes "asr" ∷ codes "ror" ∷ []

unfoldable pub shift_name : ℕ → List ℕ
shift_name k = or_nothing (slice_get shifts k)

-- the special registers from number 0 on, and those of Non-secure state from number 0x88 on
abbrev pub specials : List (List ℕ)
specials =
    codes "apsr" ∷ codes "iapsr" ∷ codes "eapsr" ∷ codes "xpsr" ∷ [] ∷ codes "ipsr" ∷ codes "epsr" ∷ codes "iepsr" ∷
    codes "msp" ∷ codes "psp" ∷ codes "msplim" ∷ codes "psplim" ∷ [] ∷ [] ∷ [] ∷ [] ∷
    codes "primask" ∷ codes "basepri" ∷ codes "basepri_max" ∷ codes "faultmask" ∷ codes "control" ∷ []

abbrev pub nonsecure_specials : List (List ℕ)
nonsecure_specials =
    codes "msp_ns" ∷ codes "psp_ns" ∷ codes "msplim_ns" ∷ codes "psplim_ns" ∷ [] ∷ [] ∷ [] ∷ [] ∷
    codes "primask_ns" ∷ codes "basepri_ns" ∷ [] ∷ codes "faultmask_ns" ∷ codes "control_ns" ∷ [] ∷ [] ∷ [] ∷
    codes "sp_ns" ∷ []

unfoldable pub special_text : ℕ → List ℕ
special_text k = or_nothing (if nat_lt k 0x88 then slice_get specials k else slice_get nonsecure_specials (k - 0x88))
