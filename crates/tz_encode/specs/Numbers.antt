-- Values of fields and the numbers that stand for them.
use Rattle.std.specs.Prelude.{ℕ, ◌+◌, ◌-◌, ◌*◌, ◌/◌, ◌%◌, ◌^◌, ◌==◌, nat_lt, nat_le, ◌&&◌, not, Bool, true, if◌then◌else◌, List, [], ◌∷◌, ◌++◌, length, Result, Ok, Err, ℤ, pos, neg_ℤ, nat_abs, int_lt}
use Rattle.std.specs.Ordering.{int_eq}
use Rattle.tz_table.specs.Fields.{bits}
use Rattle.tz_table.specs.Limits.{is_listed}
use Rattle.tz_table.specs.Terms.{signed_by, plus_or_minus, imm_shift_of, imm_amount_of, imm5_of}
use Rattle.tz_bits.specs.Values.{bool_number, shift_number}
use Rattle.tz_encode.specs.Slots.{parts_in, gathered, held_by, placed}
use Rattle.tz_encode.specs.Limits.{entry, number_at, limit_holds}
use Rattle.tz_encode.specs.declared.coding.Coding.{Coding}
use Rattle.tz_encode.specs.declared.coding.Coding.TheVariants.{Is, Same, Natural, Above, Minus, Signed, Sign, Far, Right, Kind, Amount, UpTo, Unlisted, Again}
use Rattle.tz_encode.specs.declared.slot.Half.{Half}
use Rattle.tz_encode.specs.declared.slot.Half.TheVariants.{First, Second}
use Rattle.tz_encode.specs.declared.slot.Part.{Part}
use Rattle.tz_encode.specs.declared.slot.CodeSlot.{CodeSlot}

-- the number of which z is the signed value
abbrev pub unsigned_by : ℕ → ℤ → ℕ
unsigned_by half z = if int_lt z (pos 0) then 2 * half - nat_abs z else nat_abs z

-- the two bits below the sign of a long branch's distance, inverted where the sign is 0: there and back
abbrev pub far : ℕ → ℕ
far n = let s = bits n 24 1 in s * 2 ^ 24 + (1 - (bits n 23 1 + s) % 2) * 2 ^ 23 + (1 - (bits n 22 1 + s) % 2) * 2 ^ 22 + n % 2 ^ 22

-- kind and amount in seven bits
abbrev pub amount_number : ℕ → ℕ → ℕ
amount_number shift n = if shift == 4 then 96 else (shift * 32 + n % 32)

-- the number that stands for z beside the values of the places before it
abbrev pub number_for : Coding → List ℤ → ℤ → ℕ
number_for (Is c) e z = 0
number_for (Same j) e z = 0
number_for Natural e z = nat_abs z
number_for (Above m) e z = nat_abs z - m
number_for Minus e z = nat_abs z
number_for (Signed half) e z = unsigned_by half z
number_for Sign e z = if int_lt (pos 0) z then (4096 + nat_abs z) else nat_abs z
number_for Far e z = far (unsigned_by 16777216 z)
number_for Right e z = nat_abs z % 32
number_for Kind e z = 0
number_for Amount e z = amount_number (number_at e 2) (nat_abs z)
number_for UpTo e z = number_at e 7 + nat_abs z - 1
number_for Unlisted e z = 0
number_for Again e z = number_at e 6

-- the value of number n in the code f, s beside the values of the places before it
abbrev pub value_at : Coding → List ℤ → ℕ → ℕ → ℕ → ℤ
value_at (Is c) e n f s = c
value_at (Same j) e n f s = entry e j
value_at Natural e n f s = pos n
value_at (Above m) e n f s = pos (n + m)
value_at Minus e n f s = neg_ℤ (pos n)
value_at (Signed half) e n f s = signed_by half n
value_at Sign e n f s = plus_or_minus (n / 4096) (n % 4096)
value_at Far e n f s = signed_by 16777216 (far n)
value_at Right e n f s = pos (if n == 0 then 32 else n)
value_at Kind e n f s = pos (shift_number (imm_shift_of (bits s 4 2) (imm5_of s)))
value_at Amount e n f s = pos (imm_amount_of (n / 32) (n % 32))
value_at UpTo e n f s = pos (n + 1 - number_at e 7)
value_at Unlisted e n f s = pos (bool_number (not (is_listed (bits f 0 8) (bits f 8 3))))
value_at Again e n f s = pos 0

-- number n stands for z; of a shift's kind and of a base that is listed a later place tells
abbrev pub stands_for : Coding → List ℤ → ℕ → ℤ → Bool
stands_for (Is c) e n z = int_eq c z
stands_for (Same j) e n z = int_eq (entry e j) z
stands_for Natural e n z = int_eq (pos n) z
stands_for (Above m) e n z = int_eq (pos (n + m)) z
stands_for Minus e n z = int_eq (neg_ℤ (pos n)) z
stands_for (Signed half) e n z = int_eq (signed_by half n) z
stands_for Sign e n z = int_eq (plus_or_minus (n / 4096) (n % 4096)) z
stands_for Far e n z = int_eq (signed_by 16777216 (far n)) z
stands_for Right e n z = int_eq (pos (if n == 0 then 32 else n)) z
stands_for Kind e n z = nat_lt (nat_abs z) 5 && int_eq (pos (nat_abs z)) z
stands_for Amount e n z = int_eq (pos (imm_amount_of (n / 32) (n % 32))) z
stands_for UpTo e n z = int_eq (pos (n + 1 - number_at e 7)) z
stands_for Unlisted e n z = nat_lt (nat_abs z) 2 && int_eq (pos (nat_abs z)) z
stands_for Again e n z = int_eq (pos 0) z

-- the slot takes z beside the values of the places before it
abbrev pub takes : CodeSlot → List ℤ → ℤ → Bool
takes t e z = let n = number_for t.coding e z in (held_by (parts_in t.parts) n == n) && stands_for t.coding e n z && limit_holds t.limit e z

-- the slots take the values, one after the other
abbrev pub take_all : List ℤ → List CodeSlot → List ℤ → Bool
take_all e [] zs = true
take_all e (t ∷ ts) [] = true
take_all e (t ∷ ts) (z ∷ zs) = takes t e z && take_all (e ++ z ∷ []) ts zs

-- the values that a code has
abbrev pub values_in : List ℤ → List CodeSlot → ℕ → ℕ → List ℤ
values_in e [] f s = []
values_in e (t ∷ ts) f s = let z = value_at t.coding e (gathered (parts_in t.parts) f s) f s in z ∷ values_in (e ++ z ∷ []) ts f s

-- how many of the slots take the values, up to the first that doesn't
abbrev pub taken : List ℤ → List CodeSlot → List ℤ → ℕ
taken e [] zs = 0
taken e (t ∷ ts) [] = 0
taken e (t ∷ ts) (z ∷ zs) = if takes t e z then (1 + taken (e ++ z ∷ []) ts zs) else 0

-- what the values add to a halfword of the code
abbrev pub code_bits : Half → List ℤ → List CodeSlot → List ℤ → ℕ
code_bits h e [] zs = 0
code_bits h e (t ∷ ts) [] = 0
code_bits h e (t ∷ ts) (z ∷ zs) = placed h (parts_in t.parts) (number_for t.coding e z) + code_bits h (e ++ z ∷ []) ts zs

-- what a row with this variant, these fixed bits and these slots gives for nine values: a code, or the
-- place of the first value that its slots don't take
abbrev pub answer : ℕ → ℕ → ℕ → List CodeSlot → List ℤ → Result (ℕ × ℕ) ℕ
answer form first second ts [] = Err 0
answer form first second ts (z ∷ zs) = if int_eq (pos form) z then (if taken (z ∷ []) ts zs == length ts then Ok ((first + code_bits First (z ∷ []) ts zs) % 65536, (second + code_bits Second (z ∷ []) ts zs) % 65536) else Err (1 + taken (z ∷ []) ts zs)) else Err 0

-- parts that a halfword and a number of 32 bits have
abbrev pub sound_parts : List Part → Bool
sound_parts [] = true
sound_parts (p ∷ ps) = nat_le (p.low + p.width) 16 && nat_le (p.shift + p.width) 32 && sound_parts ps

abbrev pub sound : List CodeSlot → Bool
sound [] = true
sound (t ∷ ts) = sound_parts (parts_in t.parts) && sound ts
