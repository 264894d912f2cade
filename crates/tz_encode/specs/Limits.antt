-- What the limits of slots say.
use Rattle.std.specs.Prelude.{ℕ, zero, suc, ◌+◌, ◌==◌, nat_lt, nat_le, ◌&&◌, ◌||◌, not, Bool, true, List, [], ◌∷◌, ℤ, pos, nat_abs, count_ones, if◌then◌else◌}
use Rattle.tz_table.specs.Limits.{not_zero, not_pc, plain, can_add_high, can_compare_high, can_exchange, is_single, is_listed, can_store_many, copies_zero, is_special, can_load, can_store}
use Rattle.tz_encode.specs.declared.limit.Limit.{Limit}
use Rattle.tz_encode.specs.declared.limit.Limit.TheVariants as limits

-- the value at a place of a list, which begins with the variant; 0 past its end
abbrev pub entry : List ℤ → ℕ → ℤ
entry [] k = pos 0
entry (z ∷ zs) zero = z
entry (z ∷ zs) (suc k) = entry zs k

abbrev pub number_at : List ℤ → ℕ → ℕ
number_at e k = nat_abs (entry e k)

-- a move that sets no flags and doesn't shift otherwise than left
abbrev pub is_bare : ℕ → ℕ → Bool
is_bare flags shift = flags == 0 && shift == 0

-- n may stand in the slot beside the values of the places before it
abbrev pub allows : Limit → List ℤ → ℕ → Bool
allows limits.Any e n = true
allows (limits.Below m) e n = nat_lt n m
allows limits.NonZero e n = not_zero n
allows limits.Plain e n = plain n
allows limits.NotPc e n = not_pc n
allows limits.NotSp e n = not (n == 13)
allows (limits.NotBothPc j) e n = can_add_high (number_at e j) n
allows (limits.HighOperand j) e n = can_compare_high (number_at e j) n
allows (limits.Target j) e n = can_exchange n (number_at e j)
allows (limits.Either j) e n = n == 1 || number_at e j == 1
allows (limits.ItMask j) e n = not_zero n && (not (number_at e j == 14) || is_single n)
allows (limits.StoreList j) e n = can_store_many (number_at e j) n
allows (limits.LoadList b j) e n = not_zero n && (if number_at e b == 1 then not (is_listed n (number_at e j)) else is_listed n (number_at e j))
allows (limits.ManyList w j) e n = nat_le 2 (count_ones n) && not (is_listed n 14 && is_listed n 15) && not (number_at e w == 1 && is_listed n (number_at e j))
allows (limits.PlainOther j) e n = plain n && not (n == number_at e j)
allows (limits.BaseOther j) e n = not_pc n && not (n == number_at e j)
allows (limits.PairBase w j k) e n = not_pc n && not (nat_le 2 (number_at e w) && (n == number_at e j || n == number_at e k))
allows (limits.SumResult j) e n = plain n || n == 13 && number_at e j == 0
allows (limits.SumOperand j) e n = not_pc n && (plain (number_at e j) || n == 13)
allows (limits.SumAmount j) e n = plain (number_at e j) || nat_le n 3
allows (limits.MoveResult v j) e n = plain n || n == 13 && is_bare (number_at e v) (number_at e j)
allows (limits.MoveSource v j d) e n = plain n || n == 13 && plain (number_at e d) && is_bare (number_at e v) (number_at e j)
allows (limits.MoveAmount d m) e n = plain (number_at e d) && plain (number_at e m) || n == 0
allows limits.Constant e n = not (copies_zero n)
allows (limits.Saturation j) e n = not (number_at e j == 1 && n == 0)
allows (limits.WidthFrom j) e n = nat_le (number_at e j + n) 32
allows limits.Special e n = is_special n
allows (limits.LoadSign j) e n = not (n == 1 && number_at e j == 2)
allows (limits.LoadResult j) e n = can_load (number_at e j) n
allows (limits.StoreSource j) e n = can_store (number_at e j) n

abbrev pub limit_holds : Limit → List ℤ → ℤ → Bool
limit_holds l e z = allows l e (nat_abs z)
