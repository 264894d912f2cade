-- The IT state (DDI0553, `ITSTATE`, `ITAdvance`, `InITBlock`, `LastInITBlock`, `ConditionHolds`).
use Rattle.std.specs.Prelude.{ℕ, ◌+◌, ◌*◌, ◌/◌, ◌%◌, ◌==◌, Bool, true, not, ◌&&◌, if◌then◌else◌}
use Rattle.tz_regs.specs.declared.parts.Apsr.{Apsr}

-- bits 7:4 are the condition, bits 3:0 the mask, whose lowest set bit ends the block; a mask of 0 is no block
abbrev pub in_it_block : ℕ → Bool
in_it_block it = not (it % 16 == 0)

abbrev pub is_last_in_it_block : ℕ → Bool
is_last_in_it_block it = it % 16 == 8

-- the mask moves up, and its top bit into the lowest of the condition
abbrev pub it_advanced : ℕ → ℕ
it_advanced it = if it % 8 == 0 then 0 else it / 32 * 32 + it * 2 % 32

-- a condition and a mask, as IT has them
abbrev pub it_of : ℕ → ℕ → ℕ
it_of cond mask = (cond * 16 + mask) % 256

abbrev pub same : Bool → Bool → Bool
same x y = if x then y else not y

-- the conditions by pairs; the second of each is the other's opposite, but for AL
abbrev pub pair_holds : ℕ → Apsr → Bool
pair_holds pair a =
    if pair == 0 then a.z
    else if pair == 1 then a.c
    else if pair == 2 then a.n
    else if pair == 3 then a.v
    else if pair == 4 then a.c && not a.z
    else if pair == 5 then same a.n a.v
    else if pair == 6 then not a.z && same a.n a.v
    else true

abbrev pub condition_holds : ℕ → Apsr → Bool
condition_holds cond a =
    if cond % 2 == 1 && not (cond == 15) then not (pair_holds (cond / 2) a) else pair_holds (cond / 2) a
