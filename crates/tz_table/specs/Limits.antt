-- The limits of rows: this profile refuses what the manual calls UNPREDICTABLE. Registers are numbers, 13 is
-- SP and 15 is PC.
use Rattle.std.specs.Prelude.{ℕ, ◌+◌, ◌/◌, ◌%◌, ◌^◌, Bool, not, ◌&&◌, ◌||◌, ◌==◌, nat_lt, nat_le, count_ones}

abbrev pub not_zero : ℕ → Bool
not_zero n = not (n == 0)

abbrev pub not_pc : ℕ → Bool
not_pc r = not (r == 15)

-- neither SP nor PC
abbrev pub plain : ℕ → Bool
plain r = not (r == 13) && not (r == 15)

abbrev pub plain2 : ℕ → ℕ → Bool
plain2 a b = plain a && plain b

abbrev pub plain3 : ℕ → ℕ → ℕ → Bool
plain3 a b c = plain a && plain b && plain c

abbrev pub plain4 : ℕ → ℕ → ℕ → ℕ → Bool
plain4 a b c d = plain a && plain b && plain c && plain d

-- a plain register with another that isn't PC
abbrev pub plain_base : ℕ → ℕ → Bool
plain_base r rn = plain r && not_pc rn

-- plain registers, the second of them written twice
abbrev pub plain2_same : ℕ → ℕ → ℕ → Bool
plain2_same a b again = plain2 a b && b == again

-- ---- moves, sums and comparisons of 16 bits

abbrev pub can_add_high : ℕ → ℕ → Bool
can_add_high rd rm = not (rd == 15 && rm == 15)

-- lower registers have a row of their own
abbrev pub can_compare_high : ℕ → ℕ → Bool
can_compare_high rn rm = not (nat_lt rn 8 && nat_lt rm 8) && not_pc rn && not_pc rm

-- to Non-secure state not from SP
abbrev pub can_exchange : ℕ → ℕ → Bool
can_exchange rm ns = not_pc rm && not (ns == 1 && rm == 13)

-- ---- IT

-- one bit of four
abbrev pub is_single : ℕ → Bool
is_single k = k == 1 || k == 2 || k == 4 || k == 8

-- 15 is no condition, and 14 (always) takes no else
abbrev pub can_begin : ℕ → ℕ → Bool
can_begin cond mask = not (cond == 15) && (not (cond == 14) || is_single mask)

-- ---- several registers

-- bit k of a list
abbrev pub is_listed : ℕ → ℕ → Bool
is_listed list k = list / 2 ^ k % 2 == 1

-- a base in the list of a narrow store is the lowest
abbrev pub can_store_many : ℕ → ℕ → Bool
can_store_many rn list = not_zero list && (not (is_listed list rn) || list % 2 ^ rn == 0)

-- at least two registers, not both LR and PC, and no base that is written back
abbrev pub can_move_many : ℕ → ℕ → ℕ → Bool
can_move_many w rn list = not_pc rn && nat_le 2 (count_ones list) && not (is_listed list 14 && is_listed list 15) && not (w == 1 && is_listed list rn)

-- a base that is written back is neither register
abbrev pub can_store_pair : ℕ → ℕ → ℕ → ℕ → Bool
can_store_pair w rn rt rt2 = plain2 rt rt2 && not (w == 1 && (rn == rt || rn == rt2))

-- two registers to load differ
abbrev pub can_load_pair : ℕ → ℕ → ℕ → ℕ → Bool
can_load_pair w rn rt rt2 = can_store_pair w rn rt rt2 && not (rt == rt2)

abbrev pub can_load_pair_literal : ℕ → ℕ → Bool
can_load_pair_literal rt rt2 = plain2 rt rt2 && not (rt == rt2)

-- the answer of a store-exclusive has a register of its own
abbrev pub can_store_exclusive : ℕ → ℕ → ℕ → Bool
can_store_exclusive rd rt rn = plain2 rd rt && not_pc rn && not (rd == rn) && not (rd == rt)

abbrev pub can_branch_table : ℕ → ℕ → Bool
can_branch_table rn rm = not (rn == 13) && plain rm

-- ---- data of 32 bits

-- twelve bits that are no constant: two or four copies of the byte 0
abbrev pub copies_zero : ℕ → Bool
copies_zero n = (n / 256 == 1 || n / 256 == 2 || n / 256 == 3) && n % 256 == 0

-- SP is written from SP alone
abbrev pub can_add : ℕ → ℕ → Bool
can_add rd rn = not_pc rn && (plain rd || rd == 13 && rn == 13)

-- and then the other register is shifted left by at most 3
abbrev pub can_add_register : ℕ → ℕ → ℕ → ℕ → ℕ → Bool
can_add_register rd rn rm kind n = not_pc rn && plain rm && (plain rd || rd == 13 && rn == 13 && kind == 0 && nat_le n 3)

-- a move that sets no flags and shifts nothing may name SP once
abbrev pub can_move : ℕ → ℕ → ℕ → ℕ → ℕ → Bool
can_move sets rd rm kind n = plain2 rd rm || sets == 0 && kind == 0 && n == 0 && not_pc rd && not_pc rm && not (rd == 13 && rm == 13)

abbrev pub can_set : ℕ → ℕ → Bool
can_set rd imm12 = plain rd && not (copies_zero imm12)

abbrev pub can_set_from : ℕ → ℕ → ℕ → Bool
can_set_from rd rn imm12 = plain2 rd rn && not (copies_zero imm12)

abbrev pub can_add_constant : ℕ → ℕ → ℕ → Bool
can_add_constant rd rn imm12 = can_add rd rn && not (copies_zero imm12)

abbrev pub can_compare : ℕ → ℕ → Bool
can_compare rn imm12 = not_pc rn && not (copies_zero imm12)

-- an arithmetic shift is by at least one place
abbrev pub can_saturate : ℕ → ℕ → ℕ → ℕ → Bool
can_saturate rd rn asr amount = plain2 rd rn && not (asr == 1 && amount == 0)

-- the field ends below bit 32
abbrev pub can_extract : ℕ → ℕ → ℕ → ℕ → Bool
can_extract rd rn low less_one = plain2 rd rn && nat_le (low + less_one + 1) 32

-- the highest bit isn't below the lowest
abbrev pub can_insert : ℕ → ℕ → ℕ → ℕ → Bool
can_insert rd rn low high = plain2 rd rn && nat_le low high

abbrev pub can_clear : ℕ → ℕ → ℕ → Bool
can_clear rd low high = plain rd && nat_le low high

abbrev pub can_multiply_long : ℕ → ℕ → ℕ → ℕ → Bool
can_multiply_long lo hi rn rm = plain4 lo hi rn rm && not (lo == hi)

-- ---- special registers

-- the numbers (SYSm) that MRS and MSR name
abbrev pub is_special : ℕ → Bool
is_special n = nat_lt n 4 || (nat_le 5 n && nat_le n 11) || (nat_le 16 n && nat_le n 20) || (nat_le 0x88 n && nat_le n 0x8b) || n == 0x90 || n == 0x91 || n == 0x93 || n == 0x94 || n == 0x98

abbrev pub can_name : ℕ → ℕ → Bool
can_name r sysm = plain r && is_special sysm

-- ---- loads and stores of one register; sizes are 0 byte, 1 half, 2 word

-- a word may be loaded into SP and PC
abbrev pub can_load : ℕ → ℕ → Bool
can_load size rt = size == 2 || plain rt

-- a word may be stored from SP
abbrev pub can_store : ℕ → ℕ → Bool
can_store size rt = not_pc rt && (size == 2 || not (rt == 13))

-- a base that is written back isn't the register
abbrev pub can_load_back : ℕ → ℕ → ℕ → Bool
can_load_back size rt rn = can_load size rt && not (rn == rt)

abbrev pub can_store_back : ℕ → ℕ → ℕ → Bool
can_store_back size rt rn = can_store size rt && not (rn == rt)

abbrev pub can_load_index : ℕ → ℕ → ℕ → Bool
can_load_index size rt rm = can_load size rt && plain rm

abbrev pub can_store_index : ℕ → ℕ → ℕ → Bool
can_store_index size rt rm = can_store size rt && plain rm
