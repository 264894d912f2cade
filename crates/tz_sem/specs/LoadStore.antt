-- Loads and stores: where they go, and what they leave. The exclusive monitor is the state's: here a store
-- exclusive is one whose address the monitor holds.
use Rattle.std.specs.Prelude.{ℕ, zero, suc, ◌+◌, ◌-◌, ◌*◌, ◌/◌, ◌%◌, ◌^◌, ◌==◌, Bool, true, false, ◌&&◌, nat_lt, List, [], ◌∷◌, length, filter, if◌then◌else◌, slice_index, Option, Some, None, Ok, Err, ℤ}
use Rattle.tz_table.specs.declared.units.Size.{Size}
use Rattle.tz_table.specs.declared.units.Size.TheVariants.{Byte, Half, Word}
use Rattle.tz_table.specs.declared.instruction.Address.{Address}
use Rattle.tz_table.specs.declared.instruction.Address.TheVariants.{Offset, Pre, Post, Index, Literal}
use Rattle.tz_table.specs.declared.instruction.Insn.{Insn}
use Rattle.tz_table.specs.declared.instruction.Insn.TheVariants as insns
use Rattle.tz_bits.specs.Shifts.{left}
use Rattle.tz_bits.specs.Words.{sign_extended}
use Rattle.tz_model.specs.declared.report.Fault.{Fault}
use Rattle.tz_model.specs.declared.report.Fault.TheVariants.{Undef, StackLimit}
use Rattle.tz_model.specs.declared.report.Outcome.TheVariants.{Next, Exchange}
use Rattle.tz_model.specs.Ports.{Access, Load, Store, always_aligned, aligned_by_ccr, as_running}
use Rattle.tz_model.specs.Words.{wrap, word_of}
use Rattle.tz_regs.specs.Registers.{pointer_limit_of}
use Rattle.tz_sem.specs.Local.{Local, Finished, reg, put, gives}

-- ---- addresses

-- the instruction's address plus 4, which PC reads as, aligned to a word, plus an offset
abbrev pub literal_at : Local → ℤ → ℕ
literal_at l offset = wrap (wrap (l.registers.pc + 4) / 4 * 4 + word_of offset)

abbrev pub offset_at : Local → ℕ → ℤ → ℕ
offset_at l rn offset = wrap (reg l rn + word_of offset)

-- where an access goes; an index is shifted left
abbrev pub place_of : Address → Local → ℕ
place_of (Offset rn offset) l = offset_at l rn offset
place_of (Pre rn offset) l = offset_at l rn offset
place_of (Post rn offset) l = reg l rn
place_of (Index rn rm amount) l = wrap (reg l rn + left (reg l rm) amount)
place_of (Literal offset) l = literal_at l offset

-- what is left once the base has its new value
abbrev pub based : Address → Local → Local
based (Pre rn offset) l = put l rn (offset_at l rn offset)
based (Post rn offset) l = put l rn (offset_at l rn offset)
based address l = l

-- a base that is SP doesn't get below its limit; that is checked before any access
abbrev pub below_limit : ℕ → ℕ → Local → Option Fault
below_limit rn value l =
    if rn == 13 && nat_lt value (pointer_limit_of l.registers.ipsr l.own) then Some (StackLimit l.side) else None

abbrev pub refusal_of : Address → Local → Option Fault
refusal_of (Pre rn offset) l = below_limit rn (offset_at l rn offset) l
refusal_of (Post rn offset) l = below_limit rn (offset_at l rn offset) l
refusal_of address l = None

-- ---- values

-- a number of a size as a word
abbrev pub extended_to : Bool → Size → ℕ → ℕ
extended_to true Byte value = sign_extended value 8
extended_to true Half value = sign_extended value 16
extended_to signed size value = value

-- the register of a load gets its value; a load of PC exchanges
abbrev pub register_loaded : ℕ → Local → ℕ → Finished
register_loaded rt l word = if rt == 15 then Ok (l, Exchange word false) else gives l rt word

-- ---- multiples

-- the registers that a list may name beside PC: R0 to R12 and LR
abbrev pub general_numbers : List ℕ
general_numbers = 0 ∷ 1 ∷ 2 ∷ 3 ∷ 4 ∷ 5 ∷ 6 ∷ 7 ∷ 8 ∷ 9 ∷ 10 ∷ 11 ∷ 12 ∷ 14 ∷ []

-- a bit of a list names a register
abbrev pub is_listed : ℕ → ℕ → Bool
is_listed list k = list / 2 ^ k % 2 == 1

-- the registers of a list, the lowest first
unfoldable pub listed : ℕ → List ℕ
listed list = filter (is_listed list) general_numbers

-- how many words a load and a store of a list have; only a load has PC
abbrev pub words_loaded : ℕ → ℕ
words_loaded list = length (listed list) + (if is_listed list 15 then 1 else 0)

abbrev pub words_stored : ℕ → ℕ
words_stored list = length (listed list)

-- a base past so many words, above it or below
abbrev pub past_words : Bool → ℕ → ℕ → ℕ
past_words false base count = wrap (base + 4 * count)
past_words true base count = wrap (base + (2 ^ 32 - 4 * count))

-- the lowest of the addresses
abbrev pub lowest : Bool → ℕ → ℕ → ℕ
lowest false base count = base
lowest true base count = past_words true base count

-- words in ascending order, which have to be aligned
abbrev pub word_loads : ℕ → ℕ → List Access
word_loads addr zero = []
word_loads addr (suc count) = Load Word addr always_aligned as_running ∷ word_loads (wrap (addr + 4)) count

abbrev pub word_stores : Local → ℕ → List ℕ → List Access
word_stores l addr [] = []
word_stores l addr (k ∷ more) = Store Word addr (reg l k) always_aligned as_running ∷ word_stores l (wrap (addr + 4)) more

-- the base gets its new value where the instruction says so
abbrev pub based_past : Bool → ℕ → ℕ → Local → Local
based_past back rn value l = if back then put l rn value else l

-- SP doesn't get below its limit, in either direction
abbrev pub refusal_past : Bool → ℕ → ℕ → Local → Option Fault
refusal_past back rn value l = if back then below_limit rn value l else None

-- registers get words, each its own
abbrev pub filled : Local → List ℕ → List ℕ → Local
filled l [] words = l
filled l (k ∷ more) [] = l
filled l (k ∷ more) (word ∷ words) = filled (put l k word) more words

-- after the registers of a list, PC gets the last word where the list names it, and exchanges
abbrev pub filled_all : ℕ → Local → List ℕ → Finished
filled_all list l words =
    if is_listed list 15 then Ok (filled l (listed list) words, Exchange (slice_index words (length (listed list))) false)
    else Ok (filled l (listed list) words, Next)

abbrev pub finish_load_many : ℕ → ℕ → Bool → Bool → Local → List ℕ → Finished
finish_load_many rn list down back l words =
    filled_all list (based_past back rn (past_words down (reg l rn) (words_loaded list)) l) words

-- ---- the forms

-- a pair is two words, which have to be aligned
abbrev pub pair_loads : ℕ → List Access
pair_loads addr = Load Word addr always_aligned as_running ∷ Load Word (wrap (addr + 4)) always_aligned as_running ∷ []

abbrev pub pair_stores : ℕ → ℕ → ℕ → List Access
pair_stores addr first second = Store Word addr first always_aligned as_running ∷ Store Word (wrap (addr + 4)) second always_aligned as_running ∷ []

-- why an instruction of this family faults before it makes an access
abbrev pub refusal : Insn → Local → Option Fault
refusal (insns.Load size signed rt address user) l = refusal_of address l
refusal (insns.Store size rt address user) l = refusal_of address l
refusal (insns.LoadPair rt rt2 address) l = refusal_of address l
refusal (insns.StorePair rt rt2 address) l = refusal_of address l
refusal (insns.LoadMany rn list down back) l = refusal_past back rn (past_words down (reg l rn) (words_loaded list)) l
refusal (insns.StoreMany rn list down back) l = refusal_past back rn (past_words down (reg l rn) (words_stored list)) l
refusal insn l = None

-- the accesses of an instruction of this family; a load of PC has to be aligned
abbrev pub plan_load_store : Insn → Local → List Access
plan_load_store (insns.Load size signed rt address user) l = Load size (place_of address l) (rt == 15) user ∷ []
plan_load_store (insns.Store size rt address user) l = Store size (place_of address l) (reg l rt) aligned_by_ccr user ∷ []
plan_load_store (insns.LoadPair rt rt2 address) l = pair_loads (place_of address l)
plan_load_store (insns.StorePair rt rt2 address) l = pair_stores (place_of address l) (reg l rt) (reg l rt2)
plan_load_store (insns.LoadMany rn list down back) l = word_loads (lowest down (reg l rn) (words_loaded list)) (words_loaded list)
plan_load_store (insns.StoreMany rn list down back) l = word_stores l (lowest down (reg l rn) (words_stored list)) (listed list)
plan_load_store (insns.LoadExclusive size acquire rt rn offset) l = Load size (offset_at l rn offset) always_aligned as_running ∷ []
plan_load_store (insns.StoreExclusive size release rd rt rn offset) l =
    Store size (offset_at l rn offset) (reg l rt) always_aligned as_running ∷ []
plan_load_store (insns.LoadAcquire size rt rn) l = Load size (reg l rn) always_aligned as_running ∷ []
plan_load_store (insns.StoreRelease size rt rn) l = Store size (reg l rn) (reg l rt) always_aligned as_running ∷ []
plan_load_store insn l = []

-- what an instruction of this family leaves, given the words that its accesses read
abbrev pub finish_load_store : Insn → Local → List ℕ → Finished
finish_load_store (insns.Load size signed rt address user) l words =
    register_loaded rt (based address l) (extended_to signed size (slice_index words 0))
finish_load_store (insns.Store size rt address user) l words = Ok (based address l, Next)
finish_load_store (insns.LoadPair rt rt2 address) l words = gives (put (based address l) rt (slice_index words 0)) rt2 (slice_index words 1)
finish_load_store (insns.StorePair rt rt2 address) l words = Ok (based address l, Next)
finish_load_store (insns.LoadMany rn list down back) l words = finish_load_many rn list down back l words
finish_load_store (insns.StoreMany rn list down back) l words =
    Ok (based_past back rn (past_words down (reg l rn) (words_stored list)) l, Next)
finish_load_store insns.Preload l words = Ok (l, Next)
finish_load_store (insns.LoadExclusive size acquire rt rn offset) l words = gives l rt (slice_index words 0)
finish_load_store (insns.StoreExclusive size release rd rt rn offset) l words = gives l rd 0
finish_load_store (insns.LoadAcquire size rt rn) l words = gives l rt (slice_index words 0)
finish_load_store (insns.StoreRelease size rt rn) l words = Ok (l, Next)
finish_load_store insn l words = Err Undef
