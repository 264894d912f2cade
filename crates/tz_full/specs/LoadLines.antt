-- What the instruction that ran has read, and the system registers that it wrote: by the accesses that it makes from the
-- core before the step, and the state after it, which no load has changed but for what reads of system registers clear.
use Rattle.std.specs.Prelude.{ℕ, ◌+◌, ◌-◌, ◌/◌, ◌^◌, ◌==◌, Bool, true, false, if◌then◌else◌, List, [], ◌∷◌, ◌++◌, codes, map, Option, Some, None, option_map}
use Rattle.tz_table.specs.declared.units.Size.{Size}
use Rattle.tz_table.specs.declared.units.Size.TheVariants.{Byte, Half, Word}
use Rattle.tz_table.specs.declared.instruction.Insn.{Insn}
use Rattle.tz_table.specs.declared.instruction.Insn.TheVariants as insns
use Rattle.tz_model.specs.declared.report.Store as stored
use Rattle.tz_model.specs.Ports.{Access, Load, Store, cut_to}
use Rattle.tz_model.specs.Words.{wrap}
use Rattle.tz_regs.specs.declared.parts.Core.{Core}
use Rattle.tz_regs.specs.declared.parts.Registers.{Registers}
use Rattle.tz_regs.specs.Banks.{stacks_of}
use Rattle.tz_regs.specs.Registers.{reg_of}
use Rattle.tz_regs.specs.Special.{number_of}
use Rattle.tz_state.specs.Access.{is_mapped, is_private}
use Rattle.tz_state.specs.Memory.{every, value_at}
use Rattle.tz_state.specs.State.{Bus, State}
use Rattle.tz_sem.specs.declared.ending.Cause.{Cause}
use Rattle.tz_sem.specs.declared.ending.Cause.TheVariants.{Resumed}
use Rattle.tz_sem.specs.Branch.{plan_branch}
use Rattle.tz_sem.specs.LoadStore.{plan_load_store}
use Rattle.tz_sem.specs.Local.{Local, local_of}
use Rattle.tz_syntax.specs.Digits.{hex_word}
use Rattle.tz_sem.specs.declared.account.Account.{Account}
use Rattle.tz_sem.specs.declared.ending.Handling.{Handling}
use Rattle.tz_full.specs.RegisterNames.{name_at}
use Rattle.tz_full.specs.Instruction.{filled_by}

-- ---- its accesses

-- those of a table branch are a branch's, and the others those of loads and stores
abbrev pub accesses_of : Insn → Local → List Access
accesses_of (insns.TableBranch half rn rm) l = plan_branch (insns.TableBranch half rn rm) l
accesses_of i l = plan_load_store i l

-- ---- what registers tell of a word that was read

-- the value by which code returned, or tried to
abbrev pub value_in : Option Handling → Option ℕ
value_in None = None
value_in (Some handling) = handling.value

-- a word that went to PC: the value by which code returned, or the address at which it goes on, with T in bit 0
abbrev pub word_to_pc : Option ℕ → Registers → ℕ
word_to_pc (Some value) r = value
word_to_pc None r = wrap (r.pc + number_of r.t)

abbrev pub is_resumed : Cause → Bool
is_resumed Resumed = true
is_resumed cause = false

-- a word that went to another register; a return of an exception has replaced these
abbrev pub word_to : Account → Core → ℕ → Option ℕ
word_to t c k = if is_resumed t.ending.cause then None else Some (reg_of c.registers (stacks_of c.run.side c) k)

-- what is told of the word that went to a register, by the core after the step
unfoldable pub told_of : Account → Core → ℕ → Option ℕ
told_of t c k = if k == 15 then Some (word_to_pc (value_in t.ending.handling) c.registers) else word_to t c k

-- the entry of a table, by how far the branch went: twice as many bytes, from the branch's address plus 4
unfoldable pub entry_word : Core → Core → Option ℕ
entry_word before after = Some (wrap (after.registers.pc + (2 ^ 32 - wrap (before.registers.pc + 4))) / 2)

-- of each of its loads
abbrev pub words_of : Insn → Account → Core → List (Option ℕ)
words_of (insns.TableBranch half rn rm) t c = entry_word t.core c ∷ []
words_of i t c = map (told_of t c) (filled_by i)

-- ---- loads

abbrev pub size_text : Size → List ℕ
size_text Byte = codes " byte "
size_text Half = codes " half "
size_text Word = codes " word "

-- a word that may not be known
abbrev pub known_text : Option ℕ → List ℕ
known_text None = codes "--------"
known_text (Some word) = hex_word word

-- the number at an address, where regions hold all its bytes
unfoldable pub held_text : Bus → Size → ℕ → List ℕ
held_text b size a = if every (is_mapped b.board.regions) a size then hex_word (value_at b.memory size a) else codes "--------"

-- what a load read: in the private space the word that its register has, with the name of the system register
abbrev pub read_text : Bus → Size → ℕ → Option ℕ → List ℕ
read_text b size a word =
    if is_private a then known_text (option_map (cut_to size) word) ++ codes " " ++ name_at b.board.mover a else held_text b size a

unfoldable pub load_line : Bus → Size → ℕ → Option ℕ → List ℕ
load_line b size a word = codes "    load " ++ hex_word a ++ size_text size ++ read_text b size a word ++ codes "\n"

-- the loads among accesses, each with what its register tells
unfoldable pub loads_text : Bus → List (Option ℕ) → List Access → List ℕ
loads_text b [] accesses = []
loads_text b (word ∷ words) [] = []
loads_text b (word ∷ words) (Load size a must_align user ∷ more) = load_line b size a word ++ loads_text b words more
loads_text b (word ∷ words) (Store size a value must_align user ∷ more) = loads_text b (word ∷ words) more

abbrev pub loads_of : Account → State → Insn → List ℕ
loads_of t s i = loads_text s.bus (words_of i t s.core) (accesses_of i (local_of t.core))

abbrev pub loads_by : Account → State → Option Insn → List ℕ
loads_by t s None = []
loads_by t s (Some i) = loads_of t s i

-- ---- stores to system registers

unfoldable pub store_line : Bool → stored.Store → List ℕ
store_line mover store = if is_private store.addr then codes "    store " ++ hex_word store.addr ++ codes " " ++ name_at mover store.addr ++ codes "\n" else []

unfoldable pub store_lines : Bool → List stored.Store → List ℕ
store_lines mover [] = []
store_lines mover (store ∷ more) = store_line mover store ++ store_lines mover more
