-- Forms whose text depends on the code: some row of texts fits in each case.
use Rattle.std.proofs.Common.{◌≡◌, ◌<◌, ℕ, Bool, true, false, ◌&&◌, ◌||◌, ◌==◌, ℤ, cond, refl}
use Rattle.std.proofs.lemmas.Bool.{or_right}
use Rattle.tz_table.specs.Fields.{bits}
use Rattle.tz_table.specs.Terms.{flags_of, indexed, is_one, shift_of, size_of}
use Rattle.tz_table.specs.declared.instruction.Address.{Address}
use Rattle.tz_table.specs.declared.instruction.Address.TheVariants as addresses
use Rattle.tz_table.specs.declared.instruction.DataOp.{DataOp}
use Rattle.tz_table.specs.declared.instruction.DataOp.TheVariants as ops
use Rattle.tz_table.specs.declared.instruction.Flags.TheVariants as flags
use Rattle.tz_table.specs.declared.instruction.Insn.TheVariants as insns
use Rattle.tz_table.specs.declared.units.Shift.{Shift}
use Rattle.tz_table.specs.declared.units.Shift.TheVariants as shifts
use Rattle.tz_table.specs.declared.units.Size.{Size}
use Rattle.tz_table.specs.declared.units.Size.TheVariants as sizes
use Rattle.tz_table.specs.declared.units.Width.TheVariants.{Narrow, Wide}
use Rattle.tz_syntax.specs.DataTexts.{constants, registers, other_data}
use Rattle.tz_syntax.specs.MemoryTexts.{loads, stores, pairs, multiples}
use Rattle.tz_syntax.specs.OtherTexts.{branches, system}
use Rattle.tz_text.proofs.TextCases.{branch_if_narrow, branch_if_wide, by_bool, by_flags, by_indexed, by_one, by_shift, by_size, load_cases, narrow_hint, wide_hint}
use Rattle.tz_text.proofs.TextGroups.{Among, HasText, in_branches, in_constants, in_loads, in_multiples, in_other_data, in_pairs, in_registers, in_stores, in_system}
pub use Rattle.tz_text.proofs.TextCases.{excepts_from}

-- ---- data

module _ (op : DataOp) (n rd rn imm : ℕ) where
  pub constant_text : Among constants (insns.DataImm op flags.Always rd rn imm) Wide → Among constants (insns.DataImm op flags.Never rd rn imm) Wide
      → HasText (insns.DataImm op (flags_of n) rd rn imm) Wide
  constant_text a b = in_constants (insns.DataImm op (flags_of n) rd rn imm) Wide (by_flags (λ x. Among constants (insns.DataImm op x rd rn imm) Wide) n a b)

module _ (op : DataOp) (n rd rn rm : ℕ) (shift : Shift) (amount : ℕ) where
  pub register_text : Among registers (insns.DataReg op flags.Always rd rn rm shift amount) Wide → Among registers (insns.DataReg op flags.Never rd rn rm shift amount) Wide
      → HasText (insns.DataReg op (flags_of n) rd rn rm shift amount) Wide
  register_text a b =
      in_registers (insns.DataReg op (flags_of n) rd rn rm shift amount) Wide (by_flags (λ x. Among registers (insns.DataReg op x rd rn rm shift amount) Wide) n a b)

-- a move is written where the amount is 0, and else a shift
pub left_text : (rd rm amount : ℕ) → HasText (insns.DataReg ops.Mov flags.OutsideIt rd 0 rm shifts.Lsl amount) Narrow
left_text rd rm amount = in_registers (insns.DataReg ops.Mov flags.OutsideIt rd 0 rm shifts.Lsl amount) Narrow (or_right _ _ refl)

pub shift_text : (k n rd rn rm : ℕ) → HasText (insns.ShiftReg (shift_of k) (flags_of n) rd rn rm) Wide
shift_text k n rd rn rm =
    in_other_data (insns.ShiftReg (shift_of k) (flags_of n) rd rn rm) Wide
    (by_shift (λ x. Among other_data (insns.ShiftReg x (flags_of n) rd rn rm) Wide) k
    (by_flags (λ x. Among other_data (insns.ShiftReg shifts.Lsl x rd rn rm) Wide) n refl refl)
    (by_flags (λ x. Among other_data (insns.ShiftReg shifts.Lsr x rd rn rm) Wide) n refl refl)
    (by_flags (λ x. Among other_data (insns.ShiftReg shifts.Asr x rd rn rm) Wide) n refl refl)
    (by_flags (λ x. Among other_data (insns.ShiftReg shifts.Ror x rd rn rm) Wide) n refl refl))

pub add_text : (n rd rn imm : ℕ) → HasText (insns.AddWide (is_one n) rd rn imm) Narrow
add_text n rd rn imm = in_other_data (insns.AddWide (is_one n) rd rn imm) Narrow (by_one (λ x. Among other_data (insns.AddWide x rd rn imm) Narrow) n refl refl)

pub move_text : (n rd imm : ℕ) → HasText (insns.MovWide (is_one n) rd imm) Wide
move_text n rd imm = in_other_data (insns.MovWide (is_one n) rd imm) Wide (by_one (λ x. Among other_data (insns.MovWide x rd imm) Wide) n refl refl)

pub saturate_text : (signed : Bool) (n rd rn width amount : ℕ) → HasText (insns.Saturate signed rd rn width (is_one n) amount) Wide
saturate_text true n rd rn width amount =
    in_other_data (insns.Saturate true rd rn width (is_one n) amount) Wide (by_one (λ x. Among other_data (insns.Saturate true rd rn width x amount) Wide) n refl refl)
saturate_text false n rd rn width amount =
    in_other_data (insns.Saturate false rd rn width (is_one n) amount) Wide (by_one (λ x. Among other_data (insns.Saturate false rd rn width x amount) Wide) n refl refl)

-- ---- loads and stores

module _ (f rt : ℕ) (address : Address) (user others : Bool) (none : ((bits f 5 2 == 3) || (((bits f 8 1 == 1) && (bits f 5 2 == 2)) || others)) ≡ false) where
  pub load_text : Among loads (insns.Load sizes.Byte true rt address user) Wide → Among loads (insns.Load sizes.Byte false rt address user) Wide
      → Among loads (insns.Load sizes.Half true rt address user) Wide → Among loads (insns.Load sizes.Half false rt address user) Wide
      → Among loads (insns.Load sizes.Word false rt address user) Wide → HasText (insns.Load (size_of (bits f 5 2)) (is_one (bits f 8 1)) rt address user) Wide
  load_text a b c d e =
      in_loads (insns.Load (size_of (bits f 5 2)) (is_one (bits f 8 1)) rt address user) Wide
      (load_cases (λ size signed. Among loads (insns.Load size signed rt address user) Wide) f others none a b c d e)

module _ (f rt p rn : ℕ) (offset : ℤ) (others : Bool) (none : ((bits f 5 2 == 3) || (((bits f 8 1 == 1) && (bits f 5 2 == 2)) || others)) ≡ false) where
  load_back : (size : Size) (signed : Bool) → Among loads (insns.Load size signed rt (addresses.Pre rn offset) false) Wide
      → Among loads (insns.Load size signed rt (addresses.Post rn offset) false) Wide → Among loads (insns.Load size signed rt (indexed p 1 rn offset) false) Wide
  load_back size signed a b = by_bool (λ x. Among loads (insns.Load size signed rt (cond x (addresses.Pre rn offset) (addresses.Post rn offset)) false) Wide) (p == 1) a b

  pub load_back_text : HasText (insns.Load (size_of (bits f 5 2)) (is_one (bits f 8 1)) rt (indexed p 1 rn offset) false) Wide
  load_back_text =
      in_loads (insns.Load (size_of (bits f 5 2)) (is_one (bits f 8 1)) rt (indexed p 1 rn offset) false) Wide
      (load_cases (λ size signed. Among loads (insns.Load size signed rt (indexed p 1 rn offset) false) Wide) f others none
      (load_back sizes.Byte true refl refl) (load_back sizes.Byte false refl refl) (load_back sizes.Half true refl refl)
      (load_back sizes.Half false refl refl) (load_back sizes.Word false refl refl))

module _ (n rt : ℕ) (address : Address) (user : Bool) where
  pub store_text : Among stores (insns.Store sizes.Byte rt address user) Wide → Among stores (insns.Store sizes.Half rt address user) Wide
      → Among stores (insns.Store sizes.Word rt address user) Wide → HasText (insns.Store (size_of n) rt address user) Wide
  store_text a b c = in_stores (insns.Store (size_of n) rt address user) Wide (by_size (λ x. Among stores (insns.Store x rt address user) Wide) n a b c)

module _ (n p rt rn : ℕ) (offset : ℤ) where
  store_back : (size : Size) → Among stores (insns.Store size rt (addresses.Pre rn offset) false) Wide
      → Among stores (insns.Store size rt (addresses.Post rn offset) false) Wide → Among stores (insns.Store size rt (indexed p 1 rn offset) false) Wide
  store_back size a b = by_bool (λ x. Among stores (insns.Store size rt (cond x (addresses.Pre rn offset) (addresses.Post rn offset)) false) Wide) (p == 1) a b

  pub store_back_text : HasText (insns.Store (size_of n) rt (indexed p 1 rn offset) false) Wide
  store_back_text =
      in_stores (insns.Store (size_of n) rt (indexed p 1 rn offset) false) Wide
      (by_size (λ x. Among stores (insns.Store x rt (indexed p 1 rn offset) false) Wide) n
      (store_back sizes.Byte refl refl) (store_back sizes.Half refl refl) (store_back sizes.Word refl refl))

pub load_pair_text : (p w rt rt2 rn : ℕ) (offset : ℤ) → HasText (insns.LoadPair rt rt2 (indexed p w rn offset)) Wide
load_pair_text p w rt rt2 rn offset =
    in_pairs (insns.LoadPair rt rt2 (indexed p w rn offset)) Wide (by_indexed (λ x. Among pairs (insns.LoadPair rt rt2 x) Wide) p w rn offset refl refl refl)

pub store_pair_text : (p w rt rt2 rn : ℕ) (offset : ℤ) → HasText (insns.StorePair rt rt2 (indexed p w rn offset)) Wide
store_pair_text p w rt rt2 rn offset =
    in_pairs (insns.StorePair rt rt2 (indexed p w rn offset)) Wide (by_indexed (λ x. Among pairs (insns.StorePair rt rt2 x) Wide) p w rn offset refl refl refl)

-- a base that is written back may be SP, which has a mnemonic of its own
pub load_many_narrow_text : (rn list : ℕ) (back : Bool) → HasText (insns.LoadMany rn list false back) Narrow
load_many_narrow_text rn list true = in_multiples (insns.LoadMany rn list false true) Narrow (or_right _ _ refl)
load_many_narrow_text rn list false = in_multiples (insns.LoadMany rn list false false) Narrow refl

pub load_many_text : (rn list : ℕ) (down : Bool) (n : ℕ) → HasText (insns.LoadMany rn list down (is_one n)) Wide
load_many_text rn list true n =
    in_multiples (insns.LoadMany rn list true (is_one n)) Wide (by_one (λ x. Among multiples (insns.LoadMany rn list true x) Wide) n refl refl)
load_many_text rn list false n =
    in_multiples (insns.LoadMany rn list false (is_one n)) Wide (by_one (λ x. Among multiples (insns.LoadMany rn list false x) Wide) n (or_right _ _ refl) refl)

pub store_many_text : (rn list : ℕ) (down : Bool) (n : ℕ) → HasText (insns.StoreMany rn list down (is_one n)) Wide
store_many_text rn list true n =
    in_multiples (insns.StoreMany rn list true (is_one n)) Wide (by_one (λ x. Among multiples (insns.StoreMany rn list true x) Wide) n (or_right _ _ refl) refl)
store_many_text rn list false n =
    in_multiples (insns.StoreMany rn list false (is_one n)) Wide (by_one (λ x. Among multiples (insns.StoreMany rn list false x) Wide) n refl refl)

-- ---- branches

pub narrow_branch_if_text : (c : ℕ) (offset : ℤ) → c < 16 → ((c == 14) || (c == 15)) ≡ false → HasText (insns.BranchIf c offset) Narrow
narrow_branch_if_text c offset l none = in_branches (insns.BranchIf c offset) Narrow (branch_if_narrow c offset l none)

pub wide_branch_if_text : (c : ℕ) (offset : ℤ) → c < 16 → ((c == 14) || (c == 15)) ≡ false → HasText (insns.BranchIf c offset) Wide
wide_branch_if_text c offset l none = in_branches (insns.BranchIf c offset) Wide (branch_if_wide c offset l none)

pub branch_zero_text : (n rn : ℕ) (offset : ℤ) → HasText (insns.BranchZero (is_one n) rn offset) Narrow
branch_zero_text n rn offset = in_branches (insns.BranchZero (is_one n) rn offset) Narrow (by_one (λ x. Among branches (insns.BranchZero x rn offset) Narrow) n refl refl)

pub table_branch_text : (n rn rm : ℕ) → HasText (insns.TableBranch (is_one n) rn rm) Wide
table_branch_text n rn rm = in_branches (insns.TableBranch (is_one n) rn rm) Wide (by_one (λ x. Among branches (insns.TableBranch x rn rm) Wide) n refl refl)

pub branch_exchange_text : (rm n : ℕ) → HasText (insns.BranchExchange rm (is_one n)) Narrow
branch_exchange_text rm n = in_branches (insns.BranchExchange rm (is_one n)) Narrow (by_one (λ x. Among branches (insns.BranchExchange rm x) Narrow) n refl refl)

pub call_exchange_text : (rm n : ℕ) → HasText (insns.CallExchange rm (is_one n)) Narrow
call_exchange_text rm n = in_branches (insns.CallExchange rm (is_one n)) Narrow (by_one (λ x. Among branches (insns.CallExchange rm x) Narrow) n refl refl)

-- ---- the system

pub narrow_hint_text : (op : ℕ) → HasText (insns.Hint op) Narrow
narrow_hint_text op = in_system (insns.Hint op) Narrow (narrow_hint op)

pub wide_hint_text : (op : ℕ) → HasText (insns.Hint op) Wide
wide_hint_text op = in_system (insns.Hint op) Wide (wide_hint op)

pub change_state_text : (n : ℕ) (i f : Bool) → HasText (insns.ChangeState (is_one n) i f) Narrow
change_state_text n i f = in_system (insns.ChangeState (is_one n) i f) Narrow (by_one (λ x. Among system (insns.ChangeState x i f) Narrow) n refl refl)

pub test_target_text : (m n rd rn : ℕ) → HasText (insns.TestTarget (is_one m) (is_one n) rd rn) Wide
test_target_text m n rd rn =
    in_system (insns.TestTarget (is_one m) (is_one n) rd rn) Wide
    (by_one (λ x. Among system (insns.TestTarget x (is_one n) rd rn) Wide) m
    (by_one (λ x. Among system (insns.TestTarget true x rd rn) Wide) n refl refl)
    (by_one (λ x. Among system (insns.TestTarget false x rd rn) Wide) n refl refl))

pub lazy_state_text : (n rn : ℕ) → HasText (insns.LazyState (is_one n) rn) Wide
lazy_state_text n rn = in_system (insns.LazyState (is_one n) rn) Wide (by_one (λ x. Among system (insns.LazyState x rn) Wide) n refl refl)
