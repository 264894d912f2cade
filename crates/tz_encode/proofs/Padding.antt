-- An instruction's form tells how many numbers it has; what comes after them is 0.
use Rattle.std.proofs.Common.{◌≡◌, ℕ, ◌+◌, ◌-◌, ◌≤◌, ◌++◌, List, [], ◌∷◌, get_or, length, take, drop, replicate, ℤ, pos, nat_abs, refl, ap, sym, ◌∙◌, arith}
use Rattle.std.proofs.lemmas.List.{take-append-drop, take-take}
use Rattle.std.specs.Prelude.{◌==◌, ◌||◌, if◌then◌else◌}
use Rattle.tz_bits.specs.Values.{names_of, values_of}
use Rattle.tz_table.specs.declared.instruction.Address.TheVariants as addresses
use Rattle.tz_table.specs.declared.instruction.Insn.{Insn}
use Rattle.tz_table.specs.declared.instruction.Insn.TheVariants as insns
use Rattle.tz_table.specs.declared.instruction.DataOp.TheVariants as ops
use Rattle.tz_table.specs.declared.instruction.FieldOp.TheVariants as fields
use Rattle.tz_table.specs.declared.instruction.ExtendOp.TheVariants as extends
use Rattle.tz_table.specs.declared.instruction.ReverseOp.TheVariants as reverses
use Rattle.tz_table.specs.declared.instruction.MultiplyOp.TheVariants as multiplies
use Rattle.tz_table.specs.declared.instruction.LongOp.TheVariants as longs
use Rattle.tz_table.specs.declared.instruction.BarrierOp.TheVariants as barriers

-- how many numbers an instruction has, by its variant; of one with an address, without those of the address
abbrev counts : List ℕ
counts = 3 ∷ 3 ∷ 3 ∷ 3 ∷ 3 ∷ 3 ∷ 3 ∷ 3 ∷ 3 ∷ 3 ∷ 3 ∷ 3 ∷ 3 ∷ 3 ∷ 3 ∷ 3 ∷ 4 ∷ 4 ∷ 4 ∷ 4 ∷ 4 ∷ 4 ∷ 4 ∷ 4 ∷ 4 ∷ 4 ∷ 4 ∷ 4 ∷ 4 ∷ 4 ∷ 4 ∷ 4 ∷ 3 ∷ 3 ∷ 2 ∷ 2 ∷ 4 ∷ 4 ∷ 4 ∷ 4 ∷ 4 ∷ 3 ∷ 3 ∷ 3 ∷ 3 ∷ 2 ∷ 2 ∷ 2 ∷ 2 ∷ 2 ∷ 4 ∷ 4 ∷ 4 ∷ 4 ∷ 4 ∷ 4 ∷ 4 ∷ 3 ∷ 1 ∷ 1 ∷ 2 ∷ 2 ∷ 2 ∷ 2 ∷ 0 ∷ 3 ∷ 4 ∷ 2 ∷ 2 ∷ 1 ∷ 2 ∷ 1 ∷ 2 ∷ 2 ∷ 1 ∷ 1 ∷ 2 ∷ 1 ∷ 1 ∷ 1 ∷ 1 ∷ 1 ∷ 0 ∷ 2 ∷ 2 ∷ 2 ∷ 0 ∷ 1 ∷ 1 ∷ 1 ∷ 1 ∷ []

-- how many an address has, by its kind; in a pair at most two are numbers
abbrev address_counts : List ℕ
address_counts = 3 ∷ 2 ∷ 2 ∷ 2 ∷ 1 ∷ []

abbrev pair_counts : List ℕ
pair_counts = 2 ∷ 2 ∷ 2 ∷ 2 ∷ 1 ∷ []

abbrev number_in : List ℤ → ℕ → ℕ
number_in e k = nat_abs (get_or e k (pos 0))

-- those of the address, by the variant: a load has its kind at place 3, a store at place 2, a pair at place 1
abbrev address_count : ℕ → List ℤ → ℕ
address_count k e = if k == 58 then get_or address_counts (number_in e 3) 0 else (if k == 59 then get_or address_counts (number_in e 2) 0 else (if k == 60 || k == 61 then get_or pair_counts (number_in e 1) 0 else 0))

abbrev count_of : List ℤ → ℕ
count_of e = let k = number_in e 0 in get_or counts k 0 + address_count k e

-- the form tells how many numbers there are, and behind them stand zeros
numbered : (i : Insn) → (length (names_of i) ≡ count_of (take 5 (values_of i))) × (drop (5 + length (names_of i)) (values_of i) ≡ replicate (4 - length (names_of i)) (pos 0))
numbered (insns.DataImm op flags rd rn imm12) = (elim op as (λ o. 3 ≡ count_of (take 5 (values_of (insns.DataImm o flags rd rn imm12)))) [ ops.And ↦ refl | _ ↦ refl ], refl)
numbered (insns.DataReg op flags rd rn rm shift amount) = (elim op as (λ o. 4 ≡ count_of (take 5 (values_of (insns.DataReg o flags rd rn rm shift amount)))) [ ops.And ↦ refl | _ ↦ refl ], refl)
numbered (insns.ShiftReg kind flags rd rn rm) = (refl, refl)
numbered (insns.AddWide sub rd rn imm) = (refl, refl)
numbered (insns.Adr rd offset) = (refl, refl)
numbered (insns.MovWide top rd imm) = (refl, refl)
numbered (insns.Saturate signed rd rn bits asr amount) = (refl, refl)
numbered (insns.BitField op rd rn low width) = (elim op as (λ o. 4 ≡ count_of (take 5 (values_of (insns.BitField o rd rn low width)))) [ fields.Sbfx ↦ refl | _ ↦ refl ], refl)
numbered (insns.Extend op rd rm rotate) = (elim op as (λ o. 3 ≡ count_of (take 5 (values_of (insns.Extend o rd rm rotate)))) [ extends.Sxth ↦ refl | _ ↦ refl ], refl)
numbered (insns.Reverse op rd rm) = (elim op as (λ o. 2 ≡ count_of (take 5 (values_of (insns.Reverse o rd rm)))) [ reverses.Rev ↦ refl | _ ↦ refl ], refl)
numbered (insns.Multiply op flags rd rn rm ra) = (elim op as (λ o. 4 ≡ count_of (take 5 (values_of (insns.Multiply o flags rd rn rm ra)))) [ multiplies.Mul ↦ refl | _ ↦ refl ], refl)
numbered (insns.MultiplyLong op lo hi rn rm) = (elim op as (λ o. 4 ≡ count_of (take 5 (values_of (insns.MultiplyLong o lo hi rn rm)))) [ longs.Smull ↦ refl | _ ↦ refl ], refl)
numbered (insns.Divide signed rd rn rm) = (refl, refl)
numbered (insns.Load size signed rt (addresses.Index a b d) user) = (refl, refl)
numbered (insns.Load size signed rt (addresses.Offset a z) user) = (refl, refl)
numbered (insns.Load size signed rt (addresses.Post a z) user) = (refl, refl)
numbered (insns.Load size signed rt (addresses.Pre a z) user) = (refl, refl)
numbered (insns.Load size signed rt (addresses.Literal z) user) = (refl, refl)
numbered (insns.Store size rt (addresses.Index a b d) user) = (refl, refl)
numbered (insns.Store size rt (addresses.Offset a z) user) = (refl, refl)
numbered (insns.Store size rt (addresses.Post a z) user) = (refl, refl)
numbered (insns.Store size rt (addresses.Pre a z) user) = (refl, refl)
numbered (insns.Store size rt (addresses.Literal z) user) = (refl, refl)
numbered (insns.LoadPair rt rt2 (addresses.Index a b d)) = (refl, refl)
numbered (insns.LoadPair rt rt2 (addresses.Offset a z)) = (refl, refl)
numbered (insns.LoadPair rt rt2 (addresses.Post a z)) = (refl, refl)
numbered (insns.LoadPair rt rt2 (addresses.Pre a z)) = (refl, refl)
numbered (insns.LoadPair rt rt2 (addresses.Literal z)) = (refl, refl)
numbered (insns.StorePair rt rt2 (addresses.Index a b d)) = (refl, refl)
numbered (insns.StorePair rt rt2 (addresses.Offset a z)) = (refl, refl)
numbered (insns.StorePair rt rt2 (addresses.Post a z)) = (refl, refl)
numbered (insns.StorePair rt rt2 (addresses.Pre a z)) = (refl, refl)
numbered (insns.StorePair rt rt2 (addresses.Literal z)) = (refl, refl)
numbered (insns.LoadMany rn list down back) = (refl, refl)
numbered (insns.StoreMany rn list down back) = (refl, refl)
numbered insns.Preload = (refl, refl)
numbered (insns.LoadExclusive size acquire rt rn offset) = (refl, refl)
numbered (insns.StoreExclusive size release rd rt rn offset) = (refl, refl)
numbered (insns.LoadAcquire size rt rn) = (refl, refl)
numbered (insns.StoreRelease size rt rn) = (refl, refl)
numbered (insns.Branch offset) = (refl, refl)
numbered (insns.BranchIf cond offset) = (refl, refl)
numbered (insns.BranchLink offset) = (refl, refl)
numbered (insns.BranchZero nonzero rn offset) = (refl, refl)
numbered (insns.TableBranch half rn rm) = (refl, refl)
numbered (insns.BranchExchange rm ns) = (refl, refl)
numbered (insns.CallExchange rm ns) = (refl, refl)
numbered (insns.IfThen cond mask) = (refl, refl)
numbered (insns.Hint op) = (refl, refl)
numbered (insns.Barrier op option) = (elim op as (λ o. 1 ≡ count_of (take 5 (values_of (insns.Barrier o option)))) [ barriers.Clrex ↦ refl | _ ↦ refl ], refl)
numbered (insns.ChangeState disable i f) = (refl, refl)
numbered (insns.ReadSpecial rd sysm) = (refl, refl)
numbered (insns.WriteSpecial rn sysm) = (refl, refl)
numbered (insns.TestTarget a t rd rn) = (refl, refl)
numbered insns.SecureGateway = (refl, refl)
numbered (insns.LazyState load rn) = (refl, refl)
numbered (insns.Supervisor imm) = (refl, refl)
numbered (insns.Breakpoint imm) = (refl, refl)
numbered (insns.Undefined imm) = (refl, refl)

-- instructions of one form have equally many numbers
same_count : (i j : Insn) → take 5 (values_of j) ≡ take 5 (values_of i) → length (names_of j) ≡ length (names_of i)
same_count i j e = (numbered j).0 ∙ ap count_of e ∙ sym (numbered i).0

fewer : (i j : Insn) (m n : ℕ) → m ≤ n → take n (values_of j) ≡ take n (values_of i) → take m (values_of j) ≡ take m (values_of i)
fewer i j m n h e = sym (take-take m n (values_of j) h) ∙ ap (take m) e ∙ take-take m n (values_of i) h

-- what agrees in the form and all numbers agrees in all values
pub all_agree : (i j : Insn) (n : ℕ) → length (names_of i) ≤ n → take (5 + n) (values_of j) ≡ take (5 + n) (values_of i) → values_of j ≡ values_of i
all_agree i j n h e =
    let count : length (names_of j) ≡ length (names_of i) = same_count i j (fewer i j 5 (5 + n) (omega arith) e) in
    let front : take (5 + length (names_of i)) (values_of j) ≡ take (5 + length (names_of i)) (values_of i) = fewer i j (5 + length (names_of i)) (5 + n) (omega arith) e in
    let back : drop (5 + length (names_of i)) (values_of j) ≡ drop (5 + length (names_of i)) (values_of i) =
    sym (ap (λ k. drop (5 + k) (values_of j)) count) ∙ (numbered j).1 ∙ ap (λ k. replicate (4 - k) (pos 0)) count ∙ sym (numbered i).1 in
    sym (take-append-drop (5 + length (names_of i)) (values_of j)) ∙ ap (λ xs. xs ++ drop (5 + length (names_of i)) (values_of j)) front ∙ ap (λ xs. take (5 + length (names_of i)) (values_of i) ++ xs) back ∙ take-append-drop (5 + length (names_of i)) (values_of i)
