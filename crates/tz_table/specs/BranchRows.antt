-- The rows of 32 bits for branches, special registers, hints and barriers.
use Rattle.std.specs.Prelude.{[], ◌∷◌}
use Rattle.tz_table.specs.Rows.{TableRow, row, row_but, any}
use Rattle.tz_table.specs.Terms.{signed_by, far_by}
use Rattle.tz_table.specs.Limits.{can_name}
use Rattle.tz_table.specs.declared.instruction.Insn.TheVariants as insns
use Rattle.tz_table.specs.declared.instruction.BarrierOp.TheVariants as barriers

-- beq.w target ..; c up to 13
abbrev pub bcond_w : TableRow
bcond_w = row_but "1111 0scc ccii iiii | 10j0 kiii iiii iiii" (λ x. (x "c" 14 ∷ []) ∷ (x "c" 15 ∷ []) ∷ []) any (λ v. insns.BranchIf (v "c") (signed_by 1048576 (v "skji0")))

-- b.w target
abbrev pub branch_w : TableRow
branch_w = row "1111 0shh hhhh hhhh | 10j1 kiii iiii iiii" any (λ v. insns.Branch (signed_by 16777216 (far_by (v "s") (v "j") (v "k") (v "h") (v "i"))))

-- bl target
abbrev pub bl : TableRow
bl = row "1111 0shh hhhh hhhh | 11j1 kiii iiii iiii" any (λ v. insns.BranchLink (signed_by 16777216 (far_by (v "s") (v "j") (v "k") (v "h") (v "i"))))

-- msr special, rn
abbrev pub msr : TableRow
msr = row "1111 0011 1000 nnnn | 1000 1000 yyyy yyyy" (λ v. can_name (v "n") (v "y")) (λ v. insns.WriteSpecial (v "n") (v "y"))

-- mrs rd, special
abbrev pub mrs : TableRow
mrs = row "1111 0011 1110 1111 | 1000 dddd yyyy yyyy" (λ v. can_name (v "d") (v "y")) (λ v. insns.ReadSpecial (v "d") (v "y"))

-- nop.w, yield.w, wfe.w, wfi.w, sev.w, hint.w #o
abbrev pub hint_w : TableRow
hint_w = row "1111 0011 1010 1111 | 1000 0000 oooo oooo" any (λ v. insns.Hint (v "o"))

-- clrex
abbrev pub clrex : TableRow
clrex = row "1111 0011 1011 1111 | 1000 1111 0010 1111" any (λ v. insns.Barrier barriers.Clrex 15)

-- dsb #x
abbrev pub dsb : TableRow
dsb = row "1111 0011 1011 1111 | 1000 1111 0100 xxxx" any (λ v. insns.Barrier barriers.Dsb (v "x"))

-- dmb #x
abbrev pub dmb : TableRow
dmb = row "1111 0011 1011 1111 | 1000 1111 0101 xxxx" any (λ v. insns.Barrier barriers.Dmb (v "x"))

-- isb #x
abbrev pub isb : TableRow
isb = row "1111 0011 1011 1111 | 1000 1111 0110 xxxx" any (λ v. insns.Barrier barriers.Isb (v "x"))

-- udf.w #i
abbrev pub udf_w : TableRow
udf_w = row "1111 0111 1111 iiii | 1010 iiii iiii iiii" any (λ v. insns.Undefined (v "i"))
