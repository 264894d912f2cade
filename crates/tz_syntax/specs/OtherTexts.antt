-- The text of branches and of instructions that work on the system.
use Rattle.std.specs.Prelude.{List, [], ◌∷◌, codes}
use Rattle.tz_table.specs.declared.instruction.BarrierOp.TheVariants.{Clrex, Dsb, Dmb, Isb}
use Rattle.tz_syntax.specs.FormNumbers.{branch, branch_if, branch_link, branch_zero, table_branch, branch_exchange, call_exchange, if_then, hint, barrier, change_state, read_special, write_special, test_target, secure_gateway, lazy_state, supervisor, breakpoint, undefined, no, yes}
use Rattle.tz_syntax.specs.Operands.{reg, num, target, special, condition, masks, at_sum, at_doubled}
use Rattle.tz_syntax.specs.Rows.{TextRowValue, is, narrow, wide, lettered}

-- branches
abbrev pub branches : List TextRowValue
branches =
    narrow branch [] (codes "b") (target 5 ∷ []) ∷  -- b target
    wide branch [] (codes "b.w") (target 5 ∷ []) ∷  -- b.w target
    narrow branch_if (is 5 0 ∷ []) (codes "beq") (target 6 ∷ []) ∷  -- beq target
    narrow branch_if (is 5 1 ∷ []) (codes "bne") (target 6 ∷ []) ∷  -- bne target
    narrow branch_if (is 5 2 ∷ []) (codes "bcs") (target 6 ∷ []) ∷  -- bcs target
    narrow branch_if (is 5 3 ∷ []) (codes "bcc") (target 6 ∷ []) ∷  -- bcc target
    narrow branch_if (is 5 4 ∷ []) (codes "bmi") (target 6 ∷ []) ∷  -- bmi target
    narrow branch_if (is 5 5 ∷ []) (codes "bpl") (target 6 ∷ []) ∷  -- bpl target
    narrow branch_if (is 5 6 ∷ []) (codes "bvs") (target 6 ∷ []) ∷  -- bvs target
    narrow branch_if (is 5 7 ∷ []) (codes "bvc") (target 6 ∷ []) ∷  -- bvc target
    narrow branch_if (is 5 8 ∷ []) (codes "bhi") (target 6 ∷ []) ∷  -- bhi target
    narrow branch_if (is 5 9 ∷ []) (codes "bls") (target 6 ∷ []) ∷  -- bls target
    narrow branch_if (is 5 10 ∷ []) (codes "bge") (target 6 ∷ []) ∷  -- bge target
    narrow branch_if (is 5 11 ∷ []) (codes "blt") (target 6 ∷ []) ∷  -- blt target
    narrow branch_if (is 5 12 ∷ []) (codes "bgt") (target 6 ∷ []) ∷  -- bgt target
    narrow branch_if (is 5 13 ∷ []) (codes "ble") (target 6 ∷ []) ∷  -- ble target
    wide branch_if (is 5 0 ∷ []) (codes "beq.w") (target 6 ∷ []) ∷  -- beq.w target
    wide branch_if (is 5 1 ∷ []) (codes "bne.w") (target 6 ∷ []) ∷  -- bne.w target
    wide branch_if (is 5 2 ∷ []) (codes "bcs.w") (target 6 ∷ []) ∷  -- bcs.w target
    wide branch_if (is 5 3 ∷ []) (codes "bcc.w") (target 6 ∷ []) ∷  -- bcc.w target
    wide branch_if (is 5 4 ∷ []) (codes "bmi.w") (target 6 ∷ []) ∷  -- bmi.w target
    wide branch_if (is 5 5 ∷ []) (codes "bpl.w") (target 6 ∷ []) ∷  -- bpl.w target
    wide branch_if (is 5 6 ∷ []) (codes "bvs.w") (target 6 ∷ []) ∷  -- bvs.w target
    wide branch_if (is 5 7 ∷ []) (codes "bvc.w") (target 6 ∷ []) ∷  -- bvc.w target
    wide branch_if (is 5 8 ∷ []) (codes "bhi.w") (target 6 ∷ []) ∷  -- bhi.w target
    wide branch_if (is 5 9 ∷ []) (codes "bls.w") (target 6 ∷ []) ∷  -- bls.w target
    wide branch_if (is 5 10 ∷ []) (codes "bge.w") (target 6 ∷ []) ∷  -- bge.w target
    wide branch_if (is 5 11 ∷ []) (codes "blt.w") (target 6 ∷ []) ∷  -- blt.w target
    wide branch_if (is 5 12 ∷ []) (codes "bgt.w") (target 6 ∷ []) ∷  -- bgt.w target
    wide branch_if (is 5 13 ∷ []) (codes "ble.w") (target 6 ∷ []) ∷  -- ble.w target
    wide branch_link [] (codes "bl") (target 5 ∷ []) ∷  -- bl target
    narrow branch_zero (is 1 no ∷ []) (codes "cbz") (reg 5 ∷ target 6 ∷ []) ∷  -- cbz rn, target
    narrow branch_zero (is 1 yes ∷ []) (codes "cbnz") (reg 5 ∷ target 6 ∷ []) ∷  -- cbnz rn, target
    wide table_branch (is 1 no ∷ []) (codes "tbb") (at_sum 5 6 ∷ []) ∷  -- tbb [rn, rm]
    wide table_branch (is 1 yes ∷ []) (codes "tbh") (at_doubled 5 6 ∷ []) ∷  -- tbh [rn, rm, lsl #1]
    narrow branch_exchange (is 1 no ∷ []) (codes "bx") (reg 5 ∷ []) ∷  -- bx rm
    narrow branch_exchange (is 1 yes ∷ []) (codes "bxns") (reg 5 ∷ []) ∷  -- bxns rm
    narrow call_exchange (is 1 no ∷ []) (codes "blx") (reg 5 ∷ []) ∷  -- blx rm
    narrow call_exchange (is 1 yes ∷ []) (codes "blxns") (reg 5 ∷ []) ∷  -- blxns rm
    []

-- the system
abbrev pub system : List TextRowValue
system =
    lettered if_then [] (codes "it") (condition 5 ∷ []) ∷  -- it condition; ite condition ..
    narrow hint (is 5 0 ∷ []) (codes "nop") [] ∷  -- nop
    narrow hint (is 5 1 ∷ []) (codes "yield") [] ∷  -- yield
    narrow hint (is 5 2 ∷ []) (codes "wfe") [] ∷  -- wfe
    narrow hint (is 5 3 ∷ []) (codes "wfi") [] ∷  -- wfi
    narrow hint (is 5 4 ∷ []) (codes "sev") [] ∷  -- sev
    narrow hint [] (codes "hint") (num 5 ∷ []) ∷  -- hint #o
    wide hint (is 5 0 ∷ []) (codes "nop.w") [] ∷  -- nop.w
    wide hint (is 5 1 ∷ []) (codes "yield.w") [] ∷  -- yield.w
    wide hint (is 5 2 ∷ []) (codes "wfe.w") [] ∷  -- wfe.w
    wide hint (is 5 3 ∷ []) (codes "wfi.w") [] ∷  -- wfi.w
    wide hint (is 5 4 ∷ []) (codes "sev.w") [] ∷  -- sev.w
    wide hint [] (codes "hint.w") (num 5 ∷ []) ∷  -- hint.w #o
    wide (barrier Clrex) (is 5 15 ∷ []) (codes "clrex") [] ∷  -- clrex
    wide (barrier Dsb) [] (codes "dsb") (num 5 ∷ []) ∷  -- dsb #option
    wide (barrier Dmb) [] (codes "dmb") (num 5 ∷ []) ∷  -- dmb #option
    wide (barrier Isb) [] (codes "isb") (num 5 ∷ []) ∷  -- isb #option
    narrow change_state (is 1 no ∷ []) (codes "cpsie") (masks 2 3 ∷ []) ∷  -- cpsie if
    narrow change_state (is 1 yes ∷ []) (codes "cpsid") (masks 2 3 ∷ []) ∷  -- cpsid if
    wide read_special [] (codes "mrs") (reg 5 ∷ special 6 ∷ []) ∷  -- mrs rd, special
    wide write_special [] (codes "msr") (special 6 ∷ reg 5 ∷ []) ∷  -- msr special, rn
    wide test_target (is 1 no ∷ is 2 no ∷ []) (codes "tt") (reg 5 ∷ reg 6 ∷ []) ∷  -- tt rd, rn
    wide test_target (is 1 no ∷ is 2 yes ∷ []) (codes "ttt") (reg 5 ∷ reg 6 ∷ []) ∷  -- ttt rd, rn
    wide test_target (is 1 yes ∷ is 2 no ∷ []) (codes "tta") (reg 5 ∷ reg 6 ∷ []) ∷  -- tta rd, rn
    wide test_target (is 1 yes ∷ is 2 yes ∷ []) (codes "ttat") (reg 5 ∷ reg 6 ∷ []) ∷  -- ttat rd, rn
    wide secure_gateway [] (codes "sg") [] ∷  -- sg
    wide lazy_state (is 1 no ∷ []) (codes "vlstm") (reg 5 ∷ []) ∷  -- vlstm rn
    wide lazy_state (is 1 yes ∷ []) (codes "vlldm") (reg 5 ∷ []) ∷  -- vlldm rn
    narrow supervisor [] (codes "svc") (num 5 ∷ []) ∷  -- svc #i
    narrow breakpoint [] (codes "bkpt") (num 5 ∷ []) ∷  -- bkpt #i
    narrow undefined [] (codes "udf") (num 5 ∷ []) ∷  -- udf #i
    wide undefined [] (codes "udf.w") (num 5 ∷ []) ∷  -- udf.w #i
    []
