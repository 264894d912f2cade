-- The text of loads and stores.
use Rattle.std.specs.Prelude.{List, [], ◌∷◌, codes}
use Rattle.tz_syntax.specs.FormNumbers.{load, store, load_pair, store_pair, load_many, store_many, preload, load_exclusive, store_exclusive, load_acquire, store_release, no, yes, byte, half, word, index, offset, post, pre, literal}
use Rattle.tz_syntax.specs.Operands.{reg, back, num, list, at_base, at, at_pre, at_sum, at_scaled, at_pc}
use Rattle.tz_syntax.specs.Rows.{TextRowValue, is, narrow, wide}

-- loads: size, signed, kind of the address, user
abbrev pub loads : List TextRowValue
loads =
    narrow load (is 1 word ∷ is 2 no ∷ is 3 offset ∷ is 4 no ∷ []) (codes "ldr") (reg 5 ∷ at 6 7 ∷ []) ∷  -- ldr rt, [rn, #k]
    narrow load (is 1 byte ∷ is 2 no ∷ is 3 offset ∷ is 4 no ∷ []) (codes "ldrb") (reg 5 ∷ at 6 7 ∷ []) ∷  -- ldrb rt, [rn, #k]
    narrow load (is 1 half ∷ is 2 no ∷ is 3 offset ∷ is 4 no ∷ []) (codes "ldrh") (reg 5 ∷ at 6 7 ∷ []) ∷  -- ldrh rt, [rn, #k]
    narrow load (is 1 word ∷ is 2 no ∷ is 3 index ∷ is 4 no ∷ []) (codes "ldr") (reg 5 ∷ at_sum 6 7 ∷ []) ∷  -- ldr rt, [rn, rm]
    narrow load (is 1 byte ∷ is 2 no ∷ is 3 index ∷ is 4 no ∷ []) (codes "ldrb") (reg 5 ∷ at_sum 6 7 ∷ []) ∷  -- ldrb rt, [rn, rm]
    narrow load (is 1 half ∷ is 2 no ∷ is 3 index ∷ is 4 no ∷ []) (codes "ldrh") (reg 5 ∷ at_sum 6 7 ∷ []) ∷  -- ldrh rt, [rn, rm]
    narrow load (is 1 byte ∷ is 2 yes ∷ is 3 index ∷ is 4 no ∷ []) (codes "ldrsb") (reg 5 ∷ at_sum 6 7 ∷ []) ∷  -- ldrsb rt, [rn, rm]
    narrow load (is 1 half ∷ is 2 yes ∷ is 3 index ∷ is 4 no ∷ []) (codes "ldrsh") (reg 5 ∷ at_sum 6 7 ∷ []) ∷  -- ldrsh rt, [rn, rm]
    narrow load (is 1 word ∷ is 2 no ∷ is 3 literal ∷ is 4 no ∷ []) (codes "ldr") (reg 5 ∷ at_pc 6 ∷ []) ∷  -- ldr rt, [pc, #k]
    wide load (is 1 word ∷ is 2 no ∷ is 3 offset ∷ is 4 no ∷ []) (codes "ldr.w") (reg 5 ∷ at 6 7 ∷ []) ∷  -- ldr.w rt, [rn, #k]
    wide load (is 1 word ∷ is 2 no ∷ is 3 index ∷ is 4 no ∷ []) (codes "ldr.w") (reg 5 ∷ at_scaled 6 7 8 ∷ []) ∷  -- ldr.w rt, [rn, rm, lsl #k]
    wide load (is 1 word ∷ is 2 no ∷ is 3 pre ∷ is 4 no ∷ []) (codes "ldr.w") (reg 5 ∷ at_pre 6 7 ∷ []) ∷  -- ldr.w rt, [rn, #k]!
    wide load (is 1 word ∷ is 2 no ∷ is 3 post ∷ is 4 no ∷ []) (codes "ldr.w") (reg 5 ∷ at_base 6 ∷ num 7 ∷ []) ∷  -- ldr.w rt, [rn], #k
    wide load (is 1 word ∷ is 2 no ∷ is 3 literal ∷ is 4 no ∷ []) (codes "ldr.w") (reg 5 ∷ at_pc 6 ∷ []) ∷  -- ldr.w rt, [pc, #k]
    wide load (is 1 byte ∷ is 2 no ∷ is 3 offset ∷ is 4 no ∷ []) (codes "ldrb.w") (reg 5 ∷ at 6 7 ∷ []) ∷  -- ldrb.w rt, [rn, #k]
    wide load (is 1 byte ∷ is 2 no ∷ is 3 index ∷ is 4 no ∷ []) (codes "ldrb.w") (reg 5 ∷ at_scaled 6 7 8 ∷ []) ∷  -- ldrb.w rt, [rn, rm, lsl #k]
    wide load (is 1 byte ∷ is 2 no ∷ is 3 pre ∷ is 4 no ∷ []) (codes "ldrb.w") (reg 5 ∷ at_pre 6 7 ∷ []) ∷  -- ldrb.w rt, [rn, #k]!
    wide load (is 1 byte ∷ is 2 no ∷ is 3 post ∷ is 4 no ∷ []) (codes "ldrb.w") (reg 5 ∷ at_base 6 ∷ num 7 ∷ []) ∷  -- ldrb.w rt, [rn], #k
    wide load (is 1 byte ∷ is 2 no ∷ is 3 literal ∷ is 4 no ∷ []) (codes "ldrb.w") (reg 5 ∷ at_pc 6 ∷ []) ∷  -- ldrb.w rt, [pc, #k]
    wide load (is 1 half ∷ is 2 no ∷ is 3 offset ∷ is 4 no ∷ []) (codes "ldrh.w") (reg 5 ∷ at 6 7 ∷ []) ∷  -- ldrh.w rt, [rn, #k]
    wide load (is 1 half ∷ is 2 no ∷ is 3 index ∷ is 4 no ∷ []) (codes "ldrh.w") (reg 5 ∷ at_scaled 6 7 8 ∷ []) ∷  -- ldrh.w rt, [rn, rm, lsl #k]
    wide load (is 1 half ∷ is 2 no ∷ is 3 pre ∷ is 4 no ∷ []) (codes "ldrh.w") (reg 5 ∷ at_pre 6 7 ∷ []) ∷  -- ldrh.w rt, [rn, #k]!
    wide load (is 1 half ∷ is 2 no ∷ is 3 post ∷ is 4 no ∷ []) (codes "ldrh.w") (reg 5 ∷ at_base 6 ∷ num 7 ∷ []) ∷  -- ldrh.w rt, [rn], #k
    wide load (is 1 half ∷ is 2 no ∷ is 3 literal ∷ is 4 no ∷ []) (codes "ldrh.w") (reg 5 ∷ at_pc 6 ∷ []) ∷  -- ldrh.w rt, [pc, #k]
    wide load (is 1 byte ∷ is 2 yes ∷ is 3 offset ∷ is 4 no ∷ []) (codes "ldrsb.w") (reg 5 ∷ at 6 7 ∷ []) ∷  -- ldrsb.w rt, [rn, #k]
    wide load (is 1 byte ∷ is 2 yes ∷ is 3 index ∷ is 4 no ∷ []) (codes "ldrsb.w") (reg 5 ∷ at_scaled 6 7 8 ∷ []) ∷  -- ldrsb.w rt, [rn, rm, lsl #k]
    wide load (is 1 byte ∷ is 2 yes ∷ is 3 pre ∷ is 4 no ∷ []) (codes "ldrsb.w") (reg 5 ∷ at_pre 6 7 ∷ []) ∷  -- ldrsb.w rt, [rn, #k]!
    wide load (is 1 byte ∷ is 2 yes ∷ is 3 post ∷ is 4 no ∷ []) (codes "ldrsb.w") (reg 5 ∷ at_base 6 ∷ num 7 ∷ []) ∷  -- ldrsb.w rt, [rn], #k
    wide load (is 1 byte ∷ is 2 yes ∷ is 3 literal ∷ is 4 no ∷ []) (codes "ldrsb.w") (reg 5 ∷ at_pc 6 ∷ []) ∷  -- ldrsb.w rt, [pc, #k]
    wide load (is 1 half ∷ is 2 yes ∷ is 3 offset ∷ is 4 no ∷ []) (codes "ldrsh.w") (reg 5 ∷ at 6 7 ∷ []) ∷  -- ldrsh.w rt, [rn, #k]
    wide load (is 1 half ∷ is 2 yes ∷ is 3 index ∷ is 4 no ∷ []) (codes "ldrsh.w") (reg 5 ∷ at_scaled 6 7 8 ∷ []) ∷  -- ldrsh.w rt, [rn, rm, lsl #k]
    wide load (is 1 half ∷ is 2 yes ∷ is 3 pre ∷ is 4 no ∷ []) (codes "ldrsh.w") (reg 5 ∷ at_pre 6 7 ∷ []) ∷  -- ldrsh.w rt, [rn, #k]!
    wide load (is 1 half ∷ is 2 yes ∷ is 3 post ∷ is 4 no ∷ []) (codes "ldrsh.w") (reg 5 ∷ at_base 6 ∷ num 7 ∷ []) ∷  -- ldrsh.w rt, [rn], #k
    wide load (is 1 half ∷ is 2 yes ∷ is 3 literal ∷ is 4 no ∷ []) (codes "ldrsh.w") (reg 5 ∷ at_pc 6 ∷ []) ∷  -- ldrsh.w rt, [pc, #k]
    wide load (is 1 word ∷ is 2 no ∷ is 3 offset ∷ is 4 yes ∷ []) (codes "ldrt") (reg 5 ∷ at 6 7 ∷ []) ∷  -- ldrt rt, [rn, #k]
    wide load (is 1 byte ∷ is 2 no ∷ is 3 offset ∷ is 4 yes ∷ []) (codes "ldrbt") (reg 5 ∷ at 6 7 ∷ []) ∷  -- ldrbt rt, [rn, #k]
    wide load (is 1 half ∷ is 2 no ∷ is 3 offset ∷ is 4 yes ∷ []) (codes "ldrht") (reg 5 ∷ at 6 7 ∷ []) ∷  -- ldrht rt, [rn, #k]
    wide load (is 1 byte ∷ is 2 yes ∷ is 3 offset ∷ is 4 yes ∷ []) (codes "ldrsbt") (reg 5 ∷ at 6 7 ∷ []) ∷  -- ldrsbt rt, [rn, #k]
    wide load (is 1 half ∷ is 2 yes ∷ is 3 offset ∷ is 4 yes ∷ []) (codes "ldrsht") (reg 5 ∷ at 6 7 ∷ []) ∷  -- ldrsht rt, [rn, #k]
    []

-- stores: size, kind of the address, user
abbrev pub stores : List TextRowValue
stores =
    narrow store (is 1 word ∷ is 2 offset ∷ is 3 no ∷ []) (codes "str") (reg 5 ∷ at 6 7 ∷ []) ∷  -- str rt, [rn, #k]
    narrow store (is 1 byte ∷ is 2 offset ∷ is 3 no ∷ []) (codes "strb") (reg 5 ∷ at 6 7 ∷ []) ∷  -- strb rt, [rn, #k]
    narrow store (is 1 half ∷ is 2 offset ∷ is 3 no ∷ []) (codes "strh") (reg 5 ∷ at 6 7 ∷ []) ∷  -- strh rt, [rn, #k]
    narrow store (is 1 word ∷ is 2 index ∷ is 3 no ∷ []) (codes "str") (reg 5 ∷ at_sum 6 7 ∷ []) ∷  -- str rt, [rn, rm]
    narrow store (is 1 byte ∷ is 2 index ∷ is 3 no ∷ []) (codes "strb") (reg 5 ∷ at_sum 6 7 ∷ []) ∷  -- strb rt, [rn, rm]
    narrow store (is 1 half ∷ is 2 index ∷ is 3 no ∷ []) (codes "strh") (reg 5 ∷ at_sum 6 7 ∷ []) ∷  -- strh rt, [rn, rm]
    wide store (is 1 word ∷ is 2 offset ∷ is 3 no ∷ []) (codes "str.w") (reg 5 ∷ at 6 7 ∷ []) ∷  -- str.w rt, [rn, #k]
    wide store (is 1 word ∷ is 2 index ∷ is 3 no ∷ []) (codes "str.w") (reg 5 ∷ at_scaled 6 7 8 ∷ []) ∷  -- str.w rt, [rn, rm, lsl #k]
    wide store (is 1 word ∷ is 2 pre ∷ is 3 no ∷ []) (codes "str.w") (reg 5 ∷ at_pre 6 7 ∷ []) ∷  -- str.w rt, [rn, #k]!
    wide store (is 1 word ∷ is 2 post ∷ is 3 no ∷ []) (codes "str.w") (reg 5 ∷ at_base 6 ∷ num 7 ∷ []) ∷  -- str.w rt, [rn], #k
    wide store (is 1 byte ∷ is 2 offset ∷ is 3 no ∷ []) (codes "strb.w") (reg 5 ∷ at 6 7 ∷ []) ∷  -- strb.w rt, [rn, #k]
    wide store (is 1 byte ∷ is 2 index ∷ is 3 no ∷ []) (codes "strb.w") (reg 5 ∷ at_scaled 6 7 8 ∷ []) ∷  -- strb.w rt, [rn, rm, lsl #k]
    wide store (is 1 byte ∷ is 2 pre ∷ is 3 no ∷ []) (codes "strb.w") (reg 5 ∷ at_pre 6 7 ∷ []) ∷  -- strb.w rt, [rn, #k]!
    wide store (is 1 byte ∷ is 2 post ∷ is 3 no ∷ []) (codes "strb.w") (reg 5 ∷ at_base 6 ∷ num 7 ∷ []) ∷  -- strb.w rt, [rn], #k
    wide store (is 1 half ∷ is 2 offset ∷ is 3 no ∷ []) (codes "strh.w") (reg 5 ∷ at 6 7 ∷ []) ∷  -- strh.w rt, [rn, #k]
    wide store (is 1 half ∷ is 2 index ∷ is 3 no ∷ []) (codes "strh.w") (reg 5 ∷ at_scaled 6 7 8 ∷ []) ∷  -- strh.w rt, [rn, rm, lsl #k]
    wide store (is 1 half ∷ is 2 pre ∷ is 3 no ∷ []) (codes "strh.w") (reg 5 ∷ at_pre 6 7 ∷ []) ∷  -- strh.w rt, [rn, #k]!
    wide store (is 1 half ∷ is 2 post ∷ is 3 no ∷ []) (codes "strh.w") (reg 5 ∷ at_base 6 ∷ num 7 ∷ []) ∷  -- strh.w rt, [rn], #k
    wide store (is 1 word ∷ is 2 offset ∷ is 3 yes ∷ []) (codes "strt") (reg 5 ∷ at 6 7 ∷ []) ∷  -- strt rt, [rn, #k]
    wide store (is 1 byte ∷ is 2 offset ∷ is 3 yes ∷ []) (codes "strbt") (reg 5 ∷ at 6 7 ∷ []) ∷  -- strbt rt, [rn, #k]
    wide store (is 1 half ∷ is 2 offset ∷ is 3 yes ∷ []) (codes "strht") (reg 5 ∷ at 6 7 ∷ []) ∷  -- strht rt, [rn, #k]
    []

-- pairs: kind of the address
abbrev pub pairs : List TextRowValue
pairs =
    wide load_pair (is 1 offset ∷ []) (codes "ldrd") (reg 5 ∷ reg 6 ∷ at 7 8 ∷ []) ∷  -- ldrd rt, rt2, [rn, #k]
    wide load_pair (is 1 pre ∷ []) (codes "ldrd") (reg 5 ∷ reg 6 ∷ at_pre 7 8 ∷ []) ∷  -- ldrd rt, rt2, [rn, #k]!
    wide load_pair (is 1 post ∷ []) (codes "ldrd") (reg 5 ∷ reg 6 ∷ at_base 7 ∷ num 8 ∷ []) ∷  -- ldrd rt, rt2, [rn], #k
    wide load_pair (is 1 literal ∷ []) (codes "ldrd") (reg 5 ∷ reg 6 ∷ at_pc 7 ∷ []) ∷  -- ldrd rt, rt2, [pc, #k]
    wide store_pair (is 1 offset ∷ []) (codes "strd") (reg 5 ∷ reg 6 ∷ at 7 8 ∷ []) ∷  -- strd rt, rt2, [rn, #k]
    wide store_pair (is 1 pre ∷ []) (codes "strd") (reg 5 ∷ reg 6 ∷ at_pre 7 8 ∷ []) ∷  -- strd rt, rt2, [rn, #k]!
    wide store_pair (is 1 post ∷ []) (codes "strd") (reg 5 ∷ reg 6 ∷ at_base 7 ∷ num 8 ∷ []) ∷  -- strd rt, rt2, [rn], #k
    []

-- multiples: down, back; SP at place 5 pops and pushes
abbrev pub multiples : List TextRowValue
multiples =
    narrow load_many (is 1 no ∷ is 2 yes ∷ is 5 13 ∷ []) (codes "pop") (list 6 ∷ []) ∷  -- pop {list}
    narrow load_many (is 1 no ∷ is 2 yes ∷ []) (codes "ldm") (back 5 ∷ list 6 ∷ []) ∷  -- ldm rn!, {list}
    narrow load_many (is 1 no ∷ is 2 no ∷ []) (codes "ldm") (reg 5 ∷ list 6 ∷ []) ∷  -- ldm rn, {list}
    wide load_many (is 1 no ∷ is 2 yes ∷ is 5 13 ∷ []) (codes "pop.w") (list 6 ∷ []) ∷  -- pop.w {list}
    wide load_many (is 1 no ∷ is 2 yes ∷ []) (codes "ldm.w") (back 5 ∷ list 6 ∷ []) ∷  -- ldm.w rn!, {list}
    wide load_many (is 1 no ∷ is 2 no ∷ []) (codes "ldm.w") (reg 5 ∷ list 6 ∷ []) ∷  -- ldm.w rn, {list}
    wide load_many (is 1 yes ∷ is 2 yes ∷ []) (codes "ldmdb") (back 5 ∷ list 6 ∷ []) ∷  -- ldmdb rn!, {list}
    wide load_many (is 1 yes ∷ is 2 no ∷ []) (codes "ldmdb") (reg 5 ∷ list 6 ∷ []) ∷  -- ldmdb rn, {list}
    narrow store_many (is 1 yes ∷ is 2 yes ∷ is 5 13 ∷ []) (codes "push") (list 6 ∷ []) ∷  -- push {list}
    narrow store_many (is 1 no ∷ is 2 yes ∷ []) (codes "stm") (back 5 ∷ list 6 ∷ []) ∷  -- stm rn!, {list}
    wide store_many (is 1 yes ∷ is 2 yes ∷ is 5 13 ∷ []) (codes "push.w") (list 6 ∷ []) ∷  -- push.w {list}
    wide store_many (is 1 no ∷ is 2 yes ∷ []) (codes "stm.w") (back 5 ∷ list 6 ∷ []) ∷  -- stm.w rn!, {list}
    wide store_many (is 1 no ∷ is 2 no ∷ []) (codes "stm.w") (reg 5 ∷ list 6 ∷ []) ∷  -- stm.w rn, {list}
    wide store_many (is 1 yes ∷ is 2 yes ∷ []) (codes "stmdb") (back 5 ∷ list 6 ∷ []) ∷  -- stmdb rn!, {list}
    wide store_many (is 1 yes ∷ is 2 no ∷ []) (codes "stmdb") (reg 5 ∷ list 6 ∷ []) ∷  -- stmdb rn, {list}
    []

-- preloads, exclusive accesses, acquire and release: size, acquire or release
abbrev pub exclusives : List TextRowValue
exclusives =
    wide preload [] (codes "pld") [] ∷  -- pld
    wide load_exclusive (is 1 word ∷ is 2 no ∷ []) (codes "ldrex") (reg 5 ∷ at 6 7 ∷ []) ∷  -- ldrex rt, [rn, #k]
    wide load_exclusive (is 1 byte ∷ is 2 no ∷ []) (codes "ldrexb") (reg 5 ∷ at_base 6 ∷ []) ∷  -- ldrexb rt, [rn]
    wide load_exclusive (is 1 half ∷ is 2 no ∷ []) (codes "ldrexh") (reg 5 ∷ at_base 6 ∷ []) ∷  -- ldrexh rt, [rn]
    wide load_exclusive (is 1 word ∷ is 2 yes ∷ []) (codes "ldaex") (reg 5 ∷ at_base 6 ∷ []) ∷  -- ldaex rt, [rn]
    wide load_exclusive (is 1 byte ∷ is 2 yes ∷ []) (codes "ldaexb") (reg 5 ∷ at_base 6 ∷ []) ∷  -- ldaexb rt, [rn]
    wide load_exclusive (is 1 half ∷ is 2 yes ∷ []) (codes "ldaexh") (reg 5 ∷ at_base 6 ∷ []) ∷  -- ldaexh rt, [rn]
    wide store_exclusive (is 1 word ∷ is 2 no ∷ []) (codes "strex") (reg 5 ∷ reg 6 ∷ at 7 8 ∷ []) ∷  -- strex rd, rt, [rn, #k]
    wide store_exclusive (is 1 byte ∷ is 2 no ∷ []) (codes "strexb") (reg 5 ∷ reg 6 ∷ at_base 7 ∷ []) ∷  -- strexb rd, rt, [rn]
    wide store_exclusive (is 1 half ∷ is 2 no ∷ []) (codes "strexh") (reg 5 ∷ reg 6 ∷ at_base 7 ∷ []) ∷  -- strexh rd, rt, [rn]
    wide store_exclusive (is 1 word ∷ is 2 yes ∷ []) (codes "stlex") (reg 5 ∷ reg 6 ∷ at_base 7 ∷ []) ∷  -- stlex rd, rt, [rn]
    wide store_exclusive (is 1 byte ∷ is 2 yes ∷ []) (codes "stlexb") (reg 5 ∷ reg 6 ∷ at_base 7 ∷ []) ∷  -- stlexb rd, rt, [rn]
    wide store_exclusive (is 1 half ∷ is 2 yes ∷ []) (codes "stlexh") (reg 5 ∷ reg 6 ∷ at_base 7 ∷ []) ∷  -- stlexh rd, rt, [rn]
    wide load_acquire (is 1 word ∷ []) (codes "lda") (reg 5 ∷ at_base 6 ∷ []) ∷  -- lda rt, [rn]
    wide load_acquire (is 1 byte ∷ []) (codes "ldab") (reg 5 ∷ at_base 6 ∷ []) ∷  -- ldab rt, [rn]
    wide load_acquire (is 1 half ∷ []) (codes "ldah") (reg 5 ∷ at_base 6 ∷ []) ∷  -- ldah rt, [rn]
    wide store_release (is 1 word ∷ []) (codes "stl") (reg 5 ∷ at_base 6 ∷ []) ∷  -- stl rt, [rn]
    wide store_release (is 1 byte ∷ []) (codes "stlb") (reg 5 ∷ at_base 6 ∷ []) ∷  -- stlb rt, [rn]
    wide store_release (is 1 half ∷ []) (codes "stlh") (reg 5 ∷ at_base 6 ∷ []) ∷  -- stlh rt, [rn]
    []
