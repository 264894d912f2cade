-- The rows of 32 bits that move several registers, pairs, exclusives, acquire and release, and the table
-- branches.
use Rattle.std.specs.Prelude.{true, false, [], ◌∷◌, pos}
use Rattle.tz_table.specs.Rows.{TableRow, row, row_but, row_at}
use Rattle.tz_table.specs.Terms.{is_one, plus_or_minus, indexed}
use Rattle.tz_table.specs.Limits.{plain_base, can_move_many, can_store_pair, can_load_pair, can_load_pair_literal, can_store_exclusive, can_branch_table}
use Rattle.tz_table.specs.declared.instruction.Insn.TheVariants as insns
use Rattle.tz_table.specs.declared.units.Size.TheVariants as sizes
use Rattle.tz_table.specs.declared.instruction.Address.TheVariants as addresses

-- ldm.w rn, {list}; pop.w
abbrev pub ldm_w : TableRow
ldm_w = row_at "1110 1000 10w1 nnnn | pm0l llll llll llll" (λ v f s. can_move_many (v "w") (v "n") s) (λ v f s. insns.LoadMany (v "n") s false (is_one (v "w")))

-- stm.w rn, {list}
abbrev pub stm_w : TableRow
stm_w = row_at "1110 1000 10w0 nnnn | 0m0l llll llll llll" (λ v f s. can_move_many (v "w") (v "n") s) (λ v f s. insns.StoreMany (v "n") s false (is_one (v "w")))

-- ldmdb rn, {list}
abbrev pub ldmdb : TableRow
ldmdb = row_at "1110 1001 00w1 nnnn | pm0l llll llll llll" (λ v f s. can_move_many (v "w") (v "n") s) (λ v f s. insns.LoadMany (v "n") s true (is_one (v "w")))

-- stmdb rn, {list}; push.w
abbrev pub stmdb : TableRow
stmdb = row_at "1110 1001 00w0 nnnn | 0m0l llll llll llll" (λ v f s. can_move_many (v "w") (v "n") s) (λ v f s. insns.StoreMany (v "n") s true (is_one (v "w")))

-- ldrd rt, rt2, [rn, #4i]; p or w
abbrev pub ldrd : TableRow
ldrd = row_but "1110 100p u1w1 nnnn | tttt vvvv iiii iiii" (λ x. (x "p" 0 ∷ x "w" 0 ∷ []) ∷ (x "n" 15 ∷ []) ∷ []) (λ v. can_load_pair (v "w") (v "n") (v "t") (v "v")) (λ v. insns.LoadPair (v "t") (v "v") (indexed (v "p") (v "w") (v "n") (plus_or_minus (v "u") (v "i00"))))

-- strd rt, rt2, [rn, #4i]; p or w
abbrev pub strd : TableRow
strd = row_but "1110 100p u1w0 nnnn | tttt vvvv iiii iiii" (λ x. (x "p" 0 ∷ x "w" 0 ∷ []) ∷ (x "n" 15 ∷ []) ∷ []) (λ v. can_store_pair (v "w") (v "n") (v "t") (v "v")) (λ v. insns.StorePair (v "t") (v "v") (indexed (v "p") (v "w") (v "n") (plus_or_minus (v "u") (v "i00"))))

-- ldrd rt, rt2, [pc, #4i]
abbrev pub ldrd_literal : TableRow
ldrd_literal = row "1110 1001 u101 1111 | tttt vvvv iiii iiii" (λ v. can_load_pair_literal (v "t") (v "v")) (λ v. insns.LoadPair (v "t") (v "v") (addresses.Literal (plus_or_minus (v "u") (v "i00"))))

-- strex rd, rt, [rn, #4i]
abbrev pub strex : TableRow
strex = row_but "1110 1000 0100 nnnn | tttt dddd iiii iiii" (λ x. (x "t" 15 ∷ []) ∷ []) (λ v. can_store_exclusive (v "d") (v "t") (v "n")) (λ v. insns.StoreExclusive sizes.Word false (v "d") (v "t") (v "n") (pos (v "i00")))

-- tt rd, rn; ttt, tta, ttat
abbrev pub tt : TableRow
tt = row "1110 1000 0100 nnnn | 1111 dddd at00 0000" (λ v. plain_base (v "d") (v "n")) (λ v. insns.TestTarget (is_one (v "a")) (is_one (v "t")) (v "d") (v "n"))

-- ldrex rt, [rn, #4i]
abbrev pub ldrex : TableRow
ldrex = row "1110 1000 0101 nnnn | tttt 1111 iiii iiii" (λ v. plain_base (v "t") (v "n")) (λ v. insns.LoadExclusive sizes.Word false (v "t") (v "n") (pos (v "i00")))

-- strexb rd, rt, [rn]
abbrev pub strexb : TableRow
strexb = row "1110 1000 1100 nnnn | tttt 1111 0100 dddd" (λ v. can_store_exclusive (v "d") (v "t") (v "n")) (λ v. insns.StoreExclusive sizes.Byte false (v "d") (v "t") (v "n") (pos 0))

-- strexh rd, rt, [rn]
abbrev pub strexh : TableRow
strexh = row "1110 1000 1100 nnnn | tttt 1111 0101 dddd" (λ v. can_store_exclusive (v "d") (v "t") (v "n")) (λ v. insns.StoreExclusive sizes.Half false (v "d") (v "t") (v "n") (pos 0))

-- stlb rt, [rn]
abbrev pub stlb : TableRow
stlb = row "1110 1000 1100 nnnn | tttt 1111 1000 1111" (λ v. plain_base (v "t") (v "n")) (λ v. insns.StoreRelease sizes.Byte (v "t") (v "n"))

-- stlh rt, [rn]
abbrev pub stlh : TableRow
stlh = row "1110 1000 1100 nnnn | tttt 1111 1001 1111" (λ v. plain_base (v "t") (v "n")) (λ v. insns.StoreRelease sizes.Half (v "t") (v "n"))

-- stl rt, [rn]
abbrev pub stl : TableRow
stl = row "1110 1000 1100 nnnn | tttt 1111 1010 1111" (λ v. plain_base (v "t") (v "n")) (λ v. insns.StoreRelease sizes.Word (v "t") (v "n"))

-- stlexb rd, rt, [rn]
abbrev pub stlexb : TableRow
stlexb = row "1110 1000 1100 nnnn | tttt 1111 1100 dddd" (λ v. can_store_exclusive (v "d") (v "t") (v "n")) (λ v. insns.StoreExclusive sizes.Byte true (v "d") (v "t") (v "n") (pos 0))

-- stlexh rd, rt, [rn]
abbrev pub stlexh : TableRow
stlexh = row "1110 1000 1100 nnnn | tttt 1111 1101 dddd" (λ v. can_store_exclusive (v "d") (v "t") (v "n")) (λ v. insns.StoreExclusive sizes.Half true (v "d") (v "t") (v "n") (pos 0))

-- stlex rd, rt, [rn]
abbrev pub stlex : TableRow
stlex = row "1110 1000 1100 nnnn | tttt 1111 1110 dddd" (λ v. can_store_exclusive (v "d") (v "t") (v "n")) (λ v. insns.StoreExclusive sizes.Word true (v "d") (v "t") (v "n") (pos 0))

-- ldrexb rt, [rn]
abbrev pub ldrexb : TableRow
ldrexb = row "1110 1000 1101 nnnn | tttt 1111 0100 1111" (λ v. plain_base (v "t") (v "n")) (λ v. insns.LoadExclusive sizes.Byte false (v "t") (v "n") (pos 0))

-- ldrexh rt, [rn]
abbrev pub ldrexh : TableRow
ldrexh = row "1110 1000 1101 nnnn | tttt 1111 0101 1111" (λ v. plain_base (v "t") (v "n")) (λ v. insns.LoadExclusive sizes.Half false (v "t") (v "n") (pos 0))

-- ldab rt, [rn]
abbrev pub ldab : TableRow
ldab = row "1110 1000 1101 nnnn | tttt 1111 1000 1111" (λ v. plain_base (v "t") (v "n")) (λ v. insns.LoadAcquire sizes.Byte (v "t") (v "n"))

-- ldah rt, [rn]
abbrev pub ldah : TableRow
ldah = row "1110 1000 1101 nnnn | tttt 1111 1001 1111" (λ v. plain_base (v "t") (v "n")) (λ v. insns.LoadAcquire sizes.Half (v "t") (v "n"))

-- lda rt, [rn]
abbrev pub lda : TableRow
lda = row "1110 1000 1101 nnnn | tttt 1111 1010 1111" (λ v. plain_base (v "t") (v "n")) (λ v. insns.LoadAcquire sizes.Word (v "t") (v "n"))

-- ldaexb rt, [rn]
abbrev pub ldaexb : TableRow
ldaexb = row "1110 1000 1101 nnnn | tttt 1111 1100 1111" (λ v. plain_base (v "t") (v "n")) (λ v. insns.LoadExclusive sizes.Byte true (v "t") (v "n") (pos 0))

-- ldaexh rt, [rn]
abbrev pub ldaexh : TableRow
ldaexh = row "1110 1000 1101 nnnn | tttt 1111 1101 1111" (λ v. plain_base (v "t") (v "n")) (λ v. insns.LoadExclusive sizes.Half true (v "t") (v "n") (pos 0))

-- ldaex rt, [rn]
abbrev pub ldaex : TableRow
ldaex = row "1110 1000 1101 nnnn | tttt 1111 1110 1111" (λ v. plain_base (v "t") (v "n")) (λ v. insns.LoadExclusive sizes.Word true (v "t") (v "n") (pos 0))

-- tbb [rn, rm]; tbh [rn, rm, lsl #1]
abbrev pub tbb : TableRow
tbb = row "1110 1000 1101 nnnn | 1111 0000 000h mmmm" (λ v. can_branch_table (v "n") (v "m")) (λ v. insns.TableBranch (is_one (v "h")) (v "n") (v "m"))
