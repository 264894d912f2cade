-- The rows of 32 bits that load and store one register. zz is the size (byte, half, word), x a sign; only a
-- load of a byte or a half has one. A load of a byte into PC preloads where no base is written back.
use Rattle.std.specs.Prelude.{true, false, [], ◌∷◌, pos, neg_ℤ}
use Rattle.tz_table.specs.Rows.{TableRow, row, row_but, any}
use Rattle.tz_table.specs.Terms.{is_one, size_of, plus_or_minus, indexed}
use Rattle.tz_table.specs.Limits.{plain, can_load, can_store, can_load_back, can_store_back, can_load_index, can_store_index}
use Rattle.tz_table.specs.declared.instruction.Insn.TheVariants as insns
use Rattle.tz_table.specs.declared.instruction.Address.TheVariants as addresses

-- ldr.w rt, [rn, #i]; b, h, sb, sh
abbrev pub ldr_imm12 : TableRow
ldr_imm12 = row_but "1111 100x 1zz1 nnnn | tttt iiii iiii iiii" (λ x. (x "z" 3 ∷ []) ∷ (x "x" 1 ∷ x "z" 2 ∷ []) ∷ (x "n" 15 ∷ []) ∷ (x "z" 0 ∷ x "t" 15 ∷ []) ∷ []) (λ v. can_load (v "z") (v "t")) (λ v. insns.Load (size_of (v "z")) (is_one (v "x")) (v "t") (addresses.Offset (v "n") (pos (v "i"))) false)

-- str.w rt, [rn, #i]; b, h
abbrev pub str_imm12 : TableRow
str_imm12 = row_but "1111 1000 1zz0 nnnn | tttt iiii iiii iiii" (λ x. (x "z" 3 ∷ []) ∷ (x "n" 15 ∷ []) ∷ []) (λ v. can_store (v "z") (v "t")) (λ v. insns.Store (size_of (v "z")) (v "t") (addresses.Offset (v "n") (pos (v "i"))) false)

-- pld
abbrev pub pld_imm12 : TableRow
pld_imm12 = row_but "1111 100x 1001 nnnn | 1111 iiii iiii iiii" (λ x. (x "n" 15 ∷ []) ∷ []) any (λ v. insns.Preload)

-- ldr.w rt, [rn, #-i]; b, h, sb, sh
abbrev pub ldr_negative : TableRow
ldr_negative = row_but "1111 100x 0zz1 nnnn | tttt 1100 iiii iiii" (λ x. (x "z" 3 ∷ []) ∷ (x "x" 1 ∷ x "z" 2 ∷ []) ∷ (x "n" 15 ∷ []) ∷ (x "z" 0 ∷ x "t" 15 ∷ []) ∷ []) (λ v. can_load (v "z") (v "t")) (λ v. insns.Load (size_of (v "z")) (is_one (v "x")) (v "t") (addresses.Offset (v "n") (neg_ℤ (pos (v "i")))) false)

-- str.w rt, [rn, #-i]; b, h
abbrev pub str_negative : TableRow
str_negative = row_but "1111 1000 0zz0 nnnn | tttt 1100 iiii iiii" (λ x. (x "z" 3 ∷ []) ∷ (x "n" 15 ∷ []) ∷ []) (λ v. can_store (v "z") (v "t")) (λ v. insns.Store (size_of (v "z")) (v "t") (addresses.Offset (v "n") (neg_ℤ (pos (v "i")))) false)

-- pld
abbrev pub pld_negative : TableRow
pld_negative = row_but "1111 100x 0001 nnnn | 1111 1100 iiii iiii" (λ x. (x "n" 15 ∷ []) ∷ []) any (λ v. insns.Preload)

-- ldrt rt, [rn, #i]; b, h, sb, sh
abbrev pub ldrt : TableRow
ldrt = row_but "1111 100x 0zz1 nnnn | tttt 1110 iiii iiii" (λ x. (x "z" 3 ∷ []) ∷ (x "x" 1 ∷ x "z" 2 ∷ []) ∷ (x "n" 15 ∷ []) ∷ []) (λ v. plain (v "t")) (λ v. insns.Load (size_of (v "z")) (is_one (v "x")) (v "t") (addresses.Offset (v "n") (pos (v "i"))) true)

-- strt rt, [rn, #i]; b, h
abbrev pub strt : TableRow
strt = row_but "1111 1000 0zz0 nnnn | tttt 1110 iiii iiii" (λ x. (x "z" 3 ∷ []) ∷ (x "n" 15 ∷ []) ∷ []) (λ v. plain (v "t")) (λ v. insns.Store (size_of (v "z")) (v "t") (addresses.Offset (v "n") (pos (v "i"))) true)

-- ldr rt, [rn, #i]! and ldr rt, [rn], #i; b, h, sb, sh
abbrev pub ldr_back : TableRow
ldr_back = row_but "1111 100x 0zz1 nnnn | tttt 1pu1 iiii iiii" (λ x. (x "z" 3 ∷ []) ∷ (x "x" 1 ∷ x "z" 2 ∷ []) ∷ (x "n" 15 ∷ []) ∷ []) (λ v. can_load_back (v "z") (v "t") (v "n")) (λ v. insns.Load (size_of (v "z")) (is_one (v "x")) (v "t") (indexed (v "p") 1 (v "n") (plus_or_minus (v "u") (v "i"))) false)

-- str rt, [rn, #i]! and str rt, [rn], #i; b, h
abbrev pub str_back : TableRow
str_back = row_but "1111 1000 0zz0 nnnn | tttt 1pu1 iiii iiii" (λ x. (x "z" 3 ∷ []) ∷ (x "n" 15 ∷ []) ∷ []) (λ v. can_store_back (v "z") (v "t") (v "n")) (λ v. insns.Store (size_of (v "z")) (v "t") (indexed (v "p") 1 (v "n") (plus_or_minus (v "u") (v "i"))) false)

-- ldr.w rt, [rn, rm, lsl #i]; b, h, sb, sh
abbrev pub ldr_index_w : TableRow
ldr_index_w = row_but "1111 100x 0zz1 nnnn | tttt 0000 00ii mmmm" (λ x. (x "z" 3 ∷ []) ∷ (x "x" 1 ∷ x "z" 2 ∷ []) ∷ (x "n" 15 ∷ []) ∷ (x "z" 0 ∷ x "t" 15 ∷ []) ∷ []) (λ v. can_load_index (v "z") (v "t") (v "m")) (λ v. insns.Load (size_of (v "z")) (is_one (v "x")) (v "t") (addresses.Index (v "n") (v "m") (v "i")) false)

-- str.w rt, [rn, rm, lsl #i]; b, h
abbrev pub str_index_w : TableRow
str_index_w = row_but "1111 1000 0zz0 nnnn | tttt 0000 00ii mmmm" (λ x. (x "z" 3 ∷ []) ∷ (x "n" 15 ∷ []) ∷ []) (λ v. can_store_index (v "z") (v "t") (v "m")) (λ v. insns.Store (size_of (v "z")) (v "t") (addresses.Index (v "n") (v "m") (v "i")) false)

-- pld
abbrev pub pld_index : TableRow
pld_index = row_but "1111 100x 0001 nnnn | 1111 0000 00ii mmmm" (λ x. (x "n" 15 ∷ []) ∷ []) (λ v. plain (v "m")) (λ v. insns.Preload)

-- ldr.w rt, [pc, #i]; b, h, sb, sh
abbrev pub ldr_literal_w : TableRow
ldr_literal_w = row_but "1111 100x uzz1 1111 | tttt iiii iiii iiii" (λ x. (x "z" 3 ∷ []) ∷ (x "x" 1 ∷ x "z" 2 ∷ []) ∷ (x "z" 0 ∷ x "t" 15 ∷ []) ∷ []) (λ v. can_load (v "z") (v "t")) (λ v. insns.Load (size_of (v "z")) (is_one (v "x")) (v "t") (addresses.Literal (plus_or_minus (v "u") (v "i"))) false)

-- pld
abbrev pub pld_literal : TableRow
pld_literal = row "1111 100x u001 1111 | 1111 iiii iiii iiii" any (λ v. insns.Preload)
