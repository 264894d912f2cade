-- The rows of 32 bits of branches, special registers, hints and barriers.
use Rattle.std.proofs.Common.{◌≡◌, ℕ, ◌+◌, ◌*◌, ◌%◌, ◌^◌, refl, ap, arith}
use Rattle.tz_table.specs.Fields.{bits}
use Rattle.tz_table.specs.Limits.{plain, is_special}
use Rattle.tz_table.specs.Terms.{signed_by, far_offset}
use Rattle.tz_table.specs.BranchRows.{bcond_w, branch_w, bl, msr, mrs, hint_w, clrex, dsb, dmb, isb, udf_w}
use Rattle.tz_encode.specs.Numbers.{far}
use Rattle.tz_encode.proofs.Reading.{Reads, shape, read_alone}
use Rattle.tz_encode.proofs.FieldWords.{at_5}
use Rattle.tz_encode.proofs.Regrouping.{two, conditions}

-- the offset of B.W and BL, gathered as S:J:K:i10:i11:0
far_word : (f s : ℕ) → far_offset f s ≡ far (bits f 10 1 * 2 ^ 24 + bits s 13 1 * 2 ^ 23 + bits s 11 1 * 2 ^ 22 + bits f 0 10 * 2 ^ 12 + bits s 0 11 * 2)
far_word f s =
    let n : ℕ = bits f 10 1 * 2 ^ 24 + bits s 13 1 * 2 ^ 23 + bits s 11 1 * 2 ^ 22 + bits f 0 10 * 2 ^ 12 + bits s 0 11 * 2 in
    let sign : bits n 24 1 ≡ bits f 10 1 = omega arith in
    let j : bits n 23 1 ≡ bits s 13 1 = omega arith in
    let k : bits n 22 1 ≡ bits s 11 1 = omega arith in
    let low : n % 2 ^ 22 ≡ bits f 0 10 * 2 ^ 12 + bits s 0 11 * 2 = omega arith in
    omega arith

pub bcond_w_reads : Reads bcond_w 70 (shape 142)
bcond_w_reads = read_alone bcond_w 70 (shape 142) (λ f s. refl) (λ f s. conditions (bits f 6 4) (omega arith)) refl

pub branch_w_reads : Reads branch_w 69 (shape 143)
branch_w_reads = read_alone branch_w 69 (shape 143) (λ f s. at_5 (ap (signed_by 16777216) (far_word f s))) (λ f s. refl) refl

pub bl_reads : Reads bl 71 (shape 144)
bl_reads = read_alone bl 71 (shape 144) (λ f s. at_5 (ap (signed_by 16777216) (far_word f s))) (λ f s. refl) refl

pub msr_reads : Reads msr 84 (shape 145)
msr_reads = read_alone msr 84 (shape 145) (λ f s. refl) (λ f s. two (plain (bits f 0 4)) (is_special (bits s 0 8))) refl

pub mrs_reads : Reads mrs 83 (shape 146)
mrs_reads = read_alone mrs 83 (shape 146) (λ f s. refl) (λ f s. two (plain (bits s 8 4)) (is_special (bits s 0 8))) refl

pub hint_w_reads : Reads hint_w 77 (shape 147)
hint_w_reads = read_alone hint_w 77 (shape 147) (λ f s. refl) (λ f s. refl) refl

pub clrex_reads : Reads clrex 78 (shape 148)
clrex_reads = read_alone clrex 78 (shape 148) (λ f s. refl) (λ f s. refl) refl

pub dsb_reads : Reads dsb 79 (shape 149)
dsb_reads = read_alone dsb 79 (shape 149) (λ f s. refl) (λ f s. refl) refl

pub dmb_reads : Reads dmb 80 (shape 150)
dmb_reads = read_alone dmb 80 (shape 150) (λ f s. refl) (λ f s. refl) refl

pub isb_reads : Reads isb 81 (shape 151)
isb_reads = read_alone isb 81 (shape 151) (λ f s. refl) (λ f s. refl) refl

pub udf_w_reads : Reads udf_w 90 (shape 152)
udf_w_reads = read_alone udf_w 90 (shape 152) (λ f s. refl) (λ f s. refl) refl
