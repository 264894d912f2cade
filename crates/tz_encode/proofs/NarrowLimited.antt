-- The rows of 16 bits with limits or single bits.
use Rattle.std.proofs.Common.{◌≡◌, ℕ, ◌^◌, ◌<◌, Bool, true, false, not, ◌&&◌, ◌||◌, [], ◌∷◌, refl, ◌∙◌, ap, arith}
use Rattle.std.specs.Prelude.{pos, nat_abs, ◌==◌, if◌then◌else◌}
use Rattle.std.specs.Ordering.{int_eq}
use Rattle.std.proofs.lemmas.Bool.{and_from, or_right, agree_below_at}
use Rattle.tz_table.specs.Fields.{bits}
use Rattle.tz_table.specs.Limits.{not_zero, is_single, can_store_many, is_listed}
use Rattle.tz_table.specs.NarrowRows.{add_high, cmp_high, bx, blx, add_sp_imm7, cbz, push, pop, cps, if_then, stm, ldm, bcond}
use Rattle.tz_encode.specs.Slots.{held_by, parts_in}
use Rattle.tz_encode.proofs.Reading.{Reads, shape, slot, read_all, read_alone}
use Rattle.tz_encode.proofs.Slots.{fill, limit_taken, bits_taken}
use Rattle.tz_encode.proofs.FieldWords.{bool_word, at_1, bits_123}
use Rattle.tz_encode.proofs.Regrouping.{one, compare_high, load_list, same_zero, change_state, conditions, it_conditions, it_mask}
use Rattle.tz_encode.proofs.Choosing.{not_with_false}

pub add_high_reads : Reads add_high 21 (shape 27)
add_high_reads = read_all add_high 21 (shape 27) (λ f s. refl) (λ f s. one _) (fill (shape 27) (pos 21 ∷ []) (λ a _ b _ c _ d _ rd _ rn _. ((pos 0, not_with_false _), λ rm _ x _. tt)))

pub bx_reads : Reads bx 74 (shape 30)
bx_reads = read_all bx 74 (shape 30) (λ f s. at_1 (bool_word f 2)) (λ f s. one _) (fill (shape 30) (pos 74 ∷ []) (λ a _ b _ c _ d _. ((pos 0, not_with_false _), λ rm _ x _ y _ z _. tt)))

pub blx_reads : Reads blx 75 (shape 31)
blx_reads = read_all blx 75 (shape 31) (λ f s. at_1 (bool_word f 2)) (λ f s. one _) (fill (shape 31) (pos 75 ∷ []) (λ a _ b _ c _ d _. ((pos 0, not_with_false _), λ rm _ x _ y _ z _. tt)))

pub add_sp_imm7_reads : Reads add_sp_imm7 33 (shape 51)
add_sp_imm7_reads = read_alone add_sp_imm7 33 (shape 51) (λ f s. at_1 (bool_word f 7)) (λ f s. refl) refl

pub cbz_reads : Reads cbz 72 (shape 52)
cbz_reads = read_alone cbz 72 (shape 52) (λ f s. at_1 (bool_word f 11)) (λ f s. refl) refl

pub push_reads : Reads push 63 (shape 57)
push_reads = read_alone push 63 (shape 57) (λ f s. refl) (λ f s. same_zero _ _ (λ e. omega arith) (λ e. omega arith)) refl

pub pop_reads : Reads pop 62 (shape 58)
pop_reads = read_alone pop 62 (shape 58) (λ f s. refl) (λ f s. same_zero _ _ (λ e. omega arith) (λ e. omega arith)) refl

pub cmp_high_reads : Reads cmp_high 31 (shape 28)
cmp_high_reads = read_all cmp_high 31 (shape 28) (λ f s. refl) (λ f s. compare_high _ _ _) (fill (shape 28) (pos 31 ∷ []) (λ a _ b _ c _ d _ rd _ rn h. ((pos 8, and_from _ _ (and_from _ _ (not_with_false _) (limit_taken (slot 28 5) (pos 31 ∷ a ∷ b ∷ c ∷ d ∷ rd ∷ []) rn h)) refl), λ rm _ x _. tt)))

pub cps_reads : Reads cps 82 (shape 59)
cps_reads = read_all cps 82 (shape 59) (λ f s. bits_123 (bool_word f 4) (bool_word f 1) (bool_word f 0)) (λ f s. change_state f) (fill (shape 59) (pos 82 ∷ []) (λ a _ b _. ((pos 1, refl), λ c _ d _ x _ y _ z _ w _. tt)))

pub if_then_reads : Reads if_then 76 (shape 64)
if_then_reads =
    read_all if_then 76 (shape 64) (λ f s. refl)
    (λ f s. it_mask (bits f 0 4 == 0) (not (bits f 4 4 == 15)) _ ∙ ap (λ b. b && (not_zero (bits f 0 4) && (not (bits f 4 4 == 14) || is_single (bits f 0 4)) && true)) (it_conditions (bits f 4 4) (omega arith)))
    (fill (shape 64) (pos 76 ∷ []) (λ a _ b _ c _ d _ cond _. ((pos 1, or_right _ _ refl), λ mask _ x _ y _. tt)))

store_low : (n : ℕ) → n < 8 → can_store_many n 1 ≡ true
store_low n h = agree_below_at (λ n. can_store_many n 1) (λ n. true) 8 n refl h

pub stm_reads : Reads stm 63 (shape 66)
stm_reads = read_all stm 63 (shape 66) (λ f s. refl) (λ f s. one _) (fill (shape 66) (pos 63 ∷ []) (λ a _ b _ c _ d _ rn h.
    let fits = bits_taken (slot 66 4) (pos 63 ∷ a ∷ b ∷ c ∷ d ∷ []) rn h in
    ((pos 1, store_low (nat_abs rn) (omega arith)), λ list _ x _ y _. tt)))

-- a list without the base, or one with it
abbrev pub some_list : Bool → ℕ → ℕ
some_list back rn = if back then (if rn == 0 then 2 else 1) else 2 ^ rn

abbrev pub listed_rightly : Bool → ℕ → Bool
listed_rightly back rn = let n = some_list back rn in (held_by (parts_in (slot 67 5).parts) n == n) && int_eq (pos n) (pos n) && (not_zero n && (if back then not (is_listed n rn) else is_listed n rn))

load_low : (back : Bool) (rn : ℕ) → rn < 8 → listed_rightly back rn ≡ true
load_low true rn h = agree_below_at (λ n. listed_rightly true n) (λ n. true) 8 rn refl h
load_low false rn h = agree_below_at (λ n. listed_rightly false n) (λ n. true) 8 rn refl h

pub ldm_reads : Reads ldm 62 (shape 67)
ldm_reads = read_all ldm 62 (shape 67) (λ f s. refl) (λ f s. load_list (not_zero (bits f 0 8)) (is_listed (bits f 0 8) (bits f 8 3))) (fill (shape 67) (pos 62 ∷ []) (λ a _ b _ c _ d _ rn h.
    let fits = bits_taken (slot 67 4) (pos 62 ∷ a ∷ b ∷ c ∷ d ∷ []) rn h in
    ((pos (some_list (nat_abs b == 1) (nat_abs rn)), load_low (nat_abs b == 1) (nat_abs rn) (omega arith)), λ list _ x _ y _. tt)))

pub bcond_reads : Reads bcond 70 (shape 68)
bcond_reads = read_alone bcond 70 (shape 68) (λ f s. refl) (λ f s. conditions (bits f 8 4) (omega arith)) refl
