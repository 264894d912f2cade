-- The rows of 32 bits for shifts by a register, extensions, multiplications, divisions, and of the Security
-- Extension.
use Rattle.std.proofs.Common.{◌≡◌, ℕ, true, false, not, ◌&&◌, [], ◌∷◌, refl, ◌∙◌, ap}
use Rattle.std.specs.Prelude.{pos, nat_abs, ◌==◌, if◌then◌else◌}
use Rattle.std.proofs.lemmas.Bool.{and_right}
use Rattle.tz_table.specs.Fields.{bits}
use Rattle.tz_table.specs.Limits.{plain, plain3, plain4, can_multiply_long}
use Rattle.tz_table.specs.ArithmeticRows.{shift_reg_w, sxth_w, uxth_w, sxtb_w, uxtb_w, mla, mul_w, mls, smull, umull, smlal, umlal, sdiv, udiv, sg, vlstm}
use Rattle.tz_encode.proofs.Reading.{Reads, shape, read_all, read_alone}
use Rattle.tz_encode.proofs.Slots.{fill}
use Rattle.tz_encode.proofs.FieldWords.{bool_word, flags_word, shift_word, at_1, at_2}
use Rattle.tz_encode.proofs.Regrouping.{one, two, three, four, redundant, pc_not_plain, eqb_swap}
use Rattle.tz_encode.proofs.Tautologies.{always_5}
use Rattle.tz_encode.proofs.Choosing.{other, other_passes}

plain_three : (a b c : ℕ) → plain3 a b c ≡ (plain a && (plain b && (plain c && true)))
plain_three a b c = three (plain a) (plain b) (plain c)

plain_four : (a b c d : ℕ) → plain4 a b c d ≡ (plain a && (plain b && (plain c && (plain d && true))))
plain_four a b c d = four (plain a) (plain b) (plain c) (plain d)

pub shift_reg_w_reads : Reads shift_reg_w 32 (shape 168)
shift_reg_w_reads = read_alone shift_reg_w 32 (shape 168) (λ f s. at_1 (shift_word f 5) ∙ at_2 (flags_word f 4)) (λ f s. plain_three (bits s 8 4) (bits f 0 4) (bits s 0 4)) refl

pub sxth_w_reads : Reads sxth_w 41 (shape 169)
sxth_w_reads = read_alone sxth_w 41 (shape 169) (λ f s. refl) (λ f s. two _ _) refl

pub uxth_w_reads : Reads uxth_w 43 (shape 170)
uxth_w_reads = read_alone uxth_w 43 (shape 170) (λ f s. refl) (λ f s. two _ _) refl

pub sxtb_w_reads : Reads sxtb_w 42 (shape 171)
sxtb_w_reads = read_alone sxtb_w 42 (shape 171) (λ f s. refl) (λ f s. two _ _) refl

pub uxtb_w_reads : Reads uxtb_w 44 (shape 172)
uxtb_w_reads = read_alone uxtb_w 44 (shape 172) (λ f s. refl) (λ f s. two _ _) refl

-- MUL stands where the register to add would be PC, which isn't plain
mla_limits : (rd rn rm ra : ℕ) → (if ra == 15 then false else plain4 rd rn rm ra) ≡ (plain rd && (plain rn && (plain rm && (plain ra && true))))
mla_limits rd rn rm ra = redundant (ra == 15) (plain4 rd rn rm ra) (λ h. and_right (plain rd && plain rn && plain rm) (plain ra) (pc_not_plain ra h)) ∙ plain_four rd rn rm ra

pub mla_reads : Reads mla 51 (shape 178)
mla_reads = read_alone mla 51 (shape 178) (λ f s. refl) (λ f s. mla_limits (bits s 8 4) (bits f 0 4) (bits s 0 4) (bits s 12 4)) refl

pub mul_w_reads : Reads mul_w 50 (shape 179)
mul_w_reads = read_alone mul_w 50 (shape 179) (λ f s. refl) (λ f s. plain_three (bits s 8 4) (bits f 0 4) (bits s 0 4)) refl

pub mls_reads : Reads mls 52 (shape 180)
mls_reads = read_alone mls 52 (shape 180) (λ f s. refl) (λ f s. plain_four (bits s 8 4) (bits f 0 4) (bits s 0 4) (bits s 12 4)) refl

-- ---- long products, of which the halves are two registers

long_limits : (lo hi rn rm : ℕ) → can_multiply_long lo hi rn rm ≡ (plain lo && ((plain hi && not (hi == lo)) && (plain rn && (plain rm && true))))
long_limits lo hi rn rm =
    always_5 (λ a b c d e. a && b && c && d && not e) (λ a b c d e. a && ((b && not e) && (c && (d && true)))) refl (plain lo) (plain hi) (plain rn) (plain rm) (lo == hi)
    ∙ ap (λ e. plain lo && ((plain hi && not e) && (plain rn && (plain rm && true)))) (eqb_swap lo hi)

pub smull_reads : Reads smull 53 (shape 181)
smull_reads =
    read_all smull 53 (shape 181) (λ f s. refl) (λ f s. long_limits (bits s 12 4) (bits s 8 4) (bits f 0 4) (bits s 0 4))
    (fill (shape 181) (pos 53 ∷ []) (λ a _ b _ c _ d _ lo _. ((pos (other (nat_abs lo)), other_passes plain (nat_abs lo) refl refl), λ hi _ rn _ rm _. tt)))

pub umull_reads : Reads umull 54 (shape 182)
umull_reads =
    read_all umull 54 (shape 182) (λ f s. refl) (λ f s. long_limits (bits s 12 4) (bits s 8 4) (bits f 0 4) (bits s 0 4))
    (fill (shape 182) (pos 54 ∷ []) (λ a _ b _ c _ d _ lo _. ((pos (other (nat_abs lo)), other_passes plain (nat_abs lo) refl refl), λ hi _ rn _ rm _. tt)))

pub smlal_reads : Reads smlal 55 (shape 183)
smlal_reads =
    read_all smlal 55 (shape 183) (λ f s. refl) (λ f s. long_limits (bits s 12 4) (bits s 8 4) (bits f 0 4) (bits s 0 4))
    (fill (shape 183) (pos 55 ∷ []) (λ a _ b _ c _ d _ lo _. ((pos (other (nat_abs lo)), other_passes plain (nat_abs lo) refl refl), λ hi _ rn _ rm _. tt)))

pub umlal_reads : Reads umlal 56 (shape 184)
umlal_reads =
    read_all umlal 56 (shape 184) (λ f s. refl) (λ f s. long_limits (bits s 12 4) (bits s 8 4) (bits f 0 4) (bits s 0 4))
    (fill (shape 184) (pos 56 ∷ []) (λ a _ b _ c _ d _ lo _. ((pos (other (nat_abs lo)), other_passes plain (nat_abs lo) refl refl), λ hi _ rn _ rm _. tt)))

pub sdiv_reads : Reads sdiv 57 (shape 185)
sdiv_reads = read_alone sdiv 57 (shape 185) (λ f s. refl) (λ f s. plain_three (bits s 8 4) (bits f 0 4) (bits s 0 4)) refl

pub udiv_reads : Reads udiv 57 (shape 186)
udiv_reads = read_alone udiv 57 (shape 186) (λ f s. refl) (λ f s. plain_three (bits s 8 4) (bits f 0 4) (bits s 0 4)) refl

pub sg_reads : Reads sg 86 (shape 187)
sg_reads = read_alone sg 86 (shape 187) (λ f s. refl) (λ f s. refl) refl

pub vlstm_reads : Reads vlstm 87 (shape 188)
vlstm_reads = read_alone vlstm 87 (shape 188) (λ f s. at_1 (bool_word f 4)) (λ f s. one _) refl
