-- The rows of 32 bits that load and store one register.
use Rattle.std.proofs.Common.{◌≡◌, ℕ, Bool, false, ◌||◌, [], ◌∷◌, refl, ◌∙◌, arith}
use Rattle.std.specs.Prelude.{pos, nat_abs, ◌==◌}
use Rattle.std.proofs.lemmas.Bool.{or_parts, or_right}
use Rattle.tz_bits.specs.Values.{size_number}
use Rattle.tz_table.specs.Fields.{bits}
use Rattle.tz_table.specs.Limits.{plain, not_pc, can_store}
use Rattle.tz_table.specs.Terms.{size_of}
use Rattle.tz_table.specs.LoadRows.{ldr_imm12, str_imm12, ldr_negative, str_negative, ldrt, strt, ldr_back, str_back, ldr_index_w, str_index_w, ldr_literal_w, pld_literal}
use Rattle.tz_table.proofs.Scans.{holds_parts}
use Rattle.tz_encode.proofs.Reading.{Reads, shape, read, read_alone}
use Rattle.tz_encode.proofs.Slots.{fill}
use Rattle.tz_encode.proofs.FieldWords.{bool_word, at_1, at_2, at_7, sign_word}
use Rattle.tz_encode.proofs.WideWords.{size_left, at_6_offset, back_load, back_store}
use Rattle.tz_encode.proofs.LoadLimits.{load_limits, load_index_limits, load_literal_limits, load_user_limits, load_back_limits, store_limits, store_index_limits, store_back_limits}
use Rattle.tz_encode.proofs.Choosing.{other, other_passes}

-- the size of a code that isn't left out
size_among : (f : ℕ) (rest : Bool) → (bits f 5 2 == 3 || rest) ≡ false → size_number (size_of (bits f 5 2)) ≡ bits f 5 2
size_among f rest h = size_left (bits f 5 2) (omega arith) (or_parts (bits f 5 2 == 3) rest h).0

-- ---- base plus constant

pub ldr_imm12_reads : Reads ldr_imm12 58 (shape 153)
ldr_imm12_reads =
    read ldr_imm12 58 (shape 153) (λ f s c. at_1 (size_among f _ (holds_parts ldr_imm12 f s c.held).2) ∙ at_2 (bool_word f 8))
    (λ f s a b c. load_limits (bits f 5 2) (bits f 8 1) (bits s 12 4) (bits f 0 4) (omega arith))
    (fill (shape 153) (pos 58 ∷ []) (λ size _. ((pos 0, refl), λ sign _ a _ b _. ((pos 0, or_right _ _ refl), λ rt _ rn _ x _ y _. tt))))

pub str_imm12_reads : Reads str_imm12 59 (shape 154)
str_imm12_reads =
    read str_imm12 59 (shape 154) (λ f s c. at_1 (size_among f _ (holds_parts str_imm12 f s c.held).2))
    (λ f s a b c. store_limits (bits f 5 2) (bits f 0 4) (can_store (bits f 5 2) (bits s 12 4)) (omega arith))
    (fill (shape 154) (pos 59 ∷ []) (λ size _ a _ b _ c _. ((pos 0, or_right _ _ refl), λ rt _ rn _ x _ y _. tt)))

pub ldr_negative_reads : Reads ldr_negative 58 (shape 156)
ldr_negative_reads =
    read ldr_negative 58 (shape 156) (λ f s c. at_1 (size_among f _ (holds_parts ldr_negative f s c.held).2) ∙ at_2 (bool_word f 8))
    (λ f s a b c. load_limits (bits f 5 2) (bits f 8 1) (bits s 12 4) (bits f 0 4) (omega arith))
    (fill (shape 156) (pos 58 ∷ []) (λ size _. ((pos 0, refl), λ sign _ a _ b _. ((pos 0, or_right _ _ refl), λ rt _ rn _ x _ y _. tt))))

pub str_negative_reads : Reads str_negative 59 (shape 157)
str_negative_reads =
    read str_negative 59 (shape 157) (λ f s c. at_1 (size_among f _ (holds_parts str_negative f s c.held).2))
    (λ f s a b c. store_limits (bits f 5 2) (bits f 0 4) (can_store (bits f 5 2) (bits s 12 4)) (omega arith))
    (fill (shape 157) (pos 59 ∷ []) (λ size _ a _ b _ c _. ((pos 0, or_right _ _ refl), λ rt _ rn _ x _ y _. tt)))

pub ldrt_reads : Reads ldrt 58 (shape 159)
ldrt_reads =
    read ldrt 58 (shape 159) (λ f s c. at_1 (size_among f _ (holds_parts ldrt f s c.held).2) ∙ at_2 (bool_word f 8))
    (λ f s a b c. load_user_limits (bits f 5 2) (bits f 8 1) (bits s 12 4) (bits f 0 4) (omega arith))
    (fill (shape 159) (pos 58 ∷ []) (λ size _. ((pos 0, refl), λ sign _ a _ b _ rt _ rn _ x _ y _. tt)))

pub strt_reads : Reads strt 59 (shape 160)
strt_reads =
    read strt 59 (shape 160) (λ f s c. at_1 (size_among f _ (holds_parts strt f s c.held).2))
    (λ f s a b c. store_limits (bits f 5 2) (bits f 0 4) (plain (bits s 12 4)) (omega arith))
    (fill (shape 160) (pos 59 ∷ []) (λ size _ a _ b _ c _ rt _ rn _ x _ y _. tt))

-- ---- bases that are written back

pub ldr_back_reads : Reads ldr_back 58 (shape 161)
ldr_back_reads =
    read ldr_back 58 (shape 161)
    (λ f s c.
    at_1 (size_among f _ (holds_parts ldr_back f s c.held).2)
    ∙ at_2 (bool_word f 8)
    ∙ back_load (bits s 10 1) (bits f 0 4) _ (pos (bits f 5 2)) (pos (bits f 8 1)) (pos (bits s 12 4)) (omega arith)
    ∙ at_7 (sign_word (bits s 9 1) (bits s 0 8) (omega arith)))
    (λ f s a b c. load_back_limits (bits f 5 2) (bits f 8 1) (bits s 12 4) (bits f 0 4) (omega arith))
    (fill (shape 161) (pos 58 ∷ []) (λ size _. ((pos 0, refl), λ sign _ a _ b _. ((pos 0, or_right _ _ refl), λ rt _. ((pos (other (nat_abs rt)), other_passes not_pc (nat_abs rt) refl refl), λ rn _ x _ y _. tt)))))

pub str_back_reads : Reads str_back 59 (shape 162)
str_back_reads =
    read str_back 59 (shape 162)
    (λ f s c.
    at_1 (size_among f _ (holds_parts str_back f s c.held).2)
    ∙ back_store (bits s 10 1) (bits f 0 4) _ (pos (bits f 5 2)) (pos (bits s 12 4)) (omega arith)
    ∙ at_7 (sign_word (bits s 9 1) (bits s 0 8) (omega arith)))
    (λ f s a b c. store_back_limits (bits f 5 2) (bits s 12 4) (bits f 0 4) (omega arith))
    (fill (shape 162) (pos 59 ∷ []) (λ size _ a _ b _ c _. ((pos 0, or_right _ _ refl), λ rt _. ((pos (other (nat_abs rt)), other_passes not_pc (nat_abs rt) refl refl), λ rn _ x _ y _. tt))))

-- ---- base plus register, and PC plus constant

pub ldr_index_w_reads : Reads ldr_index_w 58 (shape 163)
ldr_index_w_reads =
    read ldr_index_w 58 (shape 163) (λ f s c. at_1 (size_among f _ (holds_parts ldr_index_w f s c.held).2) ∙ at_2 (bool_word f 8))
    (λ f s a b c. load_index_limits (bits f 5 2) (bits f 8 1) (bits s 12 4) (bits f 0 4) (bits s 0 4) (omega arith))
    (fill (shape 163) (pos 58 ∷ []) (λ size _. ((pos 0, refl), λ sign _ a _ b _. ((pos 0, or_right _ _ refl), λ rt _ rn _ rm _ y _. tt))))

pub str_index_w_reads : Reads str_index_w 59 (shape 164)
str_index_w_reads =
    read str_index_w 59 (shape 164) (λ f s c. at_1 (size_among f _ (holds_parts str_index_w f s c.held).2))
    (λ f s a b c. store_index_limits (bits f 5 2) (bits s 12 4) (bits f 0 4) (bits s 0 4) (omega arith))
    (fill (shape 164) (pos 59 ∷ []) (λ size _ a _ b _ c _. ((pos 0, or_right _ _ refl), λ rt _ rn _ rm _ y _. tt)))

pub ldr_literal_w_reads : Reads ldr_literal_w 58 (shape 166)
ldr_literal_w_reads =
    read ldr_literal_w 58 (shape 166)
    (λ f s c.
    at_1 (size_among f _ (holds_parts ldr_literal_w f s c.held).2)
    ∙ at_2 (bool_word f 8)
    ∙ at_6_offset (sign_word (bits f 7 1) (bits s 0 12) (omega arith)))
    (λ f s a b c. load_literal_limits (bits f 5 2) (bits f 8 1) (bits s 12 4) (omega arith))
    (fill (shape 166) (pos 58 ∷ []) (λ size _. ((pos 0, refl), λ sign _ a _ b _. ((pos 0, or_right _ _ refl), λ rt _ x _ y _ z _. tt))))

pub pld_literal_reads : Reads pld_literal 64 (shape 167)
pld_literal_reads = read_alone pld_literal 64 (shape 167) (λ f s. refl) (λ f s. refl) refl
