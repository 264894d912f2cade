-- The instructions of the rows of 32 bits that load and store one register have a text.
use Rattle.std.proofs.Common.{refl}
use Rattle.tz_table.specs.Fields.{bits}
use Rattle.tz_table.specs.LoadRows as rows
use Rattle.tz_table.specs.declared.units.Width.TheVariants.{Wide}
use Rattle.tz_text.proofs.TextForms.{excepts_from, load_back_text, load_text, store_back_text, store_text}
use Rattle.tz_text.proofs.TextGroups.{IsSpelled, in_exclusives}

pub ldr_imm12 : IsSpelled rows.ldr_imm12
ldr_imm12 f s h = load_text f _ _ _ _ (excepts_from rows.ldr_imm12 f s h) refl refl refl refl refl

pub str_imm12 : IsSpelled rows.str_imm12
str_imm12 f s _ = store_text (bits f 5 2) _ _ _ refl refl refl

pub pld_imm12 : IsSpelled rows.pld_imm12
pld_imm12 f s _ = in_exclusives (rows.pld_imm12.insn f s) Wide refl

pub ldr_negative : IsSpelled rows.ldr_negative
ldr_negative f s h = load_text f _ _ _ _ (excepts_from rows.ldr_negative f s h) refl refl refl refl refl

pub str_negative : IsSpelled rows.str_negative
str_negative f s _ = store_text (bits f 5 2) _ _ _ refl refl refl

pub pld_negative : IsSpelled rows.pld_negative
pld_negative f s _ = in_exclusives (rows.pld_negative.insn f s) Wide refl

pub ldrt : IsSpelled rows.ldrt
ldrt f s h = load_text f _ _ _ _ (excepts_from rows.ldrt f s h) refl refl refl refl refl

pub strt : IsSpelled rows.strt
strt f s _ = store_text (bits f 5 2) _ _ _ refl refl refl

pub ldr_back : IsSpelled rows.ldr_back
ldr_back f s h = load_back_text f _ (bits s 10 1) _ _ _ (excepts_from rows.ldr_back f s h)

pub str_back : IsSpelled rows.str_back
str_back f s _ = store_back_text (bits f 5 2) (bits s 10 1) _ _ _

pub ldr_index_w : IsSpelled rows.ldr_index_w
ldr_index_w f s h = load_text f _ _ _ _ (excepts_from rows.ldr_index_w f s h) refl refl refl refl refl

pub str_index_w : IsSpelled rows.str_index_w
str_index_w f s _ = store_text (bits f 5 2) _ _ _ refl refl refl

pub pld_index : IsSpelled rows.pld_index
pld_index f s _ = in_exclusives (rows.pld_index.insn f s) Wide refl

pub ldr_literal_w : IsSpelled rows.ldr_literal_w
ldr_literal_w f s h = load_text f _ _ _ _ (excepts_from rows.ldr_literal_w f s h) refl refl refl refl refl

pub pld_literal : IsSpelled rows.pld_literal
pld_literal f s _ = in_exclusives (rows.pld_literal.insn f s) Wide refl
