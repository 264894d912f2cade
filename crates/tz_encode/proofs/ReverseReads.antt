-- The rows of 32 bits that preload and that reverse bits: a code that their slots write is theirs by the bits
-- under its slots, where a preload has zeros and a reversal has one register twice.
use Rattle.std.proofs.Common.{◌≡◌, ℕ, true, false, ◌&&◌, [], ◌∷◌, refl, sym, ◌∙◌, ap, subst}
use Rattle.std.specs.Prelude.{pos, ◌==◌, if◌then◌else◌}
use Rattle.std.proofs.lemmas.Bool.{and_parts, and_from, eq-eqb, eqb-true}
use Rattle.tz_bits.specs.Values.{values_of}
use Rattle.tz_table.specs.Fields.{bits}
use Rattle.tz_table.specs.Limits.{plain, plain2, plain2_same}
use Rattle.tz_table.specs.LoadRows.{pld_imm12, pld_negative, pld_index}
use Rattle.tz_table.specs.ArithmeticRows.{rev_w, rev16_w, rbit, revsh_w, clz}
use Rattle.tz_table.specs.Rows.{TableRow, keeps}
use Rattle.tz_encode.specs.Numbers.{values_in}
use Rattle.tz_encode.specs.declared.limit.Limit.TheVariants.{Any}
use Rattle.tz_encode.proofs.Describes.{Describes, Holds, AllWritten}
use Rattle.tz_encode.proofs.Others.{again_written}
use Rattle.tz_encode.proofs.Telling.{written, eight}
use Rattle.tz_encode.proofs.Reading.{Reads, shape, slot, keeps_from, holds_from}
use Rattle.tz_encode.proofs.Slots.{fill, fill_alone, bits_taken}
use Rattle.tz_encode.proofs.Described.{written_by}

-- ---- preloads, the registers of which are written as 0

pub pld_imm12_reads : Reads pld_imm12 64 (shape 155)
pld_imm12_reads = record {
  values = λ f s c. refl;
  kept = λ f s c. refl;
  held = λ zs f s a b c l k h m.
      let v = eight zs l in
      let base : bits f 0 4 ≡ 0 = (subst (λ vs. Holds (pos 64 ∷ []) (shape 155) vs f s) v.are h).1.1.1.1.0 in
      holds_from pld_imm12 f s c (ap (λ n. if n == 15 then false else true) base);
  fills = fill_alone (shape 155) (pos 64 ∷ []) refl;
}

pub pld_negative_reads : Reads pld_negative 64 (shape 158)
pld_negative_reads = record {
  values = λ f s c. refl;
  kept = λ f s c. refl;
  held = λ zs f s a b c l k h m.
      let v = eight zs l in
      let base : bits f 0 4 ≡ 0 = (subst (λ vs. Holds (pos 64 ∷ []) (shape 158) vs f s) v.are h).1.1.1.1.0 in
      holds_from pld_negative f s c (ap (λ n. if n == 15 then false else true) base);
  fills = fill_alone (shape 158) (pos 64 ∷ []) refl;
}

pub pld_index_reads : Reads pld_index 64 (shape 165)
pld_index_reads = record {
  values = λ f s c. refl;
  kept = λ f s c. refl;
  held = λ zs f s a b c l k h m.
      let v = eight zs l in
      let holding = subst (λ vs. Holds (pos 64 ∷ []) (shape 165) vs f s) v.are h in
      let base : bits f 0 4 ≡ 0 = holding.1.1.1.1.0 in
      let index : bits s 0 4 ≡ 0 = holding.1.1.1.1.1.0 in
      holds_from pld_index f s c (ap (λ n. if n == 15 then false else plain (bits s 0 4)) base ∙ ap plain index);
  fills = fill_alone (shape 165) (pos 64 ∷ []) refl;
}

-- ---- reversals, all with the slots of the first

same_limits : (rd rm again : ℕ) → plain2_same rd rm again ≡ true → (plain rd && (plain rm && true)) ≡ true
same_limits rd rm again h =
    let x = and_parts (plain rd && plain rm) (rm == again) h in
    let y = and_parts (plain rd) (plain rm) x.0 in
    and_from _ _ y.0 (and_from _ _ y.1 refl)

limits_same : (rd rm again : ℕ) → rm ≡ again → (plain rd && (plain rm && true)) ≡ true → plain2_same rd rm again ≡ true
limits_same rd rm again e h =
    let x = and_parts (plain rd) (plain rm && true) h in
    let y = and_parts (plain rm) true x.1 in
    and_from _ _ (and_from _ _ x.0 y.0) (eq-eqb rm again e)

-- a row whose limits are two plain registers, the second of them twice
reversal : (r : TableRow) (form : ℕ) → ((f s : ℕ) → values_of (r.insn f s) ≡ pos form ∷ values_in (pos form ∷ []) (shape 173) f s) → ((f s : ℕ) → keeps r f s ≡ plain2_same (bits s 8 4) (bits s 0 4) (bits f 0 4)) → Reads r form (shape 173)
reversal r form v l = record {
  values = λ f s c. v f s;
  kept = λ f s c. same_limits (bits s 8 4) (bits s 0 4) (bits f 0 4) (sym (l f s) ∙ keeps_from r f s c.held);
  held = λ zs f s a b c n k h m.
      let u = eight zs n in
      let holding = subst (λ vs. Holds (pos form ∷ []) (shape 173) vs f s) u.are h in
      let same : bits s 0 4 ≡ bits f 0 4 = holding.1.1.1.1.1.0 ∙ sym holding.1.1.1.1.1.1.0 in
      holds_from r f s c (l f s ∙ limits_same (bits s 8 4) (bits s 0 4) (bits f 0 4) same m);
  fills = fill (shape 173) (pos form ∷ []) (λ a _ b _ c _ d _ rd _ rm k.
      let fits = bits_taken (slot 173 5) (pos form ∷ a ∷ b ∷ c ∷ d ∷ rd ∷ []) rm k in
      ((pos 0, and_from _ _ (and_from _ _ (eq-eqb _ _ fits) refl) refl), λ again _ x _. tt));
}

reversal_written : (form : ℕ) (f s : ℕ) → bits s 0 4 ≡ bits f 0 4 → AllWritten (pos form ∷ []) (shape 173) f s
reversal_written form f s same = (
  written (slot 173 0) (pos form ∷ []) f s refl,
  (
    written (slot 173 1) (pos form ∷ pos 0 ∷ []) f s refl,
    (
      written (slot 173 2) (pos form ∷ pos 0 ∷ pos 0 ∷ []) f s refl,
      (
        written (slot 173 3) (pos form ∷ pos 0 ∷ pos 0 ∷ pos 0 ∷ []) f s refl,
        (
          written (slot 173 4) (pos form ∷ pos 0 ∷ pos 0 ∷ pos 0 ∷ pos 0 ∷ []) f s refl,
          (
            written (slot 173 5) (pos form ∷ pos 0 ∷ pos 0 ∷ pos 0 ∷ pos 0 ∷ pos (bits s 8 4) ∷ []) f s refl,
            (
              again_written Any (slot 173 6).parts (pos form ∷ pos 0 ∷ pos 0 ∷ pos 0 ∷ pos 0 ∷ pos (bits s 8 4) ∷ pos (bits s 0 4) ∷ []) f s refl same,
              (written (slot 173 7) (pos form ∷ pos 0 ∷ pos 0 ∷ pos 0 ∷ pos 0 ∷ pos (bits s 8 4) ∷ pos (bits s 0 4) ∷ pos 0 ∷ []) f s refl, tt),
            ),
          ),
        ),
      ),
    ),
  ),
)

reversal_described : (r : TableRow) (form : ℕ) → ((f s : ℕ) → values_of (r.insn f s) ≡ pos form ∷ values_in (pos form ∷ []) (shape 173) f s) → ((f s : ℕ) → keeps r f s ≡ plain2_same (bits s 8 4) (bits s 0 4) (bits f 0 4)) → Describes r form (shape 173)
reversal_described r form v l =
    written_by r form (shape 173) (reversal r form v l)
    (λ f s c.
    let x = and_parts (plain2 (bits s 8 4) (bits s 0 4)) (bits s 0 4 == bits f 0 4) (sym (l f s) ∙ keeps_from r f s c.held) in
    reversal_written form f s (eqb-true _ _ x.1))
    refl

pub rev_w_described : Describes rev_w 45 (shape 173)
rev_w_described = reversal_described rev_w 45 (λ f s. refl) (λ f s. refl)

pub rev16_w_described : Describes rev16_w 46 (shape 174)
rev16_w_described = reversal_described rev16_w 46 (λ f s. refl) (λ f s. refl)

pub rbit_described : Describes rbit 47 (shape 175)
rbit_described = reversal_described rbit 47 (λ f s. refl) (λ f s. refl)

pub revsh_w_described : Describes revsh_w 48 (shape 176)
revsh_w_described = reversal_described revsh_w 48 (λ f s. refl) (λ f s. refl)

pub clz_described : Describes clz 49 (shape 177)
clz_described = reversal_described clz 49 (λ f s. refl) (λ f s. refl)
