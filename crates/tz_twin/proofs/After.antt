-- What is seen after a step that looked at Secure state: it is fixed by what was seen before it and by its crossing.
use Rattle.std.proofs.Common.{◌≡◌, ℕ, ◌+◌, ◌*◌, ◌/◌, ◌%◌, ◌^◌, ◌==◌, Bool, true, false, cond, List, [], ◌∷◌, Option, Some, None, refl, ap, ◌∙◌}
use Rattle.std.specs.Prelude.{unwrap_or, slice_index, replicate, option_map}
use Rattle.std.specs.Int.{w32, from_le_bytes}
use Rattle.tz_table.specs.declared.units.Side.{Side}
use Rattle.tz_table.specs.declared.units.Side.TheVariants.{Secure, NonSecure}
use Rattle.tz_table.specs.declared.units.Size.TheVariants.{Word}
use Rattle.tz_model.specs.declared.report.CrossKind.TheVariants.{Chain, Preempt}
use Rattle.tz_model.specs.declared.report.Way.{Way}
use Rattle.tz_model.specs.Words.{wrap, even_of}
use Rattle.tz_regs.specs.declared.parts.Registers.{Registers}
use Rattle.tz_state.specs.Memory.{Memory, every, word_at}
use Rattle.tz_state.specs.Attribution.{MapState, is_open}
use Rattle.tz_frames.specs.Registers.{no_flags, saved_of, scratch_cleared, all_cleared}
use Rattle.tz_sem.specs.declared.ending.Cause.TheVariants.{Taken}
use Rattle.tz_sem.specs.Ended.{kind_of}
use Rattle.tz_twin.specs.Seen.{open_bytes, Public, Handed, Nothing, Saved, Whole, handed, handed_by, Crossing, Seen, Hidden, Shown}
use Rattle.tz_twin.proofs.Bytes.{and_first, and_second}
use Rattle.tz_twin.proofs.Split.{board_seen}

-- ---- a word among bytes that are shown

abbrev shown_byte : (ℕ → Option ℕ) → ℕ → ℕ
shown_byte bytes a = unwrap_or (bytes a) 0

unfoldable pub shown_word : (ℕ → Option ℕ) → ℕ → ℕ
shown_word bytes a =
    from_le_bytes w32 (shown_byte bytes a ∷ shown_byte bytes (wrap (a + 1)) ∷ shown_byte bytes (wrap (a + 2)) ∷ shown_byte bytes (wrap (a + 3)) ∷ [])

-- a word of Non-secure bytes is shown
pub word_shown : (m : MapState) (n : Memory) (a : ℕ) → every (is_open m) a Word ≡ true → shown_word (open_bytes m n) a ≡ word_at n a
unfolding word_at shown_word
word_shown m n a is =
    let r1 = and_second _ _ is in
    let r2 = and_second _ _ r1 in
    let e0 : is_open m a ≡ true = and_first _ _ is in
    let e1 : is_open m (wrap (a + 1)) ≡ true = and_first _ _ r1 in
    let e2 : is_open m (wrap (a + 2)) ≡ true = and_first _ _ r2 in
    let e3 : is_open m (wrap (a + 3)) ≡ true = and_second _ _ r2 in
    rw (e0, e1, e2, e3) refl

-- ---- the registers of a handler

-- EXC_RETURN.S: Secure code was interrupted
abbrev is_secured : ℕ → Bool
is_secured lr = lr / 2 ^ 6 % 2 == 1

-- R0 to R12: zero where Secure code was interrupted, and else R4 to R11 are these
abbrev general_found : Bool → List ℕ → List ℕ
general_found true saved = replicate 13 0
general_found false saved =
    0 ∷ 0 ∷ 0 ∷ 0 ∷ slice_index saved 0 ∷ slice_index saved 1 ∷ slice_index saved 2 ∷ slice_index saved 3 ∷ slice_index saved 4 ∷ slice_index saved 5
    ∷ slice_index saved 6 ∷ slice_index saved 7 ∷ 0 ∷ []

abbrev pub begun_with : List ℕ → ℕ → ℕ → ℕ → Registers
begun_with general lr vector number =
    record {
      general = general;
      lr = lr;
      pc = even_of vector;
      apsr = no_flags;
      it = 0;
      t = vector % 2 == 1;
      ipsr = number;
    }

-- the vector is among the Non-secure bytes
abbrev vector_in : Public → ℕ → ℕ
vector_in p number = shown_word p.bytes (wrap (p.status.vtor + 4 * number))

abbrev handler : List ℕ → ℕ → ℕ → Public → Registers
handler saved lr number p = begun_with (general_found (is_secured lr) saved) lr (vector_in p number) number

abbrev handler_by : List ℕ → Option Way → Public → Registers
handler_by saved None p = handler saved 0 0 p
handler_by saved (Some way) p = handler saved (unwrap_or way.lr 0) way.number p

-- ---- what is seen after a crossing

-- R0 to R12 that are seen
abbrev pub general_seen : Seen → List ℕ
general_seen (Hidden b) = []
general_seen (Shown b registers p) = registers.general

-- all registers were handed over, or a handler has them from what was handed to it or seen before
abbrev pub registers_after : Seen → Option Way → Handed → Public → Registers
registers_after before way (Whole registers) p = registers
registers_after before way (Saved r4_to_r11) p = handler_by r4_to_r11 way p
registers_after before way Nothing p = handler_by (saved_of (general_seen before)) way p

abbrev pub after : Seen → Option Crossing → Seen
after before None = Hidden (board_seen before)
after before (Some c) = Shown (board_seen before) (registers_after before c.way c.handed c.public) c.public

-- ---- where an exception was taken

-- its way, from code of a side
abbrev pub way_taken : Side → ℕ → ℕ → Option Way
way_taken side lr number = option_map (λ k. record { kind = k; number = number; lr = Some lr }) (kind_of side Taken lr)

-- what entry leaves of R0 to R12
abbrev pub general_left : Bool → Registers → List ℕ
general_left secure r = (cond secure (all_cleared r) (scratch_cleared r)).general

general_same : (secure bit : Bool) (r : Registers) → bit ≡ secure → general_found bit (saved_of r.general) ≡ general_left secure r
general_same true true r e = refl
general_same false false r e = refl
general_same true false r e = cc
general_same false true r e = cc

general_zero : (secure bit : Bool) (saved : List ℕ) (r : Registers) → bit ≡ secure → bit ≡ true → general_found bit saved ≡ general_left secure r
general_zero true true saved r e h = refl
general_zero true false saved r e h = cc
general_zero false bit saved r e h = cc

general_chained : (secure bit : Bool) (r : Registers) → bit ≡ secure → bit ≡ false → general_found bit (saved_of (general_left secure r)) ≡ general_left secure r
general_chained false false r e h = refl
general_chained false true r e h = cc
general_chained true bit r e h = cc

-- a handler's registers are found: of Secure code before it, without anything of what was seen
pub found : (side : Side) (before : Seen) (r : Registers) (secure : Bool) (lr vector number : ℕ) (p : Public) → is_secured lr ≡ secure → (side ≡ NonSecure → general_seen before ≡ r.general)
    → vector_in p number ≡ vector → registers_after before (way_taken side lr number) (handed (way_taken side lr number) (begun_with (general_left secure r) lr vector number)) p
    ≡ begun_with (general_left secure r) lr vector number
found NonSecure before r secure lr vector number p is knows told =
    let general : general_found (is_secured lr) (saved_of (general_seen before)) ≡ general_left secure r =
    ap (λ (g : List ℕ). general_found (is_secured lr) (saved_of g)) (knows refl) ∙ general_same secure (is_secured lr) r is in
    λ i. begun_with (general i) lr (told i) number
found Secure before r secure lr vector number p is knows told = go (is_secured lr) refl where
  registers : Registers
  registers = begun_with (general_left secure r) lr vector number

  go : (bit : Bool) → is_secured lr ≡ bit
      → registers_after before (Some (record { kind = cond bit Preempt Chain; number = number; lr = Some lr })) (handed_by (cond bit Preempt Chain) registers) p ≡ registers
  go true h =
      let general : general_found (is_secured lr) (saved_of (general_seen before)) ≡ general_left secure r = general_zero secure (is_secured lr) _ r is h in
      λ i. begun_with (general i) lr (told i) number
  go false h =
      let general : general_found (is_secured lr) (saved_of (general_left secure r)) ≡ general_left secure r = general_chained secure (is_secured lr) r is h in
      λ i. begun_with (general i) lr (told i) number
