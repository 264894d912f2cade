-- Both frames, written and read.
use Rattle.std.proofs.Common.{◌≡◌, ℕ, ◌+◌, ◌-◌, ◌^◌, ◌<◌, Bool, true, false, cond, List, [], ◌∷◌, length, Option, Some, None, Result, Ok, Err, refl, ap, ◌∙◌, subst, arith}
use Rattle.std.specs.Prelude.{slice_index, unwrap_or, ◌==◌, nat_lt}
use Rattle.tz_table.specs.declared.units.Side.{Side}
use Rattle.tz_table.specs.declared.units.Side.TheVariants.{Secure}
use Rattle.tz_model.specs.declared.report.Fault.{Fault}
use Rattle.tz_model.specs.Words.{wrap, even_of}
use Rattle.tz_regs.specs.declared.parts.Core.{Core}
use Rattle.tz_regs.specs.declared.parts.Registers.{Registers}
use Rattle.tz_regs.specs.declared.parts.Stacks.{Stacks}
use Rattle.tz_state.specs.Memory.{Memory}
use Rattle.tz_regs.specs.Registers.{sp_of}
use Rattle.tz_regs.specs.Banks.{stacks_of}
use Rattle.tz_frames.specs.declared.frame.StackFault.{StackFault}
use Rattle.tz_frames.specs.declared.frame.StackFault.TheVariants.{Limit, Signature}
use Rattle.tz_frames.specs.declared.frame.Basic.{Basic}
use Rattle.tz_frames.specs.declared.frame.Callee.{Callee}
use Rattle.tz_frames.specs.declared.leaving.Unstacked.{Unstacked}
use Rattle.tz_frames.specs.Machine.{Framed, framed}
use Rattle.tz_frames.specs.Registers.{resumed_registers}
use Rattle.tz_frames.specs.Stack.{Pushed, pushed, pushed_with, access_fault, with_sp, with_side_sp, splim_of, written, word_read, reads, basic_words, callee_words, basic_of, basic_read, callee_of, callee_read, signed, signature, popped_basic, popped_additional}
use Rattle.tz_frames.specs.Leave.{with_callee}
use Rattle.tz_resume.specs.Words.{words_at, AreWords, IsOutside, SameBytes, IsWhole}
use Rattle.tz_resume.specs.Resumption.{IsSound}
use Rattle.tz_resume.proofs.Psr.{psr_small, apsr_back, it_back, t_back, number_back}
use Rattle.tz_resume.proofs.Rows.{wrote, read_words, same_words}

-- ---- stack pointers

pub sp_with : (process : Bool) (value : ℕ) (s : Stacks) → sp_of process (with_sp process value s) ≡ value
sp_with true value s = refl
sp_with false value s = refl

-- ---- a frame without a fault is whole

no_access : (x : Option Fault) → access_fault x ≡ None → x ≡ None
no_access None e = refl
no_access (Some fault) e = cc

pub pushed_whole : (c : Core) (f : Framed) (side : Side) (process privileged : Bool) (base : ℕ) (words : List ℕ)
    → (pushed framed c f side process privileged base words).fault ≡ None
    → ((written framed side privileged f base words).1 ≡ None)
    × ((pushed framed c f side process privileged base words).core ≡ with_side_sp side process base c)
    × ((pushed framed c f side process privileged base words).held ≡ (written framed side privileged f base words).0)
pushed_whole c f side process privileged base words = go (nat_lt base (splim_of process (stacks_of side c))) where
  low : Pushed Framed
  low = record { core = with_side_sp side process (splim_of process (stacks_of side c)) c; held = f; fault = Some (Limit side) }

  high : Pushed Framed
  high = pushed_with (with_side_sp side process base c) (written framed side privileged f base words)

  go : (t : Bool) → (cond t low high).fault ≡ None
      → ((written framed side privileged f base words).1 ≡ None) × ((cond t low high).core ≡ with_side_sp side process base c) × ((cond t low high).held ≡ (written framed side privileged f base words).0)
  go true e = cc
  go false e = (no_access _ e, refl, refl)

-- ---- frames that were read

pub basic_ok : (x : Result (List ℕ) StackFault) (b : Basic) → basic_read x ≡ Ok b → (words : List ℕ) × (x ≡ Ok words) × (b ≡ basic_of words)
basic_ok (Ok words) b e = (words, refl, cc)
basic_ok (Err fault) b e = cc

pub signed_ok : (x : Result ℕ StackFault) (y : Result (List ℕ) StackFault) (k : Callee) → signed x y ≡ Ok k → (words : List ℕ) × (y ≡ Ok words) × (k ≡ callee_of words)
signed_ok (Err fault) y k e = cc
signed_ok (Ok word) y k e = go (word == signature) y e where
  go : (t : Bool) (y : Result (List ℕ) StackFault) → cond t (callee_read y) (Err Signature) ≡ Ok k → (words : List ℕ) × (y ≡ Ok words) × (k ≡ callee_of words)
  go true (Ok words) e = (words, refl, cc)
  go true (Err fault) e = cc
  go false y e = cc

pub both_ok : (x : Result Callee StackFault) (y : Result Basic StackFault) (u : Unstacked) → with_callee x y ≡ Ok u → (k : Callee) × (b : Basic) × (x ≡ Ok k) × (y ≡ Ok b) × (u ≡ record { callee = Some k; basic = b })
both_ok (Ok k) (Ok b) u e = (k, b, refl, refl, cc)
both_ok (Ok k) (Err fault) u e = cc
both_ok (Err fault) y u e = cc

-- ---- the words of frames

pub basic_are_words : (r : Registers) (back sp : ℕ) → IsSound r → back < 2 ^ 32 → AreWords (basic_words r back sp)
basic_are_words r back sp s small = (s.words 0, (s.words 1, (s.words 2, (s.words 3, (s.words 12, (s.lr, (small, (psr_small r sp s.it s.ipsr, tt))))))))

pub callee_are_words : (r : Registers) → IsSound r → AreWords (callee_words r.general)
callee_are_words r s = (omega arith, (omega arith, (s.words 4, (s.words 5, (s.words 6, (s.words 7, (s.words 8, (s.words 9, (s.words 10, (s.words 11, tt))))))))))

-- the thirteen registers one by one
spelled : (xs : List ℕ) → length xs ≡ 13
    → slice_index xs 0 ∷ slice_index xs 1 ∷ slice_index xs 2 ∷ slice_index xs 3 ∷ slice_index xs 4 ∷ slice_index xs 5 ∷ slice_index xs 6 ∷ slice_index xs 7 ∷ slice_index xs 8
    ∷ slice_index xs 9 ∷ slice_index xs 10 ∷ slice_index xs 11 ∷ slice_index xs 12 ∷ [] ≡ xs
spelled (a ∷ b ∷ c ∷ d ∷ e ∷ f ∷ g ∷ h ∷ i ∷ j ∷ k ∷ l ∷ m ∷ []) is = refl
spelled _ is = absurd (omega arith)

-- the registers of the frames are those before
pub registers_back : (r old : Registers) (back sp : ℕ) → IsSound r
    → resumed_registers old (Some (callee_of (0 ∷ slice_index r.general 4 ∷ slice_index r.general 5 ∷ slice_index r.general 6 ∷ slice_index r.general 7 ∷ slice_index r.general 8
    ∷ slice_index r.general 9 ∷ slice_index r.general 10 ∷ slice_index r.general 11 ∷ []))) (basic_of (basic_words r back sp))
    ≡ record r { pc = even_of back }
registers_back r old back sp s =
    rw (spelled r.general s.thirteen, apsr_back r sp s.it s.ipsr, it_back r sp s.it s.ipsr, t_back r sp s.it s.ipsr, number_back r sp s.it s.ipsr) refl

-- ---- both frames in memory

-- where words of the basic frame are, the additional frame below it isn't
above_outside : (base k : ℕ) → base < 2 ^ 32 → k < 32 → IsOutside (wrap (base + (2 ^ 32 - 40))) 40 (wrap (base + k))
above_outside base k fits below j small = omega arith

tail_of : (a b : ℕ) (xs ys : List ℕ) → a ∷ xs ≡ b ∷ ys → xs ≡ ys
tail_of a b xs ys e = cc

-- the words of both frames after both were written
pub both_written : (f : Framed) (p1 p2 : Bool) (base : ℕ) (low high : List ℕ) → base < 2 ^ 32 → length high ≡ 8 → length low ≡ 10 → AreWords high → AreWords low → IsWhole f.bus
    → (written framed Secure p1 f base high).1 ≡ None
    → (written framed Secure p2 (written framed Secure p1 f base high).0 (wrap (base + (2 ^ 32 - 40))) low).1 ≡ None
    → let m = (written framed Secure p2 (written framed Secure p1 f base high).0 (wrap (base + (2 ^ 32 - 40))) low).0.bus.memory in
    (words_at m (wrap (base + (2 ^ 32 - 40))) 10 ≡ low) × (words_at m base 8 ≡ high)
both_written f p1 p2 base low high fits eight ten are are' whole none none' =
    let g = (written framed Secure p1 f base high).0 in
    let top = wrap (base + (2 ^ 32 - 40)) in
    let h = (written framed Secure p2 g top low).0 in
    let w = wrote Secure p1 f base high fits (omega arith) are whole none in
    let w' = wrote Secure p2 g top low (omega arith) (omega arith) are' w.whole none' in
    let kept : SameBytes base 32 g.bus.memory h.bus.memory = λ k below. ap (λ (o : Option ℕ). unwrap_or o 0) (w'.kept (wrap (base + k)) (λ j small. above_outside base k fits below j (omega arith))) in
    let same = same_words g.bus.memory h.bus.memory base 8 fits kept in
    let low_words : words_at h.bus.memory top 10 ≡ low = subst (λ n. words_at h.bus.memory top n ≡ low) ten w'.words in
    let high_words : words_at g.bus.memory base 8 ≡ high = subst (λ n. words_at g.bus.memory base n ≡ high) eight w.words in
    (low_words, same ∙ high_words)

-- ---- both frames read

-- what is read at the same bytes
pub both_read : (m : Memory) (g : Framed) (p : Bool) (top base : ℕ) (first : ℕ) (low high : List ℕ) (u : Unstacked) → top < 2 ^ 32 → wrap (top + 40) ≡ base
    → words_at m top 10 ≡ first ∷ low → words_at m base 8 ≡ high → SameBytes top 72 m g.bus.memory
    → with_callee (popped_additional framed g top p) (popped_basic framed g (wrap (top + 40)) Secure p) ≡ Ok u
    → u ≡ record { callee = Some (callee_of low); basic = basic_of high }
unfolding words_at
both_read m g p top base first low high u fits at lows highs same ok =
    let (k, b, x, y, is) = both_ok (popped_additional framed g top p) (popped_basic framed g (wrap (top + 40)) Secure p) u ok in
    let (ws, got, is_k) = signed_ok (word_read framed Secure p g top) (reads framed Secure p g (wrap (top + 4)) 9) k x in
    let (vs, got', is_b) = basic_ok (reads framed Secure p g (wrap (top + 40)) 8) b y in
    let e = read_words Secure p g (wrap (top + 4)) 9 ws got in
    let e' = read_words Secure p g (wrap (top + 40)) 8 vs got' in
    let near : SameBytes (wrap (top + 4)) 36 m g.bus.memory = λ n below. let shifted : wrap (wrap (top + 4) + n) ≡ wrap (top + (4 + n)) = omega arith in rw shifted (same (4 + n) (omega arith)) in
    let far : SameBytes (wrap (top + 40)) 32 m g.bus.memory = λ n below. let shifted : wrap (wrap (top + 40) + n) ≡ wrap (top + (40 + n)) = omega arith in rw shifted (same (40 + n) (omega arith)) in
    let lows' = tail_of _ first _ low lows in
    let is_low : ws ≡ low = e ∙ same_words m g.bus.memory (wrap (top + 4)) 9 (omega arith) near ∙ lows' in
    let is_high : vs ≡ high = e' ∙ same_words m g.bus.memory (wrap (top + 40)) 8 (omega arith) far ∙ ap (λ a. words_at m a 8) at ∙ highs in
    let callee : k ≡ callee_of low = is_k ∙ ap callee_of is_low in
    let basic : b ≡ basic_of high = is_b ∙ ap basic_of is_high in
    let first_part : Unstacked = record { callee = Some k; basic = b } in
    let second_part : Unstacked = record { callee = Some (callee_of low); basic = b } in
    ◌∙◌ {b = first_part} is
    (◌∙◌ {b = second_part} (ap (λ (k : Callee). record { callee = Some k; basic = b }) callee) (ap (λ (b : Basic). record { callee = Some (callee_of low); basic = b }) basic))
