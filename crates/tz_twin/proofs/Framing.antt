-- What entries and returns write lies in frames at the stack pointers of the side that ran.
use Rattle.std.proofs.Common.{◌≡◌, ℕ, zero, suc, ◌+◌, ◌-◌, ◌*◌, ◌/◌, ◌%◌, ◌^◌, ◌==◌, ◌<◌, ◌≤◌, Bool, true, false, ◌&&◌, ◌||◌, not, cond, List, [], ◌∷◌, Option, Some, None, Result, Ok, Err, ◌⊎◌, inl, inr, refl, sym, ◌∙◌, subst, arith}
use Rattle.std.specs.Prelude.{nat_lt}
use Rattle.std.specs.FinMap.{get}
use Rattle.std.proofs.lemmas.Bool.{le-ltb, ltb-true, ltb-false}
use Rattle.std.proofs.lemmas.Bool.Decides.{nat_tests}
use Rattle.tz_table.specs.declared.units.Side.{Side}
use Rattle.tz_table.specs.declared.units.Side.TheVariants.{Secure, NonSecure}
use Rattle.tz_table.specs.declared.units.Size.TheVariants.{Word}
use Rattle.tz_model.specs.declared.board.Profile.{Profile}
use Rattle.tz_model.specs.declared.report.Fault.{Fault}
use Rattle.tz_model.specs.declared.report.Fault.TheVariants.{InvPc}
use Rattle.tz_model.specs.declared.report.Slot.{Slot}
use Rattle.tz_model.specs.Words.{wrap, is_nonsecure_side}
use Rattle.tz_regs.specs.declared.parts.Core.{Core}
use Rattle.tz_regs.specs.declared.parts.Stacks.{Stacks}
use Rattle.tz_regs.specs.Banks.{of_side, stacks_of}
use Rattle.tz_regs.specs.Registers.{is_handler, is_privileged, uses_process, sp_of}
use Rattle.tz_state.specs.declared.request.Kind.TheVariants.{Write}
use Rattle.tz_state.specs.declared.taken.Taken.{Taken as Raises}
use Rattle.tz_state.specs.declared.taken.Taken.TheVariants.{AsIs, Hard, Lockup}
use Rattle.tz_state.specs.Escalation.{escalated}
use Rattle.tz_state.specs.Execution.{takes_first}
use Rattle.tz_state.specs.Memory.{Memory, every}
use Rattle.tz_state.specs.Priority.{chosen}
use Rattle.tz_state.specs.Slots.{ExceptionsValue}
use Rattle.tz_frames.specs.FrameAccess.{Vector, FrameStore}
use Rattle.tz_frames.specs.Machine.{Framed, frame_verdict, framed_write, framed}
use Rattle.tz_frames.specs.declared.frame.StackFault.{StackFault}
use Rattle.tz_frames.specs.declared.entering.Entering.{Entering}
use Rattle.tz_frames.specs.declared.entering.Choice.{Choice}
use Rattle.tz_frames.specs.declared.entering.Choice.TheVariants as choices
use Rattle.tz_frames.specs.declared.leaving.Returning.{Returning}
use Rattle.tz_frames.specs.declared.leaving.Unstacked.{Unstacked}
use Rattle.tz_frames.specs.declared.entering.FrameFault.{FrameFault}
use Rattle.tz_frames.specs.declared.leaving.Refusal.{Refusal}
use Rattle.tz_frames.specs.declared.leaving.Refusal.TheVariants as refusals
use Rattle.tz_frames.specs.Status.{Raised, frame_status, frame_exception, with_status, raised_as, faulted, frame_faulted}
use Rattle.tz_frames.specs.Stack.{splim_of, with_sp, after_store, written, Pushed, pushed, basic_base, basic_words, pushed_basic, callee_words, pushed_additional}
use Rattle.tz_frames.specs.Enter.{Work, Chosen, Done, is_secure, handling, vectored_by, vectored, vector_failed, vector_touched, needs_additional, with_additional, callee_process, callee_privileged, stacked_by, stacked, taking, choosing_from, choosing, locked_up, goes_on, tries, interrupted, begins_raised, begins, enters, without_frame}
use Rattle.tz_frames.specs.Leave.{returning_by, exc_return_fault, slot_returning, freed, core_returning, chaining, side_of_bit, Leaving, chained, chained_raised, unstacked, modes_agree, resumes, goes_back, leaves_noting, leaves}
use Rattle.tz_twin.specs.Writing.{distance, is_within, is_framed}
use Rattle.tz_twin.proofs.Noted.{word_beside}

-- ---- distances

-- a byte of a word at an address is near it
near : (from a k : ℕ) → from < 2 ^ 32 → k < 4 → wrap (from + k) ≡ a → distance from a ≡ k
near from a k below few at = omega (arith, below, few, at)

apart : (x a : ℕ) → (x ≡ a → ⊥) → not (x == a) ≡ true
apart x a h = grind (arith, nat_tests)

-- one that is farther away is none of the four
far : (from a k : ℕ) → from < 2 ^ 32 → k < 4 → 4 ≤ distance from a → not (wrap (from + k) == a) ≡ true
far from a k below few away = apart (wrap (from + k)) a (λ at. too_near (distance from a) k few away (near from a k below few at)) where
  too_near : (d k : ℕ) → k < 4 → 4 ≤ d → d ≡ k → ⊥
  too_near d k few away e = omega arith

far_from_first : (from a : ℕ) → from < 2 ^ 32 → 4 ≤ distance from a → not (from == a) ≡ true
far_from_first from a below away = subst (λ x. not (x == a) ≡ true) (same from below) (far from a 0 below (omega arith) away) where
  same : (from : ℕ) → from < 2 ^ 32 → wrap (from + 0) ≡ from
  same from below = omega arith

all_true : (p q r s : Bool) → p ≡ true → q ≡ true → r ≡ true → s ≡ true → (p && (q && (r && s))) ≡ true
all_true true true true true a b c d = refl
all_true true true true false a b c d = d
all_true true true false s a b c d = c
all_true true false r s a b c d = b
all_true false q r s a b c d = a

far_from_word : (from a : ℕ) → from < 2 ^ 32 → 4 ≤ distance from a → every (λ x. not (x == a)) from Word ≡ true
far_from_word from a below away =
    all_true _ _ _ _ (far_from_first from a below away) (far from a 1 below (omega arith) away) (far from a 2 below (omega arith) away) (far from a 3 below (omega arith) away)

-- what is no address is none of them either
above : (x a : ℕ) → x < 2 ^ 32 → 2 ^ 32 ≤ a → not (x == a) ≡ true
above x a below high = apart x a (λ e. too_high x a below high e) where
  too_high : (x a : ℕ) → x < 2 ^ 32 → 2 ^ 32 ≤ a → x ≡ a → ⊥
  too_high x a below high e = omega arith

wrapped : (n : ℕ) → wrap n < 2 ^ 32
wrapped n = omega arith

above_word : (from a : ℕ) → from < 2 ^ 32 → 2 ^ 32 ≤ a → every (λ x. not (x == a)) from Word ≡ true
above_word from a below high =
    all_true _ _ _ _ (above from a below high) (above (wrap (from + 1)) a (wrapped (from + 1)) high) (above (wrap (from + 2)) a (wrapped (from + 2)) high) (above (wrap (from + 3)) a (wrapped (from + 3)) high)

-- the next word is nearer by four
nearer : (from a : ℕ) → from < 2 ^ 32 → 4 ≤ distance from a → distance (wrap (from + 4)) a + 4 ≡ distance from a
nearer from a below away = omega (arith, below, away)

-- the place of a basic frame is an address
base_below : (n : ℕ) → n < 2 ^ 32 → n / 8 * 8 + n % 4 < 2 ^ 32
base_below n below = omega (arith, below)

-- no address, or far enough
Away : ℕ → ℕ → ℕ → Type 0
Away size from a = (2 ^ 32 ≤ a) ⊎ (size ≤ distance from a)

away : (size from a : ℕ) → is_within size from a ≡ false → Away size from a
unfolding Away
away size from a h = go (nat_lt a (2 ^ 32)) refl h where
  go : (t : Bool) → nat_lt a (2 ^ 32) ≡ t → (t && nat_lt (distance from a) size) ≡ false → (2 ^ 32 ≤ a) ⊎ (size ≤ distance from a)
  go true is e = inr (ltb-false (distance from a) size e)
  go false is e = inl (ltb-false a (2 ^ 32) is)

-- what is far from one place is far from another, as distances tell
farther : (size more from other a : ℕ) → (more ≤ distance other a → size ≤ distance from a) → is_within more other a ≡ false → is_within size from a ≡ false
farther size more from other a far h = go (nat_lt a (2 ^ 32)) h where
  go : (t : Bool) → (t && nat_lt (distance other a) more) ≡ false → (t && nat_lt (distance from a) size) ≡ false
  go true e = le-ltb (distance from a) size (far (ltb-false (distance other a) more e))
  go false e = refl

-- what isn't among more bytes isn't among fewer
narrower : (size more from a : ℕ) → size ≤ more → is_within more from a ≡ false → is_within size from a ≡ false
narrower size more from a few h = farther size more from from a (λ e. trans size more (distance from a) few e) h where
  trans : (x y z : ℕ) → x ≤ y → y ≤ z → x ≤ z
  trans x y z h k = omega arith

-- an additional frame lies 40 bytes below a basic one
below_basic : (sp a : ℕ) → sp < 2 ^ 32 → 72 ≤ distance (wrap (sp + (2 ^ 32 - 40))) a → 32 ≤ distance sp a
below_basic sp a below away = omega (arith, below, away)

-- and a limit that it would lie below is not so far below
below_limit : (sp limit a : ℕ) → sp < 2 ^ 32 → wrap (sp + (2 ^ 32 - 40)) < limit → limit ≤ sp → 72 ≤ distance limit a → 32 ≤ distance sp a
below_limit sp limit a below under most away = omega (arith, below, under, most, away)

-- ---- words that are written

-- the bytes of words
bytes_in : List ℕ → ℕ
bytes_in [] = 0
bytes_in (word ∷ words) = 4 + bytes_in words

store_within : (v : Option Fault) (f : Framed) (b value a : ℕ) → every (λ x. not (x == a)) b Word ≡ true → get (framed_write v f b value).0.bus.memory a ≡ get f.bus.memory a
store_within (Some fault) f b value a is = refl
store_within None f b value a is = word_beside f.bus.memory b value a is

after_store_within : (f : Framed) (a : Framed × Result ℕ Fault) (later : Framed → Framed × Option Fault) (q : ℕ) → get a.0.bus.memory q ≡ get f.bus.memory q
    → ((g : Framed) → get (later g).0.bus.memory q ≡ get g.bus.memory q) → get (after_store a later).0.bus.memory q ≡ get f.bus.memory q
after_store_within f (g, Ok done) later q h more = more g ∙ h
after_store_within f (g, Err fault) later q h more = h

first_word : (n d : ℕ) → 4 + n ≤ d → 4 ≤ d
first_word n d h = omega arith

other_words : (n d e : ℕ) → 4 + n ≤ d → e + 4 ≡ d → n ≤ e
other_words n d e h next = omega arith

away_from_word : (n from a : ℕ) → from < 2 ^ 32 → Away (4 + n) from a → every (λ x. not (x == a)) from Word ≡ true
unfolding Away
away_from_word n from a below (inl high) = above_word from a below high
away_from_word n from a below (inr far) = far_from_word from a below (first_word n (distance from a) far)

away_from_next : (n from a : ℕ) → from < 2 ^ 32 → Away (4 + n) from a → Away n (wrap (from + 4)) a
unfolding Away
away_from_next n from a below (inl high) = inl high
away_from_next n from a below (inr far) =
    inr (other_words n (distance from a) (distance (wrap (from + 4)) a) far (nearer from a below (first_word n (distance from a) far)))

written_within : (side : Side) (privileged : Bool) (words : List ℕ) (f : Framed) (from a : ℕ) → from < 2 ^ 32 → Away (bytes_in words) from a
    → get (written framed side privileged f from words).0.bus.memory a ≡ get f.bus.memory a
unfolding written bytes_in
written_within side privileged [] f from a below out = refl
written_within side privileged (word ∷ words) f from a below out =
    after_store_within f (framed f (FrameStore from side privileged word)) (λ left. written framed side privileged left (wrap (from + 4)) words) a
    (store_within (frame_verdict f Write from side privileged) f from word a (away_from_word (bytes_in words) from a below out))
    (λ g. written_within side privileged words g (wrap (from + 4)) a (wrapped (from + 4)) (away_from_next (bytes_in words) from a below out))

-- ---- an entry under way

-- of code of a side: nothing is written yet; or a basic frame, at the Secure stack pointer in use, which isn't below its
-- limit; or frames below which none follows
data Stage (side : Side) (old new : Memory) (secure skip thread : Bool) (s ns : Stacks) : Type 0 where
  Whole : ((secure && not skip) ≡ true → side ≡ Secure) → ((a : ℕ) → get new a ≡ get old a) → Stage side old new secure skip thread s ns
  One : side ≡ Secure → (process : Bool) → process ≡ (thread && s.spsel) → sp_of process s < 2 ^ 32 → splim_of process s ≤ sp_of process s
      → ((a : ℕ) → is_within 32 (sp_of process s) a ≡ false → get new a ≡ get old a) → Stage side old new secure skip thread s ns
  Full : (secure && not skip) ≡ false → ((a : ℕ) → is_framed (of_side side s ns) a ≡ false → get new a ≡ get old a) → Stage side old new secure skip thread s ns

or_first : (p q : Bool) → (p || q) ≡ false → p ≡ false
or_first true q e = cc
or_first false q e = refl

or_second : (p q : Bool) → (p || q) ≡ false → q ≡ false
or_second true q e = cc
or_second false q e = e

-- what isn't framed isn't within a frame at either stack pointer
not_framed : (process : Bool) (s : Stacks) (a : ℕ) → is_framed s a ≡ false → is_within 72 (sp_of process s) a ≡ false
not_framed true s a h = or_second (is_within 72 s.msp a) (is_within 72 s.psp a) h
not_framed false s a h = or_first (is_within 72 s.msp a) (is_within 72 s.psp a) h

framed_secure : (side : Side) (s ns : Stacks) (a : ℕ) → side ≡ Secure → is_framed (of_side side s ns) a ≡ false → is_framed s a ≡ false
framed_secure Secure s ns a is h = h
framed_secure NonSecure s ns a is h = cc

-- each stage keeps what is outside all frames
final : (side : Side) (old new : Memory) (secure skip thread : Bool) (s ns : Stacks) → Stage side old new secure skip thread s ns → (a : ℕ) → is_framed (of_side side s ns) a ≡ false
    → get new a ≡ get old a
final side old new secure skip thread s ns (Whole own h) a out = h a
final side old new secure skip thread s ns (One is process e below most h) a out =
    h a (narrower 32 72 (sp_of process s) a (omega arith) (not_framed process s a (framed_secure side s ns a is out)))
final side old new secure skip thread s ns (Full none h) a out = h a out

sp_after : (process : Bool) (value : ℕ) (s : Stacks) → sp_of process (with_sp process value s) ≡ value
sp_after true value s = refl
sp_after false value s = refl

-- outside the frames at a stack pointer that was moved
moved_within : (process : Bool) (value : ℕ) (s : Stacks) (a : ℕ) → is_framed (with_sp process value s) a ≡ false → is_within 72 value a ≡ false
moved_within process value s a h = subst (λ x. is_within 72 x a ≡ false) (sp_after process value s) (not_framed process (with_sp process value s) a h)

false_is_true : {P : Type 0} → false ≡ true → P
false_is_true e = cc

-- what was pushed, without an additional frame so far
abbrev Staged : Side → Memory → Bool → Bool → Pushed Framed → Type 0
Staged side old secure thread p = Stage side old p.held.bus.memory secure false thread p.core.stacks_s p.core.stacks_ns

staged_cond : (side : Side) (old : Memory) (secure thread t : Bool) (x y : Pushed Framed) → (t ≡ true → Staged side old secure thread x) → (t ≡ false → Staged side old secure thread y) → Staged side old secure thread (cond t x y)
staged_cond side old secure thread true x y h k = h refl
staged_cond side old secure thread false x y h k = k refl

-- words that are written change no byte that isn't within them
outside : (side : Side) (privileged : Bool) (words : List ℕ) (size : ℕ) (f : Framed) (base a : ℕ) → bytes_in words ≡ size → base < 2 ^ 32 → is_within size base a ≡ false
    → get (written framed side privileged f base words).0.bus.memory a ≡ get f.bus.memory a
outside side privileged words size f base a is below out =
    written_within side privileged words f base a below (subst (λ n. Away n base a) (sym is) (away size base a out))

-- the basic frame
basic_staged : (side : Side) (c : Core) (f : Framed) (process privileged thread : Bool) (base : ℕ) (words : List ℕ) → bytes_in words ≡ 32 → base < 2 ^ 32
    → (side ≡ Secure → process ≡ (thread && c.stacks_s.spsel)) → Staged side f.bus.memory (is_secure side) thread (pushed framed c f side process privileged base words)
basic_staged Secure c f process privileged thread base words size below same =
    staged_cond Secure f.bus.memory true thread (nat_lt base (splim_of process c.stacks_s)) _ _ (λ is. Whole (λ e. refl) (λ a. refl))
    (λ is.
    let at : sp_of process (with_sp process base c.stacks_s) ≡ base = sp_after process base c.stacks_s in
    One refl process (same refl) (subst (λ x. x < 2 ^ 32) (sym at) below)
    (subst (λ x. splim_of process c.stacks_s ≤ x) (sym at) (ltb-false base (splim_of process c.stacks_s) is))
    (λ a out. outside Secure privileged words 32 f base a size below (subst (λ x. is_within 32 x a ≡ false) at out)))
basic_staged NonSecure c f process privileged thread base words size below same =
    staged_cond NonSecure f.bus.memory false thread (nat_lt base (splim_of process c.stacks_ns)) _ _ (λ is. Whole false_is_true (λ a. refl))
    (λ is.
    Full refl
    (λ a out.
    outside NonSecure privileged words 32 f base a size below (narrower 32 72 base a (omega arith) (moved_within process base c.stacks_ns a out))))

-- the additional frame, where one is to be written
abbrev Ends : Side → Memory → Pushed Framed → Type 0
Ends side old p = (a : ℕ) → is_framed (of_side side p.core.stacks_s p.core.stacks_ns) a ≡ false → get p.held.bus.memory a ≡ get old a

ends_cond : (side : Side) (old : Memory) (t : Bool) (x y : Pushed Framed) → (t ≡ true → Ends side old x) → (t ≡ false → Ends side old y) → Ends side old (cond t x y)
ends_cond side old true x y h k = h refl
ends_cond side old false x y h k = k refl

not_both : {P : Type 0} → (t : Bool) → t ≡ true → t ≡ false → P
not_both true e f = cc
not_both false e f = cc

additional_ends : (side : Side) (old : Memory) (c : Core) (f : Framed) (secure skip thread process privileged : Bool) → (secure && not skip) ≡ true → process ≡ (thread && c.stacks_s.spsel)
    → Stage side old f.bus.memory secure skip thread c.stacks_s c.stacks_ns → Ends side old (pushed_additional framed c f process privileged)
unfolding pushed_additional bytes_in
additional_ends side old c f secure skip thread process privileged due same (Full none h) = not_both (secure && not skip) due none
additional_ends side old c f secure skip thread process privileged due same (Whole own h) =
    let base = wrap (sp_of process c.stacks_s + (2 ^ 32 - 40)) in
    ends_cond side old (nat_lt base (splim_of process c.stacks_s)) _ _ (λ is a out. h a)
    (λ is a out.
    outside Secure privileged (callee_words c.registers.general) 40 f base a refl (wrapped (sp_of process c.stacks_s + (2 ^ 32 - 40)))
    (narrower 40 72 base a (omega arith) (moved_within process base c.stacks_s a (framed_secure side (with_sp process base c.stacks_s) c.stacks_ns a (own due) out)))
    ∙ h a)
additional_ends side old c f secure skip thread process privileged due same (One is other is_process below most h) =
    let sp = sp_of process c.stacks_s in
    let low = splim_of process c.stacks_s in
    let base = wrap (sp + (2 ^ 32 - 40)) in
    let one : other ≡ process = is_process ∙ sym same in
    let sp_below : sp < 2 ^ 32 = subst (λ p. sp_of p c.stacks_s < 2 ^ 32) one below in
    let low_most : low ≤ sp = subst (λ p. splim_of p c.stacks_s ≤ sp_of p c.stacks_s) one most in
    let before : (a : ℕ) → is_within 32 sp a ≡ false → get f.bus.memory a ≡ get old a =
    λ a out. h a (subst (λ p. is_within 32 (sp_of p c.stacks_s) a ≡ false) (sym one) out) in
    ends_cond side old (nat_lt base low) _ _
    (λ under a out.
    let inside = moved_within process low c.stacks_s a (framed_secure side (with_sp process low c.stacks_s) c.stacks_ns a is out) in
    before a (farther 32 72 sp low a (below_limit sp low a sp_below (ltb-true base low under) low_most) inside))
    (λ over a out.
    let inside = moved_within process base c.stacks_s a (framed_secure side (with_sp process base c.stacks_s) c.stacks_ns a is out) in
    outside Secure privileged (callee_words c.registers.general) 40 f base a refl (wrapped (sp + (2 ^ 32 - 40))) (narrower 40 72 base a (omega arith) inside)
    ∙ before a (farther 32 72 sp base a (below_basic sp a sp_below) inside))

-- ---- one choice

-- how far an entry is
abbrev StageOf : Side → Memory → Work Framed → Type 0
StageOf side old w = Stage side old w.held.bus.memory w.entry.secure w.entry.skip w.entry.thread w.core.stacks_s w.core.stacks_ns

-- what is outside all frames is kept
abbrev Keeps : Side → Memory → Core → Framed → Type 0
Keeps side old c f = (a : ℕ) → is_framed (stacks_of side c) a ≡ false → get f.bus.memory a ≡ get old a

record ChosenKept (side : Side) (old : Memory) (x : Chosen Framed) : Type 0 where
  pub kept : Keeps side old x.work.core x.work.held
  pub again : x.choice ≡ choices.Again → StageOf side old x.work

kept_at : (side : Side) (old : Memory) (w : Work Framed) → StageOf side old w → Keeps side old w.core w.held
kept_at side old w h = final side old w.held.bus.memory w.entry.secure w.entry.skip w.entry.thread w.core.stacks_s w.core.stacks_ns h

abbrev of_number : ℕ → Side → Slot
of_number number side = record { number = number; side = side }

-- a handler's stack pointers are those of before
handling_frames : (profile : Profile) (c : Core) (x : Entering) (number : ℕ) (given : Side) (vector : ℕ) (side : Side) (a : ℕ)
    → is_framed (stacks_of side (handling profile c x (of_number number given) vector)) a ≡ is_framed (stacks_of side c) a
handling_frames profile c x number Secure vector Secure a = refl
handling_frames profile c x number Secure vector NonSecure a = refl
handling_frames profile c x number NonSecure vector Secure a = refl
handling_frames profile c x number NonSecure vector NonSecure a = refl

taken_again : {P : Type 0} (given : Slot) → choices.Taken given ≡ choices.Again → P
taken_again given e = cc

vectored_by_kept : (side : Side) (old : Memory) (profile : Profile) (w : Work Framed) (number : ℕ) (given : Side) (r : Result ℕ Fault) → StageOf side old w
    → ChosenKept side old (vectored_by profile w (of_number number given) r)
unfolding vector_failed
vectored_by_kept side old profile w number given (Ok vector) h = record {
  kept = λ a out. kept_at side old w h a (sym (handling_frames profile w.core w.entry number given vector side a) ∙ out);
  again = taken_again (of_number number given);
}
vectored_by_kept side old profile w number given (Err fault) h = record { kept = kept_at side old w h; again = λ e. h }

vectored_kept : (side : Side) (old : Memory) (profile : Profile) (w : Work Framed) (given : Slot) → StageOf side old w → ChosenKept side old (vectored framed profile w given)
unfolding vectored
vectored_kept side old profile w given h =
    vectored_by_kept side old profile (record w { entry = vector_touched w.entry given.side }) given.number given.side (framed w.held (Vector given.number given.side)).1 h

-- a fault that pends leaves the stack pointers
raised_as_staged : (side : Side) (old new : Memory) (secure skip thread : Bool) (t : Raises) (given : Slot) (c : Core) (e : ExceptionsValue) → Stage side old new secure skip thread c.stacks_s c.stacks_ns
    → Stage side old new secure skip thread (raised_as t given c e).core.stacks_s (raised_as t given c e).core.stacks_ns
raised_as_staged side old new secure skip thread AsIs given c e h = h
raised_as_staged side old new secure skip thread (Hard s) given c e h = h
raised_as_staged side old new secure skip thread Lockup given c e h = h

raised_staged : (side : Side) (old new : Memory) (secure skip thread stacking : Bool) (of : Side) (fault : StackFault) (c : Core) (e : ExceptionsValue) → Stage side old new secure skip thread c.stacks_s c.stacks_ns
    → Stage side old new secure skip thread (frame_faulted stacking of fault c e).core.stacks_s (frame_faulted stacking of fault c e).core.stacks_ns
raised_staged side old new secure skip thread stacking of fault c e h =
    raised_as_staged side old new secure skip thread (escalated e c.masks (frame_exception e of fault)) (frame_exception e of fault) (with_status c (frame_status stacking of fault c.status)) e h

stacked_by_kept : (side : Side) (old : Memory) (profile : Profile) (w : Work Framed) (given : Slot) (first : Option FrameFault) (fault : Option StackFault) → StageOf side old w
    → ChosenKept side old (stacked_by framed profile w given first fault)
stacked_by_kept side old profile w given None (Some fault) h =
    let r = frame_faulted true Secure fault w.core w.exceptions in
    let staged = raised_staged side old w.held.bus.memory w.entry.secure w.entry.skip w.entry.thread true Secure fault w.core w.exceptions h in
    record {
      kept = final side old w.held.bus.memory w.entry.secure w.entry.skip w.entry.thread r.core.stacks_s r.core.stacks_ns staged;
      again = λ e. staged;
    }
stacked_by_kept side old profile w given (Some first) (Some fault) h = vectored_kept side old profile w given h
stacked_by_kept side old profile w given first None h = vectored_kept side old profile w given h

and_false : (t : Bool) → (t && false) ≡ false
and_false true = refl
and_false false = refl

stacked_kept : (side : Side) (old : Memory) (profile : Profile) (w : Work Framed) (given : Slot) (p : Pushed Framed) → Ends side old p → ChosenKept side old (stacked framed profile w given p)
stacked_kept side old profile w given p h =
    stacked_by_kept side old profile (record w { core = p.core; held = p.held; entry = with_additional w.entry }) given w.entry.frame p.fault (Full (and_false w.entry.secure) h)

chosen_cond : (side : Side) (old : Memory) (t : Bool) (x y : Chosen Framed) → (t ≡ true → ChosenKept side old x) → ChosenKept side old y → ChosenKept side old (cond t x y)
chosen_cond side old true x y h k = h refl
chosen_cond side old false x y h k = k

-- it is to be written
is_due : (secure nonsecure skip : Bool) → ((secure && nonsecure) && not skip) ≡ true → (secure && not skip) ≡ true
is_due true true skip e = e
is_due true false skip e = cc
is_due false nonsecure skip e = e

taking_kept : (side : Side) (old : Memory) (profile : Profile) (w : Work Framed) (given : Slot) → StageOf side old w → ChosenKept side old (taking framed profile w given)
unfolding taking
taking_kept side old profile w given h =
    let process = callee_process w.core w.entry in
    let privileged = callee_privileged w.core w.entry in
    chosen_cond side old (needs_additional w.entry given && not w.entry.skip)
    (stacked framed profile w given (pushed_additional framed w.core w.held process privileged))
    (vectored framed profile (record w { entry = record w.entry { needed_additional = w.entry.needed_additional || needs_additional w.entry given } }) given)
    (λ due.
    stacked_kept side old profile w given (pushed_additional framed w.core w.held process privileged)
    (additional_ends side old w.core w.held w.entry.secure w.entry.skip w.entry.thread process privileged (is_due w.entry.secure (is_nonsecure_side given.side) w.entry.skip due) refl h))
    (vectored_kept side old profile (record w { entry = record w.entry { needed_additional = w.entry.needed_additional || needs_additional w.entry given } }) given h)

choosing_from_kept : (side : Side) (old : Memory) (profile : Profile) (w : Work Framed) (first : Option Slot) → StageOf side old w → ChosenKept side old (choosing_from framed profile w first)
choosing_from_kept side old profile w None h = record { kept = kept_at side old w h; again = λ e. h }
choosing_from_kept side old profile w (Some given) h = taking_kept side old profile w given h

choosing_kept : (side : Side) (old : Memory) (profile : Profile) (w : Work Framed) → StageOf side old w → ChosenKept side old (choosing framed profile w)
unfolding choosing
choosing_kept side old profile w h = choosing_from_kept side old profile w (chosen w.exceptions) h

-- ---- the choices

abbrev DoneKept : Side → Memory → Done Framed → Type 0
DoneKept side old d = Keeps side old d.core d.held

goes_on_kept : (side : Side) (old : Memory) (again : Work Framed → Done Framed) (w : Work Framed) (choice : Choice) → Keeps side old w.core w.held → (choice ≡ choices.Again → StageOf side old w)
    → ((v : Work Framed) → StageOf side old v → DoneKept side old (again v)) → DoneKept side old (goes_on again w choice)
goes_on_kept side old again w (choices.Taken given) h k more = h
goes_on_kept side old again w choices.Lockup h k more = h
goes_on_kept side old again w choices.Again h k more = more w (k refl)

tries_kept : (side : Side) (old : Memory) (profile : Profile) (n : ℕ) (w : Work Framed) → StageOf side old w → DoneKept side old (tries framed profile n w)
unfolding tries
tries_kept side old profile zero w h = kept_at side old w h
tries_kept side old profile (suc n) w h =
    let x = choosing_kept side old profile w h in
    goes_on_kept side old (tries framed profile n) (choosing framed profile w).work (choosing framed profile w).choice x.kept x.again (tries_kept side old profile n)

-- ---- entry

done_cond : (side : Side) (old : Memory) (t : Bool) (x y : Done Framed) → DoneKept side old x → DoneKept side old y → DoneKept side old (cond t x y)
done_cond side old true x y h k = h
done_cond side old false x y h k = k

begins_raised_kept : (side : Side) (old : Memory) (profile : Profile) (f : Framed) (x : Entering) (r : Raised) → Stage side old f.bus.memory x.secure x.skip x.thread r.core.stacks_s r.core.stacks_ns
    → DoneKept side old (begins_raised framed profile f x r)
begins_raised_kept side old profile f x r h =
    let w : Work Framed = record { core = r.core; exceptions = r.exceptions; held = f; entry = x } in
    done_cond side old r.locks (locked_up w) (tries framed profile 4 w) (kept_at side old w h) (tries_kept side old profile 4 w h)

begins_kept : (side : Side) (old : Memory) (profile : Profile) (of : Side) (e : ExceptionsValue) (x : Entering) (c : Core) (f : Framed) (fault : Option StackFault)
    → Stage side old f.bus.memory x.secure x.skip x.thread c.stacks_s c.stacks_ns → DoneKept side old (begins framed profile of e x c f fault)
begins_kept side old profile of e x c f None h = tries_kept side old profile 4 (record { core = c; exceptions = e; held = f; entry = x }) h
begins_kept side old profile of e x c f (Some fault) h =
    begins_raised_kept side old profile f (without_frame x false fault) (frame_faulted true of fault c e) (raised_staged side old f.bus.memory x.secure x.skip x.thread true of fault c e h)

secure_process : (side : Side) (thread : Bool) (s ns : Stacks) → side ≡ Secure → (thread && (of_side side s ns).spsel) ≡ (thread && s.spsel)
secure_process Secure thread s ns is = refl
secure_process NonSecure thread s ns is = cc

pub enters_kept : (profile : Profile) (c : Core) (e : ExceptionsValue) (f : Framed) (back : ℕ) → DoneKept c.run.side f.bus.memory (enters framed profile c e f back)
unfolding enters pushed_basic bytes_in
enters_kept profile c e f back =
    let side = c.run.side in
    let own = stacks_of side c in
    let process = uses_process c.registers.ipsr own in
    let sp = sp_of process own in
    let p = pushed_basic framed c f back in
    begins_kept side f.bus.memory profile side e (interrupted c) p.core p.held p.fault
    (basic_staged side c f process (is_privileged c.registers.ipsr own) (not (is_handler c.registers.ipsr)) (basic_base sp) (basic_words c.registers back sp) refl
    (base_below (wrap (sp + (2 ^ 32 - 32))) (wrapped (sp + (2 ^ 32 - 32)))) (secure_process side (not (is_handler c.registers.ipsr)) c.stacks_s c.stacks_ns))

-- ---- return

-- an additional frame of a tail-chain is of a Secure exception that returns
chained_own : (es dcrs secure : Bool) → (secure && not (not es || not dcrs)) ≡ true → es ≡ true
chained_own true dcrs secure e = refl
chained_own false dcrs true e = cc
chained_own false dcrs false e = cc

own_side : (side : Side) (t : Bool) → (is_secure side && t) ≡ true → side ≡ Secure
own_side Secure t e = refl
own_side NonSecure t e = cc

-- what returns by these is of a Secure side alone
abbrev Owned : Side → Returning → Type 0
Owned side r = r.es ≡ true → side ≡ Secure

chained_kept : (side : Side) (profile : Profile) (r : Returning) (refused : Option Refusal) (touched : Bool) (c : Core) (e : ExceptionsValue) (f : Framed) → Owned side r
    → let l = chained framed profile r refused touched c e f in Keeps side f.bus.memory l.core l.held
unfolding chained
chained_kept side profile r refused touched c e f own =
    tries_kept side f.bus.memory profile 4 (record { core = c; exceptions = e; held = f; entry = chaining r touched }) (Whole (λ due. own (chained_own r.es r.dcrs r.secure due)) (λ a. refl))

abbrev LeavingKept : Side → Memory → Leaving Framed → Type 0
LeavingKept side old l = Keeps side old l.core l.held

leaving_cond : (side : Side) (old : Memory) (t : Bool) (x y : Leaving Framed) → LeavingKept side old x → LeavingKept side old y → LeavingKept side old (cond t x y)
leaving_cond side old true x y h k = h
leaving_cond side old false x y h k = k

chained_raised_kept : (side : Side) (profile : Profile) (r : Returning) (refusal : Refusal) (touched : Bool) (f : Framed) (raised : Raised) → Owned side r
    → LeavingKept side f.bus.memory (chained_raised framed profile r refusal touched f raised)
chained_raised_kept side profile r refusal touched f raised own =
    leaving_cond side f.bus.memory raised.locks _ (chained framed profile r (Some refusal) touched raised.core raised.exceptions f) (λ a out. refl)
    (chained_kept side profile r (Some refusal) touched raised.core raised.exceptions f own)

resumes_kept : (side : Side) (profile : Profile) (r : Returning) (c : Core) (e : ExceptionsValue) (f : Framed) (u : Result Unstacked StackFault) → Owned side r
    → LeavingKept side f.bus.memory (resumes framed profile r c e f u)
resumes_kept side profile r c e f (Err fault) own = chained_raised_kept side profile r (refusals.Frame fault) r.secure f (frame_faulted false (side_of_bit r.secure) fault c e) own
resumes_kept side profile r c e f (Ok u) own =
    let raised = faulted (side_of_bit r.secure) (InvPc (side_of_bit r.secure)) c e in
    leaving_cond side f.bus.memory (modes_agree r u.basic) _ (chained_raised framed profile r (refusals.Mode (side_of_bit r.secure)) r.secure f raised) (λ a out. refl) (chained_raised_kept side profile r (refusals.Mode (side_of_bit r.secure)) r.secure f raised own)

goes_back_kept : (side : Side) (profile : Profile) (r : Returning) (c : Core) (e : ExceptionsValue) (f : Framed) → Owned side r → LeavingKept side f.bus.memory (goes_back framed profile r c e f)
unfolding goes_back
goes_back_kept side profile r c e f own =
    leaving_cond side f.bus.memory (takes_first e c.masks) (chained framed profile r None false c e f) (resumes framed profile r c e f (unstacked framed c r f))
    (chained_kept side profile r None false c e f own) (resumes_kept side profile r c e f (unstacked framed c r f) own)

noting_kept : (side : Side) (profile : Profile) (of : Side) (fault : Option Fault) (r : Returning) (c : Core) (e : ExceptionsValue) (f : Framed) → Owned side r
    → LeavingKept side f.bus.memory (leaves_noting framed profile of fault r c e f)
noting_kept side profile of (Some fault) r c e f own = chained_raised_kept side profile r (refusals.Value fault) false f (faulted of fault c e) own
noting_kept side profile of None r c e f own = goes_back_kept side profile r c e f own

pub leaves_kept : (profile : Profile) (c : Core) (e : ExceptionsValue) (f : Framed) (value : ℕ) → LeavingKept c.run.side f.bus.memory (leaves framed profile c e f value)
unfolding leaves
leaves_kept profile c e f value =
    let r = returning_by c.run.side value in
    noting_kept c.run.side profile c.run.side (exc_return_fault c e value) r (core_returning e r c) (freed e (slot_returning c r)) f (own_side c.run.side _)
