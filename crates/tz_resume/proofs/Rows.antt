-- A row of words: what is written into frames, and what is read from them.
use Rattle.std.proofs.Common.{◌≡◌, ℕ, zero, suc, ◌+◌, ◌*◌, ◌^◌, ◌<◌, ◌≤◌, Bool, true, false, ◌&&◌, not, cond, List, [], ◌∷◌, length, Option, Some, None, Result, Ok, Err, refl, sym, ◌∙◌, subst, arith}
use Rattle.std.specs.Prelude.{is_some}
use Rattle.std.specs.FinMap.{get}
use Rattle.tz_table.specs.declared.units.Side.{Side}
use Rattle.tz_table.specs.declared.units.Size.TheVariants.{Word}
use Rattle.tz_model.specs.declared.board.Region.{Region}
use Rattle.tz_model.specs.declared.report.Fault.{Fault}
use Rattle.tz_model.specs.declared.report.Fault.TheVariants.{Unaligned, DataAccess, Violation, Precise}
use Rattle.tz_model.specs.Board.{in_region}
use Rattle.tz_model.specs.Words.{wrap}
use Rattle.tz_state.specs.declared.request.Kind.TheVariants.{Read, Write}
use Rattle.tz_state.specs.declared.request.Request.{Request}
use Rattle.tz_state.specs.Memory.{Memory, every, byte_at, word_at, with_word}
use Rattle.tz_state.specs.State.{Bus, map_in, with_memory}
use Rattle.tz_state.specs.Access.{is_mapped, is_writable, takes_writes, is_accessible, is_crooked, may_touch, is_let, is_private, verdict, request_by}
use Rattle.tz_frames.specs.declared.frame.StackFault.{StackFault}
use Rattle.tz_frames.specs.Machine.{Framed, framed, framer, frame_verdict, in_map_alone, framed_read, framed_write}
use Rattle.tz_frames.specs.Stack.{after_store, written, word_answer, with_lowest_word, reads}
use Rattle.tz_resume.specs.Words.{words_at, AreWords, IsOutside, SameBytes, IsWhole}
use Rattle.tz_resume.proofs.Words.{word_away, word_stays, word_here}

-- ---- what a verdict tells of the map

and_first : (p q : Bool) → (p && q) ≡ true → p ≡ true
and_first true q e = refl
and_first false q e = cc

and_second : (p q : Bool) → (p && q) ≡ true → q ≡ true
and_second true q e = e
and_second false q e = cc

ram_takes : (r : Region) (a : ℕ) (rs : List Region) → (is_writable rs a ≡ true → is_mapped rs a ≡ true) → is_writable (r ∷ rs) a ≡ true → is_mapped (r ∷ rs) a ≡ true
unfolding is_writable is_mapped
ram_takes r a rs later = go (in_region r a) where
  go : (t : Bool) → cond t (takes_writes r.kind) (is_writable rs a) ≡ true → cond t true (is_mapped rs a) ≡ true
  go true e = refl
  go false e = later e

writable_mapped : (rs : List Region) (a : ℕ) → is_writable rs a ≡ true → is_mapped rs a ≡ true
unfolding is_writable is_mapped
writable_mapped [] a e = e
writable_mapped (r ∷ rs) a e = ram_takes r a rs (writable_mapped rs a) e

-- as `in_map_alone`, where private space is a test
abbrev alone : Bool → ℕ → Option Fault → Option Fault
alone private addr None = cond private (Some (Precise addr)) None
alone private addr (Some fault) = Some fault

-- no check refuses, so the map is_accessible each byte
taken : (b : Bus) (q : Request) → in_map_alone q.addr (verdict b q) ≡ None → every (is_accessible b.board.regions q.kind) q.addr q.size ≡ true
unfolding verdict
taken b q = go (is_crooked q.size q.addr q.must_align) (may_touch (map_in b) q.side q.size q.addr) (is_let b q) (is_private q.addr) q.privileged (every (is_accessible b.board.regions q.kind) q.addr q.size) where
  go : (crooked touch let_ private privileged all : Bool)
      → alone private q.addr (cond crooked (Some Unaligned) (cond (not touch) (Some (Violation q.addr)) (cond (not let_) (Some (DataAccess q.addr q.side)) (cond private (cond privileged None (Some (Precise q.addr))) (cond (not all) (Some (Precise q.addr)) None))))) ≡ None
      → all ≡ true
  go crooked touch let_ private privileged true e = refl
  go true touch let_ private privileged false e = cc
  go false false let_ private privileged false e = cc
  go false true false private privileged false e = cc
  go false true true true true false e = cc
  go false true true true false false e = cc
  go false true true false privileged false e = cc

-- ---- addresses

-- the four bytes of a word that is written are there
there : (f : Framed) (a : ℕ) (side : Side) (privileged : Bool) → IsWhole f.bus → frame_verdict f Write a side privileged ≡ None
    → (is_some (get f.bus.memory a) ≡ true) × (is_some (get f.bus.memory (wrap (a + 1))) ≡ true) × (is_some (get f.bus.memory (wrap (a + 2))) ≡ true) × (is_some (get f.bus.memory (wrap (a + 3))) ≡ true)
there f a side privileged whole lets =
    let all = taken f.bus (request_by (framer f side privileged) Write Word a true false) lets in
    let r1 = and_second _ _ all in
    let r2 = and_second _ _ r1 in
    let at = λ (q : ℕ) (e : is_writable f.bus.board.regions q ≡ true). whole q (writable_mapped f.bus.board.regions q e) in
    (at a (and_first _ _ all), at (wrap (a + 1)) (and_first _ _ r1), at (wrap (a + 2)) (and_first _ _ r2), at (wrap (a + 3)) (and_second _ _ r2))

-- the bus with a word written
abbrev with_word_in : Framed → ℕ → ℕ → Framed
with_word_in f a w = record f { bus = with_memory f.bus (with_word f.bus.memory a w) }

whole_stays : (f : Framed) (a w : ℕ) → IsWhole f.bus → IsWhole (with_word_in f a w).bus
whole_stays f a w whole q e = word_stays f.bus.memory a w q (whole q e)

-- ---- what writing leaves

-- the words are there, the map is whole, and bytes elsewhere are as they were
pub record Wrote (f g : Framed) (a : ℕ) (ws : List ℕ) : Type 0 where
  pub words : words_at g.bus.memory a (length ws) ≡ ws
  pub whole : IsWhole g.bus
  pub kept : (q : ℕ) → IsOutside a (4 * length ws) q → get g.bus.memory q ≡ get f.bus.memory q

next_outside : (a n q : ℕ) → IsOutside a (4 * suc n) q → IsOutside (wrap (a + 4)) (4 * n) q
next_outside a n q out k below =
    let shifted : wrap (wrap (a + 4) + k) ≡ wrap (a + (4 + k)) = omega arith in
    rw shifted (out (4 + k) (omega arith))

-- a word's bytes are outside the words above it
byte_outside : (a n i : ℕ) → a < 2 ^ 32 → i < 4 → 4 * suc n ≤ 2 ^ 32 → IsOutside (wrap (a + 4)) (4 * n) (wrap (a + i))
byte_outside a n i fits small few k below = omega arith

word_kept : (m m' : Memory) (a : ℕ) → get m' a ≡ get m a → get m' (wrap (a + 1)) ≡ get m (wrap (a + 1)) → get m' (wrap (a + 2)) ≡ get m (wrap (a + 2)) → get m' (wrap (a + 3)) ≡ get m (wrap (a + 3))
    → word_at m' a ≡ word_at m a
unfolding word_at
word_kept m m' a e0 e1 e2 e3 = rw (e0, e1, e2, e3) refl

-- the first word, before those above it
wrote_more : (side : Side) (privileged : Bool) (f : Framed) (a w : ℕ) (ws : List ℕ) → a < 2 ^ 32 → 4 * suc (length ws) ≤ 2 ^ 32 → w < 2 ^ 32 → IsWhole f.bus
    → (IsWhole (with_word_in f a w).bus → (written framed side privileged (with_word_in f a w) (wrap (a + 4)) ws).1 ≡ None
    → Wrote (with_word_in f a w) (written framed side privileged (with_word_in f a w) (wrap (a + 4)) ws).0 (wrap (a + 4)) ws)
    → (v : Option Fault) → frame_verdict f Write a side privileged ≡ v
    → (after_store (framed_write v f a w) (λ left. written framed side privileged left (wrap (a + 4)) ws)).1 ≡ None
    → Wrote f (after_store (framed_write v f a w) (λ left. written framed side privileged left (wrap (a + 4)) ws)).0 a (w ∷ ws)
unfolding words_at
wrote_more side privileged f a w ws fits few small whole induction (Some fault) is later = cc
wrote_more side privileged f a w ws fits few small whole induction None is later =
    let g = with_word_in f a w in
    let h = (written framed side privileged g (wrap (a + 4)) ws).0 in
    let rest = induction (whole_stays f a w whole) later in
    let is_there = there f a side privileged whole is in
    let zero_at : wrap (a + 0) ≡ a = omega arith in
    let k0 : get h.bus.memory a ≡ get g.bus.memory a = rest.kept a (subst (λ q. IsOutside (wrap (a + 4)) (4 * length ws) q) zero_at (byte_outside a (length ws) 0 fits (omega arith) (omega arith))) in
    let k1 = rest.kept (wrap (a + 1)) (byte_outside a (length ws) 1 fits (omega arith) (omega arith)) in
    let k2 = rest.kept (wrap (a + 2)) (byte_outside a (length ws) 2 fits (omega arith) (omega arith)) in
    let k3 = rest.kept (wrap (a + 3)) (byte_outside a (length ws) 3 fits (omega arith) (omega arith)) in
    let here : word_at h.bus.memory a ≡ w = word_kept g.bus.memory h.bus.memory a k0 k1 k2 k3 ∙ word_here f.bus.memory a w fits small is_there.0 is_there.1 is_there.2 is_there.3 in
    record {
      words = rw (here, rest.words) refl;
      whole = rest.whole;
      kept = λ q out. rest.kept q (next_outside a (length ws) q out)
          ∙ word_away f.bus.memory a w q (λ e. out 0 (omega arith) (e ∙ sym zero_at)) (out 1 (omega arith)) (out 2 (omega arith)) (out 3 (omega arith));
    }

pub wrote : (side : Side) (privileged : Bool) (f : Framed) (a : ℕ) (ws : List ℕ) → a < 2 ^ 32 → 4 * length ws ≤ 2 ^ 32 → AreWords ws → IsWhole f.bus
    → (written framed side privileged f a ws).1 ≡ None → Wrote f (written framed side privileged f a ws).0 a ws
unfolding written words_at
wrote side privileged f a [] fits few words whole none = record { words = refl; whole = whole; kept = λ q out. refl }
wrote side privileged f a (w ∷ ws) fits few words whole none =
    wrote_more side privileged f a w ws fits few words.0 whole
    (λ then later. wrote side privileged (with_word_in f a w) (wrap (a + 4)) ws (omega arith) (omega arith) words.1 then later)
    (frame_verdict f Write a side privileged) refl none

-- ---- what reading tells

read_more : (f : Framed) (a n : ℕ) (v : Option Fault) (rest : Result (List ℕ) StackFault) (ws : List ℕ) → ((words : List ℕ) → rest ≡ Ok words → words ≡ words_at f.bus.memory (wrap (a + 4)) n)
    → with_lowest_word (word_answer (framed_read v f a).1) rest ≡ Ok ws → ws ≡ word_at f.bus.memory a ∷ words_at f.bus.memory (wrap (a + 4)) n
read_more f a n (Some fault) rest ws induction later = cc
read_more f a n None (Err fault) ws induction later = cc
read_more f a n None (Ok words) ws induction later = let inner = induction words refl in cc

pub read_words : (side : Side) (privileged : Bool) (f : Framed) (a n : ℕ) (ws : List ℕ) → reads framed side privileged f a n ≡ Ok ws → ws ≡ words_at f.bus.memory a n
unfolding reads words_at
read_words side privileged f a zero ws e = cc
read_words side privileged f a (suc n) ws e =
    read_more f a n (frame_verdict f Read a side privileged) (reads framed side privileged f (wrap (a + 4)) n) ws
    (λ words is. read_words side privileged f (wrap (a + 4)) n words is) e

same_word : (m m' : Memory) (a : ℕ) → byte_at m' a ≡ byte_at m a → byte_at m' (wrap (a + 1)) ≡ byte_at m (wrap (a + 1)) → byte_at m' (wrap (a + 2)) ≡ byte_at m (wrap (a + 2)) → byte_at m' (wrap (a + 3)) ≡ byte_at m (wrap (a + 3))
    → word_at m' a ≡ word_at m a
unfolding word_at
same_word m m' a e0 e1 e2 e3 = rw (e0, e1, e2, e3) refl

-- the same bytes are the same words
pub same_words : (m m' : Memory) (a n : ℕ) → a < 2 ^ 32 → SameBytes a (4 * n) m m' → words_at m' a n ≡ words_at m a n
unfolding words_at
same_words m m' a zero fits same = refl
same_words m m' a (suc n) fits same =
    let zero_at : wrap (a + 0) ≡ a = omega arith in
    let shifted = λ (k : ℕ). let e : wrap (wrap (a + 4) + k) ≡ wrap (a + (4 + k)) = omega arith in e in
    let later : SameBytes (wrap (a + 4)) (4 * n) m m' = λ k below. rw (shifted k) (same (4 + k) (omega arith)) in
    let b0 : byte_at m' a ≡ byte_at m a = subst (λ q. byte_at m' q ≡ byte_at m q) zero_at (same 0 (omega arith)) in
    rw (same_words m m' (wrap (a + 4)) n (omega arith) later, same_word m m' a b0 (same 1 (omega arith)) (same 2 (omega arith)) (same 3 (omega arith))) refl
