-- Frames of Non-secure stacks: they go to Non-secure bytes alone, and their faults name no Secure side.
use Rattle.std.proofs.Common.{◌≡◌, ℕ, ◌+◌, zero, suc, Bool, true, false, not, cond, List, [], ◌∷◌, Option, Some, None, Result, Ok, Err, refl, ap, subst}
use Rattle.std.specs.Prelude.{nat_lt}
use Rattle.tz_table.specs.declared.units.Side.{Side}
use Rattle.tz_table.specs.declared.units.Side.TheVariants.{Secure, NonSecure}
use Rattle.tz_table.specs.declared.units.Size.TheVariants.{Word}
use Rattle.tz_model.specs.declared.report.Fault.{Fault}
use Rattle.tz_model.specs.Words.{wrap}
use Rattle.tz_regs.specs.declared.parts.Core.{Core}
use Rattle.tz_regs.specs.Banks.{stacks_of}
use Rattle.tz_regs.specs.Registers.{is_privileged, uses_process, sp_of}
use Rattle.tz_state.specs.declared.request.Kind.{Kind}
use Rattle.tz_state.specs.declared.request.Kind.TheVariants.{Read, Write}
use Rattle.tz_state.specs.declared.request.Request.{Request}
use Rattle.tz_state.specs.Memory.{every}
use Rattle.tz_state.specs.Attribution.{MapState, is_open}
use Rattle.tz_state.specs.Slots.{ExceptionsValue}
use Rattle.tz_state.specs.Access.{is_crooked, may_touch, is_let, is_private, is_accessible, verdict, request_by}
use Rattle.tz_state.specs.State.{Bus, map_in}
use Rattle.tz_frames.specs.FrameAccess.{FrameStore}
use Rattle.tz_frames.specs.Machine.{Framed, framer, in_map_alone, frame_verdict, framed_read, framed_write, framed}
use Rattle.tz_frames.specs.declared.frame.StackFault.{StackFault}
use Rattle.tz_frames.specs.Stack.{splim_of, with_side_sp, after_store, written, word_answer, word_read, with_lowest_word, reads, Pushed, access_fault, pushed_with, pushed, basic_base, basic_words, pushed_basic, basic_read, popped_basic}
use Rattle.tz_twin.specs.Integrity.{KeepsBytes}
use Rattle.tz_twin.proofs.Accesses.{touched_by}
use Rattle.tz_twin.proofs.Bytes.{keeps_nothing_changed, keeps_then, write_kept}
use Rattle.tz_twin.proofs.Slots.{quiet}
use Rattle.tz_twin.proofs.Faults.{is_own, Own, OwnSome, own_some}
use Rattle.tz_twin.proofs.Held.{BusKept, framed_kept}
use Rattle.tz_twin.proofs.Spared.{is_own_frame, KeptBy, kept_from}

-- of what may fault by a frame
unfoldable pub OwnFrameSome : Option StackFault → Type 0
OwnFrameSome None = Unit {0}
OwnFrameSome (Some fault) = is_own_frame fault ≡ true

unfoldable pub OwnFrame : {A : Type 0} → Result A StackFault → Type 0
OwnFrame (Ok x) = Unit {0}
OwnFrame (Err fault) = is_own_frame fault ≡ true

-- ---- verdicts

abbrev asked : Framed → Kind → ℕ → Bool → Request
asked f kind a privileged = request_by (framer f NonSecure privileged) kind Word a true false

own_asked : (f : Framed) (kind : Kind) (a : ℕ) (privileged : Bool) → OwnSome (verdict f.bus (asked f kind a privileged))
unfolding verdict OwnSome is_own
own_asked f kind a privileged =
    let q = asked f kind a privileged in
    own_some (is_crooked q.size q.addr q.must_align) _ _ refl
    (own_some (not (may_touch (map_in f.bus) q.side q.size q.addr)) _ _ refl
    (own_some (not (is_let f.bus q)) _ _ refl
    (own_some (is_private q.addr) _ _ (own_some q.privileged _ _ tt refl)
    (own_some (not (every (is_accessible f.bus.board.regions q.kind) q.addr q.size)) _ _ refl tt))))

own_in_map : (a : ℕ) (v : Option Fault) → OwnSome v → OwnSome (in_map_alone a v)
unfolding OwnSome is_own
own_in_map a (Some fault) h = h
own_in_map a None h = own_some (is_private a) _ _ refl tt

own_verdict : (f : Framed) (kind : Kind) (a : ℕ) (privileged : Bool) → OwnSome (frame_verdict f kind a NonSecure privileged)
own_verdict f kind a privileged = own_in_map a _ (own_asked f kind a privileged)

-- what no check refuses is Non-secure
open_asked : (f : Framed) (kind : Kind) (a : ℕ) (privileged : Bool) → verdict f.bus (asked f kind a privileged) ≡ None → every (is_open (map_in f.bus)) a Word ≡ true
unfolding verdict may_touch
open_asked f kind a privileged e = touched_by a (every (is_open (map_in f.bus)) a Word) (is_crooked Word a (asked f kind a privileged).must_align) _ e

none_in_map : (a : ℕ) (v : Option Fault) → in_map_alone a v ≡ None → v ≡ None
none_in_map a None e = refl
none_in_map a (Some fault) e = cc

-- and so are the words of a frame
pub open_framed : (f : Framed) (kind : Kind) (a : ℕ) (privileged : Bool) → frame_verdict f kind a NonSecure privileged ≡ None → every (is_open (map_in f.bus)) a Word ≡ true
open_framed f kind a privileged e = open_asked f kind a privileged (none_in_map a _ e)

-- ---- words that are written

record Stored (f : Framed) (a : Framed × Result ℕ Fault) : Type 0 where
  pub bytes : KeepsBytes (map_in f.bus) f.bus.memory a.0.bus.memory
  pub own : Own a.1

stored_by : (v : Option Fault) (f : Framed) (a value : ℕ) → OwnSome v → (v ≡ None → every (is_open (map_in f.bus)) a Word ≡ true) → Stored f (framed_write v f a value)
unfolding Own OwnSome
stored_by (Some fault) f a value own is = record { bytes = keeps_nothing_changed (map_in f.bus) f.bus.memory; own = own }
stored_by None f a value own is = record { bytes = write_kept (map_in f.bus) f.bus.memory Word a value (is refl); own = tt }

stored : (f : Framed) (a : ℕ) (privileged : Bool) (value : ℕ) → Stored f (framed f (FrameStore a NonSecure privileged value))
stored f a privileged value =
    stored_by (frame_verdict f Write a NonSecure privileged) f a value (own_verdict f Write a privileged) (open_framed f Write a privileged)

record Wrote (f : Framed) (a : Framed × Option Fault) : Type 0 where
  pub bytes : KeepsBytes (map_in f.bus) f.bus.memory a.0.bus.memory
  pub own : OwnSome a.1

after_store_wrote : (f : Framed) (a : Framed × Result ℕ Fault) (later : Framed → Framed × Option Fault) → Stored f a → BusKept f a.0 → ((g : Framed) → Wrote g (later g)) → Wrote f (after_store a later)
unfolding Own OwnSome
after_store_wrote f (g, Err fault) later h b more = record { bytes = h.bytes; own = h.own }
after_store_wrote f (g, Ok done) later h b more =
    let n = (later g).0.bus.memory in
    let bytes : KeepsBytes (map_in f.bus) g.bus.memory n = subst (λ (m : MapState). KeepsBytes m g.bus.memory n) (ap (λ (b : Bus). map_in b) b) (more g).bytes in
    record { bytes = keeps_then (map_in f.bus) f.bus.memory g.bus.memory n h.bytes bytes; own = (more g).own }

wrote : (privileged : Bool) (words : List ℕ) (f : Framed) (a : ℕ) → Wrote f (written framed NonSecure privileged f a words)
unfolding written OwnSome
wrote privileged [] f a = record { bytes = keeps_nothing_changed (map_in f.bus) f.bus.memory; own = tt }
wrote privileged (word ∷ words) f a =
    after_store_wrote f (framed f (FrameStore a NonSecure privileged word)) (λ left. written framed NonSecure privileged left (wrap (a + 4)) words) (stored f a privileged word)
    (framed_kept f (FrameStore a NonSecure privileged word)) (λ g. wrote privileged words g (wrap (a + 4)))

-- ---- a frame that is written

pub record PushedOwn (c : Core) (f : Framed) (p : Pushed Framed) : Type 0 where
  pub kept : (e : ExceptionsValue) → KeptBy c p.core e e (map_in f.bus) f.bus.memory p.held.bus.memory
  pub side : p.core.run.side ≡ c.run.side
  pub own : OwnFrameSome p.fault

own_access_fault : (v : Option Fault) → OwnSome v → OwnFrameSome (access_fault v)
unfolding OwnSome OwnFrameSome is_own_frame
own_access_fault None h = tt
own_access_fault (Some fault) h = h

pushed_with_own : (c : Core) (f : Framed) (process : Bool) (value : ℕ) (a : Framed × Option Fault) → Wrote f a → PushedOwn c f (pushed_with (with_side_sp NonSecure process value c) a)
pushed_with_own c f process value a h = record {
  kept = λ e. record {
    stacks = refl;
    masks = refl;
    status = refl;
    exceptions = (quiet e).keeps;
    timer = refl;
    bytes = h.bytes;
  };
  side = refl;
  own = own_access_fault a.1 h.own;
}

pushed_own_cond : (c : Core) (f : Framed) (t : Bool) (x y : Pushed Framed) → PushedOwn c f x → PushedOwn c f y → PushedOwn c f (cond t x y)
pushed_own_cond c f true x y h k = h
pushed_own_cond c f false x y h k = k

secure_is_nonsecure : {P : Type 0} → Secure ≡ NonSecure → P
secure_is_nonsecure e = cc

pushed_own : (c : Core) (f : Framed) (side : Side) (process privileged : Bool) (base : ℕ) (words : List ℕ) → side ≡ NonSecure → PushedOwn c f (pushed framed c f side process privileged base words)
unfolding OwnFrameSome is_own_frame
pushed_own c f Secure process privileged base words is = secure_is_nonsecure is
pushed_own c f NonSecure process privileged base words is =
    let low = splim_of process (stacks_of NonSecure c) in
    pushed_own_cond c f (nat_lt base low) _ (pushed_with (with_side_sp NonSecure process base c) (written framed NonSecure privileged f base words))
    (record {
      kept = λ e. kept_from c (with_side_sp NonSecure process low c) e e (map_in f.bus) f.bus.memory refl refl refl (quiet e);
      side = refl;
      own = refl;
    })
    (pushed_with_own c f process base (written framed NonSecure privileged f base words) (wrote privileged words f base))

-- the basic frame of Non-secure code
pub basic_own : (c : Core) (f : Framed) (back : ℕ) → c.run.side ≡ NonSecure → PushedOwn c f (pushed_basic framed c f back)
unfolding pushed_basic
basic_own c f back is =
    let process = uses_process c.registers.ipsr (stacks_of c.run.side c) in
    let sp = sp_of process (stacks_of c.run.side c) in
    pushed_own c f c.run.side process (is_privileged c.registers.ipsr (stacks_of c.run.side c)) (basic_base sp) (basic_words c.registers back sp) is

-- ---- words that are read

own_looked : (v : Option Fault) (f : Framed) (a : ℕ) → OwnSome v → OwnFrame (word_answer (framed_read v f a).1)
unfolding OwnSome OwnFrame is_own_frame
own_looked (Some fault) f a h = h
own_looked None f a h = tt

own_word : (f : Framed) (a : ℕ) (privileged : Bool) → OwnFrame (word_read framed NonSecure privileged f a)
own_word f a privileged = own_looked (frame_verdict f Read a NonSecure privileged) f a (own_verdict f Read a privileged)

own_first : (x : Result ℕ StackFault) (later : Result (List ℕ) StackFault) → OwnFrame x → OwnFrame later → OwnFrame (with_lowest_word x later)
unfolding OwnFrame
own_first (Err fault) later h k = h
own_first (Ok word) (Err fault) h k = k
own_first (Ok word) (Ok words) h k = tt

own_reads : (privileged : Bool) (n : ℕ) (f : Framed) (a : ℕ) → OwnFrame (reads framed NonSecure privileged f a n)
unfolding reads OwnFrame
own_reads privileged zero f a = tt
own_reads privileged (suc n) f a = own_first _ (reads framed NonSecure privileged f (wrap (a + 4)) n) (own_word f a privileged) (own_reads privileged n f (wrap (a + 4)))

own_basic_read : (x : Result (List ℕ) StackFault) → OwnFrame x → OwnFrame (basic_read x)
unfolding OwnFrame
own_basic_read (Ok words) h = tt
own_basic_read (Err fault) h = h

pub popped_own : (f : Framed) (sp : ℕ) (privileged : Bool) → OwnFrame (popped_basic framed f sp NonSecure privileged)
popped_own f sp privileged = own_basic_read (reads framed NonSecure privileged f sp 8) (own_reads privileged 8 f sp)
