-- A return of Non-secure code in two runs that began in twins: it leaves twins, both are locked, or both looked at
-- Secure state.
use Rattle.std.proofs.Common.{◌≡◌, ℕ, zero, suc, ◌+◌, Bool, true, false, cond, Option, Some, None, Result, Ok, Err, refl, sym, ap, ◌∙◌, subst}
use Rattle.tz_table.specs.declared.units.Side.TheVariants.{NonSecure}
use Rattle.tz_table.specs.declared.units.Size.TheVariants.{Word}
use Rattle.tz_model.specs.declared.board.Profile.{Profile}
use Rattle.tz_model.specs.declared.report.Fault.{Fault}
use Rattle.tz_model.specs.declared.report.Fault.TheVariants.{InvPc}
use Rattle.tz_model.specs.Words.{wrap}
use Rattle.tz_state.specs.declared.request.Kind.TheVariants.{Read}
use Rattle.tz_state.specs.Memory.{every}
use Rattle.tz_state.specs.Attribution.{is_open}
use Rattle.tz_state.specs.Access.{is_let, verdict}
use Rattle.tz_state.specs.Execution.{takes_first}
use Rattle.tz_state.specs.State.{State}
use Rattle.tz_frames.specs.Machine.{Framed, frame_verdict, framed_read, framed}
use Rattle.tz_frames.specs.declared.frame.StackFault.{StackFault}
use Rattle.tz_frames.specs.declared.frame.Basic.{Basic}
use Rattle.tz_frames.specs.declared.entering.Entered.{Entered}
use Rattle.tz_frames.specs.declared.entering.Entered.TheVariants as entered
use Rattle.tz_frames.specs.declared.leaving.Returning.{Returning}
use Rattle.tz_frames.specs.declared.leaving.Unstacked.{Unstacked}
use Rattle.tz_frames.specs.declared.leaving.Left.TheVariants as lefts
use Rattle.tz_frames.specs.declared.leaving.Refusal.{Refusal}
use Rattle.tz_frames.specs.declared.leaving.Refusal.TheVariants as refusals
use Rattle.tz_frames.specs.Status.{Raised, faulted, frame_faulted}
use Rattle.tz_frames.specs.Stack.{word_answer, word_read, with_lowest_word, reads, basic_read, popped_basic}
use Rattle.tz_frames.specs.Enter.{Done, tries}
use Rattle.tz_frames.specs.Leave.{returning_by, slot_returning, exc_return_fault, freed, core_returning, chaining, Leaving, left_of, leaving_by, chained, chained_raised, returns_privileged, return_sp, with_basic, unstacked, resumed, modes_agree, resumes, goes_back, leaves_noting, leaves}
use Rattle.tz_twin.proofs.Bytes.{value_same}
use Rattle.tz_twin.proofs.Split.{Open, Rest, open_of, open_map, join, Same}
use Rattle.tz_twin.proofs.Faults.{OwnSome}
use Rattle.tz_twin.proofs.OwnFrames.{OwnFrame, open_framed, popped_own}
use Rattle.tz_twin.proofs.ReturnSpares.{left_touched, no_callee, entered_left, own_inv_pc, bits, resumes_returns, own_noted, freed_quiet}
use Rattle.tz_twin.proofs.Works.{Ground, Guise, held_of, work_of, RaisedTwins, locks_up, DoneBoth, EntersAlike, EntersLocked, EntersLooking, leaves_locked, LeavingBoth, LeavesAlike, LeavesLocked, LeavesLooking}
use Rattle.tz_twin.proofs.FaultTwins.{faulted_twins, frame_faulted_twins}
use Rattle.tz_twin.proofs.EntryTwins.{tries_twins}

-- one choice in both
leaving_cond : (t : Bool) (l m l' m' : Leaving Framed) → LeavingBoth l l' → LeavingBoth m m' → LeavingBoth (cond t l m) (cond t l' m')
leaving_cond true l m l' m' h k = h
leaving_cond false l m l' m' h k = k

leaving_along : (l m l' m' : Leaving Framed) → l ≡ m → l' ≡ m' → LeavingBoth m m' → LeavingBoth l l'
leaving_along l m l' m' e e' h = subst (λ (v : Leaving Framed). LeavingBoth v l') (sym e) (subst (λ (v : Leaving Framed). LeavingBoth m v) (sym e') h)

-- ---- a tail-chain

left_locked : (refused : Option Refusal) (x : Entered) → locks_up x ≡ true → leaves_locked (left_of refused x) ≡ true
left_locked refused (entered.Taken given entry) h = cc
left_locked refused (entered.Lockup entry) h = refl

left_both : (refused : Option Refusal) (d d' : Done Framed) → DoneBoth d d' → LeavingBoth (leaving_by refused d) (leaving_by refused d')
left_both refused d d' (EntersAlike t) = LeavesAlike (record {
  part = t.part;
  rest = t.rest;
  rest' = t.rest';
  ground = t.ground;
  guise = t.guise;
  guise' = t.guise';
  result = left_of refused t.result;
  ends = λ i. leaving_by refused (t.ends i);
  ends' = λ i. leaving_by refused (t.ends' i);
  same = t.same;
})
left_both refused d d' (EntersLocked h h') = LeavesLocked (left_locked refused d.result h) (left_locked refused d'.result h')
left_both refused d d' (EntersLooking h h') = LeavesLooking (entered_left refused d.result ∙ h) (entered_left refused d'.result ∙ h')

chained_both : (profile : Profile) (o : Open) (x x' : Rest) (k : Ground) (g g' : Guise) (r : Returning) (refused : Option Refusal) (touched : Bool) → r.es ≡ false → Same o x x'
    → LeavingBoth (chained framed profile r refused touched (join o x).core o.exceptions (held_of o x k g)) (chained framed profile r refused touched (join o x').core o.exceptions (held_of o x' k g'))
unfolding chained
chained_both profile o x x' k g g' r refused touched own same =
    let w = work_of o x k g (chaining r touched) in
    let w' = work_of o x' k g' (chaining r touched) in
    left_both refused (tries framed profile 4 w) (tries framed profile 4 w')
    (tries_twins profile 4 w w' (no_callee r.secure r.es r.dcrs own) (record {
      part = o;
      rest = x;
      rest' = x';
      ground = k;
      guise = g;
      guise' = g';
      entry = chaining r touched;
      work = refl;
      work' = refl;
      same = same;
    }))

pended_both : (profile : Profile) (o : Open) (x x' : Rest) (k : Ground) (g g' : Guise) (r : Returning) (refusal : Refusal) (touched : Bool) (locks : Bool) → r.es ≡ false → Same o x x'
    → LeavingBoth (chained_raised framed profile r refusal touched (held_of o x k g) (record { core = (join o x).core; exceptions = o.exceptions; locks = locks }))
    (chained_raised framed profile r refusal touched (held_of o x' k g') (record { core = (join o x').core; exceptions = o.exceptions; locks = locks }))
pended_both profile o x x' k g g' r refusal touched true own same = LeavesLocked refl refl
pended_both profile o x x' k g g' r refusal touched false own same = chained_both profile o x x' k g g' r (Some refusal) touched own same

-- after a fault
raised_both : (profile : Profile) (o : Open) (x x' : Rest) (k : Ground) (g g' : Guise) (r : Returning) (refusal : Refusal) (touched : Bool) (a a' : Raised) → r.es ≡ false → RaisedTwins o x x' a a'
    → LeavingBoth (chained_raised framed profile r refusal touched (held_of o x k g) a) (chained_raised framed profile r refusal touched (held_of o x' k g') a')
raised_both profile o x x' k g g' r refusal touched a a' own t =
    let p = t.part in
    let y = t.rest in
    let y' = t.rest' in
    let here : chained_raised framed profile r refusal touched (held_of o x k g) a
    ≡ chained_raised framed profile r refusal touched (held_of p y k g) (record { core = (join p y).core; exceptions = p.exceptions; locks = a.locks }) =
    λ i. chained_raised framed profile r refusal touched (record (held_of o x k g) { bus = t.bus i }) (record { core = t.core i; exceptions = t.exceptions i; locks = a.locks }) in
    let there : chained_raised framed profile r refusal touched (held_of o x' k g') a'
    ≡ chained_raised framed profile r refusal touched (held_of p y' k g') (record { core = (join p y').core; exceptions = p.exceptions; locks = a.locks }) =
    λ i. chained_raised framed profile r refusal touched (record (held_of o x' k g') { bus = t.bus' i }) (record { core = t.core' i; exceptions = t.exceptions' i; locks = sym t.locks i }) in
    leaving_along _ _ _ _ here there (pended_both profile p y y' k g g' r refusal touched a.locks own t.same)

-- ---- a frame of a Non-secure stack

verdict_same : (o : Open) (x x' : Rest) (k : Ground) (g g' : Guise) (a : ℕ) (privileged : Bool)
    → frame_verdict (held_of o x k g) Read a NonSecure privileged ≡ frame_verdict (held_of o x' k g') Read a NonSecure privileged
unfolding verdict is_let
verdict_same o x x' k g g' a privileged = refl

looked_same : (v : Option Fault) (o : Open) (x x' : Rest) (k : Ground) (g g' : Guise) (a : ℕ) → Same o x x' → (v ≡ None → every (is_open (open_map o)) a Word ≡ true)
    → (framed_read v (held_of o x k g) a).1 ≡ (framed_read v (held_of o x' k g') a).1
looked_same (Some fault) o x x' k g g' a same is = refl
looked_same None o x x' k g g' a same is = ap Ok (value_same (open_map o) x.memory x'.memory Word a same.bytes (is refl))

word_same : (o : Open) (x x' : Rest) (k : Ground) (g g' : Guise) (privileged : Bool) (a : ℕ) → Same o x x'
    → word_read framed NonSecure privileged (held_of o x k g) a ≡ word_read framed NonSecure privileged (held_of o x' k g') a
word_same o x x' k g g' privileged a same =
    let v = frame_verdict (held_of o x k g) Read a NonSecure privileged in
    ap word_answer (looked_same v o x x' k g g' a same (open_framed (held_of o x k g) Read a privileged)
    ∙ ap (λ (u : Option Fault). (framed_read u (held_of o x' k g') a).1) (verdict_same o x x' k g g' a privileged))

reads_same : (o : Open) (x x' : Rest) (k : Ground) (g g' : Guise) (privileged : Bool) (n a : ℕ) → Same o x x'
    → reads framed NonSecure privileged (held_of o x k g) a n ≡ reads framed NonSecure privileged (held_of o x' k g') a n
unfolding reads
reads_same o x x' k g g' privileged zero a same = refl
reads_same o x x' k g g' privileged (suc n) a same =
    let first = word_same o x x' k g g' privileged a same in
    let later = reads_same o x x' k g g' privileged n (wrap (a + 4)) same in
    λ i. with_lowest_word (first i) (later i)

popped_same : (o : Open) (x x' : Rest) (k : Ground) (g g' : Guise) (sp : ℕ) (privileged : Bool) → Same o x x'
    → popped_basic framed (held_of o x k g) sp NonSecure privileged ≡ popped_basic framed (held_of o x' k g') sp NonSecure privileged
popped_same o x x' k g g' sp privileged same = ap basic_read (reads_same o x x' k g g' privileged 8 sp same)

-- ---- the code goes on

resumed_both : (o : Open) (x x' : Rest) (k : Ground) (g g' : Guise) (process thread dcrs : Bool) (u : Unstacked) → Same o x x'
    → LeavingBoth (record { core = resumed (bits false process thread dcrs false) u (join o x).core; exceptions = o.exceptions; held = held_of o x k g; result = lefts.Resumed false })
    (record { core = resumed (bits false process thread dcrs false) u (join o x').core; exceptions = o.exceptions; held = held_of o x' k g'; result = lefts.Resumed false })
resumed_both o x x' k g g' process thread dcrs u same =
    LeavesAlike (record {
      part = open_of (record (join o x) { core = resumed (bits false process thread dcrs false) u (join o x).core });
      rest = x;
      rest' = x';
      ground = k;
      guise = g;
      guise' = g';
      result = lefts.Resumed false;
      ends = refl;
      ends' = refl;
      same = record { bytes = same.bytes; bus = same.bus };
    })

-- by the frame that was read
read_both : (profile : Profile) (o : Open) (x x' : Rest) (k : Ground) (g g' : Guise) (process thread dcrs : Bool) (b : Result Basic StackFault) → OwnFrame b → Same o x x'
    → LeavingBoth (resumes framed profile (bits false process thread dcrs false) (join o x).core o.exceptions (held_of o x k g) (with_basic None b))
    (resumes framed profile (bits false process thread dcrs false) (join o x').core o.exceptions (held_of o x' k g') (with_basic None b))
unfolding OwnFrame
read_both profile o x x' k g g' process thread dcrs (Err fault) own same =
    raised_both profile o x x' k g g' (bits false process thread dcrs false) (refusals.Frame fault) false (frame_faulted false NonSecure fault (join o x).core o.exceptions)
    (frame_faulted false NonSecure fault (join o x').core o.exceptions) refl (frame_faulted_twins false o x x' fault own same)
read_both profile o x x' k g g' process thread dcrs (Ok b) own same =
    let r = bits false process thread dcrs false in
    leaving_cond (modes_agree r b) _ _ _ _ (resumed_both o x x' k g g' process thread dcrs (record { callee = None; basic = b }) same)
    (raised_both profile o x x' k g g' r (refusals.Mode NonSecure) false (faulted NonSecure (InvPc NonSecure) (join o x).core o.exceptions) (faulted NonSecure (InvPc NonSecure) (join o x').core o.exceptions) refl
    (faulted_twins o x x' (InvPc NonSecure) (own_inv_pc NonSecure refl) same))

-- what was looked at stays so
looked_before : (touched : Bool) → (touched ≡ false → true ≡ false) → touched ≡ true
looked_before true h = refl
looked_before false h = let e = h refl in cc

-- a frame of a Secure stack is a look at Secure state
resumes_looking : (profile : Profile) (o : Open) (x : Rest) (k : Ground) (g : Guise) (process thread dcrs : Bool) (u : Result Unstacked StackFault)
    → left_touched (resumes framed profile (bits false process thread dcrs true) (join o x).core o.exceptions (held_of o x k g) u).result ≡ true
resumes_looking profile o x k g process thread dcrs u =
    let h = resumes_returns profile (bits false process thread dcrs true) (join o x).core o.exceptions (held_of o x k g) u refl (λ is. absurd (cc)) in looked_before _ h.touched

resumes_both : (profile : Profile) (o : Open) (x x' : Rest) (k : Ground) (g g' : Guise) (process thread dcrs secure : Bool) → Same o x x'
    → let r = bits false process thread dcrs secure in
    LeavingBoth (resumes framed profile r (join o x).core o.exceptions (held_of o x k g) (unstacked framed (join o x).core r (held_of o x k g)))
    (resumes framed profile r (join o x').core o.exceptions (held_of o x' k g') (unstacked framed (join o x').core r (held_of o x' k g')))
unfolding unstacked
resumes_both profile o x x' k g g' process thread dcrs true same =
    let r = bits false process thread dcrs true in
    LeavesLooking (resumes_looking profile o x k g process thread dcrs (unstacked framed (join o x).core r (held_of o x k g)))
    (resumes_looking profile o x' k g' process thread dcrs (unstacked framed (join o x').core r (held_of o x' k g')))
resumes_both profile o x x' k g g' process thread dcrs false same =
    let r = bits false process thread dcrs false in
    let sp = return_sp (join o x).core r in
    let privileged = returns_privileged (join o x).core r in
    let b = popped_basic framed (held_of o x k g) sp NonSecure privileged in
    subst (λ (v : Result Basic StackFault). LeavingBoth (resumes framed profile r (join o x).core o.exceptions (held_of o x k g) (with_basic None b))
    (resumes framed profile r (join o x').core o.exceptions (held_of o x' k g') (with_basic None v))) (popped_same o x x' k g g' sp privileged same)
    (read_both profile o x x' k g g' process thread dcrs b (popped_own (held_of o x k g) sp privileged) same)

-- ---- all of it

goes_back_both : (profile : Profile) (o : Open) (x x' : Rest) (k : Ground) (g g' : Guise) (process thread dcrs secure : Bool) → Same o x x'
    → LeavingBoth (goes_back framed profile (bits false process thread dcrs secure) (join o x).core o.exceptions (held_of o x k g))
    (goes_back framed profile (bits false process thread dcrs secure) (join o x').core o.exceptions (held_of o x' k g'))
unfolding goes_back
goes_back_both profile o x x' k g g' process thread dcrs secure same =
    leaving_cond (takes_first o.exceptions o.masks) _ _ _ _ (chained_both profile o x x' k g g' (bits false process thread dcrs secure) None false refl same)
    (resumes_both profile o x x' k g g' process thread dcrs secure same)

noting_both : (profile : Profile) (fault : Option Fault) (o : Open) (x x' : Rest) (k : Ground) (g g' : Guise) (process thread dcrs secure : Bool) → OwnSome fault → Same o x x'
    → LeavingBoth (leaves_noting framed profile NonSecure fault (bits false process thread dcrs secure) (join o x).core o.exceptions (held_of o x k g))
    (leaves_noting framed profile NonSecure fault (bits false process thread dcrs secure) (join o x').core o.exceptions (held_of o x' k g'))
unfolding OwnSome
noting_both profile (Some fault) o x x' k g g' process thread dcrs secure own same =
    raised_both profile o x x' k g g' (bits false process thread dcrs secure) (refusals.Value fault) false (faulted NonSecure fault (join o x).core o.exceptions) (faulted NonSecure fault (join o x').core o.exceptions) refl
    (faulted_twins o x x' fault own same)
noting_both profile None o x x' k g g' process thread dcrs secure own same = goes_back_both profile o x x' k g g' process thread dcrs secure same

-- the state in which the exception that returns is no longer active
abbrev freed_in : State → Returning → State
freed_in s r = record s { core = core_returning s.exceptions r s.core; exceptions = freed s.exceptions (slot_returning s.core r) }

-- a return of Non-secure code in twins
pub leaves_twins : (profile : Profile) (o : Open) (x x' : Rest) (k : Ground) (g g' : Guise) (value : ℕ) → Same o x x'
    → LeavingBoth (leaves framed profile (join o x).core o.exceptions (held_of o x k g) value) (leaves framed profile (join o x').core o.exceptions (held_of o x' k g') value)
unfolding leaves
leaves_twins profile o x x' k g g' value same =
    let r = returning_by NonSecure value in
    let q = freed_quiet o.exceptions (slot_returning (join o x).core r) in
    noting_both profile (exc_return_fault (join o x).core o.exceptions value) (open_of (freed_in (join o x) r)) x x' k g g' r.process r.thread r.dcrs r.secure (own_noted (join o x).core o.exceptions value refl)
    (record { bytes = same.bytes; bus = λ t. same.bus (sym q.keeps.bfhfnmins ∙ t) })
