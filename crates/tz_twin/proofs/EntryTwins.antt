-- Two entries beside each other that began in twins: they end as twins, they both lock, or they both looked at
-- Secure state.
use Rattle.std.proofs.Common.{◌≡◌, ℕ, zero, suc, ◌+◌, Bool, true, false, ◌&&◌, ◌||◌, not, cond, List, [], ◌∷◌, Option, Some, None, Result, Ok, Err, refl, sym, ap, ◌∙◌, subst}
use Rattle.std.specs.Prelude.{nat_lt, bit_or}
use Rattle.tz_table.specs.declared.units.Side.{Side}
use Rattle.tz_table.specs.declared.units.Side.TheVariants.{Secure, NonSecure}
use Rattle.tz_table.specs.declared.units.Size.TheVariants.{Word}
use Rattle.tz_model.specs.declared.board.Profile.{Profile}
use Rattle.tz_model.specs.declared.report.Fault.{Fault}
use Rattle.tz_model.specs.declared.report.Fault.TheVariants.{Violation}
use Rattle.tz_model.specs.declared.report.Slot.{Slot}
use Rattle.tz_model.specs.Words.{wrap, is_nonsecure_side}
use Rattle.tz_regs.specs.declared.parts.BusStatus.{BusStatus}
use Rattle.tz_regs.specs.declared.parts.Core.{Core}
use Rattle.tz_regs.specs.declared.parts.Stacks.{Stacks}
use Rattle.tz_regs.specs.FaultBits.{vecttbl}
use Rattle.tz_regs.specs.Registers.{is_privileged, uses_process, sp_of}
use Rattle.tz_state.specs.declared.request.Kind.TheVariants.{Write}
use Rattle.tz_state.specs.Memory.{Memory, every, word_at}
use Rattle.tz_state.specs.Attribution.{is_open}
use Rattle.tz_state.specs.Slots.{ExceptionsValue}
use Rattle.tz_state.specs.Priority.{chosen}
use Rattle.tz_state.specs.Access.{may_touch, is_let, verdict}
use Rattle.tz_state.specs.State.{Bus, State}
use Rattle.tz_frames.specs.FrameAccess.{Vector}
use Rattle.tz_frames.specs.Machine.{Framed, frame_verdict, vector_at, vector_verdict, framed_read, framed_write, framed}
use Rattle.tz_frames.specs.declared.frame.StackFault.{StackFault}
use Rattle.tz_frames.specs.declared.entering.Entering.{Entering}
use Rattle.tz_frames.specs.declared.entering.Choice.{Choice}
use Rattle.tz_frames.specs.declared.entering.Choice.TheVariants as choices
use Rattle.tz_frames.specs.declared.entering.Entered.TheVariants as entered
use Rattle.tz_frames.specs.Status.{Raised, frame_faulted}
use Rattle.tz_frames.specs.Stack.{splim_of, with_sp, after_store, written, Pushed, access_fault, pushed_with, pushed, basic_base, basic_words, pushed_basic}
use Rattle.tz_frames.specs.Enter.{Work, Chosen, Done, vectored_by, vectored, vector_failed, vector_touched, needs_additional, taking, choosing_from, choosing, goes_on, tries, interrupted, begins_raised, begins, after_basic, enters, without_frame}
use Rattle.tz_twin.proofs.Bytes.{SameOpen, value_same, write_same}
use Rattle.tz_twin.proofs.Split.{Open, Rest, open_of, rest_of, open_map, join_bus, join, Same}
use Rattle.tz_twin.proofs.OwnFrames.{OwnFrameSome, basic_own}
use Rattle.tz_twin.proofs.EntrySpares.{entered_touched, writes_callee, no_callee, choosing_spares, SparesDone, tries_spares}
use Rattle.tz_twin.proofs.FaultTwins.{frame_faulted_twins}
use Rattle.tz_twin.proofs.Works.{Ground, Guise, held_of, work_of, WorkTwins, RaisedTwins, DoneBoth, EntersAlike, EntersLocked, EntersLooking}

-- ---- words that are written

-- a rest with another memory
abbrev remembered : Rest → Memory → Rest
remembered x memory = record x { memory = memory }

-- what words leave of both: memories whose Non-secure bytes are the same, and one fault or none
record WroteTwins (o : Open) (x x' : Rest) (k : Ground) (g g' : Guise) (a a' : Framed × Option Fault) : Type 0 where
  pub memory : Memory
  pub memory' : Memory
  pub held : a.0 ≡ held_of o (remembered x memory) k g
  pub held' : a'.0 ≡ held_of o (remembered x' memory') k g'
  pub fault : a.1 ≡ a'.1
  pub bytes : SameOpen (open_map o) memory memory'

-- a store by its verdict, with the words behind it
stored_twins : (o : Open) (x x' : Rest) (k : Ground) (g g' : Guise) (n n' : Memory) (v : Option Fault) (a value : ℕ) (later : Framed → Framed × Option Fault) → SameOpen (open_map o) n n'
    → ((m m' : Memory) → SameOpen (open_map o) m m' → WroteTwins o x x' k g g' (later (held_of o (remembered x m) k g)) (later (held_of o (remembered x' m') k g')))
    → WroteTwins o x x' k g g' (after_store (framed_write v (held_of o (remembered x n) k g) a value) later) (after_store (framed_write v (held_of o (remembered x' n') k g') a value) later)
stored_twins o x x' k g g' n n' (Some fault) a value later same more = record {
  memory = n;
  memory' = n';
  held = refl;
  held' = refl;
  fault = refl;
  bytes = same;
}
stored_twins o x x' k g g' n n' None a value later same more = more _ _ (write_same (open_map o) n n' Word a value same)

wrote_twins : (o : Open) (x x' : Rest) (k : Ground) (g g' : Guise) (privileged : Bool) (words : List ℕ) (n n' : Memory) (a : ℕ) → SameOpen (open_map o) n n'
    → WroteTwins o x x' k g g' (written framed NonSecure privileged (held_of o (remembered x n) k g) a words) (written framed NonSecure privileged (held_of o (remembered x' n') k g') a words)
unfolding written verdict is_let
wrote_twins o x x' k g g' privileged [] n n' a same = record {
  memory = n;
  memory' = n';
  held = refl;
  held' = refl;
  fault = refl;
  bytes = same;
}
wrote_twins o x x' k g g' privileged (word ∷ words) n n' a same =
    stored_twins o x x' k g g' n n' (frame_verdict (held_of o (remembered x n) k g) Write a NonSecure privileged) a word (λ left. written framed NonSecure privileged left (wrap (a + 4)) words) same
    (λ m m' h. wrote_twins o x x' k g g' privileged words m m' (wrap (a + 4)) h)

-- ---- the basic frame

abbrev restacked : Open → Stacks → Open
restacked o stacks = record o { stacks_ns = stacks }

-- what a frame leaves of both: one change of the stacks, and what its words left
record PushTwins (o : Open) (x x' : Rest) (k : Ground) (g g' : Guise) (p p' : Pushed Framed) : Type 0 where
  pub stacks : Stacks
  pub memory : Memory
  pub memory' : Memory
  pub core : p.core ≡ (join (restacked o stacks) x).core
  pub core' : p'.core ≡ (join (restacked o stacks) x').core
  pub held : p.held ≡ held_of o (remembered x memory) k g
  pub held' : p'.held ≡ held_of o (remembered x' memory') k g'
  pub fault : p.fault ≡ p'.fault
  pub bytes : SameOpen (open_map o) memory memory'

push_cond : (o : Open) (x x' : Rest) (k : Ground) (g g' : Guise) (t : Bool) (p q p' q' : Pushed Framed) → PushTwins o x x' k g g' p p' → PushTwins o x x' k g g' q q'
    → PushTwins o x x' k g g' (cond t p q) (cond t p' q')
push_cond o x x' k g g' true p q p' q' h l = h
push_cond o x x' k g g' false p q p' q' h l = l

pushed_with_twins : (o : Open) (x x' : Rest) (k : Ground) (g g' : Guise) (stacks : Stacks) (a a' : Framed × Option Fault) → WroteTwins o x x' k g g' a a'
    → PushTwins o x x' k g g' (pushed_with (join (restacked o stacks) x).core a) (pushed_with (join (restacked o stacks) x').core a')
pushed_with_twins o x x' k g g' stacks a a' h = record {
  stacks = stacks;
  memory = h.memory;
  memory' = h.memory';
  core = refl;
  core' = refl;
  held = h.held;
  held' = h.held';
  fault = ap access_fault h.fault;
  bytes = h.bytes;
}

pushed_twins : (o : Open) (x x' : Rest) (k : Ground) (g g' : Guise) (process privileged : Bool) (base : ℕ) (words : List ℕ) → Same o x x'
    → PushTwins o x x' k g g' (pushed framed (join o x).core (held_of o x k g) NonSecure process privileged base words) (pushed framed (join o x').core (held_of o x' k g') NonSecure process privileged base words)
pushed_twins o x x' k g g' process privileged base words same =
    let low = splim_of process o.stacks_ns in
    push_cond o x x' k g g' (nat_lt base low) _ _ _ _
    (record {
      stacks = with_sp process low o.stacks_ns;
      memory = x.memory;
      memory' = x'.memory;
      core = refl;
      core' = refl;
      held = refl;
      held' = refl;
      fault = refl;
      bytes = same.bytes;
    })
    (pushed_with_twins o x x' k g g' (with_sp process base o.stacks_ns) _ _ (wrote_twins o x x' k g g' privileged words x.memory x'.memory base same.bytes))

-- the frame of Non-secure code
basic_twins : (o : Open) (x x' : Rest) (k : Ground) (g g' : Guise) (back : ℕ) → Same o x x'
    → PushTwins o x x' k g g' (pushed_basic framed (join o x).core (held_of o x k g) back) (pushed_basic framed (join o x').core (held_of o x' k g') back)
unfolding pushed_basic
basic_twins o x x' k g g' back same =
    let process = uses_process o.registers.ipsr o.stacks_ns in
    let sp = sp_of process o.stacks_ns in
    pushed_twins o x x' k g g' process (is_privileged o.registers.ipsr o.stacks_ns) (basic_base sp) (basic_words o.registers back sp) same

-- ---- the vector of a Non-secure exception

-- a word that no check refuses is Non-secure
vector_open : (o : Open) (x : Rest) (a : ℕ) → vector_verdict (join_bus o x) NonSecure a ≡ None → every (is_open (open_map o)) a Word ≡ true
unfolding may_touch
vector_open o x a e = go (every (is_open (open_map o)) a Word) _ e where
  go : (touch : Bool) (rest : Option Fault) → cond (not touch) (Some (Violation a)) rest ≡ None → touch ≡ true
  go true rest h = refl
  go false rest h = cc

looked_same : (v : Option Fault) (f f' : Framed) (a : ℕ) → (v ≡ None → word_at f.bus.memory a ≡ word_at f'.bus.memory a) → (framed_read v f a).1 ≡ (framed_read v f' a).1
looked_same (Some fault) f f' a h = refl
looked_same None f f' a h = ap Ok (h refl)

vector_same : (o : Open) (x x' : Rest) (k : Ground) (g g' : Guise) (number : ℕ) → Same o x x' → (framed (held_of o x k g) (Vector number NonSecure)).1 ≡ (framed (held_of o x' k g') (Vector number NonSecure)).1
vector_same o x x' k g g' number same =
    let a = vector_at (held_of o x k g) number NonSecure in
    looked_same (vector_verdict (join_bus o x) NonSecure a) (held_of o x k g) (held_of o x' k g') a (λ passes. value_same (open_map o) x.memory x'.memory Word a same.bytes (vector_open o x a passes))

-- ---- one choice

-- both go on alike, or both looked at Secure state
data ChosenBoth (v v' : Chosen Framed) : Type 0 where
  ChoosesAlike : WorkTwins v.work v'.work → v.choice ≡ v'.choice → ChosenBoth v v'
  ChoosesLooking : v.work.entry.touched ≡ true → v'.work.entry.touched ≡ true → ChosenBoth v v'

abbrev of_number : ℕ → Side → Slot
of_number number side = record { number = number; side = side }

-- a state of a core and exceptions, to be split
abbrev state_of : Core → ExceptionsValue → Bus → State
state_of c e b = record { core = c; exceptions = e; bus = b }

-- a choice that leaves both beside one open part
chooses_alike : (p : Open) (y y' : Rest) (k : Ground) (g g' : Guise) (entry : Entering) (choice : Choice) → Same p y y'
    → ChosenBoth (record { work = work_of p y k g entry; choice = choice }) (record { work = work_of p y' k g' entry; choice = choice })
chooses_alike p y y' k g g' entry choice same =
    ChoosesAlike
    (record {
      part = p;
      rest = y;
      rest' = y';
      ground = k;
      guise = g;
      guise' = g';
      entry = entry;
      work = refl;
      work' = refl;
      same = same;
    }) refl

-- where both read the same word, or meet the same fault
vectored_by_twins : (profile : Profile) (o : Open) (x x' : Rest) (k : Ground) (g g' : Guise) (entry : Entering) (number : ℕ) (r : Result ℕ Fault) → Same o x x'
    → ChosenBoth (vectored_by profile (work_of o x k g entry) (of_number number NonSecure) r) (vectored_by profile (work_of o x' k g' entry) (of_number number NonSecure) r)
unfolding vector_failed
vectored_by_twins profile o x x' k g g' entry number (Ok vector) same =
    let v = vectored_by profile (work_of o x k g entry) (of_number number NonSecure) (Ok vector) in
    chooses_alike (open_of (state_of v.work.core v.work.exceptions (join_bus o x))) x x' k g g' entry v.choice (record { bytes = same.bytes; bus = same.bus })
vectored_by_twins profile o x x' k g g' entry number (Err fault) same =
    let v = vectored_by profile (work_of o x k g entry) (of_number number NonSecure) (Err fault) in
    let v' = vectored_by profile (work_of o x' k g' entry) (of_number number NonSecure) (Err fault) in
    let y = rest_of (state_of v.work.core v.work.exceptions (join_bus o x)) in
    let y' = rest_of (state_of v'.work.core v'.work.exceptions (join_bus o x')) in
    chooses_alike (open_of (state_of v.work.core v.work.exceptions (join_bus o x))) y y' k g g' v.work.entry v.choice
    (record { bytes = same.bytes; bus = λ is. ap (λ (b : BusStatus). record b { hfsr = bit_or b.hfsr vecttbl }) (same.bus is) })

-- the vector of a Secure exception is a look at Secure state
vectored_looking : (profile : Profile) (w : Work Framed) (number : ℕ) → (vectored framed profile w (of_number number Secure)).work.entry.touched ≡ true
unfolding vectored vector_failed
vectored_looking profile w number = go (framed w.held (Vector number Secure)).1 where
  go : (r : Result ℕ Fault) → (vectored_by profile (record w { entry = vector_touched w.entry Secure }) (of_number number Secure) r).work.entry.touched ≡ true
  go (Ok vector) = refl
  go (Err fault) = refl

vectored_twins : (profile : Profile) (o : Open) (x x' : Rest) (k : Ground) (g g' : Guise) (entry : Entering) (number : ℕ) (side : Side) → Same o x x'
    → ChosenBoth (vectored framed profile (work_of o x k g entry) (of_number number side)) (vectored framed profile (work_of o x' k g' entry) (of_number number side))
unfolding vectored
vectored_twins profile o x x' k g g' entry number Secure same =
    ChoosesLooking (vectored_looking profile (work_of o x k g entry) number) (vectored_looking profile (work_of o x' k g' entry) number)
vectored_twins profile o x x' k g g' entry number NonSecure same =
    let given = of_number number NonSecure in
    let looking = vector_touched entry NonSecure in
    let r = (framed (held_of o x k g) (Vector number NonSecure)).1 in
    subst (λ r'. ChosenBoth (vectored_by profile (work_of o x k g looking) given r) (vectored_by profile (work_of o x' k g' looking) given r')) (vector_same o x x' k g g' number same)
    (vectored_by_twins profile o x x' k g g' looking number r same)

chosen_second : (t : Bool) (v u v' u' : Chosen Framed) → t ≡ false → ChosenBoth u u' → ChosenBoth (cond t v u) (cond t v' u')
chosen_second true v u v' u' is h = absurd (cc)
chosen_second false v u v' u' is h = h

taking_twins : (profile : Profile) (o : Open) (x x' : Rest) (k : Ground) (g g' : Guise) (entry : Entering) (given : Slot) → writes_callee entry ≡ false → Same o x x'
    → ChosenBoth (taking framed profile (work_of o x k g entry) given) (taking framed profile (work_of o x' k g' entry) given)
unfolding taking
taking_twins profile o x x' k g g' entry given none same =
    chosen_second (needs_additional entry given && not entry.skip) _ _ _ _ (no_callee entry.secure (is_nonsecure_side given.side) entry.skip none)
    (vectored_twins profile o x x' k g g' (record entry { needed_additional = entry.needed_additional || needs_additional entry given }) given.number given.side same)

choosing_from_twins : (profile : Profile) (o : Open) (x x' : Rest) (k : Ground) (g g' : Guise) (entry : Entering) (first : Option Slot) → writes_callee entry ≡ false → Same o x x'
    → ChosenBoth (choosing_from framed profile (work_of o x k g entry) first) (choosing_from framed profile (work_of o x' k g' entry) first)
choosing_from_twins profile o x x' k g g' entry None none same = chooses_alike o x x' k g g' entry choices.Lockup same
choosing_from_twins profile o x x' k g g' entry (Some given) none same = taking_twins profile o x x' k g g' entry given none same

choosing_twins : (profile : Profile) (w w' : Work Framed) → writes_callee w.entry ≡ false → WorkTwins w w' → ChosenBoth (choosing framed profile w) (choosing framed profile w')
unfolding choosing
choosing_twins profile w w' none t =
    let here = work_of t.part t.rest t.ground t.guise t.entry in
    subst (λ (u : Work Framed). ChosenBoth (choosing framed profile u) (choosing framed profile w')) (sym t.work)
    (subst (λ (u : Work Framed). ChosenBoth (choosing framed profile here) (choosing framed profile u)) (sym t.work')
    (choosing_from_twins profile t.part t.rest t.rest' t.ground t.guise t.guise' t.entry (chosen t.part.exceptions) (ap (λ (u : Work Framed). writes_callee u.entry) (sym t.work) ∙ none) t.same))

-- ---- the choices

-- what was touched stays so
stays : (t u : Bool) → (t ≡ false → u ≡ false) → u ≡ true → t ≡ true
stays true u h is = refl
stays false u h is = let e : u ≡ false = h refl in cc

goes_looking : (again : Work Framed → Done Framed) (w : Work Framed) (choice : Choice) → w.entry.touched ≡ true → SparesDone w (again w) → entered_touched (goes_on again w choice).result ≡ true
goes_looking again w (choices.Taken given) t h = t
goes_looking again w choices.Lockup t h = t
goes_looking again w choices.Again t h = stays (entered_touched (again w).result) w.entry.touched h.touched t

-- one choice of both, with what comes of another
goes_alike : (again : Work Framed → Done Framed) (w w' : Work Framed) (choice : Choice) → WorkTwins w w' → DoneBoth (again w) (again w') → DoneBoth (goes_on again w choice) (goes_on again w' choice)
goes_alike again w w' (choices.Taken given) t h =
    EntersAlike (record {
      part = t.part;
      rest = t.rest;
      rest' = t.rest';
      ground = t.ground;
      guise = t.guise;
      guise' = t.guise';
      result = entered.Taken given t.entry;
      ends = ap (λ (u : Work Framed). goes_on again u (choices.Taken given)) t.work;
      ends' = ap (λ (u : Work Framed). goes_on again u (choices.Taken given)) t.work';
      same = t.same;
    })
goes_alike again w w' choices.Lockup t h = EntersLocked refl refl
goes_alike again w w' choices.Again t h = h

goes_twins : (again : Work Framed → Done Framed) (v v' : Chosen Framed) → ChosenBoth v v' → SparesDone v.work (again v.work) → SparesDone v'.work (again v'.work)
    → (WorkTwins v.work v'.work → DoneBoth (again v.work) (again v'.work)) → DoneBoth (goes_on again v.work v.choice) (goes_on again v'.work v'.choice)
goes_twins again v v' (ChoosesAlike t e) spares spares' both =
    subst (λ (choice : Choice). DoneBoth (goes_on again v.work v.choice) (goes_on again v'.work choice)) e (goes_alike again v.work v'.work v.choice t (both t))
goes_twins again v v' (ChoosesLooking t t') spares spares' both =
    EntersLooking (goes_looking again v.work v.choice t spares) (goes_looking again v'.work v'.choice t' spares')

-- the choices of an entry, but for one that is to write an additional frame
pub tries_twins : (profile : Profile) (n : ℕ) (w w' : Work Framed) → writes_callee w.entry ≡ false → WorkTwins w w' → DoneBoth (tries framed profile n w) (tries framed profile n w')
unfolding tries
tries_twins profile zero w w' none t = EntersLocked refl refl
tries_twins profile (suc n) w w' none t =
    let v = choosing framed profile w in
    let v' = choosing framed profile w' in
    let none' : writes_callee w'.entry ≡ false = ap (λ (u : Work Framed). writes_callee u.entry) t.work' ∙ ap (λ (u : Work Framed). writes_callee u.entry) (sym t.work) ∙ none in
    let chose : writes_callee v.work.entry ≡ false = (choosing_spares profile w none).callee ∙ none in
    let chose' : writes_callee v'.work.entry ≡ false = (choosing_spares profile w' none').callee ∙ none' in
    goes_twins (tries framed profile n) v v' (choosing_twins profile w w' none t) (tries_spares profile n v.work chose) (tries_spares profile n v'.work chose')
    (λ twins. tries_twins profile n v.work v'.work chose twins)

-- ---- entry

done_cond : (t t' : Bool) (x y x' y' : Done Framed) → t ≡ t' → DoneBoth x x' → DoneBoth y y' → DoneBoth (cond t x y) (cond t' x' y')
done_cond true true x y x' y' e h k = h
done_cond false false x y x' y' e h k = k
done_cond true false x y x' y' e h k = absurd (cc)
done_cond false true x y x' y' e h k = absurd (cc)

-- a fault of the basic frame is the same in both, so both lock or choose
begins_raised_twins : (profile : Profile) (o : Open) (x x' : Rest) (k : Ground) (g g' : Guise) (entry : Entering) (r r' : Raised) → writes_callee entry ≡ false → RaisedTwins o x x' r r'
    → DoneBoth (begins_raised framed profile (held_of o x k g) entry r) (begins_raised framed profile (held_of o x' k g') entry r')
begins_raised_twins profile o x x' k g g' entry r r' none h =
    let held = held_of o x k g in
    let held' = held_of o x' k g' in
    done_cond r.locks r'.locks _ _ _ _ h.locks (EntersLocked refl refl)
    (tries_twins profile 4 (record { core = r.core; exceptions = r.exceptions; held = held; entry = entry }) (record { core = r'.core; exceptions = r'.exceptions; held = held'; entry = entry }) none
    (record {
      part = h.part;
      rest = h.rest;
      rest' = h.rest';
      ground = k;
      guise = g;
      guise' = g';
      entry = entry;
      work = λ i. record { core = h.core i; exceptions = h.exceptions i; held = record held { bus = h.bus i }; entry = entry };
      work' = λ i. record { core = h.core' i; exceptions = h.exceptions' i; held = record held' { bus = h.bus' i }; entry = entry };
      same = h.same;
    }))

begins_twins : (profile : Profile) (o : Open) (x x' : Rest) (k : Ground) (g g' : Guise) (entry : Entering) (fault : Option StackFault) → writes_callee entry ≡ false → OwnFrameSome fault → Same o x x'
    → DoneBoth (begins framed profile NonSecure o.exceptions entry (join o x).core (held_of o x k g) fault) (begins framed profile NonSecure o.exceptions entry (join o x').core (held_of o x' k g') fault)
unfolding OwnFrameSome
begins_twins profile o x x' k g g' entry None none own same =
    tries_twins profile 4 (work_of o x k g entry) (work_of o x' k g' entry) none
    (record {
      part = o;
      rest = x;
      rest' = x';
      ground = k;
      guise = g;
      guise' = g';
      entry = entry;
      work = refl;
      work' = refl;
      same = same;
    })
begins_twins profile o x x' k g g' entry (Some fault) none own same =
    begins_raised_twins profile o x x' k g g' (without_frame entry false fault) (frame_faulted true NonSecure fault (join o x).core o.exceptions) (frame_faulted true NonSecure fault (join o x').core o.exceptions) none
    (frame_faulted_twins true o x x' fault own same)

-- an entry from Non-secure code
pub enters_twins : (profile : Profile) (o : Open) (x x' : Rest) (k : Ground) (g g' : Guise) (back : ℕ) → Same o x x'
    → DoneBoth (enters framed profile (join o x).core o.exceptions (held_of o x k g) back) (enters framed profile (join o x').core o.exceptions (held_of o x' k g') back)
unfolding enters
enters_twins profile o x x' k g g' back same =
    let p = pushed_basic framed (join o x).core (held_of o x k g) back in
    let p' = pushed_basic framed (join o x').core (held_of o x' k g') back in
    let h = basic_twins o x x' k g g' back same in
    let entry = interrupted (join o x).core in
    let q = restacked o h.stacks in
    let y = remembered x h.memory in
    let y' = remembered x' h.memory' in
    let here : p ≡ record { core = (join q y).core; held = held_of q y k g; fault = p.fault } = λ i. record { core = h.core i; held = h.held i; fault = p.fault } in
    let there : p' ≡ record { core = (join q y').core; held = held_of q y' k g'; fault = p.fault } = λ i. record { core = h.core' i; held = h.held' i; fault = sym h.fault i } in
    subst (λ (u : Pushed Framed). DoneBoth (after_basic framed profile NonSecure o.exceptions entry u) (after_basic framed profile NonSecure o.exceptions entry p')) (sym here)
    (subst (λ (u : Pushed Framed). DoneBoth (begins framed profile NonSecure o.exceptions entry (join q y).core (held_of q y k g) p.fault) (after_basic framed profile NonSecure o.exceptions entry u)) (sym there)
    (begins_twins profile q y y' k g g' entry p.fault refl (basic_own (join o x).core (held_of o x k g) back refl).own (record { bytes = h.bytes; bus = same.bus })))
