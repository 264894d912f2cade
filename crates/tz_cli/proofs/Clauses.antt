-- What each answer of the top call says, clause by clause.
use Rattle.std.proofs.Common.{◌≡◌, ◌≢◌, ◌⊎◌, inl, inr, ℕ, ◌<◌, ◌≤◌, List, [], length, Option, Some, None, refl, sym, ap, ◌∙◌, subst, arith, append-nil}
use Rattle.std.specs.Prelude.{IfSome, IsTrue, codes}
use Rattle.tz_model.specs.declared.report.View.TheVariants.{Ns}
use Rattle.tz_model.specs.Image.{ImageValue}
use Rattle.tz_model.specs.Outside.{Held, Rose, Gains}
use Rattle.tz_sem.specs.Boot.{boot}
use Rattle.tz_twin.specs.Seen.{Agree}
use Rattle.tz_twin.specs.Trace.{text_from}
use Rattle.tz_run.specs.Events.{events_of}
use Rattle.tz_twin.proofs.TwoRuns.{isolated}
use Rattle.tz_words.specs.Run.{RunWords}
use Rattle.tz_words.specs.Commands.{Command, Run, RunFull, Pair, Asm, Dis, Gates, Snap, Show, ShowSaved, Resume, Back, Gen, command_of}
use Rattle.tz_files.specs.Told.{Stop, BadWords, TooManySteps, TooManyBack, Unread, TooLong, BadBoard, BadImage, BadState, BadScript, BadSource, TooFar, Told, Unknown, Stops, Gives, told_then}
use Rattle.tz_files.specs.Reads.{TellsOf}
use Rattle.tz_files.specs.Starts.{state_of}
use Rattle.tz_cli.specs.Tasks.{Job, Task, run_task, told, reads_of, IsDone, job_told, trace_of}
use Rattle.tz_files.specs.Lines.{stop_line, status_of}
use Rattle.tz_files.specs.Allowed.{Allows, AllowsStop, Shelved}
use Rattle.tz_files.specs.LineTold.{GainsFront, Exceeds}
use Rattle.tz_cli.specs.Answer.{IsUnread, IsCaused, IsLine, Call, told_of, Answer, Done, Broken, Stopped, Wanting, Silent, Excused, IsText, IsRefusedBy, NamesUnread, CutsLine, IsStatus}
use Rattle.tz_files.proofs.Sure.{never_gives}
use Rattle.tz_cli.proofs.Reached.{absent_task}

-- ---- statuses

-- the statuses of done work are below those of stops
done_below : (o : Option Command) (n : ℕ) → IsDone o n → n < 2
done_below None n h = absurd h
done_below (Some (Run r)) n h = omega arith
done_below (Some (RunFull s)) n h = omega arith
done_below (Some (Pair p)) n (inl h) = omega arith
done_below (Some (Pair p)) n (inr h) = omega arith
done_below (Some (Asm a)) n h = omega arith
done_below (Some (Dis d)) n h = omega arith
done_below (Some (Gates s)) n h = omega arith
done_below (Some (Snap s)) n h = omega arith
done_below (Some (Show s)) n h = omega arith
done_below (Some (ShowSaved w)) n h = omega arith
done_below (Some (Resume w)) n h = omega arith
done_below (Some (Back w)) n h = omega arith
done_below (Some (Gen w)) n h = omega arith

stop_above : (stop : Stop) → 2 ≤ status_of stop
stop_above BadWords = omega arith
stop_above TooManySteps = omega arith
stop_above TooManyBack = omega arith
stop_above (Unread name) = omega arith
stop_above (TooLong name) = omega arith
stop_above (BadBoard name refusal) = omega arith
stop_above (BadImage name refusal) = omega arith
stop_above (BadState name refusal) = omega arith
stop_above (BadScript name refusal) = omega arith
stop_above (BadSource name refusal) = omega arith
stop_above (TooFar name) = omega arith

not_broken : (stop : Stop) → status_of stop ≢ 4
not_broken BadWords e = cc
not_broken TooManySteps e = cc
not_broken TooManyBack e = cc
not_broken (Unread name) e = cc
not_broken (TooLong name) e = cc
not_broken (BadBoard name refusal) e = cc
not_broken (BadImage name refusal) e = cc
not_broken (BadState name refusal) e = cc
not_broken (BadScript name refusal) e = cc
not_broken (BadSource name refusal) e = cc
not_broken (TooFar name) e = cc

not_wanting : (stop : Stop) → status_of stop ≢ 7
not_wanting BadWords e = cc
not_wanting TooManySteps e = cc
not_wanting TooManyBack e = cc
not_wanting (Unread name) e = cc
not_wanting (TooLong name) e = cc
not_wanting (BadBoard name refusal) e = cc
not_wanting (BadImage name refusal) e = cc
not_wanting (BadState name refusal) e = cc
not_wanting (BadScript name refusal) e = cc
not_wanting (BadSource name refusal) e = cc
not_wanting (TooFar name) e = cc

-- ---- what is settled

not_stopped : {A : Type 0} (t : Told A) (x : A) (stop : Stop) → Allows t x → t ≡ Stops stop → ⊥
not_stopped t x stop h e = let stops : Allows (Stops stop) x = subst (λ y. Allows y x) e h in stops

same_stop : {A : Type 0} (t : Told A) (s stop : Stop) → AllowsStop t s → t ≡ Stops stop → stop ≡ s
same_stop {A = A} t s stop h e = let stops : AllowsStop {A = A} (Stops stop) s = subst (λ y. AllowsStop y s) e h in stops

same_task : (t : Told Task) (x task : Task) → Allows t x → t ≡ Gives task → task ≡ x
same_task t x task h e = let gives : Allows (Gives task) x = subst (λ y. Allows y x) e h in gives

not_given : (t : Told Task) (s : Stop) (task : Task) → AllowsStop t s → t ≡ Gives task → ⊥
not_given t s task h e = let gives : AllowsStop (Gives task) s = subst (λ y. AllowsStop y s) e h in gives

gains_same : (old new : Option (List ℕ)) → Gains old new [] → new ≡ old
gains_same None new h = h
gains_same (Some old) new h = h ∙ ap Some (append-nil old)

-- a stop with its cause: a file can't be read, or it is settled
pub data Cause (c : Call) (stop : Stop) : Type 0 where
  OfFile : (name : List ℕ) → stop ≡ Unread name → IsUnread (reads_of c.shelf.held c.command) c.shelf name → Cause c stop
  OfTold : AllowsStop (told_of c) stop → TellsOf (reads_of c.shelf.held c.command) stop → status_of stop ≢ 3 → Cause c stop

no_words : (held : List ℕ → Held) (o : Option Command) → o ≡ None → AllowsStop (told held o) BadWords
no_words held o e = let stops : AllowsStop (told held None) BadWords = refl in subst (λ x. AllowsStop (told held x) BadWords) (sym e) stops

cause_of : (c : Call) (stop : Stop) → IsCaused c.command c.shelf stop → Cause c stop
cause_of c BadWords h = OfTold (no_words c.shelf.held c.command h) tt (λ e. cc)
cause_of c TooManySteps h = OfTold h.0 h.1 (λ e. cc)
cause_of c TooManyBack h = OfTold h.0 h.1 (λ e. cc)
cause_of c (Unread name) h = OfFile name refl h
cause_of c (TooLong name) h = OfTold h.0 h.1 (λ e. cc)
cause_of c (BadBoard name refusal) h = OfTold h.0 h.1 (λ e. cc)
cause_of c (BadImage name refusal) h = OfTold h.0 h.1 (λ e. cc)
cause_of c (BadState name refusal) h = OfTold h.0 h.1 (λ e. cc)
cause_of c (BadScript name refusal) h = OfTold h.0 h.1 (λ e. cc)
cause_of c (BadSource name refusal) h = OfTold h.0 h.1 (λ e. cc)
cause_of c (TooFar name) h = OfTold h.0 h.1 (λ e. cc)

-- ---- the causes of answers

usage_of_stop : (c : Call) (stop : Stop) → status_of stop ≡ 2 → IsCaused c.command c.shelf stop → c.command ≡ None
usage_of_stop c BadWords e h = h
usage_of_stop c TooManySteps e h = absurd (cc)
usage_of_stop c TooManyBack e h = absurd (cc)
usage_of_stop c (Unread name) e h = absurd (cc)
usage_of_stop c (TooLong name) e h = absurd (cc)
usage_of_stop c (BadBoard name refusal) e h = absurd (cc)
usage_of_stop c (BadImage name refusal) e h = absurd (cc)
usage_of_stop c (BadState name refusal) e h = absurd (cc)
usage_of_stop c (BadScript name refusal) e h = absurd (cc)
usage_of_stop c (BadSource name refusal) e h = absurd (cc)
usage_of_stop c (TooFar name) e h = absurd (cc)

pub usage_only : (c : Call) (result : ℕ) → Answer c result → result ≡ 2 → c.command ≡ None
usage_only c result (Done task e done told out err) is = let below = done_below c.command result done in absurd (omega arith)
usage_only c result (Broken task e told out rose full err) is = absurd (cc)
usage_only c result (Stopped stop e caused out err) is = usage_of_stop c stop (sym e ∙ is) caused
usage_only c result (Wanting e out err) is = absurd (cc)
usage_only c result (Silent line e says front out rose full) is = absurd (cc)

-- the command of words that read a file
reads_some : (held : List ℕ → Held) (s : Shelved) (o : Option Command) (name : List ℕ) → IsUnread (reads_of held o) s name → (command : Command) × (o ≡ Some command)
reads_some held s None name h = absurd h.read
reads_some held s (Some command) name h = (command, refl)

unread_of_stop : (c : Call) (words : List (List ℕ)) (stop : Stop) → command_of words ≡ c.command → Cause c stop → status_of stop ≡ 3 → Gains c.err.old c.err.new (stop_line stop)
    → NamesUnread words c.shelf.held c.shelf.sound c.shelf.before c.shelf.now c.err.old c.err.new
unread_of_stop c words stop same (OfFile name e unread) is err =
    let some = reads_some c.shelf.held c.shelf c.command name unread in
    record {
      command = some.0;
      words_say = same ∙ some.1;
      name = name;
      unread = subst (λ (o : Option Command). IsUnread (reads_of c.shelf.held o) c.shelf name) some.1 unread;
      line = subst (λ (s : Stop). Gains c.err.old c.err.new (stop_line s)) e err;
    }
unread_of_stop c words stop same (OfTold told read other) is err = absurd (other is)

pub unread_only : (c : Call) (result : ℕ) (words : List (List ℕ)) → command_of words ≡ c.command → Answer c result → result ≡ 3
    → NamesUnread words c.shelf.held c.shelf.sound c.shelf.before c.shelf.now c.err.old c.err.new
unread_only c result words same (Done task e done told out err) is = let below = done_below c.command result done in absurd (omega arith)
unread_only c result words same (Broken task e told out rose full err) is = absurd (cc)
unread_only c result words same (Stopped stop e caused out err) is = unread_of_stop c words stop same (cause_of c stop caused) (sym e ∙ is) err
unread_only c result words same (Wanting e out err) is = absurd (cc)
unread_only c result words same (Silent line e says front out rose full) is = absurd (cc)

pub unwritten_only : (c : Call) (result : ℕ) → Answer c result → result ≡ 4 → Rose c.out.before c.out.now ⊎ Rose c.err.before c.err.now
unwritten_only c result (Done task e done told out err) is = let below = done_below c.command result done in absurd (omega arith)
unwritten_only c result (Broken task e told out rose full err) is = inl rose
unwritten_only c result (Stopped stop e caused out err) is = absurd (not_broken stop (sym e ∙ is))
unwritten_only c result (Wanting e out err) is = absurd (cc)
unwritten_only c result (Silent line e says front out rose full) is = inr rose

pub cut_only : (c : Call) (result : ℕ) (words : List (List ℕ)) → command_of words ≡ c.command → Answer c result → result ≡ 4
    → (c.err.new ≡ c.err.old) ⊎ CutsLine words c.shelf.held c.shelf.sound c.shelf.before c.shelf.now c.err.before c.err.now c.err.old c.err.new
cut_only c result words same (Done task e done told out err) is = let below = done_below c.command result done in absurd (omega arith)
cut_only c result words same (Broken task e told out rose full err) is = inl (gains_same c.err.old c.err.new err)
cut_only c result words same (Stopped stop e caused out err) is = absurd (not_broken stop (sym e ∙ is))
cut_only c result words same (Wanting e out err) is = absurd (cc)
cut_only c result words same (Silent line e says front out rose full) is =
    inr (record { line = line; says = subst (λ (o : Option Command). IsLine o c.shelf line) (sym same) says; rose = rose; front = front })

-- a status of a refusal
abbrev IsRefused : ℕ → Type 0
IsRefused status = (status ≡ 5) ⊎ (status ≡ 6)

refused_of_stop : (c : Call) (result : ℕ) (stop : Stop) → Cause c stop → result ≡ status_of stop → IsRefused result → Gains c.err.old c.err.new (stop_line stop)
    → IsRefusedBy (told_of c) (reads_of c.shelf.held c.command) result c.err.old c.err.new
refused_of_stop c result stop (OfFile name e unread) s (inl is) err = let three = ap status_of e in absurd (cc)
refused_of_stop c result stop (OfFile name e unread) s (inr is) err = let three = ap status_of e in absurd (cc)
refused_of_stop c result stop (OfTold told read other) s is err = record { stop = stop; status = s; settled = told; read = read; line = err }

not_refusal : (result : ℕ) → IsRefused result → (result ≡ 4 → ⊥) × (result ≡ 7 → ⊥) × (result < 2 → ⊥)
not_refusal result (inl is) = (λ e. cc, λ e. cc, λ l. omega arith)
not_refusal result (inr is) = (λ e. cc, λ e. cc, λ l. omega arith)

pub refused_only : (c : Call) (result : ℕ) → Answer c result → (result ≡ 5) ⊎ (result ≡ 6) → IsRefusedBy (told_of c) (reads_of c.shelf.held c.command) result c.err.old c.err.new
refused_only c result (Done task e done told out err) is = absurd ((not_refusal result is).2 (done_below c.command result done))
refused_only c result (Broken task e told out rose full err) is = absurd ((not_refusal result is).0 e)
refused_only c result (Stopped stop e caused out err) is = refused_of_stop c result stop (cause_of c stop caused) e is err
refused_only c result (Wanting e out err) is = absurd ((not_refusal result is).1 e)
refused_only c result (Silent line e says front out rose full) is = absurd ((not_refusal result is).0 e)

pub memory_told : (c : Call) (result : ℕ) → Answer c result → result ≡ 7 → Gains c.err.old c.err.new (codes "no memory\n")
memory_told c result (Done task e done told out err) is = let below = done_below c.command result done in absurd (omega arith)
memory_told c result (Broken task e told out rose full err) is = absurd (cc)
memory_told c result (Stopped stop e caused out err) is = absurd (not_wanting stop (sym e ∙ is))
memory_told c result (Wanting e out err) is = err
memory_told c result (Silent line e says front out rose full) is = absurd (cc)

-- ---- where the words and the shelf settle it

stop_answers : (c : Call) (result : ℕ) (s stop : Stop) → Cause c s → result ≡ status_of s → Gains c.err.old c.err.new (stop_line s) → told_of c ≡ Stops stop
    → ((result ≡ status_of stop) × Gains c.err.old c.err.new (stop_line stop)) ⊎ Excused result c.shelf.before c.shelf.now c.out.before c.out.now c.err.before c.err.now
stop_answers c result s stop (OfFile name e unread) r err is = inr (inl (r ∙ ap status_of e, unread.rose))
stop_answers c result s stop (OfTold told read other) r err is =
    let same : s ≡ stop = sym (same_stop (told_of c) s stop told is) in
    inl (r ∙ ap status_of same, subst (λ x. Gains c.err.old c.err.new (stop_line x)) same err)

-- a stop is the answer, or excused
pub settled_stop : (c : Call) (result : ℕ) → Answer c result → (stop : Stop) → told_of c ≡ Stops stop
    → ((result ≡ status_of stop) × Gains c.err.old c.err.new (stop_line stop)) ⊎ Excused result c.shelf.before c.shelf.now c.out.before c.out.now c.err.before c.err.now
settled_stop c result (Done task e done told out err) stop is = absurd (not_stopped (told_of c) task stop told is)
settled_stop c result (Broken task e told out rose full err) stop is = inr (inr (inl (e, inl rose)))
settled_stop c result (Stopped s e caused out err) stop is = stop_answers c result s stop (cause_of c s caused) e err is
settled_stop c result (Wanting e out err) stop is = inr (inr (inr e))
settled_stop c result (Silent line e says front out rose full) stop is = inr (inr (inl (e, inr rose)))

stop_of_task : (c : Call) (result : ℕ) (s : Stop) (task : Task) → Cause c s → result ≡ status_of s → told_of c ≡ Gives task
    → (result ≡ task.status) ⊎ Excused result c.shelf.before c.shelf.now c.out.before c.out.now c.err.before c.err.now
stop_of_task c result s task (OfFile name e unread) r is = inr (inl (r ∙ ap status_of e, unread.rose))
stop_of_task c result s task (OfTold told read other) r is = absurd (not_given (told_of c) s task told is)

-- a task is done, or excused
pub settled_task : (c : Call) (result : ℕ) → Answer c result → (task : Task) → told_of c ≡ Gives task
    → (result ≡ task.status) ⊎ Excused result c.shelf.before c.shelf.now c.out.before c.out.now c.err.before c.err.now
settled_task c result (Done x e done told out err) task is = inl (e ∙ ap (λ (t : Task). t.status) (sym (same_task (told_of c) x task told is)))
settled_task c result (Broken x e told out rose full err) task is = inr (inr (inl (e, inl rose)))
settled_task c result (Stopped s e caused out err) task is = stop_of_task c result s task (cause_of c s caused) e is
settled_task c result (Wanting e out err) task is = inr (inr (inr e))
settled_task c result (Silent line e says front out rose full) task is = inr (inr (inl (e, inr rose)))

-- work that is done, with its task
pub record WasDone (c : Call) (result : ℕ) : Type 0 where
  pub task : Task
  pub status : result ≡ task.status
  pub told : Allows (told_of c) task
  pub out : Gains c.out.old c.out.new task.text
  pub err : Gains c.err.old c.err.new []

was_done : (c : Call) (result : ℕ) → Answer c result → result < 2 → WasDone c result
was_done c result (Done task e done told out err) is = record { task = task; status = e; told = told; out = out; err = err }
was_done c result (Broken task e told out rose full err) is = absurd (omega arith)
was_done c result (Stopped stop e caused out err) is = let above = stop_above stop in absurd (omega arith)
was_done c result (Wanting e out err) is = absurd (omega arith)
was_done c result (Silent line e says front out rose full) is = absurd (omega arith)

pub task_written : (c : Call) (result : ℕ) → Answer c result → result < 2 → (task : Task) → told_of c ≡ Gives task
    → (result ≡ task.status) × Gains c.out.old c.out.new task.text
task_written c result a is task told =
    let d = was_done c result a is in
    subst (λ (t : Task). (result ≡ t.status) × Gains c.out.old c.out.new t.text) (sym (same_task (told_of c) d.task task d.told told)) (d.status, d.out)

pub nothing_told : (c : Call) (result : ℕ) → Answer c result → result < 2 → c.err.new ≡ c.err.old
nothing_told c result a is = let d = was_done c result a is in gains_same c.err.old c.err.new d.err

pub no_stop : (c : Call) (result : ℕ) → Answer c result → result < 2 → (stop : Stop) → told_of c ≢ Stops stop
no_stop c result a is stop told = let d = was_done c result a is in not_stopped (told_of c) d.task stop d.told told

pub quiet_else : (c : Call) (result : ℕ) → Answer c result → (IsDone c.command result → ⊥) → result ≢ 4 → c.out.new ≡ c.out.old
quiet_else c result (Done task e done told out err) never broken = absurd (never done)
quiet_else c result (Broken task e told out rose full err) never broken = absurd (broken e)
quiet_else c result (Stopped stop e caused out err) never broken = gains_same c.out.old c.out.new out
quiet_else c result (Wanting e out err) never broken = gains_same c.out.old c.out.new out
quiet_else c result (Silent line e says front out rose full) never broken = gains_same c.out.old c.out.new out

-- ---- the text

-- a text of which a task that is allowed gave the front, or the whole
text_of_task : (t : Told Task) (task : Task) (text : List ℕ) → Allows t task → IsText t text → text ≡ task.text
text_of_task Unknown task text h is = absurd is
text_of_task (Stops stop) task text h is = absurd h
text_of_task (Gives x) task text h is = is ∙ ap (λ (t : Task). t.text) h

front_of_none : (old new : Option (List ℕ)) (text : List ℕ) → Gains old new [] → GainsFront old new text
front_of_none old new text h = record { gained = []; rest = text; front = refl; gains = h }

pub front_written : (c : Call) (result : ℕ) → Answer c result → (text : List ℕ) → IsText (told_of c) text → GainsFront c.out.old c.out.new text
front_written c result (Done task e done told out err) text is =
    let same = text_of_task (told_of c) task text told is in
    record { gained = text; rest = []; front = append-nil text; gains = subst (λ (x : List ℕ). Gains c.out.old c.out.new x) (sym same) out }
front_written c result (Broken task e told out rose full err) text is =
    subst (λ (x : List ℕ). GainsFront c.out.old c.out.new x) (sym (text_of_task (told_of c) task text told is)) out
front_written c result (Stopped stop e caused out err) text is = front_of_none c.out.old c.out.new text out
front_written c result (Wanting e out err) text is = front_of_none c.out.old c.out.new text out
front_written c result (Silent line e says front out rose full) text is = front_of_none c.out.old c.out.new text out

-- ---- room

-- where both sinks tell room enough
abbrev RoomSuffices : Call → ℕ → List ℕ → Type 0
RoomSuffices c result text = IfSome c.out.space (λ n. length text ≤ n → IfSome c.err.space (λ m. c.room ≤ m → result ≢ 4))

fits_told : (space : Option ℕ) (n : ℕ) (P : ℕ → Type 0) → Exceeds space n → ((room : ℕ) → (n ≤ room → ⊥) → P room) → IfSome space P
fits_told None n P full h = tt
fits_told (Some room) n P full h = h room full

told_any : (space : Option ℕ) (P : ℕ → Type 0) → ((room : ℕ) → P room) → IfSome space P
told_any None P h = tt
told_any (Some room) P h = h room

never_four : (c : Call) (result : ℕ) (text : List ℕ) → result ≢ 4 → RoomSuffices c result text
never_four c result text never =
    told_any c.out.space (λ n. length text ≤ n → IfSome c.err.space (λ m. c.room ≤ m → result ≢ 4)) (λ n fits.
    told_any c.err.space (λ m. c.room ≤ m → result ≢ 4) (λ m enough. never))

pub room_suffices : (c : Call) (result : ℕ) → Answer c result → (text : List ℕ) → IsText (told_of c) text
    → IfSome c.out.space (λ n. length text ≤ n → IfSome c.err.space (λ m. c.room ≤ m → result ≢ 4))
room_suffices c result (Broken task e told out rose full err) text is =
    let same = text_of_task (told_of c) task text told is in
    fits_told c.out.space (length task.text) (λ n. length text ≤ n → IfSome c.err.space (λ m. c.room ≤ m → result ≢ 4)) full
    (λ room over fits. absurd (over (subst (λ (x : List ℕ). length x ≤ room) same fits)))
room_suffices c result (Silent line e says front out rose full) text is =
    told_any c.out.space (λ n. length text ≤ n → IfSome c.err.space (λ m. c.room ≤ m → result ≢ 4)) (λ room fits.
    fits_told c.err.space c.room (λ m. c.room ≤ m → result ≢ 4) full (λ m over enough. absurd (over enough)))
room_suffices c result (Done task e done told out err) text is = let below = done_below c.command result done in never_four c result text (λ four. omega arith)
room_suffices c result (Stopped stop e caused out err) text is = never_four c result text (λ four. not_broken stop (sym e ∙ four))
room_suffices c result (Wanting e out err) text is = never_four c result text (λ four. cc)

-- ---- a sound shelf

sound_stop : (c : Call) (stop : Stop) → Cause c stop → IsTrue c.shelf.sound → (task : Task) → told_of c ≡ Gives task → status_of stop ≢ 3
sound_stop c stop (OfFile name e unread) sound task is three =
    never_gives (told_of c) task (absent_task c.shelf.held c.command (record { name = name; form = unread.form }) (unread.absent sound) unread.read) is
sound_stop c stop (OfTold told read other) sound task is three = other three

pub sound_reads : (c : Call) (result : ℕ) → Answer c result → IsTrue c.shelf.sound → (task : Task) → told_of c ≡ Gives task → result ≢ 3
sound_reads c result (Done x e done told out err) sound task is three = let below = done_below c.command result done in omega arith
sound_reads c result (Broken x e told out rose full err) sound task is three = cc
sound_reads c result (Stopped stop e caused out err) sound task is three = sound_stop c stop (cause_of c stop caused) sound task is (sym e ∙ three)
sound_reads c result (Wanting e out err) sound task is three = cc
sound_reads c result (Silent line e says front out rose full) sound task is three = cc

-- ---- runs

-- the task of a job
told_job : (held : List ℕ → Held) (o : Option Command) (r : RunWords) (job : Job) → o ≡ Some (Run r) → job_told held r ≡ Gives job → told held o ≡ Gives (run_task job)
told_job held o r job e h = ap (told held) e ∙ ap (λ (t : Told Job). told_then t (λ j. Gives (run_task j))) h

pub trace_written : (c : Call) (result : ℕ) → Answer c result → result ≡ 0 → (r : RunWords) → c.command ≡ Some (Run r) → (job : Job) → job_told c.shelf.held r ≡ Gives job
    → Gains c.out.old c.out.new (trace_of job)
trace_written c result a is r e job told = (task_written c result a (omega arith) (run_task job) (told_job c.shelf.held c.command r job e told)).1

-- what was written is the trace of each other Secure image whose run agrees
pub isolated_trace : (c : Call) (result : ℕ) → Answer c result → result ≡ 0 → (r : RunWords) → c.command ≡ Some (Run r) → (job : Job) → job_told c.shelf.held r ≡ Gives job → job.words.view ≡ Ns
    → (image : ImageValue)
    → Agree (events_of job.start.script) 0 (state_of job.start) (boot job.start.board image job.start.nonsecure) job.words.steps
    → Gains c.out.old c.out.new (text_from Ns (events_of job.start.script) 0 (boot job.start.board image job.start.nonsecure) job.words.steps)
isolated_trace c result a is r e job told view image agree =
    let shown : trace_of job ≡ text_from Ns (events_of job.start.script) 0 (state_of job.start) job.words.steps = ap (λ v. text_from v (events_of job.start.script) 0 (state_of job.start) job.words.steps) view in
    let same = isolated job.start.board job.start.secure image job.start.nonsecure (events_of job.start.script) job.words.steps agree in
    subst (λ (x : List ℕ). Gains c.out.old c.out.new x) (shown ∙ same) (trace_written c result a is r e job told)

-- ---- all statuses

stop_status : (o : Option Command) (stop : Stop) → IsStatus o (status_of stop)
stop_status o BadWords = inr (inl refl)
stop_status o TooManySteps = inr (inr (inr (inr (inr (inl refl)))))
stop_status o TooManyBack = inr (inr (inr (inr (inr (inl refl)))))
stop_status o (Unread name) = inr (inr (inl refl))
stop_status o (TooLong name) = inr (inr (inr (inr (inr (inl refl)))))
stop_status o (BadBoard name refusal) = inr (inr (inr (inr (inl refl))))
stop_status o (BadImage name refusal) = inr (inr (inr (inr (inl refl))))
stop_status o (BadState name refusal) = inr (inr (inr (inr (inl refl))))
stop_status o (BadScript name refusal) = inr (inr (inr (inr (inl refl))))
stop_status o (BadSource name refusal) = inr (inr (inr (inr (inl refl))))
stop_status o (TooFar name) = inr (inr (inr (inr (inr (inl refl)))))

pub one_status : (c : Call) (result : ℕ) → Answer c result → IsStatus c.command result
one_status c result (Done task e done told out err) = inl done
one_status c result (Broken task e told out rose full err) = inr (inr (inr (inl e)))
one_status c result (Stopped stop e caused out err) = subst (IsStatus c.command) (sym e) (stop_status c.command stop)
one_status c result (Wanting e out err) = inr (inr (inr (inr (inr (inr e)))))
one_status c result (Silent line e says front out rose full) = inr (inr (inr (inl e)))
