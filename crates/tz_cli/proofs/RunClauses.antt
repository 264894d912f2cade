-- What the answers of commands that run a machine say of its states.
use Rattle.std.proofs.Common.{◌≡◌, ℕ, zero, suc, ◌+◌, ◌-◌, ◌≤◌, Bool, true, false, cond, List, [], ◌++◌, append_assoc, map, Option, Some, refl, sym, ap, ◌∙◌, subst, arith}
use Rattle.std.specs.Prelude.{nat_lt}
use Rattle.std.proofs.lemmas.List.{append_cancel_left}
use Rattle.tz_model.specs.declared.report.View.{View}
use Rattle.tz_model.specs.Board.{BoardValue, are_regions}
use Rattle.tz_model.specs.Outside.{Held, Gains}
use Rattle.tz_state.specs.State.{State}
use Rattle.tz_sem.specs.Step.{step}
use Rattle.tz_sem.specs.Run.{Events, state_after}
use Rattle.tz_text.specs.Line.{line}
use Rattle.tz_twin.specs.Trace.{text_from}
use Rattle.tz_run.specs.Events.{events_of}
use Rattle.tz_run.specs.FullRun.{full_from}
use Rattle.tz_gates.specs.Gates.{gates_of}
use Rattle.tz_gates.specs.Entries.{entries_at}
use Rattle.tz_gates.specs.GatesText.{gates_text}
use Rattle.tz_gates.specs.Stays.{KeepsGatesFor}
use Rattle.tz_gates.proofs.Exact.{no_others}
use Rattle.tz_gates.proofs.Starting.{boot_board, boot_even}
use Rattle.tz_snap.specs.StateFile.{SavedState, file_of}
use Rattle.tz_show.specs.Page.{page}
use Rattle.tz_words.specs.StartWords.{StartWords}
use Rattle.tz_words.specs.ShowWords.{ShowWords, SavedWords}
use Rattle.tz_words.specs.Resume.{ResumeWords}
use Rattle.tz_words.specs.Back.{BackWords}
use Rattle.tz_words.specs.Commands.{Command, RunFull, Gates, Snap, Show, ShowSaved, Resume, Back, Gen}
use Rattle.tz_cli.specs.Summary.{summary}
use Rattle.tz_words.specs.declared.generated.GenWords.{GenWords}
use Rattle.tz_files.specs.Reads.{no_files}
use Rattle.tz_files.specs.Told.{TooManySteps, TooFar, Told, Stops, Gives, told_then, step_limit}
use Rattle.tz_files.specs.Starts.{Start, SavedStart, state_of, begin_told}
use Rattle.tz_cli.specs.Tasks.{Task, told, gen_task, counted_gates, full_task, gates_task, snap_task, page_task, saved_task, end_of, shown_told, resume_told, resume_next, resumed_text, back_told, back_text, back_task}
use Rattle.tz_cli.specs.Answer.{Call, Answer, told_of}
use Rattle.tz_cli.proofs.Clauses.{no_stop, task_written}
use Rattle.tz_files.proofs.Regions.{begun_regions}

-- what is settled of a command by what it begins with
told_by : {A : Type 0} (held : List ℕ → Held) (o : Option Command) (command : Command) (t : Told A) (next : A → Told Task) (x : A)
    → o ≡ Some command → told held (Some command) ≡ told_then t next → t ≡ Gives x → told held o ≡ next x
told_by held o command t next x e same gives = ap (told held) e ∙ (same ∙ ap (λ u. told_then u next) gives)

-- ---- view `full`

pub full_written : (c : Call) (result : ℕ) → Answer c result → result ≡ 0 → (s : StartWords) → c.command ≡ Some (RunFull s) → (start : Start) → begin_told c.shelf.held s ≡ Gives start
    → Gains c.out.old c.out.new (full_from (events_of start.script) 0 (state_of start) s.steps)
full_written c result a is s e start gives =
    (task_written c result a (omega arith) (full_task s start) (told_by c.shelf.held c.command (RunFull s) (begin_told c.shelf.held s) (λ x. Gives (full_task s x)) start e refl gives)).1

-- ---- gates

pub gates_written : (c : Call) (result : ℕ) → Answer c result → result ≡ 0 → (s : StartWords) → c.command ≡ Some (Gates s) → (start : Start) → begin_told c.shelf.held s ≡ Gives start
    → Gains c.out.old c.out.new (counted_gates (events_of start.script) (state_of start) s.steps (gates_of (state_of start)))
gates_written c result a is s e start gives =
    (task_written c result a (omega arith) (gates_task s start) (told_by c.shelf.held c.command (Gates s) (begin_told c.shelf.held s) (λ x. Gives (gates_task s x)) start e refl gives)).1

pub none_unlisted : (c : Call) (result : ℕ) → Answer c result → result ≡ 0 → (s : StartWords) → c.command ≡ Some (Gates s) → (start : Start) → begin_told c.shelf.held s ≡ Gives start
    → KeepsGatesFor (state_of start) (events_of start.script) (state_of start) s.steps
    → Gains c.out.old c.out.new (gates_text (gates_of (state_of start)) (map (entries_at (events_of start.script) 0 (state_of start) s.steps) (gates_of (state_of start))) 0)
none_unlisted c result a is s e start gives keeps =
    let events = events_of start.script in
    let gates = gates_of (state_of start) in
    let regions : are_regions (state_of start).bus.board.regions ≡ true =
    ap (λ (b : BoardValue). are_regions b.regions) (boot_board start.board start.secure start.nonsecure) ∙ begun_regions c.shelf.held s start gives in
    subst (λ (n : ℕ). Gains c.out.old c.out.new (gates_text gates (map (entries_at events 0 (state_of start) s.steps) gates) n))
    (no_others (state_of start) gates events (state_of start) s.steps regions refl keeps (boot_even start.board start.secure start.nonsecure)) (gates_written c result a is s e start gives)

-- ---- states

pub state_written : (c : Call) (result : ℕ) → Answer c result → result ≡ 0 → (s : StartWords) → c.command ≡ Some (Snap s) → (start : Start) → begin_told c.shelf.held s ≡ Gives start
    → Gains c.out.old c.out.new (file_of (end_of start s.steps) s.steps)
state_written c result a is s e start gives =
    (task_written c result a (omega arith) (snap_task s start) (told_by c.shelf.held c.command (Snap s) (begin_told c.shelf.held s) (λ x. Gives (snap_task s x)) start e refl gives)).1

pub page_written : (c : Call) (result : ℕ) → Answer c result → result ≡ 0 → (s : ShowWords) → c.command ≡ Some (Show s) → (start : Start) → begin_told c.shelf.held s.start ≡ Gives start
    → Gains c.out.old c.out.new (page (end_of start s.start.steps) s.start.steps s.ranges)
page_written c result a is s e start gives =
    (task_written c result a (omega arith) (page_task s start) (told_by c.shelf.held c.command (Show s) (begin_told c.shelf.held s.start) (λ x. Gives (page_task s x)) start e refl gives)).1

pub saved_written : (c : Call) (result : ℕ) → Answer c result → result ≡ 0 → (w : SavedWords) → c.command ≡ Some (ShowSaved w) → (saved : SavedState) → shown_told c.shelf.held w ≡ Gives saved
    → Gains c.out.old c.out.new (page saved.state saved.step w.ranges)
saved_written c result a is w e saved gives =
    (task_written c result a (omega arith) (saved_task w saved) (told_by c.shelf.held c.command (ShowSaved w) (shown_told c.shelf.held w) (λ x. Gives (saved_task w x)) saved e refl gives)).1

pub lines_written : (c : Call) (result : ℕ) → Answer c result → result ≡ 0 → (w : ResumeWords) → c.command ≡ Some (Resume w) → (start : SavedStart) → resume_told c.shelf.held w ≡ Gives start
    → Gains c.out.old c.out.new (resumed_text w start)
lines_written c result a is w e start gives =
    by_limit (nat_lt step_limit (start.step + w.steps)) (told_by c.shelf.held c.command (Resume w) (resume_told c.shelf.held w) (resume_next w) start e refl gives)
  where
    by_limit : (past : Bool) → told_of c ≡ cond past (Stops (TooFar w.state)) (Gives (record { text = resumed_text w start; status = 0 })) → Gains c.out.old c.out.new (resumed_text w start)
    by_limit true h = absurd (no_stop c result a (omega arith) (TooFar w.state) h)
    by_limit false h = (task_written c result a (omega arith) (record { text = resumed_text w start; status = 0 }) h).1

-- within the limit of steps the summary is written
pub summary_written : (c : Call) (result : ℕ) → Answer c result → result ≡ 0 → (w : GenWords) → c.command ≡ Some (Gen w) → Gains c.out.old c.out.new (summary w.seed w.steps)
summary_written c result a is w e = by_limit (nat_lt step_limit w.steps) (ap (told c.shelf.held) e)
  where
    by_limit : (past : Bool) → told_of c ≡ told_then (cond past (record { told = Stops TooManySteps; reads = [] }) (no_files w)).told (λ words. Gives (gen_task words))
        → Gains c.out.old c.out.new (summary w.seed w.steps)
    by_limit true h = absurd (no_stop c result a (omega arith) TooManySteps h)
    by_limit false h = (task_written c result a (omega arith) (gen_task w) h).1

-- the trace of steps is that of the first of them, and that of the others from the state that these lead to
trace_parts : (view : View) (events : Events) (n m k : ℕ) (s : State)
    → text_from view events k s (n + m) ≡ text_from view events k s n ++ text_from view events (k + n) (state_after events k s n) m
trace_parts view events zero m k s =
    let none : zero + m ≡ m = omega arith in
    let here : k ≡ k + zero = omega arith in
    ap (text_from view events k s) none ∙ ap (λ (j : ℕ). text_from view events j s m) here
trace_parts view events (suc n) m k s =
    let more : suc n + m ≡ suc (n + m) = omega arith in
    let on : k + 1 + n ≡ k + suc n = omega arith in
    let after = step s (events k) in
    ap (text_from view events k s) more
    ∙ (ap (λ (text : List ℕ). line view k after.report ++ text) (trace_parts view events n m (k + 1) after.state)
    ∙ (sym (append_assoc (line view k after.report) (text_from view events (k + 1) after.state n) _)
    ∙ ap (λ (j : ℕ). (line view k after.report ++ text_from view events (k + 1) after.state n) ++ text_from view events j (state_after events (k + 1) after.state n) m) on))

-- what follows in a run that comes to the state is what is written
pub rest_written : (c : Call) (result : ℕ) → Answer c result → result ≡ 0 → (w : ResumeWords) → c.command ≡ Some (Resume w) → (start : SavedStart) → resume_told c.shelf.held w ≡ Gives start
    → (s : State) (rest : List ℕ) → state_after (events_of start.script) 0 s start.step ≡ start.state
    → text_from w.view (events_of start.script) 0 s (start.step + w.steps) ≡ text_from w.view (events_of start.script) 0 s start.step ++ rest
    → Gains c.out.old c.out.new rest
rest_written c result a is w e start gives s rest comes whole =
    let events = events_of start.script in
    let first = text_from w.view events 0 s start.step in
    let zero_more : 0 + start.step ≡ start.step = omega arith in
    let parts : text_from w.view events 0 s (start.step + w.steps) ≡ first ++ resumed_text w start =
    trace_parts w.view events start.step w.steps 0 s
    ∙ (ap (λ (k : ℕ). first ++ text_from w.view events k (state_after events 0 s start.step) w.steps) zero_more
    ∙ ap (λ (t : State). first ++ text_from w.view events start.step t w.steps) comes) in
    let same : resumed_text w start ≡ rest = append_cancel_left first (resumed_text w start) rest (sym parts ∙ whole) in
    subst (λ (text : List ℕ). Gains c.out.old c.out.new text) same (lines_written c result a is w e start gives)

-- ---- a run that goes back

pub last_written : (c : Call) (result : ℕ) → Answer c result → result ≡ 0 → (w : BackWords) → c.command ≡ Some (Back w) → (start : Start) → back_told c.shelf.held w ≡ Gives start
    → Gains c.out.old c.out.new (back_text w start)
last_written c result a is w e start gives =
    (task_written c result a (omega arith) (back_task w start) (told_by c.shelf.held c.command (Back w) (back_told c.shelf.held w) (λ x. Gives (back_task w x)) start e refl gives)).1

-- what follows in the trace of the run is what is written
pub last_of_trace : (c : Call) (result : ℕ) → Answer c result → result ≡ 0 → (w : BackWords) → c.command ≡ Some (Back w) → w.back ≤ w.start.steps
    → (start : Start) → back_told c.shelf.held w ≡ Gives start
    → (rest : List ℕ) → text_from w.view (events_of start.script) 0 (state_of start) w.start.steps ≡ text_from w.view (events_of start.script) 0 (state_of start) (w.start.steps - w.back) ++ rest
    → Gains c.out.old c.out.new rest
last_of_trace c result a is w e near start gives rest whole =
    let events = events_of start.script in
    let n = w.start.steps - w.back in
    let first = text_from w.view events 0 (state_of start) n in
    let all : n + w.back ≡ w.start.steps = omega (arith, near) in
    let none : 0 + n ≡ n = omega arith in
    let parts : text_from w.view events 0 (state_of start) w.start.steps ≡ first ++ back_text w start =
    ap (text_from w.view events 0 (state_of start)) (sym all)
    ∙ (trace_parts w.view events n w.back 0 (state_of start)
    ∙ ap (λ (k : ℕ). first ++ text_from w.view events k (state_after events 0 (state_of start) n) w.back) none) in
    let same : back_text w start ≡ rest = append_cancel_left first (back_text w start) rest (sym parts ∙ whole) in
    subst (λ (text : List ℕ). Gains c.out.old c.out.new text) same (last_written c result a is w e start gives)
