-- The exits of a call, each as its answer.
use Rattle.std.proofs.Common.{◌≡◌, ◌⊎◌, inl, inr, ℕ, ◌+◌, ◌<◌, ◌≤◌, Bool, true, false, cond, List, [], length, Option, Some, None, Result, Ok, Err, refl, sym, ap, ◌∙◌, subst, arith, append-nil}
use Rattle.std.specs.Prelude.{IsOk, IfSome, codes}
use Rattle.tz_model.specs.declared.outside.SinkError.{SinkError}
use Rattle.tz_model.specs.declared.outside.SinkError.TheVariants.{Failed}
use Rattle.tz_model.specs.Outside.{Held, Rose, Gains, HasCause, Put}
use Rattle.tz_board.specs.BoardErrors.{refusal_of}
use Rattle.tz_board.specs.ScriptErrors.{script_refusal_of}
use Rattle.tz_sem.specs.Run.{Events}
use Rattle.tz_iso.specs.declared.answer.What.{What}
use Rattle.tz_iso.specs.Runs.{PairValue, difference}
use Rattle.tz_words.specs.StartWords.{StartWords}
use Rattle.tz_words.specs.Resume.{ResumeWords}
use Rattle.tz_words.specs.Back.{BackWords}
use Rattle.tz_words.specs.Pair.{PairWords}
use Rattle.tz_cli.specs.PairLine.{is_agreed, pair_line, pair_status}
use Rattle.tz_words.specs.declared.start.Work.{Work}
use Rattle.tz_words.specs.declared.start.Work.TheVariants as works
use Rattle.tz_words.specs.declared.generated.GenWords.{GenWords}
use Rattle.tz_words.specs.Commands.{Command, Pair, Resume, Back, Gen, command_of, command_with, longest, names_of}
use Rattle.tz_files.specs.declared.stops.LoadError.{LoadError}
use Rattle.tz_files.specs.declared.stops.LoadError.TheVariants.{Unread, Long, Board, Image, State, Script, Source, Memory}
use Rattle.tz_files.specs.Told.{Stop, BadWords, TooManySteps, TooManyBack, TooLong, BadBoard, BadImage, BadState, BadScript, BadSource, TooFar, Told, Stops, Gives, told_then, step_limit, back_limit}
use Rattle.tz_files.specs.Told as stops
use Rattle.tz_files.specs.Reads.{AsBoard, AsImage, AsState, AsScript, AsSource, Reading, Settled, goes_on, read_where, no_files, settling, within_limit, within_back, IsOneOf}
use Rattle.tz_files.specs.Starts.{Start, PairStart, SavedStart, board_files, start_files, kept_files, saved_files, pair_start_files}
use Rattle.tz_cli.specs.Tasks.{Task, pair_task, back_task, gen_task, resumed_text, resume_next, work_task, told, reads_of, files_of, IsDone}
use Rattle.tz_files.specs.Lines.{stop_line, status_of, put_status}
use Rattle.tz_files.specs.Allowed.{Allows, AllowsStop}
use Rattle.tz_files.specs.LineTold.{GainsFront, Exceeds, IsTold}
use Rattle.tz_cli.specs.Answer.{IsCaused, IsLine, Call, told_of, Answer, Done, Broken, Stopped, Wanting, Silent}
use Rattle.tz_files.specs.Faults.{AllowsRefusal, IsFault, image_refusal, state_refusal, source_refusal, name_told, stop_of, stop_with, line_with, status_with}
use Rattle.tz_words.proofs.FileNames.{names_of-longest}
use Rattle.tz_cli.proofs.Reached.{sure_command}
use Rattle.tz_files.proofs.Settling.{then_stop, after_stop, then_allows, allows_given, allowed_goes, goes_first, read_here, settling_twice, limit_kept, limit_passed, back_kept, back_passed, one_of_first, one_of_second, past, fits}

pub gains_nothing : (w : Option (List ℕ)) → Gains w w []
gains_nothing None = refl
gains_nothing (Some old) = ap Some (sym (append-nil old))

exceeds_more : (space : Option ℕ) (n m : ℕ) → n ≤ m → Exceeds space n → Exceeds space m
exceeds_more None n m l h = tt
exceeds_more (Some room) n m l h = λ fits. h (omega arith)

-- ---- a line on standard error

-- the line is written with its status, or it can't be
abbrev pub IsRefused : Call → ℕ → List ℕ → ℕ → Type 0
IsRefused c result line status = IsTold result line status c.err.old c.err.new c.err.space c.err.before c.err.now

silent : (c : Call) (result : ℕ) (line : List ℕ) → IsLine c.command c.shelf line → Gains c.out.old c.out.new [] → length line ≤ c.room
    → (result ≡ 4) × Rose c.err.before c.err.now × Exceeds c.err.space (length line) × GainsFront c.err.old c.err.new line → Answer c result
silent c result line says quiet short h = Silent line h.0 says h.3 quiet h.1 (exceeds_more c.err.space (length line) c.room short h.2)

pub answer_stop : (c : Call) (result : ℕ) (stop : Stop) → IsCaused c.command c.shelf stop → Gains c.out.old c.out.new [] → length (stop_line stop) ≤ c.room
    → IsRefused c result (stop_line stop) (status_of stop) → Answer c result
answer_stop c result stop caused quiet short (inl h) = Stopped stop h.0 caused quiet h.1
answer_stop c result stop caused quiet short (inr h) = silent c result (stop_line stop) (inr (stop, refl, caused)) quiet short h

pub answer_words : (c : Call) (result : ℕ) → c.command ≡ None → Gains c.out.old c.out.new [] → 64 ≤ c.room → IsRefused c result (codes "usage\n") 2 → Answer c result
answer_words c result e quiet short h = answer_stop c result BadWords e quiet (omega arith) h

pub answer_memory : (c : Call) (result : ℕ) → Gains c.out.old c.out.new [] → 64 ≤ c.room → IsRefused c result (codes "no memory\n") 7 → Answer c result
answer_memory c result quiet short (inl h) = Wanting h.0 quiet h.1
answer_memory c result quiet short (inr h) = silent c result (codes "no memory\n") (inl refl) quiet (omega arith) h

-- ---- a command among the words

-- the same answer with more room
answer_wider : (c : Call) (room : ℕ) (result : ℕ) → c.room ≤ room → Answer c result → Answer (record c { room = room }) result
answer_wider c room result l (Done task e done told out err) = Done task e done told out err
answer_wider c room result l (Broken task e told out rose full err) = Broken task e told out rose full err
answer_wider c room result l (Stopped stop e caused out err) = Stopped stop e caused out err
answer_wider c room result l (Wanting e out err) = Wanting e out err
answer_wider c room result l (Silent line e says front out rose full) = Silent line e says front out rose (exceeds_more c.err.space c.room room l full)

-- the answer of a command is that of the words that say it
pub answer_command : (c : Call) (result : ℕ) (words : List (List ℕ)) (command : Command) → c.command ≡ command_of words → c.room ≡ 64 + longest words → command_of words ≡ Some command
    → Answer (record c { command = Some command; room = 64 + longest (names_of command) }) result → Answer c result
answer_command c result words command is room e h =
    let wide = answer_wider (record c { command = Some command; room = 64 + longest (names_of command) }) c.room result (let l = names_of-longest words command e in omega arith) h in
    subst (λ (o : Option Command). Answer (record c { command = o }) result) (sym (is ∙ e)) wide

-- ---- what a command's files settle

-- the command of a call, with room for a line of each of its names, and what comes of what its files settle
pub record Comes {A : Type 0} (c : Call) (command : Command) (files : Settled A) (next : A → Told Task) : Type 0 where
  pub is : c.command ≡ Some command
  pub room : c.room ≡ 64 + longest (names_of command)
  pub settles : files_of c.shelf.held (Some command) ≡ settling next files

caused : (c : Call) (command : Command) (stop : Stop) → c.command ≡ Some command → IsCaused (Some command) c.shelf stop → IsCaused c.command c.shelf stop
caused c command stop e h = subst (λ (o : Option Command). IsCaused o c.shelf stop) (sym e) h

module _ {A : Type 0} (c : Call) (command : Command) (files : Settled A) (next : A → Told Task) (comes : Comes c command files next) where
  -- what is read of them is read by the command, what stops them stops it, and what they give goes on
  is_read : (file : Reading) → IsOneOf files.reads file → IsOneOf (reads_of c.shelf.held (Some command)) file
  is_read file read = subst (λ (x : Settled Task). IsOneOf x.reads file) (sym comes.settles) read

  is_stopped : (stop : Stop) → AllowsStop files.told stop → AllowsStop (told c.shelf.held (Some command)) stop
  is_stopped stop stops = subst (λ (x : Settled Task). AllowsStop x.told stop) (sym comes.settles) (then_stop files.told next stop stops)

  is_allowed : (x : A) (task : Task) → Allows files.told x → next x ≡ Gives task → Allows (told_of c) task
  is_allowed x task allowed gives =
      subst (λ (o : Option Command). Allows (told c.shelf.held o) task) (sym comes.is)
      (subst (λ (y : Settled Task). Allows y.told task) (sym comes.settles) (then_allows files.told next x task allowed (allows_given (next x) task gives)))

  enough : 64 ≤ c.room
  enough = let room = comes.room in omega (arith, room)

  name_within : (file : Reading) → IsOneOf files.reads file → 64 + length file.name ≤ c.room
  name_within file read =
      let room = comes.room in
      let short = (sure_command c.shelf.held command).within file (is_read file read) in
      omega (arith, room, short)

  -- want of memory
  pub answer_wanting : (result : ℕ) → Gains c.out.old c.out.new [] → IsRefused c result (codes "no memory\n") 7 → Answer c result
  answer_wanting result quiet h = answer_memory c result quiet enough h

  answer_settled : (result : ℕ) (stop : Stop) → IsCaused (Some command) c.shelf stop → Gains c.out.old c.out.new [] → length (stop_line stop) ≤ c.room
      → IsRefused c result (stop_line stop) (status_of stop) → Answer c result
  answer_settled result stop is quiet short h = answer_stop c result stop (caused c command stop comes.is is) quiet short h

  answer_refusal : {E : Type 0} (result : ℕ) (stop : E → Stop) (o : Option E) → ((x : E) → AllowsStop files.told (stop x) → IsCaused (Some command) c.shelf (stop x)) → AllowsRefusal files.told stop o
      → Gains c.out.old c.out.new [] → length (line_with (stop_with stop o)) ≤ c.room → IsRefused c result (line_with (stop_with stop o)) (status_with (stop_with stop o)) → Answer c result
  answer_refusal result stop None is told quiet short h = answer_wanting result quiet h
  answer_refusal result stop (Some refusal) is told quiet short h = answer_settled result (stop refusal) (is refusal told) quiet short h

  answer_fault : (result : ℕ) (fault : LoadError) → IsFault c.shelf files fault
      → Gains c.out.old c.out.new [] → length (line_with (stop_of fault)) ≤ c.room → IsRefused c result (line_with (stop_of fault)) (status_with (stop_of fault)) → Answer c result
  answer_fault result (Unread name) told quiet short h =
      answer_settled result (stops.Unread name.now)
      (record { form = told.0.0; read = is_read (record { name = name.now; form = told.0.0 }) told.0.1; rose = told.1; absent = told.2 }) quiet short h
  answer_fault result (Long name) told quiet short h =
      answer_settled result (TooLong name.now)
      (is_stopped (TooLong name.now) told.1, (told.0.0, is_read (record { name = name.now; form = told.0.0 }) told.0.1)) quiet short h
  answer_fault result (Board name error) told quiet short h =
      answer_refusal result (BadBoard name.now) (refusal_of error)
      (λ x stop. (is_stopped (BadBoard name.now x) stop, is_read (record { name = name.now; form = AsBoard }) told.0)) told.1 quiet short h
  answer_fault result (Image name error) told quiet short h =
      answer_refusal result (BadImage name.now) (image_refusal error)
      (λ x stop. (is_stopped (BadImage name.now x) stop, is_read (record { name = name.now; form = AsImage }) told.0)) told.1 quiet short h
  answer_fault result (State name error) told quiet short h =
      answer_refusal result (BadState name.now) (state_refusal error)
      (λ x stop. (is_stopped (BadState name.now x) stop, is_read (record { name = name.now; form = AsState }) told.0)) told.1 quiet short h
  answer_fault result (Script name error) told quiet short h =
      answer_refusal result (BadScript name.now) (script_refusal_of error)
      (λ x stop. (is_stopped (BadScript name.now x) stop, is_read (record { name = name.now; form = AsScript }) told.0)) told.1 quiet short h
  answer_fault result (Source name error) told quiet short h =
      answer_refusal result (BadSource name.now) (source_refusal error)
      (λ x stop. (is_stopped (BadSource name.now x) stop, is_read (record { name = name.now; form = AsSource }) told.0)) told.1 quiet short h
  answer_fault result Memory told quiet short h = answer_wanting result quiet h

  -- there is room for a line of the name that a fault tells
  name_fits : (fault : LoadError) → IsFault c.shelf files fault → 64 + length (name_told fault) ≤ c.room
  name_fits (Unread name) told = name_within (record { name = name.now; form = told.0.0 }) told.0.1
  name_fits (Long name) told = name_within (record { name = name.now; form = told.0.0 }) told.0.1
  name_fits (Board name error) told = name_within (record { name = name.now; form = AsBoard }) told.0
  name_fits (Image name error) told = name_within (record { name = name.now; form = AsImage }) told.0
  name_fits (State name error) told = name_within (record { name = name.now; form = AsState }) told.0
  name_fits (Script name error) told = name_within (record { name = name.now; form = AsScript }) told.0
  name_fits (Source name error) told = name_within (record { name = name.now; form = AsSource }) told.0
  name_fits Memory told = enough

  -- its line was told, or that of want of memory
  pub answer_told : (result : ℕ) (fault : LoadError) → IsFault c.shelf files fault → Gains c.out.old c.out.new []
      → ((length (line_with (stop_of fault)) ≤ 64 + length (name_told fault)) × IsRefused c result (line_with (stop_of fault)) (status_with (stop_of fault)))
      ⊎ IsRefused c result (codes "no memory\n") 7
      → Answer c result
  answer_told result fault told quiet (inl h) =
      let short = h.0 in
      let name = name_fits fault told in
      answer_fault result fault told quiet (omega (arith, short, name)) h.1
  answer_told result fault told quiet (inr h) = answer_wanting result quiet h

  -- what the files give stops the command, by a file that is read
  pub answer_late : (result : ℕ) (x : A) (name : List ℕ) → Allows files.told x → next x ≡ Stops (TooFar name) → IsOneOf files.reads (record { name = name; form = AsState })
      → Gains c.out.old c.out.new [] → IsRefused c result (codes "limit steps\n") 6 → Answer c result
  answer_late result x name allowed e read quiet h =
      let stops : AllowsStop (told_then files.told next) (TooFar name) =
      after_stop files.told next x (TooFar name) allowed tt (subst (λ t. AllowsStop t (TooFar name)) (sym e) refl) in
      let stopped : AllowsStop (told c.shelf.held (Some command)) (TooFar name) = subst (λ (y : Settled Task). AllowsStop y.told (TooFar name)) (sym comes.settles) stops in
      let room = comes.room in
      answer_settled result (TooFar name) (stopped, is_read (record { name = name; form = AsState }) read) quiet (omega (arith, room)) h

  -- a task whose text is told is answered by its status
  pub answer_task : (result : ℕ) (x : A) (task : Task) → IsDone (Some command) task.status → Allows files.told x → next x ≡ Gives task
      → IsTold result task.text task.status c.out.old c.out.new c.out.space c.out.before c.out.now → c.err.new ≡ c.err.old → Answer c result
  answer_task result x task done allowed gives (inl h) same =
      Done task h.0 (subst (λ (o : Option Command). IsDone o result) (sym comes.is) (subst (IsDone (Some command)) (sym h.0) done)) (is_allowed x task allowed gives) h.1
      (subst (λ (w : Option (List ℕ)). Gains c.err.old w []) (sym same) (gains_nothing c.err.old))
  answer_task result x task done allowed gives (inr h) same =
      Broken task h.0 (is_allowed x task allowed gives) h.3 h.1 h.2 (subst (λ (w : Option (List ℕ)). Gains c.err.old w []) (sym same) (gains_nothing c.err.old))

-- ---- the limit of steps

module _ {A : Type 0} (c : Call) (command : Command) (steps : ℕ) (files : Settled A) (next : A → Told Task) (comes : Comes c command (within_limit steps files) next) where
  -- within it
  pub within : steps ≤ step_limit → Comes c command files next
  within l = record { is = comes.is; room = comes.room; settles = comes.settles ∙ ap (settling next) (limit_kept steps files l) }

  -- past it nothing is read
  pub answer_steps : (result : ℕ) → step_limit < steps → Gains c.out.old c.out.new [] → IsRefused c result (codes "limit steps\n") 6 → Answer c result
  answer_steps result l quiet h =
      let room = comes.room in
      let stops : AllowsStop (told c.shelf.held (Some command)) TooManySteps =
      subst (λ (x : Settled Task). AllowsStop x.told TooManySteps) (sym (comes.settles ∙ ap (settling next) (limit_passed steps files l))) refl in
      answer_stop c result TooManySteps (caused c command TooManySteps comes.is (stops, tt)) quiet (omega (arith, room)) h

-- ---- the limit of steps that are undone

module _ {A : Type 0} (c : Call) (command : Command) (back : ℕ) (files : Settled A) (next : A → Told Task) (comes : Comes c command (within_back back files) next) where
  -- within it
  near : back ≤ back_limit → Comes c command files next
  near l = record { is = comes.is; room = comes.room; settles = comes.settles ∙ ap (settling next) (back_kept back files l) }

  -- past it nothing is read
  answer_back : (result : ℕ) → back_limit < back → Gains c.out.old c.out.new [] → IsRefused c result (codes "limit back\n") 6 → Answer c result
  answer_back result l quiet h =
      let room = comes.room in
      let stops : AllowsStop (told c.shelf.held (Some command)) TooManyBack =
      subst (λ (x : Settled Task). AllowsStop x.told TooManyBack) (sym (comes.settles ∙ ap (settling next) (back_passed back files l))) refl in
      answer_stop c result TooManyBack (caused c command TooManyBack comes.is (stops, tt)) quiet (omega (arith, room)) h

-- ---- texts that are put

unfit : (space : Option ℕ) (n : ℕ) (error : SinkError) → IfSome space (λ room. n ≤ room → IsOk {T = Unit {0}} (Err error)) → Exceeds space n
unfit None n error h = tt
unfit (Some room) n error h = λ short. let ok = h short in cc

-- a sink has one error
pub failed_alone : {T : Type 0} (error : SinkError) → ◌≡◌ {A = Result T SinkError} (Err error) (Err Failed)
failed_alone Failed = refl

-- a text that isn't put whole is cut, whatever status it would have
pub told_cut : (old new : Option (List ℕ)) (space room : Option ℕ) (text : List ℕ) (status before now : ℕ) (error : SinkError)
    → Put old new space room text (Err error) → Rose before now → IsTold 4 text status old new space before now
told_cut old new space room text status before now error put rose =
    inr (refl, rose, unfit space (length text) error put.fits, record { gained = put.gained; rest = put.front.0; front = put.front.1; gains = put.written })

-- a text is told by how its put went
pub told_put : (old new : Option (List ℕ)) (space room : Option ℕ) (text : List ℕ) (before now : ℕ) (r : Result Unit SinkError) (result : ℕ) → result ≡ put_status r
    → Put old new space room text r → HasCause before now (r ≡ Err Failed) → IsTold result text 0 old new space before now
told_put old new space room text before now (Ok done) result is put cause = inl (is, subst (λ (x : List ℕ). Gains old new x) put.whole put.written)
told_put old new space room text before now (Err error) result is put cause =
    subst (λ (n : ℕ). IsTold n text 0 old new space before now) (sym is) (told_cut old new space room text 0 before now error put (cause.failed (failed_alone error)))

-- ---- runs

-- what is done with what begins a run
abbrev pub work_next : Work → StartWords → Start → Told Task
work_next work words start = Gives (work_task work words start)

work_settles : (held : List ℕ → Held) (words : StartWords) (work : Work)
    → files_of held (Some (command_with words work)) ≡ settling (work_next work words) (within_limit words.steps (start_files held words))
work_settles held words (works.Trace view) = settling_twice _ _ (within_limit words.steps (start_files held words))
work_settles held words works.Full = refl
work_settles held words works.Gates = refl
work_settles held words works.Save = refl
work_settles held words (works.Page ranges) = refl

pub work_comes : (c : Call) (words : StartWords) (work : Work) → c.command ≡ Some (command_with words work) → c.room ≡ 64 + longest (names_of (command_with words work))
    → Comes c (command_with words work) (within_limit words.steps (start_files c.shelf.held words)) (work_next work words)
work_comes c words work is room = record { is = is; room = room; settles = work_settles c.shelf.held words work }

pub work_done : (words : StartWords) (work : Work) (start : Start) → IsDone (Some (command_with words work)) (work_task work words start).status
work_done words (works.Trace view) start = refl
work_done words works.Full start = refl
work_done words works.Gates start = refl
work_done words works.Save start = refl
work_done words (works.Page ranges) start = refl

-- ---- a run that goes on

pub resume_comes : (c : Call) (w : ResumeWords) → c.command ≡ Some (Resume w) → c.room ≡ 64 + longest (names_of (Resume w))
    → Comes c (Resume w) (within_limit w.steps (saved_files c.shelf.held w)) (resume_next w)
resume_comes c w is room = record { is = is; room = room; settles = refl }

-- the steps are too many, or not
pub resume_stops : (w : ResumeWords) (start : SavedStart) → step_limit < start.step + w.steps → resume_next w start ≡ Stops (TooFar w.state)
resume_stops w start l = ap (λ (b : Bool). cond {A = Told Task} b (Stops (TooFar w.state)) (Gives (record { text = resumed_text w start; status = 0 }))) (past step_limit (start.step + w.steps) l)

pub resume_gives : (w : ResumeWords) (start : SavedStart) → start.step + w.steps ≤ step_limit → resume_next w start ≡ Gives (record { text = resumed_text w start; status = 0 })
resume_gives w start l = ap (λ (b : Bool). cond {A = Told Task} b (Stops (TooFar w.state)) (Gives (record { text = resumed_text w start; status = 0 }))) (fits step_limit (start.step + w.steps) l)

-- the file of the state is read where the files are accepted
pub state_read : (held : List ℕ → Held) (w : ResumeWords) (start : SavedStart) → Allows (saved_files held w).told start → IsOneOf (saved_files held w).reads (record { name = w.state; form = AsState })
state_read held w start allowed =
    let file : Reading = record { name = w.state; form = AsState } in
    let board = board_files held w.board in
    let goes : goes_on board.told ≡ true = goes_first board.told _ (allowed_goes (kept_files held w).told _ start allowed) in
    one_of_first (kept_files held w).reads _ file (one_of_second board.reads (read_where (goes_on board.told) file) file (read_here (goes_on board.told) file goes))

-- ---- a run that goes back

abbrev pub back_next : BackWords → Start → Told Task
back_next w start = Gives (back_task w start)

back_comes : (c : Call) (w : BackWords) → c.command ≡ Some (Back w) → c.room ≡ 64 + longest (names_of (Back w))
    → Comes c (Back w) (within_limit w.start.steps (within_back w.back (start_files c.shelf.held w.start))) (back_next w)
back_comes c w is room = record { is = is; room = room; settles = refl }

-- past a limit
pub back_steps : (c : Call) (w : BackWords) → c.command ≡ Some (Back w) → c.room ≡ 64 + longest (names_of (Back w)) → (result : ℕ) → step_limit < w.start.steps
    → Gains c.out.old c.out.new [] → IsRefused c result (codes "limit steps\n") 6 → Answer c result
back_steps c w is room result l quiet h = answer_steps c (Back w) w.start.steps _ (back_next w) (back_comes c w is room) result l quiet h

pub back_far : (c : Call) (w : BackWords) → c.command ≡ Some (Back w) → c.room ≡ 64 + longest (names_of (Back w)) → w.start.steps ≤ step_limit → (result : ℕ) → back_limit < w.back
    → Gains c.out.old c.out.new [] → IsRefused c result (codes "limit back\n") 6 → Answer c result
back_far c w is room few result l quiet h =
    answer_back c (Back w) w.back (start_files c.shelf.held w.start) (back_next w)
    (within c (Back w) w.start.steps (within_back w.back (start_files c.shelf.held w.start)) (back_next w) (back_comes c w is room) few) result l quiet h

-- within both
pub back_within : (c : Call) (w : BackWords) → c.command ≡ Some (Back w) → c.room ≡ 64 + longest (names_of (Back w)) → w.start.steps ≤ step_limit → w.back ≤ back_limit
    → Comes c (Back w) (start_files c.shelf.held w.start) (back_next w)
back_within c w is room few l =
    near c (Back w) w.back (start_files c.shelf.held w.start) (back_next w)
    (within c (Back w) w.start.steps (within_back w.back (start_files c.shelf.held w.start)) (back_next w) (back_comes c w is room) few) l

-- ---- a job that is made from a number

abbrev pub gen_next : GenWords → Told Task
gen_next w = Gives (gen_task w)

pub gen_comes : (c : Call) (w : GenWords) → c.command ≡ Some (Gen w) → c.room ≡ 64 + longest (names_of (Gen w)) → Comes c (Gen w) (within_limit w.steps (no_files w)) gen_next
gen_comes c w is room = record { is = is; room = room; settles = refl }

-- ---- the pair

abbrev pub pair_next : PairWords → PairStart → Told Task
pair_next p start = Gives (pair_task (record { words = p; start = start }))

pub pair_comes : (c : Call) (p : PairWords) → c.command ≡ Some (Pair p) → c.room ≡ 64 + longest (names_of (Pair p))
    → Comes c (Pair p) (within_limit p.steps (pair_start_files c.shelf.held p)) (pair_next p)
pair_comes c p is room = record { is = is; room = room; settles = settling_twice _ _ (within_limit p.steps (pair_start_files c.shelf.held p)) }

-- a line that is put whole is told with its status
line_told : (old new : Option (List ℕ)) (space room : Option ℕ) (steps : ℕ) (found : Option (ℕ × What)) (agreed : Bool) (before now : ℕ) → agreed ≡ is_agreed found
    → Put old new space room (pair_line steps found) (Ok tt) → IsTold (cond agreed 0 1) (pair_line steps found) (pair_status found) old new space before now
line_told old new space room steps None true before now is put = inl (refl, subst (λ (x : List ℕ). Gains old new x) put.whole put.written)
line_told old new space room steps None false before now is put = absurd (cc is)
line_told old new space room steps (Some found) true before now is put = absurd (cc is)
line_told old new space room steps (Some found) false before now is put = inl (refl, subst (λ (x : List ℕ). Gains old new x) put.whole put.written)

-- the same of a pair as it starts
pub pair_told_put : (old new : Option (List ℕ)) (space room : Option ℕ) (events : Events) (steps : ℕ) (p q : PairValue) (agreed answer : Bool) (before now : ℕ) → p ≡ q → agreed ≡ answer
    → agreed ≡ is_agreed (difference events 0 p.first p.second steps) → Put old new space room (pair_line steps (difference events 0 p.first p.second steps)) (Ok tt)
    → IsTold (cond answer 0 1) (pair_line steps (difference events 0 q.first q.second steps)) (pair_status (difference events 0 q.first q.second steps)) old new space before now
pair_told_put old new space room events steps p q agreed answer before now same test is put =
    line_told old new space room steps (difference events 0 q.first q.second steps) answer before now
    (sym test ∙ subst (λ (x : PairValue). agreed ≡ is_agreed (difference events 0 x.first x.second steps)) same is)
    (subst (λ (x : PairValue). Put old new space room (pair_line steps (difference events 0 x.first x.second steps)) (Ok tt)) same put)

-- its statuses
pub pair_done : (found : Option (ℕ × What)) → (pair_status found ≡ 0) ⊎ (pair_status found ≡ 1)
pair_done None = inl refl
pair_done (Some found) = inr refl
