-- What the words and a shelf's word settle of a command: that it stops, and why, or what it does.
use Rattle.std.specs.Prelude.{◌≡◌, ◌⊎◌, ℕ, zero, suc, ◌+◌, ◌-◌, nat_lt, if◌then◌else◌, List, [], ◌∷◌, map, Option, Some, None}
use Rattle.tz_model.specs.Image.{ImageValue}
use Rattle.tz_model.specs.Outside.{Held}
use Rattle.tz_state.specs.State.{State}
use Rattle.tz_sem.specs.Run.{Events, state_after}
use Rattle.tz_twin.specs.Trace.{text_from}
use Rattle.tz_iso.specs.declared.answer.What.{What}
use Rattle.tz_iso.specs.Runs.{difference}
use Rattle.tz_run.specs.Events.{events_of}
use Rattle.tz_text.specs.Text.{dis_text}
use Rattle.tz_words.specs.StartWords.{StartWords}
use Rattle.tz_run.specs.FullRun.{full_from}
use Rattle.tz_gates.specs.Gates.{gates_of}
use Rattle.tz_gates.specs.Entries.{entries_at, other_entries}
use Rattle.tz_gates.specs.GatesText.{gates_text}
use Rattle.tz_snap.specs.StateFile.{SavedState, file_of}
use Rattle.tz_show.specs.Page.{page}
use Rattle.tz_words.specs.ShowWords.{ShowWords, SavedWords}
use Rattle.tz_words.specs.Resume.{ResumeWords}
use Rattle.tz_words.specs.Back.{BackWords}
use Rattle.tz_words.specs.Run.{RunWords, run_of, start_of}
use Rattle.tz_words.specs.Pair.{PairWords}
use Rattle.tz_cli.specs.PairLine.{pair_line, pair_status}
use Rattle.tz_cli.specs.Summary.{summary}
use Rattle.tz_words.specs.declared.generated.GenWords.{GenWords}
use Rattle.tz_words.specs.Commands.{Command, Run, RunFull, Pair, Asm, Dis, Gates, Snap, Show, ShowSaved, Resume, Back, Gen}
use Rattle.tz_files.specs.Told.{BadWords, TooFar, Told, Stops, Gives, step_limit}
use Rattle.tz_files.specs.Reads.{Reading, Settled, no_files, settling, within_limit, within_back}
use Rattle.tz_files.specs.Starts.{Start, PairStart, SavedStart, start_files, state_of, pair_start_files, first_state, second_state, saved_files, shown_files, source_files, listed_files, begin_files}
use Rattle.tz_words.specs.declared.start.Work.{Work}
use Rattle.tz_words.specs.declared.start.Work.TheVariants as works

-- ---- runs

-- a run with what it begins with
pub record Job : Type 0 where
  pub words : RunWords
  pub start : Start

abbrev pub job_files : (List ℕ → Held) → RunWords → Settled Job
job_files held r = settling (λ start. Gives (record { words = r; start = start })) (begin_files held (start_of r))

abbrev pub job_told : (List ℕ → Held) → RunWords → Told Job
job_told held r = (job_files held r).told

-- the trace of a run
abbrev pub trace_of : Job → List ℕ
trace_of job = text_from job.words.view (events_of job.start.script) 0 (state_of job.start) job.words.steps

-- a pair with what it begins with
pub record PairJob : Type 0 where
  pub words : PairWords
  pub start : PairStart

-- here, too, the limit of steps is tested before any file is read
abbrev pub pair_job_files : (List ℕ → Held) → PairWords → Settled PairJob
pair_job_files held p = settling (λ start. Gives (record { words = p; start = start })) (within_limit p.steps (pair_start_files held p))

abbrev pub pair_told : (List ℕ → Held) → PairWords → Told PairJob
pair_told held p = (pair_job_files held p).told

-- where the two runs first disagree, and in what
abbrev pub difference_of : PairJob → Option (ℕ × What)
difference_of job = difference (events_of job.start.script) 0 (first_state job.start) (second_state job.start) job.words.steps

-- what a run goes on from: here, too, the limit is tested first
abbrev pub resume_files : (List ℕ → Held) → ResumeWords → Settled SavedStart
resume_files held w = within_limit w.steps (saved_files held w)

abbrev pub resume_told : (List ℕ → Held) → ResumeWords → Told SavedStart
resume_told held w = (resume_files held w).told

-- what a run begins with that goes back: behind that limit, the one of steps that are undone
abbrev pub back_files : (List ℕ → Held) → BackWords → Settled Start
back_files held w = within_limit w.start.steps (within_back w.back (start_files held w.start))

abbrev pub back_told : (List ℕ → Held) → BackWords → Told Start
back_told held w = (back_files held w).told

-- the state in a file
abbrev pub shown_told : (List ℕ → Held) → SavedWords → Told SavedState
shown_told held w = (shown_files held w).told

-- the state after the steps of a run
abbrev pub end_of : Start → ℕ → State
end_of start steps = state_after (events_of start.script) 0 (state_of start) steps

-- the states before each of n steps from step k on, the latest first
abbrev pub states_before : Events → ℕ → State → ℕ → List State
states_before events k s zero = []
states_before events k s (suc n) = state_after events k s n ∷ states_before events k s n

-- ---- tasks

-- what a command does: the text on standard output, and the status once all of it is written
pub record Task : Type 0 where
  pub text : List ℕ
  pub status : ℕ

-- a run writes its trace
abbrev pub run_task : Job → Task
run_task job = record { text = trace_of job; status = 0 }

-- a run in view `full` writes under each line what is told of its step
abbrev pub full_task : StartWords → Start → Task
full_task words start = record { text = full_from (events_of start.script) 0 (state_of start) words.steps; status = 0 }

-- a pair writes whether its runs agree, and where they first disagree
abbrev pub pair_task : PairJob → Task
pair_task job = record { text = pair_line job.words.steps (difference_of job); status = pair_status (difference_of job) }

-- an assembly writes its image or its listing
abbrev pub asm_task : List ℕ → Task
asm_task file = record { text = file; status = 0 }

-- a disassembly writes the lines of its image
abbrev pub dis_task : ImageValue → Task
dis_task image = record { text = dis_text image; status = 0 }

-- the gates of a machine as it starts, with how many of its steps enter at each, and how many elsewhere
abbrev pub counted_gates : Events → State → ℕ → List ℕ → List ℕ
counted_gates events s steps gates = gates_text gates (map (entries_at events 0 s steps) gates) (other_entries events 0 s steps gates)

abbrev pub gates_task : StartWords → Start → Task
gates_task words start = record { text = counted_gates (events_of start.script) (state_of start) words.steps (gates_of (state_of start)); status = 0 }

-- the file of the state after the steps
abbrev pub snap_task : StartWords → Start → Task
snap_task words start = record { text = file_of (end_of start words.steps) words.steps; status = 0 }

-- the page of that state
abbrev pub page_task : ShowWords → Start → Task
page_task words start = record { text = page (end_of start words.start.steps) words.start.steps words.ranges; status = 0 }

-- the page of the state in a file
abbrev pub saved_task : SavedWords → SavedState → Task
saved_task words saved = record { text = page saved.state saved.step words.ranges; status = 0 }

-- the lines of the steps behind those that a state file tells, with them within the limit of steps
abbrev pub resumed_text : ResumeWords → SavedStart → List ℕ
resumed_text w start = text_from w.view (events_of start.script) start.step start.state w.steps

abbrev pub resume_next : ResumeWords → SavedStart → Told Task
resume_next w start = if nat_lt step_limit (start.step + w.steps) then Stops (TooFar w.state) else Gives (record { text = resumed_text w start; status = 0 })

-- the lines of the last steps of a run, from the state before them
abbrev pub back_text : BackWords → Start → List ℕ
back_text w start = text_from w.view (events_of start.script) (w.start.steps - w.back) (end_of start (w.start.steps - w.back)) w.back

abbrev pub back_task : BackWords → Start → Task
back_task w start = record { text = back_text w start; status = 0 }

-- the summary of a job that is made from a number, whether or not its runs agree
abbrev pub gen_task : GenWords → Task
gen_task w = record { text = summary w.seed w.steps; status = 0 }

-- what is done with what begins a run
abbrev pub work_task : Work → StartWords → Start → Task
work_task (works.Trace view) words start = run_task (record { words = run_of words view; start = start })
work_task works.Full words start = full_task words start
work_task works.Gates words start = gates_task words start
work_task works.Save words start = snap_task words start
work_task (works.Page ranges) words start = page_task (record { start = words; ranges = ranges.items }) start

-- ---- commands

-- the files of a command and what they settle; words that are refused have none
abbrev pub files_of : (List ℕ → Held) → Option Command → Settled Task
files_of held None = record { told = Stops BadWords; reads = [] }
files_of held (Some (Run r)) = settling (λ job. Gives (run_task job)) (job_files held r)
files_of held (Some (RunFull s)) = settling (λ start. Gives (full_task s start)) (begin_files held s)
files_of held (Some (Pair p)) = settling (λ job. Gives (pair_task job)) (pair_job_files held p)
files_of held (Some (Asm a)) = settling (λ file. Gives (asm_task file)) (source_files held a.form a.source)
files_of held (Some (Dis d)) = settling (λ image. Gives (dis_task image)) (listed_files held d)
files_of held (Some (Gates s)) = settling (λ start. Gives (gates_task s start)) (begin_files held s)
files_of held (Some (Snap s)) = settling (λ start. Gives (snap_task s start)) (begin_files held s)
files_of held (Some (Show s)) = settling (λ start. Gives (page_task s start)) (begin_files held s.start)
files_of held (Some (ShowSaved w)) = settling (λ saved. Gives (saved_task w saved)) (shown_files held w)
files_of held (Some (Resume w)) = settling (resume_next w) (resume_files held w)
files_of held (Some (Back w)) = settling (λ start. Gives (back_task w start)) (back_files held w)
files_of held (Some (Gen w)) = settling (λ words. Gives (gen_task words)) (within_limit w.steps (no_files w))

-- what is settled of a command, or of words that are refused
abbrev pub told : (List ℕ → Held) → Option Command → Told Task
told held command = (files_of held command).told

-- the files that it reads
abbrev pub reads_of : (List ℕ → Held) → Option Command → List Reading
reads_of held command = (files_of held command).reads

-- the statuses of a command whose work is done
abbrev pub IsDone : Option Command → ℕ → Type 0
IsDone None status = ⊥
IsDone (Some (Run r)) status = status ≡ 0
IsDone (Some (RunFull s)) status = status ≡ 0
IsDone (Some (Pair p)) status = (status ≡ 0) ⊎ (status ≡ 1)
IsDone (Some (Asm a)) status = status ≡ 0
IsDone (Some (Dis d)) status = status ≡ 0
IsDone (Some (Gates s)) status = status ≡ 0
IsDone (Some (Snap s)) status = status ≡ 0
IsDone (Some (Show s)) status = status ≡ 0
IsDone (Some (ShowSaved w)) status = status ≡ 0
IsDone (Some (Resume w)) status = status ≡ 0
IsDone (Some (Back w)) status = status ≡ 0
IsDone (Some (Gen w)) status = status ≡ 0
