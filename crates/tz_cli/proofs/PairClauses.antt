-- What the answers of `pair` say of its two runs.
use Rattle.std.proofs.Common.{◌≡◌, ◌≢◌, ℕ, ◌<◌, List, Option, Some, None, refl, sym, ap, ◌∙◌, arith}
use Rattle.tz_model.specs.Outside.{Held, Gains}
use Rattle.tz_state.specs.State.{State}
use Rattle.tz_sem.specs.Step.{step}
use Rattle.tz_sem.specs.Run.{Events, state_after}
use Rattle.tz_twin.specs.Seen.{crossing, Agree}
use Rattle.tz_run.specs.Events.{events_of}
use Rattle.tz_iso.specs.declared.answer.What.{What}
use Rattle.tz_iso.specs.Runs.{IsLinked, what_at}
use Rattle.tz_iso.proofs.Agreement.{linked_boots, agree_of, first_of}
use Rattle.tz_iso.proofs.Told.{none_crossing}
use Rattle.tz_words.specs.Pair.{PairWords}
use Rattle.tz_cli.specs.PairLine.{FirstApart, agree_line, differ_line, pair_line, pair_status}
use Rattle.tz_words.specs.Commands.{Command, Pair}
use Rattle.tz_files.specs.Told.{Told, Gives, told_then}
use Rattle.tz_files.specs.Starts.{PairStart, first_state, second_state}
use Rattle.tz_cli.specs.Tasks.{PairJob, pair_task, pair_told, told, difference_of}
use Rattle.tz_cli.specs.Answer.{Call, Answer}
use Rattle.tz_cli.proofs.Clauses.{task_written}

-- the task of a pair
told_pair : (held : List ℕ → Held) (o : Option Command) (p : PairWords) (job : PairJob) → o ≡ Some (Pair p) → pair_told held p ≡ Gives job → told held o ≡ Gives (pair_task job)
told_pair held o p job e h = ap (told held) e ∙ ap (λ (t : Told PairJob). told_then t (λ j. Gives (pair_task j))) h

-- its status, and the line that was written
pair_written : (c : Call) (result : ℕ) → Answer c result → result < 2 → (p : PairWords) → c.command ≡ Some (Pair p) → (job : PairJob) → pair_told c.shelf.held p ≡ Gives job
    → (result ≡ pair_status (difference_of job)) × Gains c.out.old c.out.new (pair_line job.words.steps (difference_of job))
pair_written c result a below p e job h = task_written c result a below (pair_task job) (told_pair c.shelf.held c.command p job e h)

-- nothing of either start is seen but the board
linked_starts : (start : PairStart) → IsLinked (first_state start) (second_state start)
linked_starts start = linked_boots start.board start.first start.second start.nonsecure

agreed_by : (job : PairJob) (found : Option (ℕ × What)) (old new : Option (List ℕ)) → difference_of job ≡ found → 0 ≡ pair_status found → Gains old new (pair_line job.words.steps found)
    → Agree (events_of job.start.script) 0 (first_state job.start) (second_state job.start) job.words.steps × Gains old new (agree_line job.words.steps)
agreed_by job None old new is status gains =
    (agree_of (events_of job.start.script) job.words.steps 0 (first_state job.start) (second_state job.start) (linked_starts job.start) is, gains)
agreed_by job (Some found) old new is status gains = absurd (cc status)

-- at status 0 the runs agree
pub agreement_told : (c : Call) (result : ℕ) → Answer c result → result ≡ 0 → (p : PairWords) → c.command ≡ Some (Pair p) → (job : PairJob) → pair_told c.shelf.held p ≡ Gives job
    → Agree (events_of job.start.script) 0 (first_state job.start) (second_state job.start) job.words.steps × Gains c.out.old c.out.new (agree_line job.words.steps)
agreement_told c result a is p e job h =
    let w = pair_written c result a (omega arith) p e job h in
    agreed_by job (difference_of job) c.out.old c.out.new refl (sym is ∙ w.0) w.1

not_both : {A : Type 0} (o : Option A) (x : A) → o ≡ None → o ≡ Some x → ⊥
not_both o x e h = cc

-- where something differs at a step, it crosses out otherwise
apart_at : (events : Events) (s t : State) (k : ℕ) (what : What) → what_at events s t k ≡ Some what
    → crossing (step (state_after events 0 s k) (events k)) ≢ crossing (step (state_after events 0 t k) (events k))
apart_at events s t k what h alike =
    not_both (what_at events s t k) what (none_crossing (state_after events 0 s k) (state_after events 0 t k) (events k) alike) h

-- what is told of the first step at which the runs don't agree
abbrev FirstTold : PairJob → Option (List ℕ) → Option (List ℕ) → Type 0
FirstTold job old new =
    (k : ℕ) × (what : What) × FirstApart (events_of job.start.script) (first_state job.start) (second_state job.start) job.words.steps k what × Gains old new (differ_line k what)

apart_by : (job : PairJob) (found : Option (ℕ × What)) (old new : Option (List ℕ)) → difference_of job ≡ found → 1 ≡ pair_status found → Gains old new (pair_line job.words.steps found) → FirstTold job old new
apart_by job None old new is status gains = absurd (cc status)
apart_by job (Some found) old new is status gains =
    let events = events_of job.start.script in
    let first = first_of events job.words.steps found.0 found.1 (first_state job.start) (second_state job.start) (linked_starts job.start) is in (
      found.0,
      found.1,
      record {
        below = first.0;
        before = first.1;
        apart = apart_at events (first_state job.start) (second_state job.start) found.0 found.1 first.2;
        differs = first.2;
      },
      gains,
    )

-- at status 1 they don't
pub disagreement_told : (c : Call) (result : ℕ) → Answer c result → result ≡ 1 → (p : PairWords) → c.command ≡ Some (Pair p) → (job : PairJob) → pair_told c.shelf.held p ≡ Gives job
    → (k : ℕ) × (what : What) × FirstApart (events_of job.start.script) (first_state job.start) (second_state job.start) job.words.steps k what
    × Gains c.out.old c.out.new (differ_line k what)
disagreement_told c result a is p e job h =
    let w = pair_written c result a (omega arith) p e job h in
    apart_by job (difference_of job) c.out.old c.out.new refl (sym is ∙ w.0) w.1
