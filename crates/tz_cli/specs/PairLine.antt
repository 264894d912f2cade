-- The line that `pair` writes, and what goes with it.
use Rattle.std.specs.Prelude.{◌≡◌, ◌≢◌, ℕ, ◌<◌, Bool, true, false, List, ◌++◌, codes, decimal, Option, Some, None, Result, Ok, Err}
use Rattle.tz_model.specs.declared.outside.SinkError.{SinkError}
use Rattle.tz_state.specs.State.{State}
use Rattle.tz_sem.specs.Step.{step}
use Rattle.tz_sem.specs.Run.{Events, state_after}
use Rattle.tz_twin.specs.Seen.{crossing, Agree}
use Rattle.tz_full.specs.CrossingLine.{kind_word}
use Rattle.tz_iso.specs.Runs.{what_at}
use Rattle.tz_iso.specs.declared.answer.What.{What}
use Rattle.tz_iso.specs.declared.answer.What.TheVariants.{Alone, Way, R, Lr, Apsr, Pc, Bytes, Sp, Limit, Control, Mask, Sau, Mpu, Vtor, Ccr, Fault, Exceptions, Systick, Sleep, Mover}

-- in what two runs differ, as words
abbrev pub what_words : What → List ℕ
what_words (Alone kind) = codes "alone " ++ kind_word kind
what_words Way = codes "way"
what_words (R n) = codes "r" ++ decimal n
what_words Lr = codes "lr"
what_words Apsr = codes "apsr"
what_words Pc = codes "pc"
what_words Bytes = codes "bytes"
what_words Sp = codes "sp"
what_words Limit = codes "limit"
what_words Control = codes "control"
what_words Mask = codes "mask"
what_words Sau = codes "sau"
what_words Mpu = codes "mpu"
what_words Vtor = codes "vtor"
what_words Ccr = codes "ccr"
what_words Fault = codes "fault"
what_words Exceptions = codes "exceptions"
what_words Systick = codes "systick"
what_words Sleep = codes "sleep"
what_words Mover = codes "mover"

abbrev pub agree_line : ℕ → List ℕ
agree_line steps = codes "agree " ++ decimal steps ++ codes "\n"

abbrev pub differ_line : ℕ → What → List ℕ
differ_line step what = codes "differ " ++ decimal step ++ codes " " ++ what_words what ++ codes "\n"

-- the line of two runs of so many steps: that they agree, or where they first disagree, and in what
abbrev pub pair_line : ℕ → Option (ℕ × What) → List ℕ
pair_line steps None = agree_line steps
pair_line steps (Some found) = differ_line found.0 found.1

-- the status that goes with it
abbrev pub pair_status : Option (ℕ × What) → ℕ
pair_status None = 0
pair_status (Some found) = 1

-- of n steps of two runs this is the first at which they don't cross out of Secure state alike, and what differs
-- first at it
pub record FirstApart (events : Events) (s t : State) (n step_number : ℕ) (what : What) : Type 0 where
  pub below : step_number < n
  pub before : Agree events 0 s t step_number
  pub apart : crossing (step (state_after events 0 s step_number) (events step_number)) ≢ crossing (step (state_after events 0 t step_number) (events step_number))
  pub differs : what_at events s t step_number ≡ Some what

-- whether the runs agree
abbrev pub is_agreed : Option (ℕ × What) → Bool
is_agreed None = true
is_agreed (Some found) = false

-- how the put of a line went, without which line it is
abbrev pub put_of : Result Bool SinkError → Result Unit SinkError
put_of (Ok agreed) = Ok tt
put_of (Err error) = Err error
