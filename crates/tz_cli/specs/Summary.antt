-- What `gen` writes of the job that it makes from a number (own).
use Rattle.std.specs.Prelude.{ℕ, zero, suc, ◌+◌, List, ◌++◌, length, codes, decimal}
use Rattle.tz_state.specs.State.{State}
use Rattle.tz_sem.specs.Boot.{boot}
use Rattle.tz_iso.specs.Runs.{difference}
use Rattle.tz_board.specs.Demo.{demo}
use Rattle.tz_board.specs.Scripts.{Timed, due_at}
use Rattle.tz_run.specs.declared.tally.Tally.{Tally}
use Rattle.tz_run.specs.Events.{events_of}
use Rattle.tz_run.specs.Generated.{first_image, second_image, nonsecure_image, generated_events}
use Rattle.tz_run.specs.Tallies.{tally_of}
use Rattle.tz_cli.specs.PairLine.{pair_line}

-- ---- the job on the built-in board

-- the machine with the first Secure image, as it starts, and that with the second
abbrev pub first_boot : ℕ → State
first_boot seed = boot demo (first_image seed) nonsecure_image

abbrev pub second_boot : ℕ → State
second_boot seed = boot demo (second_image seed) nonsecure_image

-- how many events are due in the first steps
unfoldable pub due_before : ℕ → List Timed → ℕ
due_before zero script = 0
due_before (suc n) script = due_before n script + length (due_at n script)

-- ---- lines

-- a word and a number
abbrev pub count_line : List ℕ → ℕ → List ℕ
count_line word n = word ++ decimal n ++ codes "\n"

-- the numbers of a job, and what view `ns` of the first run shows
abbrev pub counts_text : (seed steps events : ℕ) → Tally → List ℕ
counts_text seed steps events tally =
    count_line (codes "seed ") seed
    ++ count_line (codes "steps ") steps
    ++ count_line (codes "events ") events
    ++ count_line (codes "secure ") tally.secure
    ++ count_line (codes "taken ") tally.taken
    ++ count_line (codes "ran ") tally.ran

-- behind them whether two runs with its events agree, as `pair` tells it
abbrev pub summary_of : (seed steps : ℕ) → List Timed → State → State → List ℕ
summary_of seed steps script first second =
    counts_text seed steps (length script) (tally_of (events_of script) 0 first steps) ++ pair_line steps (difference (events_of script) 0 first second steps)

-- all of it for a job: the run of its first image is counted, and compared with that of its second
unfoldable pub summary : (seed steps : ℕ) → List ℕ
summary seed steps = summary_of seed steps (generated_events seed steps) (first_boot seed) (second_boot seed)
