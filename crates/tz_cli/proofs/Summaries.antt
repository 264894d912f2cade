-- A summary, from what its parts are found to be.
use Rattle.std.proofs.Common.{◌≡◌, ℕ, ◌++◌, List, Option, ap, ◌∙◌, length}
use Rattle.tz_model.specs.Board.{BoardValue}
use Rattle.tz_model.specs.Image.{ImageValue}
use Rattle.tz_state.specs.State.{State}
use Rattle.tz_sem.specs.Boot.{boot}
use Rattle.tz_iso.specs.declared.answer.What.{What}
use Rattle.tz_iso.specs.Runs.{PairValue, started_pair, difference}
use Rattle.tz_board.specs.Demo.{demo}
use Rattle.tz_board.specs.Scripts.{Timed}
use Rattle.tz_run.specs.declared.tally.Tally.{Tally}
use Rattle.tz_run.specs.Events.{events_of}
use Rattle.tz_run.specs.Generated.{first_image, second_image, nonsecure_image, generated_events}
use Rattle.tz_run.specs.Tallies.{tally_of}
use Rattle.tz_cli.specs.PairLine.{pair_line}
use Rattle.tz_cli.specs.Summary.{counts_text, due_before, first_boot, second_boot, summary}
use Rattle.tz_cli.proofs.Dues.{generated_due}

-- a machine with an image on a board that are found to be these
booted : (b b' : BoardValue) (i i' n n' : ImageValue) → b ≡ b' → i ≡ i' → n ≡ n' → boot b i n ≡ boot b' i' n'
booted b b' i i' n n' board image nonsecure =
    ap (λ (x : BoardValue). boot x i n) board ∙ ap (λ (x : ImageValue). boot b' x n) image ∙ ap (λ (x : ImageValue). boot b' i' x) nonsecure

module _ (seed steps : ℕ) (b : BoardValue) (i j n : ImageValue) (script : List Timed) (board : b ≡ demo) (first : i ≡ first_image seed) (second : j ≡ second_image seed) (nonsecure : n ≡ nonsecure_image)
    (drawn : script ≡ generated_events seed steps) where
  counted : (events : ℕ) → events ≡ due_before steps script → events ≡ length (generated_events seed steps)
  counted events is = is ∙ ap (due_before steps) drawn ∙ generated_due seed steps

  tallied : (s : State) (tally : Tally) → s ≡ boot b i n → tally ≡ tally_of (events_of script) 0 s steps → tally ≡ tally_of (events_of (generated_events seed steps)) 0 (first_boot seed) steps
  tallied s tally start is =
      is ∙ ap (λ (ts : List Timed). tally_of (events_of ts) 0 s steps) drawn
      ∙ ap (λ (x : State). tally_of (events_of (generated_events seed steps)) 0 x steps) (start ∙ booted b demo i (first_image seed) n nonsecure_image board first nonsecure)

  compared : (p : PairValue) (found : Option (ℕ × What)) → p ≡ started_pair b i j n → found ≡ difference (events_of script) 0 p.first p.second steps
      → found ≡ difference (events_of (generated_events seed steps)) 0 (first_boot seed) (second_boot seed) steps
  compared p found start is =
      is ∙ ap (λ (ts : List Timed). difference (events_of ts) 0 p.first p.second steps) drawn
      ∙ ap (λ (x : State). difference (events_of (generated_events seed steps)) 0 x p.second steps)
      (ap (λ (x : PairValue). x.first) start ∙ booted b demo i (first_image seed) n nonsecure_image board first nonsecure)
      ∙ ap (λ (x : State). difference (events_of (generated_events seed steps)) 0 (first_boot seed) x steps)
      (ap (λ (x : PairValue). x.second) start ∙ booted b demo j (second_image seed) n nonsecure_image board second nonsecure)

  pub summary_told : (s : State) (p : PairValue) (events : ℕ) (tally : Tally) (found : Option (ℕ × What)) (text : List ℕ) → s ≡ boot b i n → p ≡ started_pair b i j n
      → events ≡ due_before steps script → tally ≡ tally_of (events_of script) 0 s steps → found ≡ difference (events_of script) 0 p.first p.second steps
      → text ≡ counts_text seed steps events tally ++ pair_line steps found → text ≡ summary seed steps
  unfolding summary
  summary_told s p events tally found text starts pairs dues tallies finds is =
      is ∙ ap (λ (k : ℕ). counts_text seed steps k tally ++ pair_line steps found) (counted events dues)
      ∙ ap (λ (t : Tally). counts_text seed steps (length (generated_events seed steps)) t ++ pair_line steps found) (tallied s tally starts tallies)
      ∙ ap (λ (f : Option (ℕ × What)). counts_text seed steps (length (generated_events seed steps)) (tally_of (events_of (generated_events seed steps)) 0 (first_boot seed) steps) ++ pair_line steps f)
      (compared p found pairs finds)
