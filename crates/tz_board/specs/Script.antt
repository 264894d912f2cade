-- Scripts as they are kept: the steps that have events, ascending, each with its events.
use Rattle.std.specs.Prelude.{◌≡◌, ℕ, nat_lt, Bool, true, ◌&&◌, List, [], ◌∷◌, ◌++◌, length, map, IsTrue}
use Rattle.tz_board.specs.Scripts.{IsScript, Timed}
use Rattle.tz_board.specs.declared.script.Moment.{Moment}

-- the steps of some moments
abbrev pub steps_of : List Moment → List ℕ
steps_of moments = map (λ m. m.step) moments

-- the events of a moment, with its step
abbrev pub timed_of : Moment → List Timed
timed_of m = map (λ e. (m.step, e)) m.events.items

-- the events of some moments, with their steps
abbrev pub all_timed : List Moment → List Timed
all_timed [] = []
all_timed (m ∷ more) = timed_of m ++ all_timed more

-- a step is below some others
abbrev pub is_below_all : ℕ → List ℕ → Bool
is_below_all step [] = true
is_below_all step (s ∷ more) = nat_lt step s && is_below_all step more

-- each step is below those after it
abbrev pub ascend : List ℕ → Bool
ascend [] = true
ascend (s ∷ more) = is_below_all s more && ascend more

-- each moment has an event
abbrev pub have_events : List Moment → Bool
have_events [] = true
have_events (m ∷ more) = nat_lt 0 (length m.events.items) && have_events more

-- what the moments of every script meet
pub record IsKept (moments : List Moment) : Type 0 where
  pub ascending : IsTrue (ascend (steps_of moments))
  pub some_events : IsTrue (have_events moments)
  pub script : IsScript (all_timed moments)

-- a moment of a step that was taken off the end of some moments, or is to come after them
pub record Opens (old new : List Moment) (step : ℕ) (m : Moment) : Type 0 where
  pub step_is : m.step ≡ step
  pub events : all_timed old ≡ all_timed new ++ timed_of m
  pub ascending : IsTrue (ascend (steps_of new ++ step ∷ []))
  pub some_events : IsTrue (have_events new)
