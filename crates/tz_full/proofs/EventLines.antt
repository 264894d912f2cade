-- The events that are left are the first of them and those behind it.
use Rattle.std.proofs.Common.{◌≡◌, ℕ, ◌+◌, ◌<◌, List, ◌++◌, length, get_or, drop, refl, add-one, drop-cons}
use Rattle.tz_model.specs.declared.report.ScriptEvent.{ScriptEvent}
use Rattle.tz_full.specs.BegunLines.{event_line, events_text}

pub events_more : (due : List ScriptEvent) (k : ℕ) (d : ScriptEvent) → k < length due → events_text (drop k due) ≡ event_line (get_or due k d) ++ events_text (drop (k + 1) due)
unfolding events_text
events_more due k d l = rw (add-one, drop-cons due k d l) refl
