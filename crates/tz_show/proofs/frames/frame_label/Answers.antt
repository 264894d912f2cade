use Rattle.std.proofs.Common.{◌∙◌, ◌≡◌, ◌≤◌, length, ℕ, List, subst, sym}
use Rattle.tz_show.specs.Frames.{frame_label}
use Rattle.tz_show.proofs.Labels.{label_is, labels_are, frame_label_fits}
use Rattle.tz_show.proofs.frames.frame_label.Goals as goal

fits_along : (t : List ℕ) (k : ℕ) → t ≡ frame_label k → length t ≤ 21
fits_along t k h = let P : List ℕ → Type 0 = λ x. length x ≤ 21 in subst P (sym h) (frame_label_fits k)

pub returns-clause-label : goal.returns-clause-label
returns-clause-label c = c.label_at.ensures ∙ label_is _ c.args.number labels_are

pub returns-clause-short : goal.returns-clause-short
returns-clause-short c = fits_along _ c.args.number (returns-clause-label c)
