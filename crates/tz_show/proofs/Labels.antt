-- The labels of the words of a frame are those of the definition, and how long they are.
use Rattle.std.proofs.Common.{◌≡◌, ℕ, zero, suc, ◌≤◌, true, List, [], ◌∷◌, length, refl, nat_le, slice_get, map, arith, ap}
use Rattle.std.specs.List.{list_all}
use Rattle.tz_syntax.specs.Names.{or_nothing}
use Rattle.tz_show.specs.Frames.{frame_label, frame_labels}
use Rattle.tz_show.specs.declared.frames.TheConstants.{LABELS}

pub labels_are : map (λ name. name.now) LABELS ≡ frame_labels
labels_are = refl

pub label_is : (names : List (List ℕ)) (k : ℕ) → names ≡ frame_labels → or_nothing (slice_get names k) ≡ frame_label k
unfolding frame_label
label_is names k h = ap (λ xs. or_nothing (slice_get xs k)) h

label_fits : (names : List (List ℕ)) (m k : ℕ) → list_all (λ t. nat_le (length t) m) names ≡ true → length (or_nothing (slice_get names k)) ≤ m
label_fits [] m k h = grind arith
label_fits (t ∷ ts) m zero h = grind arith
label_fits (t ∷ ts) m (suc k) h = grind (arith, label_fits ts m k)

pub frame_label_fits : (k : ℕ) → length (frame_label k) ≤ 21
unfolding frame_label
frame_label_fits k = grind (arith, label_fits frame_labels 21 k refl)
