-- With the note that was made, by whether it had room.
use Rattle.std.proofs.Common.{◌≡◌, ℕ, ◌+◌, ◌<◌, length, set, ap, ◌∙◌, arith}
use Rattle.tz_undo.specs.Ring.{place_after}
use Rattle.tz_undo.proofs.Steps.{ring_value, step_more, step_over}
use Rattle.tz_undo.proofs.history.History.step_into.Goals as goal

pub returns-then-self-places-clause-after : goal.returns-then-self-places-clause-after
returns-then-self-places-clause-after c =
    let notes = c.self.inside.notes.items in
    let places : c.len-places.result ≡ length notes = omega arith in
    let fits : c.self.inside.next < length notes = omega arith in
    let room : c.self.inside.count < length notes = omega arith in
    ap (λ (p : ℕ). ring_value (set notes c.self.inside.next c.step_noted_into.new.note) p (c.self.inside.count + 1) c.step_noted_into.new.self) (c.place_after-self-inside.ensures.is ∙ ap (λ (k : ℕ). place_after k c.self.inside.next) places)
    ∙ step_more notes c.self.inside.next c.self.inside.count c.step_noted_into.new.note c.self.inside.machine c.step_noted_into.new.self c.args.due.now c.args.self.now fits room c.self.view_is (λ i. (c.step_noted_into.ensures.steps i).state) c.step_noted_into.ensures.note

pub returns-else-self-places-clause-after : goal.returns-else-self-places-clause-after
returns-else-self-places-clause-after c =
    let notes = c.self.inside.notes.items in
    let places : c.len-places.result ≡ length notes = omega arith in
    let fits : c.self.inside.next < length notes = omega arith in
    let full : c.self.inside.count ≡ length notes = omega arith in
    ap (λ (p : ℕ). ring_value (set notes c.self.inside.next c.step_noted_into.new.note) p c.self.inside.count c.step_noted_into.new.self) (c.place_after-self-inside.ensures.is ∙ ap (λ (k : ℕ). place_after k c.self.inside.next) places)
    ∙ step_over notes c.self.inside.next c.self.inside.count c.step_noted_into.new.note c.self.inside.machine c.step_noted_into.new.self c.args.due.now c.args.self.now fits full c.self.view_is (λ i. (c.step_noted_into.ensures.steps i).state) c.step_noted_into.ensures.note
