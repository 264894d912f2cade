-- By whether some note stands.
use Rattle.std.proofs.Common.{◌≡◌, ℕ, suc, ◌-◌, ◌<◌, length, get_or, ap, ◌∙◌, arith}
use Rattle.tz_undo.specs.Ring.{place_before}
use Rattle.tz_undo.proofs.Steps.{ring_value, back_none, back_known_none, back_one, back_known}
use Rattle.tz_undo.proofs.history.History.back.Goals as goal

pub returns-then-self-eq0-clause-after : goal.returns-then-self-eq0-clause-after
returns-then-self-eq0-clause-after c =
    back_none c.self.inside.notes.items c.self.inside.next c.self.inside.count c.self.inside.machine c.args.self.now c.if-self-eq0.true c.self.view_is

pub returns-then-self-eq0-clause-known : goal.returns-then-self-eq0-clause-known
returns-then-self-eq0-clause-known c =
    back_known_none c.self.inside.notes.items c.self.inside.next c.self.inside.count c.self.inside.machine c.args.self.now c.if-self-eq0.true c.self.view_is

pub returns-clause-after : goal.returns-clause-after
returns-clause-after c =
    let notes = c.self.inside.notes.items in
    let places : c.len.result ≡ length notes = omega arith in
    let fits : c.self.inside.next < length notes = omega arith in
    let room : c.self.inside.count - 1 < length notes = omega arith in
    let one : suc (c.self.inside.count - 1) ≡ c.self.inside.count = omega arith in
    let at : c.place_before-self-inside.result ≡ place_before (length notes) c.self.inside.next =
    c.place_before-self-inside.ensures.is ∙ ap (λ (k : ℕ). place_before k c.self.inside.next) places in
    ap (λ (p : ℕ). ring_value notes p (c.self.inside.count - 1) c.undo.new.self) at
    ∙ back_one notes c.self.inside.next (c.self.inside.count - 1) c.index.result.now c.self.inside.machine c.undo.new.self c.args.self.now fits room
    (c.index.ensures ∙ ap (λ (p : ℕ). get_or notes p c.index.result.now) at) c.undo.ensures
    (ap (λ (k : ℕ). ring_value notes c.self.inside.next k c.self.inside.machine) one ∙ c.self.view_is)

pub returns-clause-known : goal.returns-clause-known
returns-clause-known c =
    let notes = c.self.inside.notes.items in
    let fits : c.self.inside.next < length notes = omega arith in
    let room : c.self.inside.count - 1 < length notes = omega arith in
    let one : suc (c.self.inside.count - 1) ≡ c.self.inside.count = omega arith in
    back_known notes c.self.inside.next (c.self.inside.count - 1) c.index.result.now c.self.inside.machine c.args.self.now fits room
    (ap (λ (k : ℕ). ring_value notes c.self.inside.next k c.self.inside.machine) one ∙ c.self.view_is)
