-- As many notes stand as there are states before.
use Rattle.std.proofs.Common.{◌≤◌, length, sym, ap, ◌∙◌, arith}
use Rattle.tz_undo.specs.History.{HistoryValue}
use Rattle.tz_undo.proofs.Steps.{ring_count}
use Rattle.tz_undo.proofs.history.History.depth.Goals as goal

pub returns : goal.returns
returns c =
    let few : c.self.inside.count ≤ length c.self.inside.notes.items = omega arith in
    sym (ring_count c.self.inside.notes.items c.self.inside.next c.self.inside.count c.self.inside.machine few)
    ∙ ap (λ (h : HistoryValue). length h.before) c.self.view_is
