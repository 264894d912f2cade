use Rattle.std.proofs.Common.{◌≡◌, ◌≤◌, ◌+◌, ◌*◌, ◌++◌, drop, length}
use Rattle.tz_text.specs.Line.{changes_text}
use Rattle.tz_text.proofs.lines.push_changes.Given as goal

abbrev pub invariant-loop-change : goal.invariant-loop-change
invariant-loop-change l = record {
  bytes : l.line.bytes ++ changes_text (drop l.change-index l.changes) ≡ l.fn.line.bytes ++ changes_text l.changes;
  len : length l.line.bytes ≤ length l.fn.line.bytes + 14 * l.change-index;
}
