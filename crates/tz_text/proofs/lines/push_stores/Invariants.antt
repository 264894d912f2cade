use Rattle.std.proofs.Common.{◌≡◌, ◌≤◌, ◌+◌, ◌*◌, ◌++◌, drop, length}
use Rattle.tz_text.specs.Line.{stores_text}
use Rattle.tz_text.proofs.lines.push_stores.Given as goal

abbrev pub invariant-loop-store : goal.invariant-loop-store
invariant-loop-store l = record {
  bytes : l.line.bytes ++ stores_text (drop l.store-index l.stores) ≡ l.fn.line.bytes ++ stores_text l.stores;
  len : length l.line.bytes ≤ length l.fn.line.bytes + 22 * l.store-index;
}
