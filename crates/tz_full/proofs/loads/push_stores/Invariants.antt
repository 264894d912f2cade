use Rattle.std.proofs.Common.{◌≡◌, ◌≤◌, ◌+◌, ◌*◌, ◌++◌, drop}
use Rattle.arrayvec.specs.ArrayString.{array_string_len}
use Rattle.tz_full.specs.LoadLines.{store_lines}
use Rattle.tz_full.proofs.loads.push_stores.Given as goal

abbrev pub invariant-loop-store : goal.invariant-loop-store
invariant-loop-store l = record {
  bytes : l.text.bytes ++ store_lines l.mover (drop l.store-index l.stores) ≡ l.fn.text.bytes ++ store_lines l.mover l.stores;
  len : array_string_len l.text ≤ array_string_len l.fn.text + 42 * l.store-index;
}
