use Rattle.std.proofs.Common.{◌≡◌, ◌≤◌, ◌+◌, ◌*◌, ◌++◌, drop, length, map}
use Rattle.arrayvec.specs.ArrayString.{array_string_len}
use Rattle.tz_sem.specs.LoadStore.{word_loads}
use Rattle.tz_full.specs.LoadLines.{loads_text, told_of}
use Rattle.tz_full.proofs.loads.push_words.Given as goal

abbrev pub invariant-loop-number : goal.invariant-loop-number
invariant-loop-number l = record {
  bytes : l.text.bytes ++ loads_text l.state.bus (map (told_of l.account l.state.core) (drop l.number-index l.numbers)) (word_loads l.next (length (drop l.number-index l.numbers))) ≡ l.fn.text.bytes ++ loads_text l.state.bus (map (told_of l.account l.state.core) l.numbers) (word_loads l.addr (length l.numbers));
  len : array_string_len l.text ≤ array_string_len l.fn.text + 60 * l.number-index;
}
