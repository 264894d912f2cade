use Rattle.std.proofs.Common.{◌≡◌, ◌≤◌, ◌+◌, length}
use Rattle.tz_board.specs.Scripts.{script_lines, script_from, script_of}
use Rattle.tz_board.proofs.script_file.read_lines.Given as goal

abbrev pub invariant-loop-line : goal.invariant-loop-line
invariant-loop-line l = record {
  read : script_of l.bytes l.interrupts ≡ script_from l.interrupts l.number l.script (script_lines l.rest);
  counted : l.number + length l.rest ≤ length l.bytes + 1;
}

abbrev pub decreases-loop-line : goal.decreases-loop-line
decreases-loop-line l = length l.rest
