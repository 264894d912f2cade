use Rattle.std.proofs.Common.{◌≡◌, [], take, drop}
use Rattle.tz_syntax.specs.Tokens.{tokens_behind}
use Rattle.tz_syntax.proofs.runs.first_run.Given as goal

abbrev pub invariant-loop-place : goal.invariant-loop-place
invariant-loop-place l = tokens_behind [] l.line ≡ tokens_behind (take l.place l.line) (drop l.place l.line)
