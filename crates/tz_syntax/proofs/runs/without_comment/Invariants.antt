use Rattle.std.proofs.Common.{◌≡◌, ◌++◌, take, drop}
use Rattle.tz_syntax.specs.Tokens.{without_comment}
use Rattle.tz_syntax.proofs.runs.without_comment.Given as goal

abbrev pub invariant-loop-place : goal.invariant-loop-place
invariant-loop-place l = without_comment l.line ≡ take l.place l.line ++ without_comment (drop l.place l.line)
