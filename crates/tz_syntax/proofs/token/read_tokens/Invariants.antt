use Rattle.std.proofs.Common.{◌≡◌, length, map}
use Rattle.tz_syntax.specs.Tokens.{tokens_of}
use Rattle.tz_syntax.specs.Views.{token_view}
use Rattle.tz_syntax.proofs.Turns.{all_before}
use Rattle.tz_syntax.proofs.token.read_tokens.Given as goal

abbrev pub invariant-loop-rest : goal.invariant-loop-rest
invariant-loop-rest l = tokens_of l.line ≡ all_before (map token_view l.tokens.items) (tokens_of l.rest)

abbrev pub decreases-loop-rest : goal.decreases-loop-rest
decreases-loop-rest l = length l.rest
