use Rattle.std.proofs.Common.{ℕ, get_or, replicate, refl, ap, ◌∙◌}
use Rattle.tz_ready.specs.Levels.{is_set}
use Rattle.tz_ready.proofs.Beginning.{none_set, none_linked}
use Rattle.tz_ready.proofs.ready.Ready.new.Goals as goal

pub invariant_of-result : goal.invariant_of-result
invariant_of-result c = record {
  queues = refl;
  after = refl;
  before = refl;
  threads = none_linked (λ i. get_or (replicate 784 272) i 0) (λ i. get_or (replicate 273 272) i 0) (is_set c.none.result.words) (λ (k : ℕ). ap (λ w. is_set w k) c.none.ensures ∙ none_set k);
  count = refl;
}
