use Rattle.std.proofs.Common.{◌≢◌, ℕ, sym, arith}
use Rattle.tz_state.specs.Priority.{is_ready, rank_of}
use Rattle.tz_nvic.proofs.Least.{least_found, least_is, none_below}
use Rattle.tz_nvic.proofs.Rank.{rank_tells, told_by_rank}
use Rattle.tz_nvic.proofs.laws.chosen_comes_first.Goals as goal

other : (i j : ℕ) → j ≢ i → i ≢ j
other i j d e = d (sym e)

pub returns : goal.returns
returns c = record {
  first = λ e i h f.
      let k = least_found (is_ready e) (rank_of e) 272 i f in
      record {
        place = k.below;
        ready = k.is_ready;
        first = λ j l r d. rank_tells e i j h (omega (arith, k.below)) (omega (arith, l)) (other i j d) (k.least j l r);
      };
  only = λ e i h k. least_is (is_ready e) (rank_of e) 272 i k.place k.ready (λ j l r d. told_by_rank e i j h (omega (arith, k.place)) (omega (arith, l)) (k.first j l r d));
  none = λ e i f l. none_below (is_ready e) (rank_of e) 272 f i l;
}
