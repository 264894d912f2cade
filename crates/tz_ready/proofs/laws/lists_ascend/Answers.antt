use Rattle.std.proofs.Common.{◌≡◌, ℕ, zero, suc, ◌+◌, ◌<◌, ◌≤◌, Bool, true, false, cond, [], ◌∷◌, Option, refl, subst, arith}
use Rattle.std.specs.Prelude.{nat_lt}
use Rattle.std.proofs.lemmas.Bool.Decides.{nat_tests}
use Rattle.tz_ready.specs.declared.queue.Queue.{Queue}
use Rattle.tz_ready.specs.Threads.{IsNext, first_in, Threads, AreFrom, walk}
use Rattle.tz_ready.proofs.laws.lists_ascend.Goals as goal

module _ (f : ℕ → Option Queue) (after before : ℕ → ℕ) (set : ℕ → Bool) (q : Queue) (t : Threads f after before set) where
  at_end : (i n : ℕ) → 272 ≤ n → IsNext f q i n → IsNext f q i 272
  at_end i n h next = let e : n ≡ 272 = omega (arith, next.few) in subst (λ m. IsNext f q i m) e next

  step : (k i n : ℕ) → IsNext f q i n → (IsNext f q (n + 1) (after n) → AreFrom f q (n + 1) (walk k after (after n))) → (u : Bool) → nat_lt n 272 ≡ u → AreFrom f q i (cond u (n ∷ walk k after (after n)) [])
  step k i n next rest true e =
      let few : n < 272 = grind (arith, nat_tests) in
      (next, few, rest (t.next n q (next.there few)))
  step k i n next rest false e = let many : 272 ≤ n = grind (arith, nat_tests) in at_end i n many next

  walked : (k i n : ℕ) → 272 ≤ n + k → IsNext f q i n → AreFrom f q i (walk k after n)
  unfolding walk
  walked zero i n h next = at_end i n (omega arith) next
  walked (suc k) i n h next = step k i n next (λ x. walked k (n + 1) (after n) (omega (arith, x.from)) x) (nat_lt n 272) refl

pub returns : goal.returns
returns c = λ f after before set q t h. walked f after before set q t 272 0 (first_in set after q) (omega arith) (t.heads q h)
