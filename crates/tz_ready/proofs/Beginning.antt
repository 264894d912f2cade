-- Where nothing is linked the tables are threaded.
use Rattle.std.specs.Prelude.{◌==◌, ◌/◌, ◌%◌, ◌^◌}
use Rattle.std.proofs.Common.{◌≡◌, ◌⊎◌, inl, inr, ℕ, ◌<◌, ◌≤◌, Bool, true, false, cond, subst, Option, Some, None, get_or, replicate, ap, ◌∙◌, sym, arith}
use Rattle.std.proofs.lemmas.List.{get_or-replicate, length-replicate, get_or_past}
use Rattle.tz_ready.specs.declared.queue.Queue.{Queue}
use Rattle.tz_ready.specs.Levels.{has_bit, is_set}
use Rattle.tz_ready.specs.Links.{queue_of}
use Rattle.tz_ready.specs.Threads.{number_of, head_of, IsNext, Threads}

below_or_not : (i n : ℕ) → (i < n) ⊎ (n ≤ i)
below_or_not i n = grind arith

all_same : {A : Type 0} (n i : ℕ) (x : A) → get_or (replicate n x) i x ≡ x
all_same n i x = elim (below_or_not i n) [ inl h ↦ get_or-replicate n i x x h | inr h ↦ get_or_past (replicate n x) i x (omega (arith, length-replicate n x)) ]

zero_bit : (j : ℕ) → has_bit 0 j ≡ false
zero_bit j = let none : 0 / 2 ^ j % 2 ≡ 0 = omega arith in ap (λ x. x == 1) none

pub none_set : (k : ℕ) → is_set (replicate 16 0) k ≡ false
none_set k = ap (λ x. has_bit x (k % 32)) (all_same 16 (k / 32) 0) ∙ zero_bit (k % 32)

none_there : (i : ℕ) (q : Queue) → queue_of (replicate 272 None) i ≡ Some q → ⊥
none_there i q e = let n : queue_of (replicate 272 None) i ≡ None = all_same {A = Option Queue} 272 i None in cc

pub none_linked : (after before : ℕ → ℕ) (set : ℕ → Bool) → ((k : ℕ) → set k ≡ false) → Threads (queue_of (replicate 272 None)) after before set
none_linked after before set h = record {
  few = λ i q e. absurd (none_there i q e);
  heads = λ q f. subst (λ (u : Bool). IsNext (queue_of (replicate 272 None)) q 0 (cond u (after (head_of q)) 272)) (sym (h (number_of q))) (record {
    from = omega arith;
    few = omega arith;
    there = λ l. absurd (omega arith);
    none = λ j _ _ e. none_there j q e;
  });
  some = λ q f e. absurd (wrong (set (number_of q)) (h (number_of q)) e);
  next = λ i q e. absurd (none_there i q e);
  last = λ i q e. absurd (none_there i q e);
} where
  wrong : (u : Bool) → u ≡ false → u ≡ true → ⊥
  wrong u e f = cc
