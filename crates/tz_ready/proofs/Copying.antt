-- What a copy of slots and heads leaves.
use Rattle.std.proofs.Common.{◌≡◌, ◌⊎◌, inl, inr, ℕ, ◌+◌, ◌/◌, ◌%◌, ◌<◌, ◌≤◌, Bool, true, false, cond, List, length, get_or, Option, Some, None, refl, sym, ap, subst, ◌∙◌, arith, ext_get_or}
use Rattle.std.specs.Prelude.{is_some, ◌==◌, ◌^◌}
use Rattle.std.specs.List.{count_by}
use Rattle.std.proofs.lemmas.List.{get_or_past}
use Rattle.std.proofs.lemmas.List.Sums.{get_or-le-sum_by}
use Rattle.tz_table.specs.declared.units.Side.{Side}
use Rattle.tz_table.specs.declared.units.Side.TheVariants.{Secure, NonSecure}
use Rattle.tz_ready.specs.declared.queue.Queue.{Queue}
use Rattle.tz_ready.specs.Copies.{IsCopied}
use Rattle.tz_ready.specs.Levels.{has_bit, is_set}
use Rattle.tz_ready.specs.Links.{Linked, queue_of}
use Rattle.tz_ready.specs.Threads.{number_by, number_of, head_of, IsNext, IsLast, first_in, Threads}

below_or_not : (i n : ℕ) → (i < n) ⊎ (n ≤ i)
below_or_not i n = grind arith

same_or_not : (i j : ℕ) → (i ≡ j) ⊎ (i ≡ j → ⊥)
same_or_not i j = grind arith

-- ---- a word without bits tells of no list

no_bits : (word j : ℕ) → word ≡ 0 → has_bit word j ≡ true → ⊥
no_bits word j e h = wrong (has_bit word j) (ap (λ w. has_bit w j) e ∙ zero_bit j) h where
  wrong : (u : Bool) → u ≡ false → u ≡ true → ⊥
  wrong u f t = cc

  zero_bit : (j : ℕ) → has_bit 0 j ≡ false
  zero_bit j = let none : 0 / 2 ^ j % 2 ≡ 0 = omega arith in ap (λ x. x == 1) none

pub next_word_empty : (words : List ℕ) (word k : ℕ) → get_or words word 0 ≡ 0 → k / 32 ≡ word → is_set words k ≡ true → ⊥
next_word_empty words word k e at h = no_bits (get_or words (k / 32) 0) (k % 32) (ap (λ w. get_or words w 0) at ∙ e) h

-- ---- tables with what was copied

pub threads_copied : (f : ℕ → Option Queue) (after after' before before' : ℕ → ℕ) (set : ℕ → Bool) → Threads f after before set →
    ((i : ℕ) (q : Queue) → f i ≡ Some q → (after' i ≡ after i) × (before' i ≡ before i)) → ((q : Queue) → q.level < 256 → set (number_of q) ≡ true → after' (head_of q) ≡ after (head_of q)) → Threads f after' before' set
threads_copied f after after' before before' set t same heads = record {
  few = t.few;
  heads = λ q l. subst (λ n. IsNext f q 0 n) (first_same q l (set (number_of q)) refl) (t.heads q l);
  some = λ q l e. subst (λ n. n < 272) (sym (heads q l e)) (t.some q l e);
  next = λ i q e. subst (λ n. IsNext f q (i + 1) n) (sym (same i q e).0) (t.next i q e);
  last = λ i q e. subst (λ m. IsLast f q i m) (sym (same i q e).1) (t.last i q e);
} where
  first_same : (q : Queue) → q.level < 256 → (u : Bool) → set (number_of q) ≡ u → first_in set after q ≡ first_in set after' q
  first_same q l true e = ap (λ (u : Bool). cond u (after (head_of q)) 272) e ∙ sym (heads q l e) ∙ ap (λ (u : Bool). cond u (after' (head_of q)) 272) (sym e)
  first_same q l false e = ap (λ (u : Bool). cond u (after (head_of q)) 272) e ∙ ap (λ (u : Bool). cond u (after' (head_of q)) 272) (sym e)

-- two tables of lists with the same slots before an end, and none behind it
pub same_linked : (old l m : Linked) (end : ℕ) → length old ≡ 272 → length m ≡ 272 → IsCopied old l 0 end m → length l ≡ 272 → ((i : ℕ) → end ≤ i → i < 272 → queue_of old i ≡ None) → ((i : ℕ) → end ≤ i → i < 272 → queue_of l i ≡ None) → m ≡ l
same_linked old l m end lo lm h ll none_here none_there = ext_get_or None m l (lm ∙ sym ll) (λ i few. elim (below_or_not i end) [
  | inl b ↦ h.inside i None (omega arith) b
  | inr b ↦ h.outside i None (inr b) ∙ none_here i b (omega arith) ∙ sym (none_there i b (omega arith))
])

abbrev one : Option Queue → ℕ
one q = cond (is_some q) 1 0

not_some : (q : Option Queue) → one q ≡ 0 → q ≡ None
not_some None e = refl
not_some (Some q) e = absurd (omega arith)

-- where none is counted none is linked
none_counted : (l : Linked) → count_by (λ q. is_some q) l ≡ 0 → (i : ℕ) → queue_of l i ≡ None
none_counted l e i = elim (below_or_not i (length l)) [
  | inl h ↦ not_some (queue_of l i) (omega (arith, e, get_or-le-sum_by one l i None h))
  | inr h ↦ get_or_past l i None h
]

pub both_empty : (l m : Linked) → length l ≡ 272 → length m ≡ 272 → count_by (λ q. is_some q) l ≡ 0 → count_by (λ q. is_some q) m ≡ 0 → l ≡ m
both_empty l m ll lm el em = ext_get_or None l m (ll ∙ sym lm) (λ i _. none_counted l el i ∙ sym (none_counted m em i))

number_few : (q : Queue) → q.level < 256 → number_of q < 512
number_few q h = go q.level q.side h where
  go : (level : ℕ) (side : Side) → level < 256 → number_by level side < 512
  go level Secure l = omega arith
  go level NonSecure l = omega arith

abbrev at : List ℕ → ℕ → ℕ
at l i = get_or l i 0

-- the tables that a copy leaves thread the lists of the other
pub all_copied : (l : Linked) (after_old after_slots after' after before_old before' before words : List ℕ) (end : ℕ) → end ≤ 272 → ((i : ℕ) → end ≤ i → i < 272 → queue_of l i ≡ None) →
    IsCopied after_old after 0 end after_slots → IsCopied before_old before 0 end before' → ((i : ℕ) → i < 272 → at after' i ≡ at after_slots i) →
    ((k : ℕ) → k < 512 → is_set words k ≡ true → at after' (272 + k) ≡ at after (272 + k)) → Threads (queue_of l) (at after) (at before) (is_set words) → Threads (queue_of l) (at after') (at before') (is_set words)
all_copied l after_old after_slots after' after before_old before' before words end few none a b slots heads t =
    threads_copied (queue_of l) (at after) (at after') (at before) (at before') (is_set words) t (λ i q e.
    let few' = (t.few i q e).0 in
    let low : i < end = elim (below_or_not i end) [ inl k ↦ k | inr k ↦ absurd (not_none q (sym (none i k few') ∙ e)) ] in
    (slots i (omega arith) ∙ a.inside i 0 (omega arith) low, b.inside i 0 (omega arith) low)) (λ q f e. heads (number_of q) (number_few q f) e)
  where
    not_none : (q : Queue) → None ≡ Some q → ⊥
    not_none q e = cc
