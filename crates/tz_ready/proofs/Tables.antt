-- The tables of `Ready` as functions of numbers, and what a write to one of them leaves.
use Rattle.std.proofs.Common.{◌≡◌, ◌≢◌, ℕ, ◌+◌, ◌<◌, true, List, length, get_or, set, Option, Some, None, inl, inr, refl, get_or-set_same, get_or-set_other, length-set, ap, sym, subst, ◌∙◌, arith}
use Rattle.std.specs.Prelude.{◌-◌, nat_le, ◌==◌, ◌&&◌, not, is_some, cond}
use Rattle.std.specs.List.{count_by}
use Rattle.std.proofs.lemmas.List.Sums.{sum_by-set}
use Rattle.tz_ready.specs.declared.queue.Queue.{Queue}
use Rattle.tz_ready.specs.Links.{Linked, queue_of}
use Rattle.tz_ready.specs.Levels.{is_set}
use Rattle.tz_table.specs.declared.units.Side.{Side}
use Rattle.tz_table.specs.declared.units.Side.TheVariants.{Secure, NonSecure}
use Rattle.tz_ready.specs.Threads.{number_by, number_of, behind, IsNext, IsLast, Threads}
use Rattle.tz_ready.proofs.Threading.{Differs, behind_slot, threads_with, threads_without}

abbrev at : List ℕ → ℕ → ℕ
at l i = get_or l i 0

pub differs : (l : Linked) (s : ℕ) (x : Option Queue) → s < length l → Differs (queue_of l) (queue_of (set l s x)) s x
differs l s x h = record { here = get_or-set_same l s x None h; others = λ j n. get_or-set_other l s j x None n }

-- two writes to one table, of which the later stands
at_first : (l : List ℕ) (s b x y : ℕ) → s < length l → s ≢ b → at (set (set l s x) b y) s ≡ x
at_first l s b x y h d = get_or-set_other (set l s x) b s y 0 d ∙ get_or-set_same l s x 0 h

at_second : (l : List ℕ) (s b x y : ℕ) → b < length l → at (set (set l s x) b y) b ≡ y
at_second l s b x y h = get_or-set_same (set l s x) b y 0 (grind (arith, length-set))

at_neither : (l : List ℕ) (s b x y j : ℕ) → j ≢ s → j ≢ b → at (set (set l s x) b y) j ≡ at l j
at_neither l s b x y j d e = get_or-set_other (set l s x) b j y 0 e ∙ get_or-set_other l s j x 0 d

-- the node before a slot stands in the table
pub node_few : (f : ℕ → Option Queue) (q : Queue) (i m : ℕ) → q.level < 256 → IsLast f q i m → m < 784
node_few f q i m e h = elim h.node [ inl l ↦ omega arith | inr k ↦ subst (λ n. n < 784) (sym k) (go q.level q.side e) ] where
  go : (level : ℕ) (side : Side) → level < 256 → 272 + number_by level side < 784
  go level Secure l = omega arith
  go level NonSecure l = omega arith

behind_itself : (f : ℕ → Option Queue) (q : Queue) (s m : ℕ) → s < 272 → IsLast f q s m → s ≢ m
behind_itself f q s m few h e = omega (arith, h.below, behind_slot s few, ap behind e)

after_itself : (f : ℕ → Option Queue) (q : Queue) (s n : ℕ) → IsNext f q (s + 1) n → s ≢ n
after_itself f q s n h e = omega (arith, h.from)

pub linked_threads : (l : Linked) (after before words words' : List ℕ) (s b a : ℕ) (q : Queue) → length l ≡ 272 → length after ≡ 784 → length before ≡ 273 → s < 272 → q.level < 256 → queue_of l s ≡ None →
    IsLast (queue_of l) q s b → IsNext (queue_of l) q (s + 1) a → is_set words' (number_of q) ≡ true → ((k : ℕ) → k ≢ number_of q → is_set words' k ≡ is_set words k) →
    Threads (queue_of l) (at after) (at before) (is_set words) → Threads (queue_of (set l s (Some q))) (at (set (set after s a) b s)) (at (set (set before s b) a s)) (is_set words')
linked_threads l after before words words' s b a q ls la lb few level free last next here others t =
    threads_with (queue_of l) (queue_of (set l s (Some q))) (at after) (at (set (set after s a) b s)) (at before) (at (set (set before s b) a s)) (is_set words) (is_set words') s b a q t (record {
      few = few;
      level = level;
      free = free;
      last = last;
      next = next;
      queues = differs l s (Some q) (omega arith);
      after_slot = at_first after s b a s (omega arith) (behind_itself (queue_of l) q s b few last);
      after_node = at_second after s b a s (omega (arith, node_few (queue_of l) q s b level last));
      after_others = λ x d e. at_neither after s b a s x d e;
      before_slot = at_first before s a b s (omega arith) (after_itself (queue_of l) q s a next);
      before_next = λ f. at_second before s a b s (omega arith);
      before_others = λ x d e. at_neither before s a b s x d e;
      set_here = here;
      set_others = others;
    })

pub unlinked_threads : (l : Linked) (after before words words' : List ℕ) (s : ℕ) (q : Queue) → length l ≡ 272 → length after ≡ 784 → length before ≡ 273 → queue_of l s ≡ Some q →
    is_set words' (number_of q) ≡ (is_set words (number_of q) && not (nat_le 272 (at before s) && at after s == 272)) → ((k : ℕ) → k ≢ number_of q → is_set words' k ≡ is_set words k) →
    Threads (queue_of l) (at after) (at before) (is_set words) → Threads (queue_of (set l s None)) (at (set after (at before s) (at after s))) (at (set before (at after s) (at before s))) (is_set words')
unlinked_threads l after before words words' s q ls la lb there here others t =
    let few = t.few s q there in
    threads_without (queue_of l) (queue_of (set l s None)) (at after) (at (set after (at before s) (at after s))) (at before) (at (set before (at after s) (at before s))) (is_set words) (is_set words') s (at before s) (at after s) q t (record {
      there = there;
      last = refl;
      next = refl;
      queues = differs l s None (omega (arith, few.0));
      after_node = get_or-set_same after (at before s) (at after s) 0 (omega (arith, node_few (queue_of l) q s (at before s) few.1 (t.last s q there)));
      after_others = λ x d. get_or-set_other after (at before s) x (at after s) 0 d;
      before_next = λ f. get_or-set_same before (at after s) (at before s) 0 (omega arith);
      before_others = λ x d. get_or-set_other before (at after s) x (at before s) 0 d;
      set_here = here;
      set_others = others;
    })

-- ---- how many are linked

abbrev one : Option Queue → ℕ
one q = cond (is_some q) 1 0

pub linked_count : (l : Linked) (s : ℕ) (q : Queue) → s < length l → queue_of l s ≡ None → count_by (λ q. is_some q) l + 1 ≡ count_by (λ q. is_some q) (set l s (Some q))
linked_count l s q h e = omega (arith, sum_by-set one l s (Some q) None h, ap one e)

pub unlinked_count : (l : Linked) (s : ℕ) (q : Queue) → s < length l → queue_of l s ≡ Some q → count_by (λ q. is_some q) l - 1 ≡ count_by (λ q. is_some q) (set l s None)
unlinked_count l s q h e = omega (arith, sum_by-set one l s None None h, ap one e)
