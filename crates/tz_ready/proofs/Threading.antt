-- What a slot that is linked, or taken out, leaves of the lists.
use Rattle.std.proofs.Common.{◌≡◌, ◌≢◌, ◌⊎◌, inl, inr, ℕ, ◌+◌, ◌<◌, ◌≤◌, Bool, true, false, cond, Option, Some, None, refl, sym, ap, ◌∙◌, subst, arith}
use Rattle.std.specs.Prelude.{nat_le, ◌==◌, ◌&&◌, not}
use Rattle.std.proofs.lemmas.Bool.Decides.{nat_tests}
use Rattle.tz_table.specs.declared.units.Side.{Side}
use Rattle.tz_table.specs.declared.units.Side.TheVariants.{Secure, NonSecure}
use Rattle.tz_ready.specs.declared.queue.Queue.{Queue}
use Rattle.tz_ready.specs.Links.{slots}
use Rattle.tz_ready.specs.Threads.{number_by, number_of, head_of, behind, IsNext, IsLast, first_in, Threads}

same_or_not : (a b : ℕ) → (a ≡ b) ⊎ (a ≢ b)
same_or_not a b = grind arith

less_or_more : (a b : ℕ) → a ≢ b → (a < b) ⊎ (b < a)
less_or_more a b d = grind arith

pub behind_slot : (m : ℕ) → m < 272 → behind m ≡ m + 1
behind_slot m h = grind (arith, nat_tests)

behind_head : (q : Queue) → behind (head_of q) ≡ 0
behind_head q = go (head_of q) (above q.level q.side) where
  above : (level : ℕ) (side : Side) → 272 ≤ 272 + number_by level side
  above level side = omega arith

  go : (m : ℕ) → 272 ≤ m → behind m ≡ 0
  go m h = grind (arith, nat_tests)

same_queue : (p q : Queue) → Some p ≡ Some q → p ≡ q
same_queue p q e = cc

none_is_none : (q : Queue) → None ≡ Some q → ⊥
none_is_none q e = cc

-- lists are told apart by their numbers
by_number : (l m : ℕ) (s t : Side) → l < 256 → m < 256 → number_by l s ≡ number_by m t → (l ≡ m) × (s ≡ t)
by_number l m Secure Secure f g e = (e, refl)
by_number l m Secure NonSecure f g e = absurd (omega arith)
by_number l m NonSecure Secure f g e = absurd (omega arith)
by_number l m NonSecure NonSecure f g e = (omega arith, refl)

abbrev queue : ℕ → Side → Queue
queue level side = record { level = level; side = side }

one_queue : (p q : Queue) → p.level < 256 → q.level < 256 → number_of p ≡ number_of q → p ≡ q
one_queue p q f g e = let h = by_number p.level q.level p.side q.side f g e in ap (λ l. queue l p.side) h.0 ∙ ap (λ s. queue q.level s) h.1

-- a table of lists that differs from another in one slot
pub record Differs (v w : ℕ → Option Queue) (s : ℕ) (x : Option Queue) : Type 0 where
  pub here : w s ≡ x
  pub others : (j : ℕ) → j ≢ s → w j ≡ v j

-- what isn't in list p beside the one slot, isn't there after
none_kept : (v w : ℕ → Option Queue) (s j : ℕ) (x : Option Queue) (p : Queue) → Differs v w s x → (j ≡ s → x ≡ Some p → ⊥) → (j ≢ s → v j ≡ Some p → ⊥) → w j ≡ Some p → ⊥
none_kept v w s j x p d here other e = elim (same_or_not j s) [
  | inl k ↦ here k (sym d.here ∙ (ap w (sym k) ∙ e))
  | inr n ↦ other n (sym (d.others j n) ∙ e)
]

next_kept : (v w : ℕ → Option Queue) (s i n : ℕ) (x : Option Queue) (p : Queue) → Differs v w s x → n ≢ s → (x ≡ Some p → i ≤ s → s < n → ⊥) → IsNext v p i n → IsNext w p i n
next_kept v w s i n x p d ne out h = record {
  from = h.from;
  few = h.few;
  there = λ l. d.others n ne ∙ h.there l;
  none = λ j l m. none_kept v w s j x p d (λ k e. out e (omega arith) (omega arith)) (λ _. h.none j l m);
}

last_kept : (v w : ℕ → Option Queue) (s i m : ℕ) (x : Option Queue) (p : Queue) → Differs v w s x → m ≢ s → (x ≡ Some p → behind m ≤ s → s < i → ⊥) → IsLast v p i m → IsLast w p i m
last_kept v w s i m x p d ne out h = record {
  node = h.node;
  below = h.below;
  there = λ l. d.others m ne ∙ h.there l;
  none = λ j l g. none_kept v w s j x p d (λ k e. out e (subst (λ t. behind m ≤ t) k l) (omega arith)) (λ _. h.none j l g);
}

-- ---- a slot that is linked

next_here : (v w : ℕ → Option Queue) (s b : ℕ) (q : Queue) → Differs v w s (Some q) → s < 272 → IsLast v q s b → IsNext w q (behind b) s
next_here v w s b q d few h = record {
  from = h.below;
  few = omega arith;
  there = λ _. d.here;
  none = λ j l m. none_kept v w s j (Some q) q d (λ k _. omega arith) (λ _. h.none j l m);
}

last_here : (v w : ℕ → Option Queue) (s a : ℕ) (q : Queue) → Differs v w s (Some q) → s < 272 → IsNext v q (s + 1) a → IsLast w q a s
last_here v w s a q d few h = record {
  node = inl few;
  below = subst (λ t. t ≤ a) (sym (behind_slot s few)) h.from;
  there = λ _. d.here;
  none = λ j l m. none_kept v w s j (Some q) q d (λ k _. omega (arith, behind_slot s few)) (λ _. h.none j (subst (λ t. t ≤ j) (behind_slot s few) l) m);
}

-- ---- a slot that is taken out

next_joined : (v w : ℕ → Option Queue) (s b a : ℕ) (q : Queue) → Differs v w s None → IsLast v q s b → IsNext v q (s + 1) a → IsNext w q (behind b) a
next_joined v w s b a q d h g = record {
  from = omega (arith, h.below, g.from);
  few = g.few;
  there = λ l. d.others a (λ e. omega (arith, g.from)) ∙ g.there l;
  none = λ j l m. none_kept v w s j None q d (λ _. none_is_none q) (λ n. elim (less_or_more j s n) [ inl k ↦ h.none j l k | inr k ↦ g.none j (omega arith) m ]);
}

last_joined : (v w : ℕ → Option Queue) (s b a : ℕ) (q : Queue) → Differs v w s None → IsLast v q s b → b ≢ s → IsNext v q (s + 1) a → IsLast w q a b
last_joined v w s b a q d h ne g = record {
  node = h.node;
  below = omega (arith, h.below, g.from);
  there = λ l. d.others b ne ∙ h.there l;
  none = λ j l m. none_kept v w s j None q d (λ _. none_is_none q) (λ n. elim (less_or_more j s n) [ inl k ↦ h.none j l k | inr k ↦ g.none j (omega arith) m ]);
}

-- ---- neighbours are unique

last_unique : (v : ℕ → Option Queue) (s b i n : ℕ) (q : Queue) → IsLast v q s b → v i ≡ Some q → i < s → s ≤ n → IsNext v q (i + 1) n → i ≡ b
last_unique v s b i n q h e l m g = elim h.node [
  | inl few ↦ elim (same_or_not i b) [
    | inl k ↦ k
    | inr k ↦ elim (less_or_more i b k) [
      | inl o ↦ absurd (g.none b (omega arith) (omega (arith, h.below, behind_slot b few)) (h.there few))
      | inr o ↦ absurd (h.none i (omega (arith, behind_slot b few)) l e)
    ]
  ]
  | inr head ↦ absurd (h.none i (omega (arith, ap behind head, behind_head q)) l e)
]

first_unique : (v : ℕ → Option Queue) (s a i m : ℕ) (q : Queue) → IsNext v q (s + 1) a → v i ≡ Some q → i < 272 → s < i → behind m ≤ s + 1 → IsLast v q i m → i ≡ a
first_unique v s a i m q g e few l below h = elim (same_or_not i a) [
  | inl k ↦ k
  | inr k ↦ elim (less_or_more i a k) [
    | inl o ↦ absurd (g.none i (omega arith) o e)
    | inr o ↦ absurd (h.none a (omega (arith, g.from)) o (g.there (omega arith)))
  ]
]

-- ---- all tables after a slot was linked

pub record Links (v w : ℕ → Option Queue) (after after' before before' : ℕ → ℕ) (set set' : ℕ → Bool) (s b a : ℕ) (q : Queue) : Type 0 where
  pub few : s < 272
  pub level : q.level < 256
  pub free : v s ≡ None
  pub last : IsLast v q s b
  pub next : IsNext v q (s + 1) a
  pub queues : Differs v w s (Some q)
  pub after_slot : after' s ≡ a
  pub after_node : after' b ≡ s
  pub after_others : (x : ℕ) → x ≢ s → x ≢ b → after' x ≡ after x
  pub before_slot : before' s ≡ b
  pub before_next : a < 272 → before' a ≡ s
  pub before_others : (x : ℕ) → x ≢ s → x ≢ a → before' x ≡ before x
  pub set_here : set' (number_of q) ≡ true
  pub set_others : (k : ℕ) → k ≢ number_of q → set' k ≡ set k

some_or_none : (v : ℕ → Option Queue) (s n : ℕ) (p : Queue) → v s ≡ None → v n ≡ Some p → n ≢ s
some_or_none v s n p f e k = none_is_none p (sym f ∙ (ap v (sym k) ∙ e))

-- the first of a list isn't a slot that stands in none
not_first : (v : ℕ → Option Queue) (s i n : ℕ) (p : Queue) → s < 272 → v s ≡ None → IsNext v p i n → n ≢ s
not_first v s i n p few f h k = some_or_none v s n p f (h.there (omega arith)) k

-- a head is no slot, and heads are told apart by the numbers of their lists
not_head : (p : Queue) (i : ℕ) → i < 272 → head_of p ≡ i → ⊥
not_head p i f k = go p.level p.side k where
  go : (level : ℕ) (side : Side) → 272 + number_by level side ≡ i → ⊥
  go level side e = omega arith

head_high : (b : ℕ) (p : Queue) → b ≡ head_of p → 272 ≤ b
head_high b p k = go p.level p.side k where
  go : (level : ℕ) (side : Side) → b ≡ 272 + number_by level side → 272 ≤ b
  go level side e = omega arith

same_head : (p q : Queue) → head_of p ≡ head_of q → number_of p ≡ number_of q
same_head p q k = go (number_of p) (number_of q) k where
  go : (m n : ℕ) → 272 + m ≡ 272 + n → m ≡ n
  go m n e = omega arith

module _ (v w : ℕ → Option Queue) (after after' before before' : ℕ → ℕ) (set set' : ℕ → Bool) (s b a : ℕ) (q : Queue) (t : Threads v after before set) (l : Links v w after after' before before' set set' s b a q) where
  linked_not_after : a ≢ s
  linked_not_after k = omega (arith, l.next.from)

  linked_slot_next : IsNext w q (s + 1) (after' s)
  linked_slot_next = rw l.after_slot (next_kept v w s (s + 1) a (Some q) q l.queues linked_not_after (λ _ g _. omega arith) l.next)

  linked_node_next : b < 272 → IsNext w q (b + 1) (after' b)
  linked_node_next f = rw l.after_node (subst (λ i. IsNext w q i s) (behind_slot b f) (next_here v w s b q l.queues l.few l.last))

  linked_other_next : (i : ℕ) (p : Queue) → v i ≡ Some p → i ≢ s → i ≢ b → IsNext w p (i + 1) (after' i)
  linked_other_next i p e ns nb =
      let n = t.next i p e in
      rw (l.after_others i ns nb)
      (next_kept v w s (i + 1) (after i) (Some q) p l.queues (not_first v s (i + 1) (after i) p l.few l.free n)
      (λ x g m. nb (last_unique v s b i (after i) q l.last (e ∙ sym x) (omega arith) (omega arith) (subst (λ r. IsNext v r (i + 1) (after i)) (sym (same_queue q p x)) n)))
      n)

  linked_next : (i : ℕ) (p : Queue) → w i ≡ Some p → IsNext w p (i + 1) (after' i)
  linked_next i p e = elim (same_or_not i s) [
    | inl k ↦ (let x : p ≡ q = same_queue p q (sym e ∙ (ap w k ∙ l.queues.here)) in
        subst (λ j. IsNext w p (j + 1) (after' j)) (sym k) (subst (λ r. IsNext w r (s + 1) (after' s)) (sym x) linked_slot_next))
    | inr ns ↦ (let old : v i ≡ Some p = sym (l.queues.others i ns) ∙ e in
        elim (same_or_not i b) [
          | inl k ↦ (let f : b < 272 = subst (λ j. j < 272) k (t.few i p old).0 in
              let x : p ≡ q = same_queue p q (sym old ∙ (ap v k ∙ l.last.there f)) in
              subst (λ j. IsNext w p (j + 1) (after' j)) (sym k) (subst (λ r. IsNext w r (b + 1) (after' b)) (sym x) (linked_node_next f)))
          | inr nb ↦ linked_other_next i p old ns nb
        ])
  ]

  linked_not_before : b ≢ s
  linked_not_before k = omega (arith, l.last.below, behind_slot s l.few, ap behind k)

  linked_slot_last : IsLast w q s (before' s)
  linked_slot_last = rw l.before_slot (last_kept v w s s b (Some q) q l.queues linked_not_before (λ _ _ m. omega arith) l.last)

  linked_next_last : a < 272 → IsLast w q a (before' a)
  linked_next_last f = subst (λ m. IsLast w q a m) (sym (l.before_next f)) (last_here v w s a q l.queues l.few l.next)

  linked_not_last : (i m : ℕ) (p : Queue) → IsLast v p i m → m ≢ s
  linked_not_last i m p h k = some_or_none v s m p l.free (h.there (omega (arith, l.few))) k

  linked_other_last : (i : ℕ) (p : Queue) → v i ≡ Some p → i ≢ s → i ≢ a → IsLast w p i (before' i)
  linked_other_last i p e ns na =
      let m = t.last i p e in
      rw (l.before_others i ns na)
      (last_kept v w s i (before i) (Some q) p l.queues (linked_not_last i (before i) p m)
      (λ x g o. na (first_unique v s a i (before i) q l.next (e ∙ sym x) (t.few i p e).0 o (omega arith) (subst (λ r. IsLast v r i (before i)) (sym (same_queue q p x)) m)))
      m)

  linked_last : (i : ℕ) (p : Queue) → w i ≡ Some p → IsLast w p i (before' i)
  linked_last i p e = elim (same_or_not i s) [
    | inl k ↦ (let x : p ≡ q = same_queue p q (sym e ∙ (ap w k ∙ l.queues.here)) in
        subst (λ j. IsLast w p j (before' j)) (sym k) (subst (λ r. IsLast w r s (before' s)) (sym x) linked_slot_last))
    | inr ns ↦ (let old : v i ≡ Some p = sym (l.queues.others i ns) ∙ e in
        elim (same_or_not i a) [
          | inl k ↦ (let f : a < 272 = subst (λ j. j < 272) k (t.few i p old).0 in
              let x : p ≡ q = same_queue p q (sym old ∙ (ap v k ∙ l.next.there f)) in
              subst (λ j. IsLast w p j (before' j)) (sym k) (subst (λ r. IsLast w r a (before' a)) (sym x) (linked_next_last f)))
          | inr na ↦ linked_other_last i p old ns na
        ])
  ]

  linked_few : (i : ℕ) (p : Queue) → w i ≡ Some p → (i < slots) × (p.level < 256)
  linked_few i p e = elim (same_or_not i s) [
    | inl k ↦ (let x : q ≡ p = same_queue q p (sym l.queues.here ∙ (ap w (sym k) ∙ e)) in
        (subst (λ j. j < 272) (sym k) l.few, subst (λ (r : Queue). r.level < 256) x l.level))
    | inr ns ↦ t.few i p (sym (l.queues.others i ns) ∙ e)
  ]

  -- a list in which a slot stands below the new one isn't empty, and its first stays
  linked_not_empty : b < 272 → (u : Bool) → set (number_of q) ≡ u → IsNext w q 0 (after' (head_of q)) × (after' (head_of q) < 272)
  linked_not_empty f true e =
      let n : IsNext v q 0 (after (head_of q)) = subst (λ (u : Bool). IsNext v q 0 (cond u (after (head_of q)) 272)) e (t.heads q l.level) in
      let same : after' (head_of q) ≡ after (head_of q) = l.after_others (head_of q) (λ k. not_head q s l.few k) (λ k. not_head q b f k) in (
        rw same (next_kept v w s 0 (after (head_of q)) (Some q) q l.queues (not_first v s 0 (after (head_of q)) q l.few l.free n)
            (λ _ _ m. n.none b (omega arith) (omega (arith, l.last.below, behind_slot b f)) (l.last.there f)) n),
        subst (λ m. m < 272) (sym same) (t.some q l.level e),
      )
  linked_not_empty f false e =
      let n : IsNext v q 0 272 = subst (λ (u : Bool). IsNext v q 0 (cond u (after (head_of q)) 272)) e (t.heads q l.level) in
      absurd (n.none b (omega arith) f (l.last.there f))

  linked_head : IsNext w q 0 (after' (head_of q)) × (after' (head_of q) < 272)
  linked_head = elim l.last.node [
    | inl f ↦ linked_not_empty f (set (number_of q)) refl
    | inr k ↦ (let same : after' (head_of q) ≡ s = ap after' (sym k) ∙ l.after_node in (
      subst (λ m. IsNext w q 0 m) (sym same) (subst (λ i. IsNext w q i s) (ap behind k ∙ behind_head q) (next_here v w s b q l.queues l.few l.last)),
      subst (λ m. m < 272) (sym same) l.few,
    ))
  ]

  other_number : (p : Queue) → p.level < 256 → number_of p ≢ number_of q → Some q ≡ Some p → ⊥
  other_number p f d e = d (ap number_of (sym (same_queue q p e)))

  linked_other_after : (p : Queue) → number_of p ≢ number_of q → after' (head_of p) ≡ after (head_of p)
  linked_other_after p d = l.after_others (head_of p) (λ k. not_head p s l.few k)
      (λ k. elim l.last.node [ inl f ↦ not_head p b f k | inr h ↦ d (same_head p q (k ∙ h)) ])

  linked_heads : (p : Queue) → p.level < 256 → IsNext w p 0 (first_in set' after' p)
  linked_heads p f = elim (same_or_not (number_of p) (number_of q)) [
    | inl k ↦ (let x : q ≡ p = one_queue q p l.level f (sym k) in
        subst (λ r. IsNext w r 0 (first_in set' after' r)) x (subst (λ (u : Bool). IsNext w q 0 (cond u (after' (head_of q)) 272)) (sym l.set_here) linked_head.0))
    | inr d ↦ (let n = t.heads p f in
        let same : first_in set' after' p ≡ first_in set after p =
        ap (λ (u : Bool). cond u (after' (head_of p)) 272) (l.set_others (number_of p) d) ∙ ap (λ m. cond (set (number_of p)) m 272) (linked_other_after p d) in
        rw same (next_kept v w s 0 (first_in set after p) (Some q) p l.queues (not_first v s 0 (first_in set after p) p l.few l.free n) (λ e _ _. other_number p f d e) n))
  ]

  linked_some : (p : Queue) → p.level < 256 → set' (number_of p) ≡ true → after' (head_of p) < 272
  linked_some p f e = elim (same_or_not (number_of p) (number_of q)) [
    | inl k ↦ subst (λ r. after' (head_of r) < 272) (one_queue q p l.level f (sym k)) linked_head.1
    | inr d ↦ subst (λ m. m < 272) (sym (linked_other_after p d)) (t.some p f (sym (l.set_others (number_of p) d) ∙ e))
  ]

  pub threads_with : Threads w after' before' set'
  threads_with = record { few = linked_few; heads = linked_heads; some = linked_some; next = linked_next; last = linked_last }

-- ---- all tables after a slot was taken out

pub record Unlinks (v w : ℕ → Option Queue) (after after' before before' : ℕ → ℕ) (set set' : ℕ → Bool) (s b a : ℕ) (q : Queue) : Type 0 where
  pub there : v s ≡ Some q
  pub last : b ≡ before s
  pub next : a ≡ after s
  pub queues : Differs v w s None
  pub after_node : after' b ≡ a
  pub after_others : (x : ℕ) → x ≢ b → after' x ≡ after x
  pub before_next : a < 272 → before' a ≡ b
  pub before_others : (x : ℕ) → x ≢ a → before' x ≡ before x
  pub set_here : set' (number_of q) ≡ (set (number_of q) && not (nat_le 272 b && a == 272))
  pub set_others : (k : ℕ) → k ≢ number_of q → set' k ≡ set k

slot_stays : (u : Bool) (b a : ℕ) → b < 272 → (u && not (nat_le 272 b && a == 272)) ≡ u
slot_stays u b a f = let no_head : nat_le 272 b ≡ false = grind (arith, nat_tests) in rw no_head (and_true u) where
  and_true : (u : Bool) → (u && true) ≡ u
  and_true true = refl
  and_true false = refl

-- of a list whose first is taken out the next is the first, where there is one
pub record FirstGoes (a : ℕ) (u : Bool) : Type 0 where
  pub leads : cond u a 272 ≡ a
  pub some : u ≡ true → a < 272

first_goes : (b a : ℕ) → 272 ≤ b → a ≤ 272 → FirstGoes a (not (nat_le 272 b && a == 272))
first_goes b a h f =
    let head : nat_le 272 b ≡ true = grind (arith, nat_tests) in
    subst (λ (t : Bool). FirstGoes a (not (t && a == 272))) (sym head) (go (a == 272) refl) where
      go : (t : Bool) → (a == 272) ≡ t → FirstGoes a (not t)
      go true e = let end : a ≡ 272 = grind (arith, nat_tests) in record { leads = sym end; some = λ x. absurd cc }
      go false e = let on : a < 272 = grind (arith, nat_tests) in record { leads = refl; some = λ _. on }

module _ (v w : ℕ → Option Queue) (after after' before before' : ℕ → ℕ) (set set' : ℕ → Bool) (s b a : ℕ) (q : Queue) (t : Threads v after before set) (l : Unlinks v w after after' before before' set set' s b a q) where
  gone_few : s < 272
  gone_few = (t.few s q l.there).0

  gone_level : q.level < 256
  gone_level = (t.few s q l.there).1

  gone_last : IsLast v q s b
  gone_last = subst (λ m. IsLast v q s m) (sym l.last) (t.last s q l.there)

  gone_next : IsNext v q (s + 1) a
  gone_next = subst (λ n. IsNext v q (s + 1) n) (sym l.next) (t.next s q l.there)

  gone_before : b ≢ s
  gone_before k = omega (arith, gone_last.below, behind_slot s gone_few, ap behind k)

  not_gone : (i : ℕ) (p : Queue) → w i ≡ Some p → i ≢ s
  not_gone i p e k = none_is_none p (sym l.queues.here ∙ (ap w (sym k) ∙ e))

  left_in : (i : ℕ) (p : Queue) → w i ≡ Some p → v i ≡ Some p
  left_in i p e = sym (l.queues.others i (not_gone i p e)) ∙ e

  stays_next : (p : Queue) (i n : ℕ) → n ≢ s → IsNext v p i n → IsNext w p i n
  stays_next p i n d h = next_kept v w s i n None p l.queues d (λ x _ _. none_is_none p x) h

  gone_node_next : b < 272 → IsNext w q (b + 1) (after' b)
  gone_node_next f = rw l.after_node (subst (λ i. IsNext w q i a) (behind_slot b f) (next_joined v w s b a q l.queues gone_last gone_next))

  gone_not_after : (i : ℕ) (p : Queue) → v i ≡ Some p → i ≢ b → after i ≢ s
  gone_not_after i p e nb k =
      let n : IsNext v p (i + 1) s = subst (λ m. IsNext v p (i + 1) m) k (t.next i p e) in
      let x : p ≡ q = same_queue p q (sym (n.there gone_few) ∙ l.there) in
      nb (last_unique v s b i s q gone_last (e ∙ ap (λ r. Some r) x) (omega (arith, n.from)) (omega arith) (subst (λ r. IsNext v r (i + 1) s) x n))

  unlinked_next : (i : ℕ) (p : Queue) → w i ≡ Some p → IsNext w p (i + 1) (after' i)
  unlinked_next i p e =
      let old : v i ≡ Some p = left_in i p e in
      elim (same_or_not i b) [
        | inl k ↦ (let f : b < 272 = subst (λ j. j < 272) k (t.few i p old).0 in
            let x : p ≡ q = same_queue p q (sym old ∙ (ap v k ∙ gone_last.there f)) in
            subst (λ j. IsNext w p (j + 1) (after' j)) (sym k) (subst (λ r. IsNext w r (b + 1) (after' b)) (sym x) (gone_node_next f)))
        | inr nb ↦ subst (λ m. IsNext w p (i + 1) m) (sym (l.after_others i nb)) (stays_next p (i + 1) (after i) (gone_not_after i p old nb) (t.next i p old))
      ]

  gone_next_last : a < 272 → IsLast w q a (before' a)
  gone_next_last f = subst (λ m. IsLast w q a m) (sym (l.before_next f)) (last_joined v w s b a q l.queues gone_last gone_before gone_next)

  gone_not_before : (i : ℕ) (p : Queue) → v i ≡ Some p → i ≢ a → before i ≢ s
  gone_not_before i p e na k =
      let m : IsLast v p i s = subst (λ m. IsLast v p i m) k (t.last i p e) in
      let x : p ≡ q = same_queue p q (sym (m.there gone_few) ∙ l.there) in
      na (first_unique v s a i s q gone_next (e ∙ ap (λ r. Some r) x) (t.few i p e).0 (omega (arith, m.below, behind_slot s gone_few)) (omega (arith, behind_slot s gone_few)) (subst (λ r. IsLast v r i s) x m))

  unlinked_last : (i : ℕ) (p : Queue) → w i ≡ Some p → IsLast w p i (before' i)
  unlinked_last i p e =
      let old : v i ≡ Some p = left_in i p e in
      elim (same_or_not i a) [
        | inl k ↦ (let f : a < 272 = subst (λ j. j < 272) k (t.few i p old).0 in
            let x : p ≡ q = same_queue p q (sym old ∙ (ap v k ∙ gone_next.there f)) in
            subst (λ j. IsLast w p j (before' j)) (sym k) (subst (λ r. IsLast w r a (before' a)) (sym x) (gone_next_last f)))
        | inr na ↦ subst (λ m. IsLast w p i m) (sym (l.before_others i na))
            (last_kept v w s i (before i) None p l.queues (gone_not_before i p old na) (λ x _ _. none_is_none p x) (t.last i p old))
      ]

  -- the list of the slot isn't empty before
  gone_set : (u : Bool) → set (number_of q) ≡ u → u ≡ true
  gone_set true e = refl
  gone_set false e =
      let n : IsNext v q 0 272 = subst (λ (u : Bool). IsNext v q 0 (cond u (after (head_of q)) 272)) e (t.heads q gone_level) in
      absurd (n.none s (omega arith) gone_few l.there)

  was_set : set (number_of q) ≡ true
  was_set = gone_set (set (number_of q)) refl

  old_first : IsNext v q 0 (after (head_of q))
  old_first = subst (λ (u : Bool). IsNext v q 0 (cond u (after (head_of q)) 272)) was_set (t.heads q gone_level)

  -- another slot is the first
  gone_behind : b < 272 → IsNext w q 0 (first_in set' after' q) × (after' (head_of q) < 272)
  gone_behind f =
      let bit : set' (number_of q) ≡ true = l.set_here ∙ slot_stays (set (number_of q)) b a f ∙ was_set in
      let same : after' (head_of q) ≡ after (head_of q) = l.after_others (head_of q) (λ k. not_head q b f k) in
      let before_slot : after (head_of q) ≢ s = (λ k. old_first.none b (omega arith) (omega (arith, gone_last.below, behind_slot b f)) (gone_last.there f)) in (
        subst (λ (u : Bool). IsNext w q 0 (cond u (after' (head_of q)) 272)) (sym bit) (subst (λ m. IsNext w q 0 m) (sym same) (stays_next q 0 (after (head_of q)) before_slot old_first)),
        subst (λ m. m < 272) (sym same) (t.some q gone_level was_set),
      )

  -- it was the first itself
  gone_first : b ≡ head_of q → IsNext w q 0 (first_in set' after' q) × (set' (number_of q) ≡ true → after' (head_of q) < 272)
  gone_first k =
      let same : after' (head_of q) ≡ a = ap after' (sym k) ∙ l.after_node in
      let bit : set' (number_of q) ≡ not (nat_le 272 b && a == 272) = l.set_here ∙ ap (λ (u : Bool). u && not (nat_le 272 b && a == 272)) was_set in
      let goes = first_goes b a (head_high b q k) gone_next.few in
      let leads : first_in set' after' q ≡ a = ap (λ (u : Bool). cond u (after' (head_of q)) 272) bit ∙ (ap (λ m. cond (not (nat_le 272 b && a == 272)) m 272) same ∙ goes.leads) in (
        subst (λ m. IsNext w q 0 m) (sym leads) (subst (λ i. IsNext w q i a) (ap behind k ∙ behind_head q) (next_joined v w s b a q l.queues gone_last gone_next)),
        λ e. subst (λ m. m < 272) (sym same) (goes.some (sym bit ∙ e)),
      )

  gone_head : IsNext w q 0 (first_in set' after' q) × (set' (number_of q) ≡ true → after' (head_of q) < 272)
  gone_head = elim gone_last.node [ inl f ↦ ((gone_behind f).0, λ _. (gone_behind f).1) | inr k ↦ gone_first k ]

  gone_other_after : (p : Queue) → number_of p ≢ number_of q → after' (head_of p) ≡ after (head_of p)
  gone_other_after p d = l.after_others (head_of p) (λ k. elim gone_last.node [ inl f ↦ not_head p b f k | inr h ↦ d (same_head p q (k ∙ h)) ])

  gone_other_first : (p : Queue) (n : ℕ) → number_of p ≢ number_of q → IsNext v p 0 n → n ≢ s
  gone_other_first p n d h k = d (ap number_of (same_queue p q (sym (h.there (subst (λ j. j < 272) (sym k) gone_few)) ∙ (ap v k ∙ l.there))))

  unlinked_heads : (p : Queue) → p.level < 256 → IsNext w p 0 (first_in set' after' p)
  unlinked_heads p f = elim (same_or_not (number_of p) (number_of q)) [
    | inl k ↦ subst (λ r. IsNext w r 0 (first_in set' after' r)) (one_queue q p gone_level f (sym k)) gone_head.0
    | inr d ↦ (let n = t.heads p f in
        let same : first_in set' after' p ≡ first_in set after p =
        ap (λ (u : Bool). cond u (after' (head_of p)) 272) (l.set_others (number_of p) d) ∙ ap (λ m. cond (set (number_of p)) m 272) (gone_other_after p d) in
        rw same (stays_next p 0 (first_in set after p) (gone_other_first p (first_in set after p) d n) n))
  ]

  unlinked_some : (p : Queue) → p.level < 256 → set' (number_of p) ≡ true → after' (head_of p) < 272
  unlinked_some p f e = elim (same_or_not (number_of p) (number_of q)) [
    | inl k ↦ subst (λ r. after' (head_of r) < 272) (one_queue q p gone_level f (sym k)) (gone_head.1 (ap set' (sym k) ∙ e))
    | inr d ↦ subst (λ m. m < 272) (sym (gone_other_after p d)) (t.some p f (sym (l.set_others (number_of p) d) ∙ e))
  ]

  pub threads_without : Threads w after' before' set'
  threads_without = record { few = λ i p e. t.few i p (left_in i p e); heads = unlinked_heads; some = unlinked_some; next = unlinked_next; last = unlinked_last }
