-- The slot that leads all that are ready.
use Rattle.std.proofs.Common.{◌≡◌, ◌≢◌, ◌⊎◌, inl, inr, ℕ, ◌+◌, ◌<◌, ◌≤◌, Bool, true, false, cond, Option, Some, None, refl, ap, sym, subst, ◌∙◌, arith}
use Rattle.std.specs.Prelude.{◌*◌, nat_lt, ◌&&◌, not, length}
use Rattle.std.proofs.lemmas.List.{get_or_past}
use Rattle.std.proofs.lemmas.Bool.Decides.{nat_tests}
use Rattle.tz_table.specs.declared.units.Side.{Side}
use Rattle.tz_table.specs.declared.units.Side.TheVariants.{Secure, NonSecure}
use Rattle.tz_ready.specs.declared.queue.Queue.{Queue}
use Rattle.tz_ready.specs.Links.{Linked, queue_of, IsBefore, IsFirst}
use Rattle.tz_state.specs.Slots.{ExceptionsValue, at, is_place, is_enabled, exception_number, side_at, has_fixed_priority}
use Rattle.tz_state.specs.First.{FitGroups}
use Rattle.tz_state.specs.Priority.{priority_of, subpriority_of, is_ready, rank_of, chosen_place}
use Rattle.tz_nvic.specs.declared.choice.Candidate.{Candidate}
use Rattle.tz_nvic.specs.Choice.{candidate_at, lower, IsLeading, Leads, IsOn}
use Rattle.tz_nvic.specs.Lists.{queue_at, AreLinked}
use Rattle.tz_nvic.proofs.Least.{least_found, least_is}
use Rattle.tz_nvic.proofs.Order.{slots_order}

abbrev Either : (ℕ → Type 0) → (ℕ → Type 0) → ℕ → Type 0
Either P Q j = P j ⊎ Q j

leads_more : (e : ExceptionsValue) (P Q : ℕ → Type 0) (c : Candidate) → IsLeading e P c → ((j : ℕ) → Q j → is_ready e j ≡ true → c.rank ≤ rank_of e j) → IsLeading e (Either P Q) c
leads_more e P Q c h more = record {
  few = h.few;
  ready = h.ready;
  rank = h.rank;
  least = λ j o r. elim o [ inl p ↦ h.least j p r | inr q ↦ more j q r ];
}

leads_turned : (e : ExceptionsValue) (P Q : ℕ → Type 0) (c : Candidate) → IsLeading e (Either Q P) c → IsLeading e (Either P Q) c
leads_turned e P Q c h = record {
  few = h.few;
  ready = h.ready;
  rank = h.rank;
  least = λ j o r. h.least j (elim o [ inl p ↦ inr p | inr q ↦ inl q ]) r;
}

lower_of_two : (e : ExceptionsValue) (P Q : ℕ → Type 0) (c d : Candidate) (t : Bool) → nat_lt c.rank d.rank ≡ t → IsLeading e P c → IsLeading e Q d → Leads e (Either P Q) (cond t (Some c) (Some d))
lower_of_two e P Q c d true l h g = let less : c.rank < d.rank = grind (arith, nat_tests) in leads_more e P Q c h (λ j q r. omega (arith, g.least j q r))
lower_of_two e P Q c d false l h g = let more : d.rank ≤ c.rank = grind (arith, nat_tests) in leads_turned e P Q d (leads_more e Q P d g (λ j p r. omega (arith, h.least j p r)))

pub lower_leads : (e : ExceptionsValue) (P Q : ℕ → Type 0) (a b : Option Candidate) → Leads e P a → Leads e Q b → Leads e (Either P Q) (lower a b)
lower_leads e P Q None None h g = λ j o r. elim o [ inl p ↦ h j p r | inr q ↦ g j q r ]
lower_leads e P Q None (Some d) h g = leads_turned e P Q d (leads_more e Q P d g (λ j p r. absurd (h j p r)))
lower_leads e P Q (Some c) None h g = leads_more e P Q c h (λ j q r. absurd (g j q r))
lower_leads e P Q (Some c) (Some d) h g = lower_of_two e P Q c d (nat_lt c.rank d.rank) refl h g

abbrev IsAt : ℕ → ℕ → Type 0
IsAt i j = j ≡ i

pub candidate_leads : (e : ExceptionsValue) (i : ℕ) → i < 272 → Leads e (IsAt i) (candidate_at e i)
candidate_leads e i few = go (is_ready e i) refl where
  not_both : (t : Bool) → t ≡ false → t ≡ true → ⊥
  not_both t f g = cc

  go : (t : Bool) → is_ready e i ≡ t → Leads e (IsAt i) (cond t (Some (record { place = i; rank = rank_of e i })) None)
  go true r = record { few = few; ready = r; rank = refl; least = λ j k _. subst (λ n. rank_of e i ≤ rank_of e n) (sym k) (omega arith) }
  go false r = λ j k q. not_both (is_ready e i) r (ap (is_ready e) (sym k) ∙ q)

-- ---- what is linked is ready

-- a slot that is linked in a list of a level of a side
record IsListed (e : ExceptionsValue) (i level : ℕ) (side : Side) : Type 0 where
  ready : is_ready e i ≡ true
  on : IsOn e side i
  level_is : (at e i).priority ≡ level

listed_by : (r f : Bool) (p q : Queue) → cond (r && not f) (Some p) None ≡ Some q → (r ≡ true) × (f ≡ false) × (p ≡ q)
listed_by false f p q h = cc
listed_by true true p q h = cc
listed_by true false p q h = (refl, refl, same p q h) where
  same : (p q : Queue) → Some p ≡ Some q → p ≡ q
  same p q h = cc

listed : (e : ExceptionsValue) (i level : ℕ) (side : Side) → queue_at e i ≡ Some (record { level = level; side = side }) → IsListed e i level side
listed e i level side h =
    let parts = listed_by (is_ready e i) (has_fixed_priority (exception_number i)) (record { level = (at e i).priority; side = side_at e i }) (record { level = level; side = side }) h in
    record { ready = parts.0; on = (parts.1, ap (λ (q : Queue). q.side) parts.2); level_is = ap (λ (q : Queue). q.level) parts.2 }

listed_back : (e : ExceptionsValue) (i : ℕ) (side : Side) → is_ready e i ≡ true → IsOn e side i → queue_at e i ≡ Some (record { level = (at e i).priority; side = side })
listed_back e i side r h =
    by_tests (is_ready e i) (has_fixed_priority (exception_number i)) (record { level = (at e i).priority; side = side_at e i }) r h.0
    ∙ ap (λ (s : Side). Some (record { level = (at e i).priority; side = s })) h.1
  where
    by_tests : (r f : Bool) (p : Queue) → r ≡ true → f ≡ false → cond (r && not f) (Some p) None ≡ Some p
    by_tests false f p a b = cc
    by_tests true true p a b = cc
    by_tests true false p a b = refl

few_linked : (l : Linked) (i : ℕ) (q : Queue) → length l ≡ 272 → queue_of l i ≡ Some q → i < 272
few_linked l i q many h = elim (below_or_not i 272) [
  | inl b ↦ b
  | inr b ↦ absurd (not_none q (sym (get_or_past l i None (omega arith)) ∙ h))
] where
  below_or_not : (i n : ℕ) → (i < n) ⊎ (n ≤ i)
  below_or_not i n = grind arith

  not_none : (q : Queue) → None ≡ Some q → ⊥
  not_none q h = cc

in_order : (e : ExceptionsValue) (i j level : ℕ) → (at e i).priority ≡ level → IsBefore level i (at e j).priority j → ((at e i).priority < (at e j).priority) ⊎ (((at e i).priority ≡ (at e j).priority) × (i ≤ j))
in_order e i j level k (inl l) = inl (omega arith)
in_order e i j level k (inr h) = inr (k ∙ h.0, h.1)

-- the first slot of a side's lists leads all of the side
pub first_leads : (e : ExceptionsValue) (l : Linked) (side : Side) (i : ℕ) → FitGroups e → AreLinked e l → IsFirst l side 0 i → Leads e (IsOn e side) (candidate_at e i)
first_leads e l side i fit g f =
    let h = listed e i f.level side (sym (g.each i) ∙ f.there.0) in
    let here : candidate_at e i ≡ Some (record { place = i; rank = rank_of e i }) = ap (λ (t : Bool). cond t (Some (record { place = i; rank = rank_of e i })) None) h.ready in
    subst (λ (o : Option Candidate). Leads e (IsOn e side) o) (sym here) (record {
      few = f.few;
      ready = h.ready;
      rank = refl;
      least = λ j on r.
          let there = g.each j ∙ listed_back e j side r on in
          slots_order e i j side fit (omega (arith, f.few)) (omega (arith, few_linked l j (record { level = (at e j).priority; side = side }) g.many there)) h.on on (in_order e i j f.level h.level_is (f.first j (at e j).priority (there, omega arith)));
    })

-- ---- all that are ready

and_left : (a b : Bool) → (a && b) ≡ true → a ≡ true
and_left true b h = refl
and_left false b h = cc

pub ready_place : (e : ExceptionsValue) (j : ℕ) → is_ready e j ≡ true → is_place e j ≡ true
ready_place e j h = and_left (is_place e j) ((at e j).pending && is_enabled e j) h

abbrev IsFixed : ℕ → Type 0
IsFixed = Either (IsAt 4) (Either (IsAt 6) (IsAt 7))

fixed_numbers : (j : ℕ) → has_fixed_priority (exception_number j) ≡ true → (j ≡ 4) ⊎ ((j ≡ 5) ⊎ ((j ≡ 6) ⊎ (j ≡ 7)))
fixed_numbers j h = grind (arith, nat_tests)

fixed_place : (e : ExceptionsValue) (j : ℕ) → is_place e j ≡ true → has_fixed_priority (exception_number j) ≡ true → IsFixed j
fixed_place e j p h = elim (fixed_numbers j h) [
  | inl a ↦ inl a
  | inr b ↦ elim b [ inl c ↦ absurd (no_place (ap (is_place e) (sym c) ∙ p)) | inr d ↦ inr d ]
] where
  no_place : false ≡ true → ⊥
  no_place k = cc

on_either : (e : ExceptionsValue) (j : ℕ) (side : Side) → has_fixed_priority (exception_number j) ≡ false → side_at e j ≡ side → Either (IsOn e Secure) (IsOn e NonSecure) j
on_either e j Secure f s = inl (f, s)
on_either e j NonSecure f s = inr (f, s)

abbrev pub IsAny : ExceptionsValue → ℕ → Type 0
IsAny e = Either IsFixed (Either (IsOn e Secure) (IsOn e NonSecure))

covered : (e : ExceptionsValue) (j : ℕ) → is_ready e j ≡ true → IsAny e j
covered e j r = go (has_fixed_priority (exception_number j)) refl where
  go : (t : Bool) → has_fixed_priority (exception_number j) ≡ t → IsAny e j
  go true f = inl (fixed_place e j (ready_place e j r) f)
  go false f = inr (on_either e j (side_at e j) f refl)

-- no two ranks are the same
rank_apart : (e : ExceptionsValue) (i j : ℕ) → i < 512 → j < 512 → i ≢ j → rank_of e i ≤ rank_of e j → rank_of e i < rank_of e j
unfolding rank_of
rank_apart e i j fi fj d h = apart (priority_of e i * 256 + subpriority_of e i) (priority_of e j * 256 + subpriority_of e j) i j fi fj d h where
  apart : (x y i j : ℕ) → i < 512 → j < 512 → i ≢ j → x * 512 + i ≤ y * 512 + j → x * 512 + i < y * 512 + j
  apart x y i j fi fj d h = grind arith

abbrev pub place_of : Option Candidate → Option ℕ
place_of None = None
place_of (Some c) = Some c.place

-- what leads all is chosen
pub leading_chosen : (e : ExceptionsValue) (o : Option Candidate) → Leads e (IsAny e) o → place_of o ≡ chosen_place e
leading_chosen e (Some c) h = sym (least_is (is_ready e) (rank_of e) 272 c.place h.few h.ready (λ j few r d.
    rank_apart e c.place j (omega (arith, h.few)) (omega arith) (λ k. d (sym k)) (subst (λ n. n ≤ rank_of e j) h.rank (h.least j (covered e j r) r))))
leading_chosen e None h = sym (none_least (chosen_place e) refl) where
  none_least : (o : Option ℕ) → chosen_place e ≡ o → chosen_place e ≡ None
  none_least None k = k
  none_least (Some b) k = let f = least_found (is_ready e) (rank_of e) 272 b k in absurd (h b (covered e b f.is_ready) f.is_ready)

all_lead : (e : ExceptionsValue) (nmi hard_s hard_ns secure nonsecure : Option Candidate) → nmi ≡ candidate_at e 4 → hard_s ≡ candidate_at e 6 → hard_ns ≡ candidate_at e 7 → Leads e (IsOn e Secure) secure → Leads e (IsOn e NonSecure) nonsecure →
    Leads e (IsAny e) (lower (lower nmi (lower hard_s hard_ns)) (lower secure nonsecure))
all_lead e nmi hard_s hard_ns secure nonsecure a b c s ns =
    let four = subst (λ (o : Option Candidate). Leads e (IsAt 4) o) (sym a) (candidate_leads e 4 (omega arith)) in
    let six = subst (λ (o : Option Candidate). Leads e (IsAt 6) o) (sym b) (candidate_leads e 6 (omega arith)) in
    let seven = subst (λ (o : Option Candidate). Leads e (IsAt 7) o) (sym c) (candidate_leads e 7 (omega arith)) in
    lower_leads e IsFixed (Either (IsOn e Secure) (IsOn e NonSecure)) (lower nmi (lower hard_s hard_ns)) (lower secure nonsecure)
    (lower_leads e (IsAt 4) (Either (IsAt 6) (IsAt 7)) nmi (lower hard_s hard_ns) four (lower_leads e (IsAt 6) (IsAt 7) hard_s hard_ns six seven))
    (lower_leads e (IsOn e Secure) (IsOn e NonSecure) secure nonsecure s ns)

pub found_leads : (e : ExceptionsValue) (nmi hard_s hard_ns hard secure nonsecure fixed sides found : Option Candidate) → nmi ≡ candidate_at e 4 → hard_s ≡ candidate_at e 6 → hard_ns ≡ candidate_at e 7 →
    Leads e (IsOn e Secure) secure → Leads e (IsOn e NonSecure) nonsecure → hard ≡ lower hard_s hard_ns → fixed ≡ lower nmi hard → sides ≡ lower secure nonsecure → found ≡ lower fixed sides → Leads e (IsAny e) found
found_leads e nmi hard_s hard_ns hard secure nonsecure fixed sides found a b c s ns h f t r =
    let same : lower (lower nmi (lower hard_s hard_ns)) (lower secure nonsecure) ≡ found = cc in
    subst (λ (o : Option Candidate). Leads e (IsAny e) o) same (all_lead e nmi hard_s hard_ns secure nonsecure a b c s ns)
