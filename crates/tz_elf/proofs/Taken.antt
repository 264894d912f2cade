-- Ranges of addresses that segments take: what is free of them is clear of the segments, and one more range.
use Rattle.std.proofs.Common.{◌≡◌, ◌≢◌, ◌∙◌, ◌<◌, ◌≤◌, ◌+◌, ◌⊎◌, ℕ, Bool, true, false, refl, sym, ap, subst, arith, List, [], ◌∷◌, ◌++◌, length, Some, None, inl, inr, if◌then◌else◌}
use Rattle.std.specs.Prelude.{nat_le, IsSome}
use Rattle.std.specs.Ordering.{nat_cmp, is_eq}
use Rattle.std.specs.BTreeMap.{get, Updates}
use Rattle.std.proofs.lemmas.Bool.{cases_eq, cases_lt, le-leb, leb-true, or_cases, or_left, or_right}
use Rattle.std.proofs.lemmas.Bool.Decides.{nat_tests}
use Rattle.tz_model.specs.Image.{SegmentValue, end_of, is_clear_of}
use Rattle.tz_elf.specs.Placement.{first_sharing}
use Rattle.tz_elf.specs.Taken.{AreApart, AreFree, AreOf, Has, HasEach, Ranges}

-- ---- what the ranges tell

-- what is free of the ranges of segments shares no byte with them
pub first_sharing-free : (ranges : Ranges) (i : ℕ) (s : SegmentValue) (segments : List SegmentValue) → HasEach ranges segments → AreFree ranges s.base (end_of s)
    → first_sharing i s segments ≡ None
first_sharing-free ranges i s [] each free = refl
first_sharing-free ranges i s (q ∷ more) each free =
    let clear : is_clear_of q s ≡ true = elim (free q.base (end_of q) each.0) [
      | inl before ↦ or_left (nat_le (end_of q) s.base) (nat_le (end_of s) q.base) (le-leb (end_of q) s.base before)
      | inr after ↦ or_right (nat_le (end_of q) s.base) (nat_le (end_of s) q.base) (le-leb (end_of s) q.base after)
    ] in
    rw clear (first_sharing-free ranges (i + 1) s more each.1 free)

-- the same, where the ends of the segment are known by other names
pub first_sharing-free_from : (ranges : Ranges) (s : SegmentValue) (segments : List SegmentValue) (first past : ℕ) → first ≡ s.base → past ≡ end_of s
    → HasEach ranges segments → AreFree ranges first past → first_sharing 0 s segments ≡ None
first_sharing-free_from ranges s segments first past f p each free =
    let P : ℕ → Type 0 = λ n. AreFree ranges n (end_of s) in
    let Q : ℕ → Type 0 = λ n. AreFree ranges first n in
    first_sharing-free ranges 0 s segments each (subst P f (subst Q p free))

-- the last of the ranges that begin below an address
pub record Last (ranges : Ranges) (past from to : ℕ) : Type 0 where
  pub has : Has ranges from to
  pub below : from < past
  pub last : (q : ℕ) → q < past → IsSome (get nat_cmp ranges q) → q ≤ from

-- addresses up to there are free of all where the last range ends below them
pub AreFree-last : (ranges : Ranges) (first past from to : ℕ) → AreApart ranges → Last ranges past from to → to ≤ first → AreFree ranges first past
AreFree-last ranges first past from to apart last ends = λ k e h. by_order k e h
  where
    by_order : (k e : ℕ) → Has ranges k e → (e ≤ first) ⊎ (past ≤ k)
    by_order k e h =
        elim (cases_lt k past) [
          | inr after ↦ inr after
          | inl below ↦
              let some : IsSome (get nat_cmp ranges k) = rw h refl in
              let upto = last.last k below some in
              let long = apart.some from to last.has in
              elim (cases_lt k from) [
                | inl earlier ↦
                    let order = apart.apart k e from to h last.has earlier in
                    inl (omega (arith, order, long, ends))
                | inr here ↦
                    let at : k ≡ from = omega arith in
                    let same : Some e ≡ Some to = sym h ∙ ap (λ (a : ℕ). get nat_cmp ranges a) at ∙ last.has in
                    let end : e ≡ to = cc same in
                    inl (rw end ends)
              ]
        ]

-- and are not where it ends above their first
pub last-AreFree : (ranges : Ranges) (first past from to : ℕ) → Last ranges past from to → AreFree ranges first past → to ≤ first
last-AreFree ranges first past from to last free =
    elim (free from to last.has) [
      | inl before ↦ before
      | inr after ↦ absurd (omega (arith, last.below, after))
    ]

-- ---- one more range

is_at-other : (a b : ℕ) → a ≢ b → is_eq (nat_cmp a b) ≡ false
is_at-other a b differ = grind (arith, nat_tests)

-- a range behind the others is the new one or one of them
Has-after : (m n : Ranges) (first past k e : ℕ) → Updates nat_cmp m n first (Some past) → Has n k e → ((k ≡ first) × (e ≡ past)) ⊎ Has m k e
Has-after m n first past k e updates h =
    elim (cases_eq k first) [
      | inl same ↦
          let both : Some e ≡ Some past = sym h ∙ ap (λ (a : ℕ). get nat_cmp n a) same ∙ updates.1 in
          let end : e ≡ past = cc both in
          inl (same, end)
      | inr differ ↦ inr (sym (updates.2 k (is_at-other first k (λ e. differ (sym e)))) ∙ h)
    ]

Has-before : (m n : Ranges) (first past k e : ℕ) → Updates nat_cmp m n first (Some past) → k ≢ first → Has m k e → Has n k e
Has-before m n first past k e updates differ h = updates.2 k (is_at-other first k (λ e. differ (sym e))) ∙ h

AreApart-more : (m n : Ranges) (first past : ℕ) → AreApart m → first < past → AreFree m first past → Updates nat_cmp m n first (Some past) → AreApart n
AreApart-more m n first past old long free updates = record { some = λ k e h. by_some k e h; apart = λ k e j f hk hj order. by_apart k e j f hk hj order }
  where
    by_some : (k e : ℕ) → Has n k e → k < e
    by_some k e h = elim (Has-after m n first past k e updates h) [ inl new ↦ omega (arith, new.0, new.1, long) | inr before ↦ old.some k e before ]

    by_apart : (k e j f : ℕ) → Has n k e → Has n j f → k < j → e ≤ j
    by_apart k e j f hk hj order =
        elim (Has-after m n first past k e updates hk) [
          | inl new ↦ elim (Has-after m n first past j f updates hj) [
            | inl again ↦ omega (arith, new.0, again.0, order)
            | inr before ↦ elim (free j f before) [
              | inl low ↦
                  let some = old.some j f before in
                  omega (arith, new.0, low, some, order)
              | inr high ↦ omega (arith, new.1, high)
            ]
          ]
          | inr before ↦ elim (Has-after m n first past j f updates hj) [
            | inl new ↦ elim (free k e before) [ inl low ↦ omega (arith, new.0, low) | inr high ↦ omega (arith, new.0, high, long, order) ]
            | inr also ↦ old.apart k e j f before also order
          ]
        ]

HasEach-more : (m n : Ranges) (s : SegmentValue) (before : List SegmentValue) → AreApart m → s.base < end_of s → AreFree m s.base (end_of s)
    → Updates nat_cmp m n s.base (Some (end_of s)) → HasEach m before → HasEach n (before ++ s ∷ [])
HasEach-more m n s [] apart long free updates each = (updates.1, tt)
HasEach-more m n s (q ∷ more) apart long free updates each =
    let some = apart.some q.base (end_of q) each.0 in
    let differ : q.base ≢ s.base = λ same. elim (free q.base (end_of q) each.0) [
      | inl low ↦ omega (arith, same, low, some)
      | inr high ↦ omega (arith, same, high, long)
    ] in
    (Has-before m n s.base (end_of s) q.base (end_of q) updates differ each.0, HasEach-more m n s more apart long free updates each.1)

-- what shares no byte with segments and one more
first_sharing-more : (i : ℕ) (t s : SegmentValue) (before : List SegmentValue) → first_sharing i t (before ++ s ∷ []) ≡ None
    → (first_sharing i t before ≡ None) × (is_clear_of s t ≡ true)
first_sharing-more i t s [] none = (refl, by_test (is_clear_of s t) none)
  where
    by_test : (c : Bool) → (if c then None else Some i) ≡ None → c ≡ true
    by_test true h = refl
    by_test false h = cc h
first_sharing-more i t s (q ∷ more) none = by_test (is_clear_of q t) refl (first_sharing-more (i + 1) t s more) none
  where
    by_test : (c : Bool) → is_clear_of q t ≡ c
        → (first_sharing (i + 1) t (more ++ s ∷ []) ≡ None → (first_sharing (i + 1) t more ≡ None) × (is_clear_of s t ≡ true))
        → (if c then first_sharing (i + 1) t (more ++ s ∷ []) else Some i) ≡ None → (first_sharing i t (q ∷ more) ≡ None) × (is_clear_of s t ≡ true)
    by_test true c step h =
        let rest = step h in
        (rw c rest.0, rest.1)
    by_test false c step h = cc h

-- the ranges of segments, and that of one more
pub AreOf-push : (before : List SegmentValue) (s : SegmentValue) (m n : Ranges) → AreOf before m → 0 < length s.bytes → first_sharing 0 s before ≡ None
    → Updates nat_cmp m n s.base (Some (end_of s)) → AreOf (before ++ s ∷ []) n
AreOf-push before s m n old some none updates =
    let free = old.only s none in
    let long : s.base < end_of s = omega (arith, some) in
    record {
      apart = AreApart-more m n s.base (end_of s) old.apart long free updates;
      each = HasEach-more m n s before old.apart long free updates old.each;
      only = λ t clear. only_these t clear;
    }
  where
    only_these : (t : SegmentValue) → first_sharing 0 t (before ++ s ∷ []) ≡ None → AreFree n t.base (end_of t)
    only_these t clear = λ k e h. by_range (first_sharing-more 0 t s before clear) k e h
      where
        by_range : (first_sharing 0 t before ≡ None) × (is_clear_of s t ≡ true) → (k e : ℕ) → Has n k e → (e ≤ t.base) ⊎ (end_of t ≤ k)
        by_range parts k e h = elim (Has-after m n s.base (end_of s) k e updates h) [
          | inr before ↦ old.only t parts.0 k e before
          | inl new ↦ elim (or_cases (nat_le (end_of s) t.base) (nat_le (end_of t) s.base) parts.1) [
            | inl low ↦
                let order = leb-true (end_of s) t.base low in
                inl (rw new.1 order)
            | inr high ↦
                let order = leb-true (end_of t) s.base high in
                inr (rw new.0 order)
          ]
        ]

-- the same, where the ends of the segment are known by other names
pub AreOf-push_from : (before segments : List SegmentValue) (s : SegmentValue) (m n : Ranges) (first past : ℕ) → first ≡ s.base → past ≡ end_of s
    → segments ≡ before ++ s ∷ [] → AreOf before m → 0 < length s.bytes → first_sharing 0 s before ≡ None → Updates nat_cmp m n first (Some past) → AreOf segments n
AreOf-push_from before segments s m n first past f p put old some none updates =
    let P : ℕ → Type 0 = λ k. Updates nat_cmp m n k (Some (end_of s)) in
    let Q : ℕ → Type 0 = λ k. Updates nat_cmp m n first (Some k) in
    rw put (AreOf-push before s m n old some none (subst P f (subst Q p updates)))
