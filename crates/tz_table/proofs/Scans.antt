-- What is known of a code leaves few rows to test, and no code is in two rows.
use Rattle.std.proofs.Common.{◌≡◌, ℕ, suc, zero, ◌<◌, Bool, true, false, not, ◌&&◌, ◌||◌, cond, List, [], ◌∷◌, refl, sym, ◌∙◌, ap, inl, inr, arith, Some}
use Rattle.std.specs.Prelude.{slice_get}
use Rattle.std.specs.List.{list_all, list_any}
use Rattle.std.proofs.lemmas.Bool.{cases_order, and_parts, and_from, and_left, and_right, or_cases, or_from, or_left, or_right, not-true, both_ways, cases_Bool, false_from_ne_true, cond-true, cond-false}
use Rattle.tz_table.specs.Patterns.{Cube, Pattern, Field, has, has_all, has_any, in_cube, fits}
use Rattle.tz_table.specs.Rows.{TableRow, RefusedCodes, holds, refused, scan}
use Rattle.tz_table.proofs.Reduction.{meet, inside, implies, cube_of, cube_of_all, apart, all_apart, everything, fields_left, rules_out, excluded, kept, left_of, reduce, refusals_left}
use Rattle.tz_table.specs.declared.decoded.Decoded.{Decoded}
use Rattle.tz_table.specs.declared.decoded.Decoded.TheVariants.{One}
use Rattle.tz_table.proofs.Cubes.{InCube, InCube-from, in_cube-from, not_apart, meet-from, inside-from, InCube-from_has, has-from_InCube}

-- ---- tests of lists of fields
pub has_all-head : (x : Field) (xs : List Field) (f s : ℕ) → has_all (x ∷ xs) f s ≡ (has x f s && has_all xs f s)
has_all-head x [] f s = elim (has x f s) as (λ b. b ≡ (b && true)) [ true ↦ refl | false ↦ refl ]
has_all-head x (y ∷ xs) f s = refl

pub has_any-head : (x : List Field) (xs : List (List Field)) (f s : ℕ) → has_any (x ∷ xs) f s ≡ (has_all x f s || has_any xs f s)
has_any-head x [] f s = elim (has_all x f s) as (λ b. b ≡ (b || false)) [ true ↦ refl | false ↦ refl ]
has_any-head x (y ∷ xs) f s = refl

pub InCube-from_all : (xs : List Field) (f s : ℕ) → has_all xs f s ≡ true → InCube (cube_of_all xs) f s
InCube-from_all [] f s h = record { first = refl; second = refl }
InCube-from_all (x ∷ xs) f s h =
    let parts = and_parts (has x f s) (has_all xs f s) (sym (has_all-head x xs f s) ∙ h) in
    meet-from (cube_of x) (cube_of_all xs) f s (InCube-from_has x f s parts.0) (InCube-from_all xs f s parts.1)

pub has_all-implied : (a : Cube) (xs : List Field) (f s : ℕ) → InCube a f s → implies a xs ≡ true → has_all xs f s ≡ true
has_all-implied a [] f s p h = refl
has_all-implied a (x ∷ xs) f s p h =
    let parts = and_parts (inside a (cube_of x)) (implies a xs) h in
    has_all-head x xs f s ∙ and_from _ _ (has-from_InCube x f s (inside-from a (cube_of x) f s parts.0 p)) (has_all-implied a xs f s p parts.1)

pub has_any-implied : (a : Cube) (es : List (List Field)) (f s : ℕ) → InCube a f s → list_any (implies a) es ≡ true → has_any es f s ≡ true
has_any-implied a [] f s p h = h
has_any-implied a (e ∷ es) f s p h =
    has_any-head e es f s ∙ elim (or_cases (implies a e) (list_any (implies a) es) h) [
      | inl q ↦ or_left _ _ (has_all-implied a e f s p q)
      | inr q ↦ or_right _ _ (has_any-implied a es f s p q)
    ]

-- ---- a pattern that a code is known to fit
pub record Known (k : Pattern) (f s : ℕ) : Type 0 where
  pub within : InCube k.cube f s
  pub without : has_any k.excepts f s ≡ false

pub not_ruled_out : (k : Pattern) (c : Cube) (f s : ℕ) → Known k f s → InCube c f s → rules_out k c ≡ false
not_ruled_out k c f s h p =
    or_from _ _ (not_apart k.cube c f s h.within p)
    (false_from_ne_true _ (λ t. both_ways _ h.without (has_any-implied (meet k.cube c) k.excepts f s (meet-from k.cube c f s h.within p) t)))

pub fits-excluded : (k p : Pattern) (f s : ℕ) → Known k f s → excluded k p ≡ true → fits p f s ≡ false
fits-excluded k p f s h x =
    false_from_ne_true _ (λ t.
    let parts = and_parts (in_cube p.cube f s) (not (has_any p.excepts f s)) t in
    let here : InCube p.cube f s = InCube-from p.cube f s parts.0 in
    elim (or_cases (rules_out k p.cube) (list_any (implies (meet k.cube p.cube)) p.excepts) x) [
      | inl a ↦ both_ways _ (not_ruled_out k p.cube f s h here) a
      | inr a ↦ both_ways _ (not-true _ parts.1) (has_any-implied (meet k.cube p.cube) p.excepts f s (meet-from k.cube p.cube f s h.within here) a)
    ])

pub has_all-left : (k : Cube) (xs : List Field) (f s : ℕ) → InCube k f s → has_all (fields_left k xs) f s ≡ has_all xs f s
has_all-left k [] f s h = refl
has_all-left k (x ∷ xs) f s h =
    elim (cases_Bool (inside k (cube_of x))) [
      | inl i ↦
          let here : has x f s ≡ true = has-from_InCube x f s (inside-from k (cube_of x) f s i h) in
          ap (λ l. has_all l f s) (cond-true (inside k (cube_of x)) (fields_left k xs) (x ∷ fields_left k xs) i) ∙ has_all-left k xs f s h ∙ ap (λ b. b && has_all xs f s) (sym here) ∙ sym (has_all-head x xs f s)
      | inr i ↦
          ap (λ l. has_all l f s) (cond-false (inside k (cube_of x)) (fields_left k xs) (x ∷ fields_left k xs) i) ∙ has_all-head x (fields_left k xs) f s ∙ ap (λ b. has x f s && b) (has_all-left k xs f s h) ∙ sym (has_all-head x xs f s)
    ]

pub has_any-kept : (k : Pattern) (es : List (List Field)) (f s : ℕ) → Known k f s → has_any (kept k es) f s ≡ has_any es f s
has_any-kept k [] f s h = refl
has_any-kept k (e ∷ es) f s h =
    elim (cases_Bool (rules_out k (cube_of_all e))) [
      | inl a ↦
          let out : has_all e f s ≡ false = false_from_ne_true _ (λ t. both_ways _ (not_ruled_out k (cube_of_all e) f s h (InCube-from_all e f s t)) a) in
          ap (λ l. has_any l f s) (cond-true (rules_out k (cube_of_all e)) (kept k es) (fields_left k.cube e ∷ kept k es) a) ∙ has_any-kept k es f s h ∙ ap (λ b. b || has_any es f s) (sym out) ∙ sym (has_any-head e es f s)
      | inr a ↦
          ap (λ l. has_any l f s) (cond-false (rules_out k (cube_of_all e)) (kept k es) (fields_left k.cube e ∷ kept k es) a) ∙ has_any-head (fields_left k.cube e) (kept k es) f s ∙ ap (λ b. b || has_any (kept k es) f s) (has_all-left k.cube e f s h.within) ∙ ap (λ b. has_all e f s || b) (has_any-kept k es f s h) ∙ sym (has_any-head e es f s)
    ]

pub fits-left_of : (k p : Pattern) (f s : ℕ) → Known k f s → fits (left_of k p) f s ≡ fits p f s
fits-left_of k p f s h =
    elim (cases_Bool (in_cube p.cube f s)) [
      | inl t ↦
          let both : Known (record k { cube = meet k.cube p.cube }) f s = record { within = meet-from k.cube p.cube f s h.within (InCube-from p.cube f s t); without = h.without } in
          let first : in_cube (left_of k p).cube f s ≡ in_cube p.cube f s =
          elim (cases_Bool (inside k.cube p.cube)) [
            | inl i ↦ ap (λ c. in_cube c f s) (cond-true (inside k.cube p.cube) everything p.cube i) ∙ sym t
            | inr i ↦ ap (λ c. in_cube c f s) (cond-false (inside k.cube p.cube) everything p.cube i)
          ] in
          ap (λ b. b && not (has_any (kept (record k { cube = meet k.cube p.cube }) p.excepts) f s)) first
          ∙ ap (λ b. in_cube p.cube f s && not b) (has_any-kept (record k { cube = meet k.cube p.cube }) p.excepts f s both)
      | inr t ↦
          let notin : inside k.cube p.cube ≡ false = false_from_ne_true _ (λ i. both_ways _ t (in_cube-from p.cube f s (inside-from k.cube p.cube f s i h.within))) in
          let first : in_cube (left_of k p).cube f s ≡ false = ap (λ c. in_cube c f s) (cond-false (inside k.cube p.cube) everything p.cube notin) ∙ t in
          and_left _ _ first ∙ sym (and_left _ _ t)
    ]

-- a scan of the rows is a scan of the few that the known pattern leaves
pub in_cube-left : (k : Pattern) (c : Cube) (f s : ℕ) → Known k f s → in_cube (cond (inside k.cube c) everything c) f s ≡ in_cube c f s
in_cube-left k c f s h =
    elim (cases_Bool (inside k.cube c)) [
      | inl i ↦ ap (λ x. in_cube x f s) (cond-true (inside k.cube c) everything c i) ∙ sym (in_cube-from c f s (inside-from k.cube c f s i h.within))
      | inr i ↦ ap (λ x. in_cube x f s) (cond-false (inside k.cube c) everything c i)
    ]

pub known_refused : (rs : List RefusedCodes) (k : Pattern) (f s : ℕ) → Known k f s → refused rs f s ≡ refused (refusals_left k rs) f s
known_refused [] k f s h = refl
known_refused (r ∷ rs) k f s h =
    elim (cases_Bool (rules_out k r.cube)) [
      | inl x ↦
          let out : in_cube r.cube f s ≡ false = false_from_ne_true _ (λ t. both_ways _ (not_ruled_out k r.cube f s h (InCube-from r.cube f s t)) x) in
          ap (λ b. cond b r.answer (refused rs f s)) out
          ∙ known_refused rs k f s h
          ∙ ap (λ l. refused l f s) (sym (cond-true (rules_out k r.cube) (refusals_left k rs) (record r { cube = cond (inside k.cube r.cube) everything r.cube } ∷ refusals_left k rs) x))
      | inr x ↦
          ap (λ b. cond b r.answer (refused rs f s)) (sym (in_cube-left k r.cube f s h))
          ∙ ap (cond (in_cube (cond (inside k.cube r.cube) everything r.cube) f s) r.answer) (known_refused rs k f s h)
          ∙ ap (λ l. refused l f s) (sym (cond-false (rules_out k r.cube) (refusals_left k rs) (record r { cube = cond (inside k.cube r.cube) everything r.cube } ∷ refusals_left k rs) x))
    ]

-- the same scan, a test at a time, so that a test that computes leaves no trace
abbrev pub sift : List RefusedCodes → List TableRow → ℕ → ℕ → Decoded
sift rs [] f s = refused rs f s
sift rs (e ∷ es) f s = let next = sift rs es f s in cond (e.limits f s) (cond (fits e.pattern f s) (One (e.insn f s) e.width) next) next

pub cond-and : {X : Type 0} (a b : Bool) (x y : X) → cond (a && b) x y ≡ cond a (cond b x y) y
cond-and true b x y = refl
cond-and false b x y = refl

pub known : (rs : List RefusedCodes) (es : List TableRow) (k : Pattern) (f s : ℕ) → Known k f s → scan rs es f s ≡ sift (refusals_left k rs) (reduce k es) f s
known rs [] k f s h = known_refused rs k f s h
known rs (e ∷ es) k f s h =
    elim (cases_Bool (excluded k e.pattern)) [
      | inl x ↦
          let out : holds e f s ≡ false = and_right _ _ (fits-excluded k e.pattern f s h x) in
          ap (λ b. cond b (One (e.insn f s) e.width) (scan rs es f s)) out
          ∙ known rs es k f s h
          ∙ ap (λ l. sift (refusals_left k rs) l f s) (sym (cond-true (excluded k e.pattern) (reduce k es) (record e { pattern = left_of k e.pattern } ∷ reduce k es) x))
      | inr x ↦
          ap (λ b. cond (e.limits f s && b) (One (e.insn f s) e.width) (scan rs es f s)) (sym (fits-left_of k e.pattern f s h))
          ∙ ap (cond (holds (record e { pattern = left_of k e.pattern }) f s) (One (e.insn f s) e.width)) (known rs es k f s h)
          ∙ cond-and (e.limits f s) (fits (left_of k e.pattern) f s) _ _
          ∙ ap (λ l. sift (refusals_left k rs) l f s) (sym (cond-false (excluded k e.pattern) (reduce k es) (record e { pattern = left_of k e.pattern } ∷ reduce k es) x))
    ]

-- the same from tests: all of these fields, and none of those lists
pub known_by : (rs : List RefusedCodes) (es : List TableRow) (xs : List Field) (nots : List (List Field)) (f s : ℕ) → has_all xs f s ≡ true → has_any nots f s ≡ false → scan rs es f s ≡ sift (refusals_left (record { cube = cube_of_all xs; excepts = nots }) rs) (reduce (record { cube = cube_of_all xs; excepts = nots }) es) f s
known_by rs es xs nots f s p q = known rs es (record { cube = cube_of_all xs; excepts = nots }) f s (record { within = InCube-from_all xs f s p; without = q })

-- ---- at most one
pub fits_apart : (p q : Pattern) (f s : ℕ) → fits p f s ≡ true → fits q f s ≡ true → apart p q ≡ false
fits_apart p q f s a b =
    let x = and_parts (in_cube p.cube f s) (not (has_any p.excepts f s)) a in
    let y = and_parts (in_cube q.cube f s) (not (has_any q.excepts f s)) b in
    let p_in : InCube p.cube f s = InCube-from p.cube f s x.0 in
    let q_in : InCube q.cube f s = InCube-from q.cube f s y.0 in
    let both : InCube (meet p.cube q.cube) f s = meet-from p.cube q.cube f s p_in q_in in
    or_from _ _ (or_from _ _ (not_apart p.cube q.cube f s p_in q_in)
    (false_from_ne_true _ (λ t. both_ways _ (not-true _ x.1) (has_any-implied _ p.excepts f s both t))))
    (false_from_ne_true _ (λ t. both_ways _ (not-true _ y.1) (has_any-implied _ q.excepts f s both t)))

pub all_at : {X : Type 0} (test : X → Bool) (xs : List X) (i : ℕ) (x : X) → list_all test xs ≡ true → slice_get xs i ≡ Some x → test x ≡ true
all_at test [] i x h g = cc
all_at test (y ∷ ys) zero x h g = let e : y ≡ x = cc in ap test (sym e) ∙ (and_parts _ _ h).0
all_at test (y ∷ ys) (suc i) x h g = all_at test ys i x (and_parts _ _ h).1 g

pub one_of : (ps : List Pattern) (i j : ℕ) (p q : Pattern) (f s : ℕ) → all_apart ps ≡ true → i < j → slice_get ps i ≡ Some p → slice_get ps j ≡ Some q → fits p f s ≡ true → fits q f s ≡ true → ⊥
unfolding all_apart
one_of [] i j p q f s h lt a b x y = cc
one_of (r ∷ ps) i zero p q f s h lt a b x y = omega arith
one_of (r ∷ ps) zero (suc j) p q f s h lt a b x y =
    let e : r ≡ p = cc in
    both_ways _ (fits_apart p q f s x y) (all_at (apart p) ps j q (ap (λ z. list_all (apart z) ps) (sym e) ∙ (and_parts _ _ h).0) b)
one_of (r ∷ ps) (suc i) (suc j) p q f s h lt a b x y =
    one_of ps i j p q f s (and_parts _ _ h).1 (omega arith) a b x y

-- ---- a row, by its fields
pub holds_parts : (e : TableRow) (f s : ℕ) → holds e f s ≡ true → (e.limits f s ≡ true) × InCube e.pattern.cube f s × (has_any e.pattern.excepts f s ≡ false)
holds_parts e f s h =
    let x = and_parts (e.limits f s) (fits e.pattern f s) h in
    let y = and_parts (in_cube e.pattern.cube f s) (not (has_any e.pattern.excepts f s)) x.1 in
    (x.0, InCube-from e.pattern.cube f s y.0, not-true _ y.1)

-- each fixed field of a row that holds a code
pub fixed : (e : TableRow) (x : Field) (f s : ℕ) → inside e.pattern.cube (cube_of x) ≡ true → holds e f s ≡ true → has x f s ≡ true
fixed e x f s i h = has-from_InCube x f s (inside-from e.pattern.cube (cube_of x) f s i (holds_parts e f s h).1)

-- a code with a row's fixed fields and its limits
pub made : (e : TableRow) (xs : List Field) (f s : ℕ) → inside (cube_of_all xs) e.pattern.cube ≡ true → has_all xs f s ≡ true → has_any e.pattern.excepts f s ≡ false → e.limits f s ≡ true → holds e f s ≡ true
made e xs f s i h x a = and_from _ _ a (and_from _ _ (in_cube-from e.pattern.cube f s (inside-from (cube_of_all xs) e.pattern.cube f s i (InCube-from_all xs f s h))) (ap not x))

-- ---- the table and its scan
abbrev pub patterns : List TableRow → List Pattern
patterns [] = []
patterns (e ∷ es) = e.pattern ∷ patterns es

pub apart_at : (p : Pattern) (es : List TableRow) (k : ℕ) (e : TableRow) → list_all (apart p) (patterns es) ≡ true → slice_get es k ≡ Some e → apart p e.pattern ≡ true
apart_at p [] k e h g = cc
apart_at p (x ∷ es) zero e h g = let same : x ≡ e = cc in ap (λ z. apart p z.pattern) (sym same) ∙ (and_parts _ _ h).0
apart_at p (x ∷ es) (suc k) e h g = apart_at p es k e (and_parts _ _ h).1 g

pub scan-holds : (rs : List RefusedCodes) (es : List TableRow) (k : ℕ) (e : TableRow) (f s : ℕ) → all_apart (patterns es) ≡ true → slice_get es k ≡ Some e → holds e f s ≡ true → scan rs es f s ≡ One (e.insn f s) e.width
unfolding all_apart
scan-holds rs [] k e f s h g t = cc
scan-holds rs (x ∷ es) zero e f s h g t =
    let same : x ≡ e = cc in
    cond-true (holds x f s) (One (x.insn f s) x.width) (scan rs es f s) (ap (λ z. holds z f s) same ∙ t) ∙ ap (λ z. One (z.insn f s) z.width) same
scan-holds rs (x ∷ es) (suc k) e f s h g t =
    let parts = and_parts _ _ h in
    let not_here : holds x f s ≡ false = false_from_ne_true _ (λ y.
    both_ways _ (fits_apart x.pattern e.pattern f s (and_parts (x.limits f s) (fits x.pattern f s) y).1 (and_parts (e.limits f s) (fits e.pattern f s) t).1)
    (apart_at x.pattern es k e parts.0 g)) in
    cond-false (holds x f s) (One (x.insn f s) x.width) (scan rs es f s) not_here ∙ scan-holds rs es k e f s parts.1 g t

pub scan-none : (rs : List RefusedCodes) (es : List TableRow) (f s : ℕ) → ((k : ℕ) (e : TableRow) → slice_get es k ≡ Some e → holds e f s ≡ false) → scan rs es f s ≡ refused rs f s
scan-none rs [] f s h = refl
scan-none rs (x ∷ es) f s h =
    cond-false (holds x f s) (One (x.insn f s) x.width) (scan rs es f s) (h zero x refl) ∙ scan-none rs es f s (λ k e g. h (suc k) e g)

pub get-patterns : (es : List TableRow) (k : ℕ) (e : TableRow) → slice_get es k ≡ Some e → slice_get (patterns es) k ≡ Some e.pattern
get-patterns [] k e g = cc
get-patterns (x ∷ es) zero e g = let same : x ≡ e = cc in ap (λ z. Some z.pattern) same
get-patterns (x ∷ es) (suc k) e g = get-patterns es k e g

pub one_row : (es : List TableRow) (i j : ℕ) (d e : TableRow) (f s : ℕ) → all_apart (patterns es) ≡ true → slice_get es i ≡ Some d → slice_get es j ≡ Some e → holds d f s ≡ true → holds e f s ≡ true → i ≡ j
one_row es i j d e f s h a b x y =
    let fx = (and_parts (d.limits f s) (fits d.pattern f s) x).1 in
    let fy = (and_parts (e.limits f s) (fits e.pattern f s) y).1 in
    elim (cases_order i j) [
      | inl q ↦ q
      | inr q ↦ elim q [
        | inl lt ↦ absurd (one_of (patterns es) i j d.pattern e.pattern f s h lt (get-patterns es i d a) (get-patterns es j e b) fx fy)
        | inr gt ↦ absurd (one_of (patterns es) j i e.pattern d.pattern f s h gt (get-patterns es j e b) (get-patterns es i d a) fy fx)
      ]
    ]
