-- What is settled, one thing after another; and the tests on the way.
use Rattle.std.proofs.Common.{◌≡◌, inl, inr, ℕ, ◌<◌, ◌≤◌, ◌&&◌, Bool, true, false, cond, List, [], ◌∷◌, ◌++◌, refl, sym, ap, subst, arith}
use Rattle.std.specs.Prelude.{nat_lt}
use Rattle.std.proofs.lemmas.Bool.Decides.{nat_tests}
use Rattle.tz_files.specs.Told.{Stop, TooManySteps, TooManyBack, Told, Unknown, Stops, Gives, told_then, step_limit, back_limit}
use Rattle.tz_files.specs.Reads.{Reading, Settled, goes_on, read_where, settling, within_limit, within_back, IsOneOf}
use Rattle.tz_files.specs.Allowed.{Allows, AllowsStop, IsOfFile}

-- ---- one thing after another

pub then_stop : {A B : Type 0} (t : Told A) (next : A → Told B) (stop : Stop) → AllowsStop t stop → AllowsStop (told_then t next) stop
then_stop Unknown next stop h = h
then_stop (Stops s) next stop h = h
then_stop (Gives x) next stop h = absurd h

pub after_stop : {A B : Type 0} (t : Told A) (next : A → Told B) (x : A) (stop : Stop) → Allows t x → IsOfFile stop → AllowsStop (next x) stop → AllowsStop (told_then t next) stop
after_stop Unknown next x stop allowed of h = of
after_stop (Stops s) next x stop allowed of h = absurd allowed
after_stop (Gives y) next x stop allowed of h = subst (λ z. AllowsStop (next z) stop) (sym allowed) h

pub then_allows : {A B : Type 0} (t : Told A) (next : A → Told B) (x : A) (y : B) → Allows t x → Allows (next x) y → Allows (told_then t next) y
then_allows Unknown next x y allowed h = tt
then_allows (Stops s) next x y allowed h = absurd allowed
then_allows (Gives z) next x y allowed h = subst (λ w. Allows (next w) y) (sym allowed) h

pub then_gives : {A B : Type 0} (f : A → B) (t : Told A) (x : A) → Allows t x → Allows (told_then t (λ y. Gives (f y))) (f x)
then_gives f Unknown x h = tt
then_gives f (Stops s) x h = absurd h
then_gives f (Gives y) x h = ap f h

-- what is given is allowed
pub allows_given : {A : Type 0} (t : Told A) (x : A) → t ≡ Gives x → Allows t x
allows_given t x e = subst (λ u. Allows u x) (sym e) refl

pub goes : {A : Type 0} (t : Told A) (x : A) → Allows t x → goes_on t ≡ true
goes Unknown x h = refl
goes (Stops s) x h = absurd h
goes (Gives y) x h = refl

pub allowed_goes : {A B : Type 0} (t : Told A) (next : A → Told B) (x : B) → Allows (told_then t next) x → goes_on t ≡ true
allowed_goes Unknown next x h = refl
allowed_goes (Stops s) next x h = absurd h
allowed_goes (Gives y) next x h = refl

pub goes_first : {A B : Type 0} (t : Told A) (next : A → Told B) → goes_on (told_then t next) ≡ true → goes_on t ≡ true
goes_first Unknown next h = refl
goes_first (Stops s) next h = h
goes_first (Gives y) next h = refl

twice : {A B C : Type 0} (t : Told A) (f : A → Told B) (g : B → Told C) → told_then (told_then t f) g ≡ told_then t (λ x. told_then (f x) g)
twice Unknown f g = refl
twice (Stops s) f g = refl
twice (Gives x) f g = refl

pub settling_twice : {A B C : Type 0} (f : A → Told B) (g : B → Told C) (files : Settled A) → settling g (settling f files) ≡ settling (λ x. told_then (f x) g) files
settling_twice f g files = ap (λ t. record { told = t; reads = files.reads }) (twice files.told f g)

-- ---- files that are read

pub one_of_first : (a b : List Reading) (file : Reading) → IsOneOf a file → IsOneOf (a ++ b) file
one_of_first [] b file h = absurd h
one_of_first (f ∷ a) b file (inl e) = inl e
one_of_first (f ∷ a) b file (inr h) = inr (one_of_first a b file h)

pub one_of_second : (a b : List Reading) (file : Reading) → IsOneOf b file → IsOneOf (a ++ b) file
one_of_second [] b file h = h
one_of_second (f ∷ a) b file h = inr (one_of_second a b file h)

pub by_part : (a b : List Reading) (file : Reading) (Q : Type 0) → (IsOneOf a file → Q) → (IsOneOf b file → Q) → IsOneOf (a ++ b) file → Q
by_part [] b file Q first second h = second h
by_part (f ∷ a) b file Q first second (inl e) = first (inl e)
by_part (f ∷ a) b file Q first second (inr h) = by_part a b file Q (λ x. first (inr x)) second h

pub read_here : (b : Bool) (file : Reading) → b ≡ true → IsOneOf (read_where b file) file
read_here true file e = inl refl
read_here false file e = absurd (cc)

-- a file that a test lets through
pub read_where_is : (b : Bool) (file other : Reading) → IsOneOf (read_where b file) other → (b ≡ true) × (file ≡ other)
read_where_is false file other h = absurd h
read_where_is true file other (inl e) = (refl, e)
read_where_is true file other (inr h) = absurd h

-- a test that holds changes none before it
pub and_holds : (a b : Bool) → b ≡ true → (a && b) ≡ a
and_holds true true e = refl
and_holds true false e = absurd (cc)
and_holds false b e = refl

-- ---- the limit of steps

pub past : (n m : ℕ) → n < m → nat_lt n m ≡ true
past n m l = grind (arith, nat_tests)

pub fits : (n m : ℕ) → m ≤ n → nat_lt n m ≡ false
fits n m l = grind (arith, nat_tests)

pub limit_kept : {A : Type 0} (steps : ℕ) (files : Settled A) → steps ≤ step_limit → within_limit steps files ≡ files
limit_kept {A = A} steps files l = ap (λ (b : Bool). cond {A = Settled A} b (record { told = Stops TooManySteps; reads = [] }) files) (fits step_limit steps l)

pub limit_passed : {A : Type 0} (steps : ℕ) (files : Settled A) → step_limit < steps → within_limit steps files ≡ record { told = Stops TooManySteps; reads = [] }
limit_passed {A = A} steps files l = ap (λ (b : Bool). cond {A = Settled A} b (record { told = Stops TooManySteps; reads = [] }) files) (past step_limit steps l)

-- ---- the limit of steps that are undone

pub back_kept : {A : Type 0} (back : ℕ) (files : Settled A) → back ≤ back_limit → within_back back files ≡ files
back_kept {A = A} back files l = ap (λ (b : Bool). cond {A = Settled A} b (record { told = Stops TooManyBack; reads = [] }) files) (fits back_limit back l)

pub back_passed : {A : Type 0} (back : ℕ) (files : Settled A) → back_limit < back → within_back back files ≡ record { told = Stops TooManyBack; reads = [] }
back_passed {A = A} back files l = ap (λ (b : Bool). cond {A = Settled A} b (record { told = Stops TooManyBack; reads = [] }) files) (past back_limit back l)
