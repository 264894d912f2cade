-- Fetches of Non-secure code that begin in Non-secure memory give the same code.
use Rattle.std.proofs.Common.{◌≡◌, ℕ, ◌+◌, ◌<◌, Bool, true, false, not, cond, Option, Some, None, Ok, refl, ap, ◌∙◌, arith}
use Rattle.std.specs.Prelude.{nat_le, nat_lt}
use Rattle.std.proofs.lemmas.Bool.Decides.{nat_tests}
use Rattle.tz_table.specs.declared.units.Side.{Side}
use Rattle.tz_table.specs.declared.units.Side.TheVariants.{Secure, NonSecure}
use Rattle.tz_model.specs.declared.report.Fault.{Fault}
use Rattle.tz_model.specs.declared.report.Fault.TheVariants.{EntryPoint, Exec, ExecBus}
use Rattle.tz_model.specs.Words.{wrap}
use Rattle.tz_model.specs.Board.{is_nonsecure}
use Rattle.tz_state.specs.declared.fetcher.Fetcher.{Fetcher}
use Rattle.tz_state.specs.Memory.{half_at}
use Rattle.tz_state.specs.State.{Bus, map_in}
use Rattle.tz_state.specs.Attribution.{MapState, mapped_side, fetch_attribution, data_attribution, is_open, is_exempt}
use Rattle.tz_state.specs.Fetch.{needs_second, lets_run, is_runnable, is_half_mapped, is_own_byte, is_own_fetch, wrong_side, half_verdict, narrow, with_second, with_first, own_fetch}
use Rattle.tz_twin.proofs.Bytes.{SameOpen, and_first, and_second, half_same}
use Rattle.tz_twin.proofs.Faults.{is_own, Own, OwnSome, own_cond, own_some}
use Rattle.tz_twin.proofs.Split.{Open, Rest, open_map, join_bus}

-- below the private peripheral space code and data are attributed alike
open_of_own : (m : MapState) (a : ℕ) → a < 0xE0000000 → is_own_byte m NonSecure a ≡ true → is_open m a ≡ true
unfolding is_open data_attribution fetch_attribution
open_of_own m a low own =
    let low_f : nat_le 0xF0000000 a ≡ false = grind (arith, nat_tests) in
    let low_e : nat_le 0xE0000000 a ≡ false = grind (arith, nat_tests) in
    let not_exempt : is_exempt a ≡ false = exempt_high a low in
    let mapped : is_nonsecure (mapped_side m a) ≡ true = rw (low_f, low_e) at own in
    rw not_exempt mapped
  where
    exempt_high : (a : ℕ) → a < 0xE0000000 → is_exempt a ≡ false
    exempt_high a low = grind (arith, nat_tests)

own_both : (m : MapState) (a : ℕ) → is_own_fetch m NonSecure a ≡ true → (is_own_byte m NonSecure a ≡ true) × (is_own_byte m NonSecure (wrap (a + 1)) ≡ true)
unfolding is_own_fetch
own_both m a e = (and_first _ _ e, and_second _ _ e)

runnable_low : (b : Bus) (privileged negative : Bool) (a : ℕ) → lets_run b NonSecure privileged negative a ≡ true → a < 0xE0000000
runnable_low b privileged negative a e = let low : nat_lt a 0xE0000000 ≡ true = and_first _ _ e in grind (arith, nat_tests)

runnable_both : (b : Bus) (privileged negative : Bool) (a : ℕ) → is_runnable b NonSecure privileged negative a ≡ true → (a < 0xE0000000) × (wrap (a + 1) < 0xE0000000)
unfolding is_runnable
runnable_both b privileged negative a e = (runnable_low b privileged negative a (and_first _ _ e), runnable_low b privileged negative (wrap (a + 1)) (and_second _ _ e))

-- Non-secure code as it fetches; what Secure code would be doesn't count
abbrev pub open_fetcher : Fetcher → Bool → Fetcher
open_fetcher k secure_privileged = record k { side = NonSecure; secure_privileged = secure_privileged }

-- the check of a halfword is open
half_verdict_same : (k : Fetcher) (o : Open) (x x' : Rest) (p p' : Bool) (a : ℕ) → half_verdict (join_bus o x) (open_fetcher k p) a ≡ half_verdict (join_bus o x') (open_fetcher k p') a
unfolding half_verdict is_runnable
half_verdict_same k o x x' p p' a = refl

-- a halfword that Non-secure code may run is the same in both
own_half_same : (k : Fetcher) (o : Open) (x x' : Rest) (p : Bool) (a : ℕ) → SameOpen (open_map o) x.memory x'.memory → half_verdict (join_bus o x) (open_fetcher k p) a ≡ None → half_at x.memory a ≡ half_at x'.memory a
unfolding half_verdict
own_half_same k o x x' p a same passes = go (is_own_fetch m NonSecure a) refl (is_runnable b NonSecure k.privileged k.negative a) refl passes where
  m : MapState
  m = open_map o

  b : Bus
  b = join_bus o x

  go : (own : Bool) → is_own_fetch m NonSecure a ≡ own → (runs : Bool) → is_runnable b NonSecure k.privileged k.negative a ≡ runs
      → cond (not own) (Some EntryPoint) (cond (not runs) (Some (Exec NonSecure)) (cond (not (is_half_mapped b a)) (Some ExecBus) None)) ≡ None → half_at x.memory a ≡ half_at x'.memory a
  go false e runs r h = cc
  go true e false r h = cc
  go true e true r h =
      let both = own_both m a e in
      let low = runnable_both b k.privileged k.negative a r in
      half_same m x.memory x'.memory a same (open_of_own m a low.0 both.0) (open_of_own m (wrap (a + 1)) low.1 both.1)

with_second_same : (first w w' : ℕ) (v v' : Option Fault) → v ≡ v' → (v ≡ None → w ≡ w') → with_second first w v ≡ with_second first w' v'
with_second_same first w w' (Some fault) v' e h = ap (λ v. with_second first w v) e ∙ other v' e where
  other : (v' : Option Fault) → Some fault ≡ v' → with_second first w v' ≡ with_second first w' v'
  other (Some f) e = refl
  other None e = cc
with_second_same first w w' None v' e h = ap (λ y. with_second first y None) (h refl) ∙ ap (λ v. with_second first w' v) e

with_first_same : (k : Fetcher) (o : Open) (x x' : Rest) (p p' : Bool) (pc : ℕ) (v : Option Fault) → SameOpen (open_map o) x.memory x'.memory → (v ≡ None → half_at x.memory pc ≡ half_at x'.memory pc)
    → with_first (join_bus o x) (open_fetcher k p) pc v ≡ with_first (join_bus o x') (open_fetcher k p') pc v
with_first_same k o x x' p p' pc (Some fault) same h = refl
with_first_same k o x x' p p' pc None same h =
    ap (λ y. cond (needs_second y) (with_second y (half_at x.memory (wrap (pc + 2))) (half_verdict (join_bus o x) (open_fetcher k p) (wrap (pc + 2)))) (Ok (narrow y))) (h refl)
    ∙ ap (λ y. cond (needs_second (half_at x'.memory pc)) y (Ok (narrow (half_at x'.memory pc))))
    (with_second_same (half_at x'.memory pc) _ _ _ _ (half_verdict_same k o x x' p p' (wrap (pc + 2))) (λ passes. own_half_same k o x x' p (wrap (pc + 2)) same passes))

-- an instruction that begins in Non-secure memory is fetched alike
pub own_fetch_same : (k : Fetcher) (o : Open) (x x' : Rest) (p p' : Bool) (pc : ℕ) → SameOpen (open_map o) x.memory x'.memory → own_fetch (join_bus o x) (open_fetcher k p) pc ≡ own_fetch (join_bus o x') (open_fetcher k p') pc
unfolding own_fetch
own_fetch_same k o x x' p p' pc same =
    with_first_same k o x x' p p' pc (half_verdict (join_bus o x) (open_fetcher k p) pc) same (λ passes. own_half_same k o x x' p pc same passes)
    ∙ ap (λ v. with_first (join_bus o x') (open_fetcher k p') pc v) (half_verdict_same k o x x' p p' pc)

-- ---- its faults

own_exec : (side : Side) → side ≡ NonSecure → is_own (Exec side) ≡ true
unfolding is_own
own_exec Secure e = cc
own_exec NonSecure e = refl

own_wrong : (side : Side) → is_own (wrong_side side) ≡ true
unfolding is_own
own_wrong Secure = refl
own_wrong NonSecure = refl

own_half_verdict : (b : Bus) (k : Fetcher) (a : ℕ) → k.side ≡ NonSecure → OwnSome (half_verdict b k a)
unfolding half_verdict OwnSome is_own
own_half_verdict b k a e =
    own_some (not (is_own_fetch (map_in b) k.side a)) _ _ (own_wrong k.side)
    (own_some (not (is_runnable b k.side k.privileged k.negative a)) _ _ (own_exec k.side e) (own_some (not (is_half_mapped b a)) _ _ refl tt))

own_second : (first second : ℕ) (v : Option Fault) → OwnSome v → Own (with_second first second v)
unfolding OwnSome Own
own_second first second (Some fault) h = h
own_second first second None h = tt

own_first : (b : Bus) (k : Fetcher) (pc : ℕ) (v : Option Fault) → k.side ≡ NonSecure → OwnSome v → Own (with_first b k pc v)
unfolding OwnSome Own
own_first b k pc (Some fault) e h = h
own_first b k pc None e h =
    own_cond (needs_second (half_at b.memory pc)) _ _ (own_second (half_at b.memory pc) (half_at b.memory (wrap (pc + 2))) _ (own_half_verdict b k (wrap (pc + 2)) e)) tt

pub own_fetch_own : (b : Bus) (k : Fetcher) (pc : ℕ) → k.side ≡ NonSecure → Own (own_fetch b k pc)
unfolding own_fetch
own_fetch_own b k pc e = own_first b k pc (half_verdict b k pc) e (own_half_verdict b k pc e)
