-- A script, line by line.
use Rattle.std.proofs.Common.{◌≡◌, ◌∙◌, ◌+◌, ℕ, refl, ap, List, [], ◌∷◌, ◌++◌, length, Bool, true, false, if◌then◌else◌, nat_lt, IsTrue, sym, Option, Some, None, Ok, Err}
use Rattle.std.proofs.lemmas.Bool.{and_from, and_parts}
use Rattle.std.proofs.lemmas.List.{nil_from_length}
use Rattle.tz_board.specs.Scripts.{◌>>=◌, Line, Passed, Bad, Event, Read, ScriptRefusal, OutOfOrder, NoSuchInterrupt, TooMany, Timed, are_on, exists_on, last_step, line_of, script_lines, most_events, parts_of, pieces, script_from, script_of, with_event, with_line, without_returns}
use Rattle.tz_board.specs.ScriptErrors.{IsScriptRefusal, IsToldScript, script_refusal_of}
use Rattle.tz_board.specs.Text.{chomp, has}
use Rattle.tz_board.specs.declared.error.ScriptError.{ScriptError}
use Rattle.tz_board.proofs.Pieces.{script_lines-cut, script_lines-last}

one_line : (interrupts n : ℕ) (events : List Timed) (rest line back : List ℕ) → rest ≡ line ++ 10 ∷ back → has 10 line ≡ false
    → script_from interrupts n events (script_lines rest) ≡ with_line interrupts n events (line_of (parts_of (chomp line))) >>= (λ more. script_from interrupts (n + 1) more (script_lines back))
unfolding script_from
one_line interrupts n events rest line back at h = ap (script_from interrupts n events) (ap script_lines at ∙ script_lines-cut line back h)

-- a line that is accepted
pub goes_on : (interrupts n : ℕ) (events longer : List Timed) (rest line back : List ℕ) → rest ≡ line ++ 10 ∷ back → has 10 line ≡ false → with_line interrupts n events (line_of (parts_of (chomp line))) ≡ Ok longer
    → script_from interrupts n events (script_lines rest) ≡ script_from interrupts (n + 1) longer (script_lines back)
goes_on interrupts n events longer rest line back at h is =
    one_line interrupts n events rest line back at h ∙ ap (λ (r : Read). r >>= (λ more. script_from interrupts (n + 1) more (script_lines back))) is

told_stops : (o : Option ScriptRefusal) (r : Read) (f : List Timed → Read) → IsToldScript o r → IsToldScript o (r >>= f)
told_stops None r f h = tt
told_stops (Some refusal) r f h = ap (λ (x : Read). x >>= f) h

-- a line that is refused
pub stops : (e : ScriptError) (interrupts n : ℕ) (events : List Timed) (rest line back : List ℕ) → rest ≡ line ++ 10 ∷ back → has 10 line ≡ false → IsScriptRefusal e (with_line interrupts n events (line_of (parts_of (chomp line))))
    → IsScriptRefusal e (script_from interrupts n events (script_lines rest))
stops e interrupts n events rest line back at h is =
    rw (one_line interrupts n events rest line back at h)
    (told_stops (script_refusal_of e) (with_line interrupts n events (line_of (parts_of (chomp line)))) (λ more. script_from interrupts (n + 1) more (script_lines back)) is)

and_no_more : (r : Read) → r >>= (λ events. Ok events) ≡ r
and_no_more (Ok events) = refl
and_no_more (Err e) = refl

-- the last line, without a line feed
pub last_line : (interrupts n : ℕ) (events : List Timed) (rest : List ℕ) → has 10 rest ≡ false → script_from interrupts n events (script_lines rest) ≡ with_line interrupts n events (line_of (parts_of rest))
unfolding script_from
last_line interrupts n events rest h =
    ap (script_from interrupts n events) (script_lines-last rest h) ∙ and_no_more (with_line interrupts n events (line_of (parts_of rest)))

-- nothing after the last line feed
pub no_line : (interrupts n : ℕ) (events : List Timed) (rest : List ℕ) → length rest ≡ 0 → script_from interrupts n events (script_lines rest) ≡ Ok events
unfolding script_from script_lines pieces without_returns parts_of line_of with_line
no_line interrupts n events rest h = rw (nil_from_length rest h)

are_on-push : (interrupts : ℕ) (ts : List Timed) (t : Timed) → IsTrue (are_on interrupts ts) → exists_on interrupts t.1 ≡ true → IsTrue (are_on interrupts (ts ++ t ∷ []))
are_on-push interrupts [] t h is = and_from (exists_on interrupts t.1) true is refl
are_on-push interrupts (x ∷ ts) t h is =
    let parts = and_parts (exists_on interrupts x.1) (are_on interrupts ts) h in
    and_from (exists_on interrupts x.1) (are_on interrupts (ts ++ t ∷ [])) parts.0 (are_on-push interrupts ts t parts.1 is)

-- what is accepted passed each test
accepted : (late here room : Bool) (e f g : ScriptRefusal) (some all : List Timed) → (if late then Err e else if here then if room then Ok some else Err f else Err g) ≡ Ok all → (here ≡ true) × (some ≡ all)
accepted true here room e f g some all h = cc
accepted false false room e f g some all h = cc
accepted false true false e f g some all h = cc
accepted false true true e f g some all h = (refl, cc)

with_event-on : (interrupts n : ℕ) (events all : List Timed) (t : Timed) → IsTrue (are_on interrupts events) → with_event interrupts n events t ≡ Ok all → IsTrue (are_on interrupts all)
unfolding with_event
with_event-on interrupts n events all t on h =
    let passed = accepted (nat_lt t.0 (last_step 0 events)) (exists_on interrupts t.1) (nat_lt (length events) most_events) (OutOfOrder n) TooMany (NoSuchInterrupt n) (events ++ t ∷ []) all h in
    rw (sym passed.1) (are_on-push interrupts events t on passed.0)

with_line-on : (interrupts n : ℕ) (events all : List Timed) (line : Line) → IsTrue (are_on interrupts events) → with_line interrupts n events line ≡ Ok all → IsTrue (are_on interrupts all)
unfolding with_line
with_line-on interrupts n events all Passed on h = let same : events ≡ all = cc in rw (sym same) on
with_line-on interrupts n events all Bad on h = absurd cc
with_line-on interrupts n events all (Event t) on h = with_event-on interrupts n events all t on h

then_on : (interrupts : ℕ) (r : Read) (f : List Timed → Read) (all : List Timed) → ((some : List Timed) → r ≡ Ok some → IsTrue (are_on interrupts some)) → ((some : List Timed) → IsTrue (are_on interrupts some) → f some ≡ Ok all → IsTrue (are_on interrupts all)) → r >>= f ≡ Ok all → IsTrue (are_on interrupts all)
then_on interrupts (Ok some) f all first next h = next some (first some refl) h
then_on interrupts (Err e) f all first next h = absurd cc

script_from-on : (interrupts n : ℕ) (events all : List Timed) (lines : List (List ℕ)) → IsTrue (are_on interrupts events) → script_from interrupts n events lines ≡ Ok all → IsTrue (are_on interrupts all)
unfolding script_from
script_from-on interrupts n events all [] on h = let same : events ≡ all = cc in rw (sym same) on
script_from-on interrupts n events all (line ∷ more) on h =
    then_on interrupts (with_line interrupts n events (line_of (parts_of line))) (λ some. script_from interrupts (n + 1) some more) all
    (λ some is. with_line-on interrupts n events some (line_of (parts_of line)) on is)
    (λ some also is. script_from-on interrupts (n + 1) some all more also is) h

-- the board has the interrupts of every script that is accepted for it
pub script_of-on : (bytes : List ℕ) (interrupts : ℕ) (all : List Timed) → script_of bytes interrupts ≡ Ok all → IsTrue (are_on interrupts all)
unfolding script_of
script_of-on bytes interrupts all h = script_from-on interrupts 1 [] all (script_lines bytes) refl h
