-- A step of Non-secure code in two runs, stage by stage.
use Rattle.std.proofs.Common.{◌≡◌, ℕ, ◌+◌, Bool, true, false, ◌||◌, cond, List, [], Option, Some, None, Result, Ok, Err, refl, subst, inl, inr}
use Rattle.tz_table.specs.declared.units.Side.{Side}
use Rattle.tz_table.specs.declared.units.Side.TheVariants.{Secure, NonSecure}
use Rattle.tz_model.specs.declared.report.Fault.{Fault}
use Rattle.tz_model.specs.declared.report.ScriptEvent.{ScriptEvent}
use Rattle.tz_model.specs.declared.report.Sleep.{Sleep}
use Rattle.tz_model.specs.declared.report.Sleep.TheVariants.{Awake, Wfi, Wfe}
use Rattle.tz_model.specs.declared.fetch.Fetched.{Fetched}
use Rattle.tz_model.specs.Words.{wrap}
use Rattle.tz_state.specs.declared.fetcher.Fetcher.{Fetcher}
use Rattle.tz_regs.specs.Registers.{before_in}
use Rattle.tz_state.specs.Memory.{half_at}
use Rattle.tz_state.specs.State.{Bus, State}
use Rattle.tz_state.specs.Fetch.{fetch, needs_second, half_verdict, with_second, with_first, own_fetch, gateway_fetch, is_own_fetch, own_touch, is_entry_fault}
use Rattle.tz_state.specs.Execution.{takes_first}
use Rattle.tz_state.specs.Due.{begun}
use Rattle.tz_model.specs.Codes.{meaning_of}
use Rattle.tz_sem.specs.Ended.{Ended}
use Rattle.tz_sem.specs.Step.{stepped, fetched, fetches, fetcher_in, fetch_in, touches_secure, unready, instructs, course_in, takes_exception, idles, is_woken, by_sleep, ended, started}
use Rattle.tz_twin.specs.Seen.{Seen, seen}
use Rattle.tz_twin.proofs.Fetching.{own_fetch_same, own_fetch_own}
use Rattle.tz_twin.proofs.Faults.{is_own, Own}
use Rattle.tz_twin.proofs.Split.{Open, Rest, open_map, join_bus, join, Same, Twins, twins_join, by_join, seen_of_twins}
use Rattle.tz_twin.specs.Integrity.{IsGatewayHalf, WayIn}
use Rattle.tz_twin.proofs.Moves.{twin_moved}
use Rattle.tz_twin.proofs.Both.{Kept, Touching, Stops, Arrives, Both, Go, Stop, Touch, both_cond, both_second}
use Rattle.tz_twin.proofs.Passing.{preempted_both}
use Rattle.tz_twin.proofs.Executing.{decoded_same}
use Rattle.tz_twin.proofs.Leaving.{kept_of, goes, left_all, left_again, both_fault}
use Rattle.tz_twin.proofs.Entering.{touching_gateway, arrives_gateway}

-- an answer that isn't the gateway
IsPlain : Result Fetched Fault → Type 0
IsPlain (Ok f) = f.gateway ≡ false
IsPlain (Err fault) = Unit {0}

-- an instruction that begins in Non-secure memory isn't the gateway
own_fetch_plain : (b : Bus) (k : Fetcher) (pc : ℕ) → IsPlain (own_fetch b k pc)
unfolding own_fetch IsPlain
own_fetch_plain b k pc = first (half_verdict b k pc) where
  second : (v : Option Fault) (h w : ℕ) → IsPlain (with_second h w v)
  second (Some fault) h w = tt
  second None h w = refl

  choice : (t : Bool) (x y : Result Fetched Fault) → IsPlain x → IsPlain y → IsPlain (cond t x y)
  choice true x y p q = p
  choice false x y p q = q

  first : (v : Option Fault) → IsPlain (with_first b k pc v)
  first (Some fault) = tt
  first None = choice (needs_second (half_at b.memory pc)) _ _ (second (half_verdict b k (wrap (pc + 2))) (half_at b.memory pc) (half_at b.memory (wrap (pc + 2)))) refl

own_unready : (looked : Bool) (side : Side) → is_own (unready looked side) ≡ true
unfolding is_own
own_unready true NonSecure = refl
own_unready true Secure = refl
own_unready false side = refl

fetched_same : (o : Open) (x x' : Rest) (a : Result Fetched Fault) → IsPlain a → Own a → Same o x x'
    → Both (join o x) (join o x') (fetched (join o x) (course_in (join o x) (is_entry_fault a)) a) (fetched (join o x') (course_in (join o x') (is_entry_fault a)) a)
unfolding IsPlain Own
fetched_same o x x' (Err fault) plain own same = both_fault o x x' (course_in (join o x) (is_entry_fault (Err fault))) fault own same
fetched_same o x x' (Ok f) plain own same = both_second _ _ f.gateway _ _ _ _ plain (decoded_same o x x' (course_in (join o x) false) f.code (meaning_of f.code) refl same)

-- a fetch of Non-secure code, by whether it begins in Non-secure memory
fetches_same : (o : Open) (x x' : Rest) → Same o x x' → Both (join o x) (join o x') (fetches (join o x) (fetch_in (join o x))) (fetches (join o x') (fetch_in (join o x')))
unfolding fetch
fetches_same o x x' same = go (is_own_fetch (open_map o) NonSecure pc) where
  pc : ℕ
  pc = o.registers.pc

  k : Fetcher
  k = fetcher_in (join o x)

  k' : Fetcher
  k' = fetcher_in (join o x')

  inside : Both (join o x) (join o x') (fetches (join o x) (own_touch (own_fetch (join_bus o x) k pc))) (fetches (join o x') (own_touch (own_fetch (join_bus o x') k' pc)))
  inside =
      subst (λ (a : Result Fetched Fault). Both (join o x) (join o x') (fetches (join o x) (own_touch (own_fetch (join_bus o x) k pc))) (fetches (join o x') (own_touch a)))
      (own_fetch_same k o x x' k.secure_privileged k'.secure_privileged pc same.bytes)
      (fetched_same o x x' (own_fetch (join_bus o x) k pc) (own_fetch_plain (join_bus o x) k pc) (own_fetch_own (join_bus o x) k pc refl) same)

  go : (t : Bool) → Both (join o x) (join o x') (fetches (join o x) (cond t (own_touch (own_fetch (join_bus o x) k pc)) (record { touched = true; answer = gateway_fetch (join_bus o x) k pc })))
      (fetches (join o x') (cond t (own_touch (own_fetch (join_bus o x') k' pc)) (record { touched = true; answer = gateway_fetch (join_bus o x') k' pc })))
  go true = inside
  go false =
      Touch (seen (join o x)) (seen (join o x')) (seen_of_twins (join o x) (join o x') (twins_join o x x' same)) (touching_gateway o x) (touching_gateway o x') (arrives_gateway o x) (arrives_gateway o x')

-- the same part but for what it waits for and the event flag
resting : Open → Sleep → Bool → Open
resting o sleep event = record o { sleep = sleep; event = event }

-- looking at Secure state is of the registers and the bus
touching_resting : (o : Open) (x : Rest) (sleep : Sleep) (event : Bool) (before : Seen) (e : Ended) → Touching (join (resting o sleep event) x) before e → Touching (join o x) before e
unfolding resting
touching_resting o x sleep event before e t = record { touched = t.touched; seen = t.seen }

-- an instruction, with what comes where T is 0
instructs_same : (o : Open) (x x' : Rest) → Same o x x' → Both (join o x) (join o x') (instructs (join o x)) (instructs (join o x'))
instructs_same o x x' same =
    both_cond _ _ o.registers.t _ _ _ _ (fetches_same o x x' same)
    (both_fault o x x' (course_in (join o x) (touches_secure NonSecure (join o x))) (unready (touches_secure NonSecure (join o x)) NonSecure) (own_unready (touches_secure NonSecure (join o x)) NonSecure) same)

-- ---- exceptions and sleep

resting_kept : (o : Open) (x : Rest) (sleep : Sleep) (event : Bool) (r : State) → Kept (join (resting o sleep event) x) r → Kept (join o x) r
unfolding resting
resting_kept o x sleep event r k = record {
  keeps = record {
    bytes = k.keeps.bytes;
    stacks = k.keeps.stacks;
    masks = k.keeps.masks;
    status = k.keeps.status;
    exceptions = k.keeps.exceptions;
    sau = k.keeps.sau;
    mpu = k.keeps.mpu;
    board = k.keeps.board;
  };
  timer = k.timer;
}

resting_stops : (o : Open) (x : Rest) (sleep : Sleep) (event : Bool) (e : Ended) → Stops (join (resting o sleep event) x) e → Stops (join o x) e
unfolding resting
resting_stops o x sleep event e h =
    record { locked = h.locked; board = h.board; kept = λ u. resting_kept o x sleep event e.state (h.kept u) }

resting_arrives : (o : Open) (x : Rest) (sleep : Sleep) (event : Bool) (e : Ended) → Arrives (join (resting o sleep event) x) e → Arrives (join o x) e
unfolding resting
resting_arrives o x sleep event e a secure unlocked = go (a secure unlocked) where
  q : State
  q = join (resting o sleep event) x

  half : (a : ℕ) → IsGatewayHalf q a → IsGatewayHalf (join o x) a
  half a h = record { callable = h.callable; runs = h.runs; mapped = h.mapped; half = h.half }

  go : WayIn q (stepped (before_in q.core) e) e.ending.cause → WayIn (join o x) (stepped (before_in (join o x).core) e) e.ending.cause
  go (inl ran) = inl (record { first = half _ ran.first; second = half _ ran.second; told = ran.told; registers = ran.registers })
  go (inr came) = inr came

-- a step from such a part is one from that part
rested_both : (o : Open) (x x' : Rest) (sleep : Sleep) (event : Bool) (e e' : Ended) → Both (join (resting o sleep event) x) (join (resting o sleep event) x') e e' → Both (join o x) (join o x') e e'
unfolding resting
rested_both o x x' sleep event e e' (Go h) =
    Go (record {
      twins = h.twins;
      ending = h.ending;
      stores = h.stores;
      kept = resting_kept o x sleep event e.state h.kept;
      kept' = resting_kept o x' sleep event e'.state h.kept';
    })
rested_both o x x' sleep event e e' (Stop h h') = Stop (resting_stops o x sleep event e h) (resting_stops o x' sleep event e' h')
rested_both o x x' sleep event e e' (Touch before before' alike t t' a a') =
    Touch before before' alike (touching_resting o x sleep event before e t) (touching_resting o x' sleep event before' e' t') (resting_arrives o x sleep event e a) (resting_arrives o x' sleep event e' a')

same_resting : (o : Open) (x x' : Rest) (sleep : Sleep) (event : Bool) → Same o x x' → Same (resting o sleep event) x x'
unfolding resting
same_resting o x x' sleep event same = record { bytes = same.bytes; bus = same.bus }

wakes_same : (o : Open) (x x' : Rest) (event : Bool) → Same o x x' → Both (join o x) (join o x') (instructs (join (resting o Awake event) x)) (instructs (join (resting o Awake event) x'))
wakes_same o x x' event same =
    rested_both o x x' Awake event _ _ (instructs_same (resting o Awake event) x x' (same_resting o x x' Awake event same))

idles_same : (o : Open) (x x' : Rest) → Same o x x' → Both (join o x) (join o x') (idles (join o x)) (idles (join o x'))
idles_same o x x' same = goes o o x x' x x' [] _ (left_all o x x' same)

sleeps_same : (o : Open) (x x' : Rest) (sleep : Sleep) → Same o x x' → Both (join o x) (join o x') (by_sleep sleep (join o x)) (by_sleep sleep (join o x'))
unfolding resting
sleeps_same o x x' Awake same = instructs_same o x x' same
sleeps_same o x x' Wfi same = both_cond _ _ (is_woken (join o x)) _ _ _ _ (wakes_same o x x' o.event same) (idles_same o x x' same)
sleeps_same o x x' Wfe same = both_cond _ _ (o.event || is_woken (join o x)) _ _ _ _ (wakes_same o x x' false same) (idles_same o x x' same)

taken_same : (o : Open) (x x' : Rest) → Same o x x' → Both (join o x) (join o x') (takes_exception (join o x)) (takes_exception (join o x'))
unfolding resting
taken_same o x x' same =
    let p = resting o Awake o.event in
    let h = left_again o x x' o p x x' refl refl refl refl (left_all o x x' same) in
    preempted_both o p x x' x x' (course_in (join o x) false) o.registers.pc [] h.same (kept_of o x p x h.leaves) (kept_of o x' p x' h.leaves')

ended_same : (o : Open) (x x' : Rest) → Same o x x' → Both (join o x) (join o x') (ended (join o x)) (ended (join o x'))
unfolding ended
ended_same o x x' same =
    both_cond _ _ (takes_first o.exceptions o.masks) _ _ _ _ (taken_same o x x' same) (sleeps_same o x x' o.sleep same)

-- a step of twins, after what it begins with
pub twin_ended : (s s' : State) → Twins s s' → Both s s' (ended s) (ended s')
twin_ended s s' t = by_join (λ r r'. Both r r' (ended r) (ended r')) ended_same s s' t

-- ---- what a step begins with

same_begun : (o : Open) (x x' : Rest) (events : List ScriptEvent) → Same o x x' → Same (record o { exceptions = begun o.exceptions events }) x x'
same_begun o x x' events same = record { bytes = same.bytes; bus = same.bus }

pub twin_started : (s s' : State) (events : List ScriptEvent) → Twins s s' → Twins (started s events) (started s' events)
twin_started s s' events t =
    by_join (λ r r'. Twins (started r events) (started r' events))
    (λ o x x' same. twin_moved (record o { exceptions = begun o.exceptions events }) x x' (same_begun o x x' events same)) s s' t
