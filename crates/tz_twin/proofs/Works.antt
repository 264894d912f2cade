-- Two entries or two returns beside each other, that began in twins: what both work on, and how both end.
use Rattle.std.proofs.Common.{◌≡◌, ℕ, Bool, true, false}
use Rattle.tz_frames.specs.Machine.{Framed}
use Rattle.tz_frames.specs.declared.entering.Entering.{Entering}
use Rattle.tz_frames.specs.declared.entering.Entered.{Entered}
use Rattle.tz_frames.specs.declared.entering.Entered.TheVariants as entered
use Rattle.tz_frames.specs.declared.leaving.Left.{Left}
use Rattle.tz_frames.specs.declared.leaving.Left.TheVariants as left
use Rattle.tz_frames.specs.Status.{Raised}
use Rattle.tz_frames.specs.Enter.{Work, Done}
use Rattle.tz_frames.specs.Leave.{Leaving}
use Rattle.tz_twin.proofs.Split.{Open, Rest, join_bus, join, Same}
use Rattle.tz_twin.proofs.EntrySpares.{entered_touched}
use Rattle.tz_twin.proofs.ReturnSpares.{left_touched}

-- what frames know beside the bus: of both runs the same, and of each its own
pub record Ground : Type 0 where
  pub vtor_ns : ℕ
  pub negative : Bool

pub record Guise : Type 0 where
  pub vtor_s : ℕ
  pub secure_privileged : Bool

abbrev pub held_of : Open → Rest → Ground → Guise → Framed
held_of o x k g =
    record {
      bus = join_bus o x;
      vtor_s = g.vtor_s;
      vtor_ns = k.vtor_ns;
      secure_privileged = g.secure_privileged;
      negative = k.negative;
    }

-- ---- what is worked on

abbrev pub work_of : Open → Rest → Ground → Guise → Entering → Work Framed
work_of o x k g entry = record { core = (join o x).core; exceptions = o.exceptions; held = held_of o x k g; entry = entry }

pub record WorkTwins (w w' : Work Framed) : Type 0 where
  pub part : Open
  pub rest : Rest
  pub rest' : Rest
  pub ground : Ground
  pub guise : Guise
  pub guise' : Guise
  pub entry : Entering
  pub work : w ≡ work_of part rest ground guise entry
  pub work' : w' ≡ work_of part rest' ground guise' entry
  pub same : Same part rest rest'

-- what a fault leaves, which doesn't know the bus
pub record RaisedTwins (o : Open) (x x' : Rest) (r r' : Raised) : Type 0 where
  pub part : Open
  pub rest : Rest
  pub rest' : Rest
  pub core : r.core ≡ (join part rest).core
  pub core' : r'.core ≡ (join part rest').core
  pub exceptions : r.exceptions ≡ part.exceptions
  pub exceptions' : r'.exceptions ≡ part.exceptions
  pub bus : join_bus o x ≡ join_bus part rest
  pub bus' : join_bus o x' ≡ join_bus part rest'
  pub locks : r.locks ≡ r'.locks
  pub same : Same part rest rest'

-- ---- how both end, an entry or a return: as twins, both locked, or both with a look at Secure state

-- what ends so of twins
pub record EndTwins {E R : Type 0} (end_of : Open → Rest → Ground → Guise → R → E) (e e' : E) : Type 0 where
  pub part : Open
  pub rest : Rest
  pub rest' : Rest
  pub ground : Ground
  pub guise : Guise
  pub guise' : Guise
  pub result : R
  pub ends : e ≡ end_of part rest ground guise result
  pub ends' : e' ≡ end_of part rest' ground guise' result
  pub same : Same part rest rest'

-- ---- how an entry ends

abbrev pub done_of : Open → Rest → Ground → Guise → Entered → Done Framed
done_of o x k g result = record { core = (join o x).core; exceptions = o.exceptions; held = held_of o x k g; result = result }

abbrev pub locks_up : Entered → Bool
locks_up (entered.Taken given entry) = false
locks_up (entered.Lockup entry) = true

pub data DoneBoth (d d' : Done Framed) : Type 0 where
  EntersAlike : EndTwins done_of d d' → DoneBoth d d'
  EntersLocked : locks_up d.result ≡ true → locks_up d'.result ≡ true → DoneBoth d d'
  EntersLooking : entered_touched d.result ≡ true → entered_touched d'.result ≡ true → DoneBoth d d'

-- ---- how a return ends

abbrev pub leaving_of : Open → Rest → Ground → Guise → Left → Leaving Framed
leaving_of o x k g result = record { core = (join o x).core; exceptions = o.exceptions; held = held_of o x k g; result = result }

abbrev pub leaves_locked : Left → Bool
leaves_locked (left.Resumed touched) = false
leaves_locked (left.Chained given refused entry) = false
leaves_locked (left.Lockup refused entry) = true

pub data LeavingBoth (l l' : Leaving Framed) : Type 0 where
  LeavesAlike : EndTwins leaving_of l l' → LeavingBoth l l'
  LeavesLocked : leaves_locked l.result ≡ true → leaves_locked l'.result ≡ true → LeavingBoth l l'
  LeavesLooking : left_touched l.result ≡ true → left_touched l'.result ≡ true → LeavingBoth l l'
