-- What differs first of two steps: that one alone crosses out of Secure state, the way, a register that is handed
-- over, a part of the public state.
use Rattle.std.specs.Prelude.{ℕ, ◌+◌, ◌==◌, Bool, not, if◌then◌else◌, List, [], ◌∷◌, Option, Some, None}
use Rattle.std.specs.Option.{option_or}
use Rattle.tz_model.specs.declared.report.CrossKind.{CrossKind}
use Rattle.tz_model.specs.declared.report.CrossKind.TheVariants.{Return, Call, ExcReturn, Chain, Preempt, Refused}
use Rattle.tz_model.specs.declared.report.Way.{Way}
use Rattle.tz_regs.specs.declared.parts.Registers.{Registers}
use Rattle.tz_state.specs.State.{State}
use Rattle.tz_state.specs.Difference.{sau_differs, mpu_differs, exceptions_differ, open_bytes_differ}
use Rattle.tz_frames.specs.Registers.{saved_of}
use Rattle.tz_sem.specs.Step.{Stepped}
use Rattle.tz_iso.specs.declared.answer.What.{What}
use Rattle.tz_iso.specs.declared.answer.What.TheVariants as whats
use Rattle.tz_iso.specs.Parts.{is_same_way, is_same_apsr, is_same_sp, is_same_limits, is_same_control, is_same_masks, is_same_faults, is_same_timers, is_same_rest, is_same_channel}

-- the first of these parts that isn't the same in both
abbrev pub first_apart : List (Bool × What) → Option What
first_apart [] = None
first_apart (part ∷ parts) = if part.0 then first_apart parts else Some part.1

-- ---- the registers

-- the first that isn't the same in both of R0 to R12, of which these stand from a number on
unfoldable pub general_apart : ℕ → List ℕ → List ℕ → Option What
general_apart n [] [] = None
general_apart n (x ∷ xs) (y ∷ ys) = if x == y then general_apart (n + 1) xs ys else Some (whats.R n)
general_apart n xs ys = Some (whats.R n)

-- of all registers
abbrev pub all_apart : Registers → Registers → Option What
all_apart r q =
    option_or (general_apart 0 r.general q.general)
    (first_apart ((r.lr == q.lr, whats.Lr) ∷ (is_same_apsr r q, whats.Apsr) ∷ (r.pc == q.pc, whats.Pc) ∷ []))

-- of those that a call hands over, whose LR is the same in all
abbrev pub called_apart : Registers → Registers → Option What
called_apart r q =
    option_or (general_apart 0 r.general q.general) (first_apart ((is_same_apsr r q, whats.Apsr) ∷ (r.pc == q.pc, whats.Pc) ∷ []))

-- of R4 to R11
abbrev pub saved_apart : Registers → Registers → Option What
saved_apart r q = general_apart 4 (saved_of r.general) (saved_of q.general)

-- of what a crossing of a kind hands over
abbrev pub handed_apart : CrossKind → Registers → Registers → Option What
handed_apart Return r q = all_apart r q
handed_apart Call r q = called_apart r q
handed_apart ExcReturn r q = all_apart r q
handed_apart Chain r q = saved_apart r q
handed_apart Preempt r q = None
handed_apart Refused r q = None

-- ---- the public state

abbrev pub public_apart : State → State → Option What
public_apart s t =
    first_apart
    ((not (open_bytes_differ s.bus t.bus), whats.Bytes) ∷
    (is_same_sp s.core.stacks_ns t.core.stacks_ns, whats.Sp) ∷
    (is_same_limits s.core.stacks_ns t.core.stacks_ns, whats.Limit) ∷
    (is_same_control s.core.stacks_ns t.core.stacks_ns, whats.Control) ∷
    (is_same_masks s.core.masks t.core.masks, whats.Mask) ∷
    (not (sau_differs s.bus.sau t.bus.sau), whats.Sau) ∷
    (not (mpu_differs s.bus.mpu_ns t.bus.mpu_ns), whats.Mpu) ∷
    (s.core.status.ns.vtor == t.core.status.ns.vtor, whats.Vtor) ∷
    (s.core.status.ns.ccr == t.core.status.ns.ccr, whats.Ccr) ∷
    (is_same_faults s t, whats.Fault) ∷
    (not (exceptions_differ s.exceptions t.exceptions), whats.Exceptions) ∷
    (is_same_timers s.exceptions t.exceptions, whats.Systick) ∷
    (is_same_rest s t, whats.Sleep) ∷
    (is_same_channel s.core.status.ns.channel t.core.status.ns.channel, whats.Mover) ∷ [])

-- ---- two steps

-- of two crossings
abbrev pub crossings_apart : Way → Way → State → State → Option What
crossings_apart w v s t =
    if is_same_way w v then option_or (handed_apart w.kind s.core.registers t.core.registers) (public_apart s t) else Some whats.Way

-- by the ways that the steps tell, each exactly where it crosses out
abbrev pub what_by : Option Way → Option Way → State → State → Option What
what_by None None s t = None
what_by (Some w) None s t = Some (whats.Alone w.kind)
what_by None (Some v) s t = Some (whats.Alone v.kind)
what_by (Some w) (Some v) s t = crossings_apart w v s t

abbrev pub what_of : Stepped → Stepped → Option What
what_of r q = what_by r.report.way q.report.way r.state q.state
