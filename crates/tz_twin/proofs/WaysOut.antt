-- A step that crosses out of Secure state tells its way. Of Non-secure code it is refused. Of Secure code, what is seen after
-- it is fixed by the crossing; without a way a handler's R4 would be the R4 that was seen before, whatever that was.
use Rattle.std.proofs.Common.{◌≡◌, ℕ, Bool, true, false, cond, List, [], ◌∷◌, Option, Some, None, refl, ap, ◌∙◌}
use Rattle.std.specs.Prelude.{is_some, slice_index}
use Rattle.tz_table.specs.declared.units.Side.{Side}
use Rattle.tz_table.specs.declared.units.Side.TheVariants.{Secure, NonSecure}
use Rattle.tz_model.specs.declared.report.CrossKind.{CrossKind}
use Rattle.tz_model.specs.declared.report.ScriptEvent.{ScriptEvent}
use Rattle.tz_model.specs.Words.{is_nonsecure_side}
use Rattle.tz_regs.specs.Registers.{side_in}
use Rattle.tz_state.specs.State.{State, side_of}
use Rattle.tz_sem.specs.Ended.{Ended, crosses, way_by, kind_of}
use Rattle.tz_sem.specs.Step.{step, started, ended}
use Rattle.tz_twin.specs.Seen.{public_of, handed, Crossing, Seen, Shown, seen}
use Rattle.tz_twin.specs.Ways.{TellsWay}
use Rattle.tz_twin.proofs.Split.{board_seen}
use Rattle.tz_twin.proofs.After.{general_seen, after}
use Rattle.tz_twin.proofs.Secured.{touching_step}

-- something that is seen, with this number in R4
abbrev seen_with : State → ℕ → Seen
seen_with s x = Shown s.bus.board (record s.core.registers { general = 0 ∷ 0 ∷ 0 ∷ 0 ∷ x ∷ [] }) (public_of s)

-- the kind of the crossing of a step, before it is known that there is one
abbrev kind_out : State → Ended → Option CrossKind
kind_out s e = kind_of (side_in s.core) e.ending.cause e.state.core.registers.lr

-- the crossing, by whether there is one and by its kind
abbrev crossing_by : Ended → Bool → Option CrossKind → Option Crossing
crossing_by e t kind =
    let way = cond t (way_by e.state e.ending.cause kind) None in
    cond t (Some (record { way = way; handed = handed way e.state.core.registers; public = public_of e.state })) None

r4_seen : Seen → ℕ
r4_seen a = slice_index (general_seen a) 4

-- without a kind R4 that is seen after the step was seen before
r4_stays : (s : State) (x : ℕ) → is_nonsecure_side (side_of s) ≡ false → crosses (ended s) ≡ true → kind_out s (ended s) ≡ None → r4_seen (seen (ended s).state) ≡ x
unfolding board_seen r4_seen
r4_stays s x is t none =
    let e = ended s in
    ap r4_seen ((touching_step s (seen_with s x) is refl).seen ∙ ap (λ (u : Bool). after (seen_with s x) (crossing_by e u (kind_out s e))) t
    ∙ ap (λ (kind : Option CrossKind). after (seen_with s x) (crossing_by e true kind)) none)

has_kind : (s : State) → is_nonsecure_side (side_of s) ≡ false → crosses (ended s) ≡ true → is_some (kind_out s (ended s)) ≡ true
has_kind s is t = go (kind_out s (ended s)) refl where
  two : (a : ℕ) → a ≡ 0 → a ≡ 1 → ⊥
  two a e f = cc

  go : (kind : Option CrossKind) → kind_out s (ended s) ≡ kind → is_some kind ≡ true
  go (Some kind) k = refl
  go None k = absurd (two (r4_seen (seen (ended s).state)) (r4_stays s 0 is t k) (r4_stays s 1 is t k))

refused : (side : Side) (e : Ended) → is_nonsecure_side side ≡ true → is_some (kind_of side e.ending.cause e.state.core.registers.lr) ≡ true
refused NonSecure e is = refl
refused Secure e is = cc

kind_told : (s : State) → crosses (ended s) ≡ true → is_some (kind_out s (ended s)) ≡ true
kind_told s t = go (is_nonsecure_side (side_of s)) refl where
  go : (nonsecure : Bool) → is_nonsecure_side (side_of s) ≡ nonsecure → is_some (kind_out s (ended s)) ≡ true
  go true is = refused (side_in s.core) (ended s) is
  go false is = has_kind s is t

way_told : (e : Ended) (kind : Option CrossKind) (t : Bool) → (t ≡ true → is_some kind ≡ true) → is_some (cond t (way_by e.state e.ending.cause kind) None) ≡ t
way_told e (Some kind) true h = refl
way_told e None true h = h refl
way_told e kind false h = refl

pub tells_way : (s : State) (events : List ScriptEvent) → TellsWay (step s events)
tells_way s events =
    let r = started s events in
    let e = ended r in
    way_told e (kind_out r e) (crosses e) (kind_told r)
