-- Steps that tell their ways out of Secure state: nothing differs exactly where their crossings are the same.
use Rattle.std.proofs.Common.{◌≡◌, Bool, true, false, cond, List, Option, Some, None, IfSome, refl, sym, ap, ◌∙◌}
use Rattle.std.specs.Prelude.{is_some, option_map, unwrap_or}
use Rattle.tz_model.specs.declared.report.CrossKind.{CrossKind}
use Rattle.tz_model.specs.declared.report.ScriptEvent.{ScriptEvent}
use Rattle.tz_model.specs.declared.report.Way.{Way}
use Rattle.tz_state.specs.State.{State}
use Rattle.tz_sem.specs.declared.ending.Cause.{Cause}
use Rattle.tz_sem.specs.Ended.{crosses, way_by, kind_of}
use Rattle.tz_sem.specs.Step.{Stepped, step, started, ended}
use Rattle.tz_regs.specs.Registers.{before_in}
use Rattle.tz_twin.specs.Seen.{Public, public_of, Handed, Nothing, handed_by, handed, Crossing, crossing}
use Rattle.tz_twin.specs.Ways.{crosses_out, TellsWay}
use Rattle.tz_twin.proofs.WaysOut.{tells_way}
use Rattle.tz_iso.specs.Parts.{is_same_way}
use Rattle.tz_iso.specs.What.{crossings_apart, what_by, what_of}
use Rattle.tz_iso.proofs.Same.{same_way, way_itself, passed_by_same, first_same, neither, or_none}
use Rattle.tz_iso.proofs.HandedOver.{same_handed, none_handed}
use Rattle.tz_iso.proofs.Public.{same_public, none_public}

-- ---- the crossing by the way that is told

abbrev told_by : State → Way → Crossing
told_by s way = record { way = Some way; handed = handed_by way.kind s.core.registers; public = public_of s }

abbrev told : Option Way → State → Option Crossing
told way s = option_map (told_by s) way

crossing_told : (r : Stepped) → TellsWay r → crossing r ≡ told r.report.way r.state
crossing_told r tells = go r.report.way (crosses_out r) tells where
  go : (way : Option Way) (t : Bool) → is_some way ≡ t
      → cond t (Some (record { way = way; handed = handed way r.state.core.registers; public = public_of r.state })) None ≡ told way r.state
  go None true e = cc
  go None false e = refl
  go (Some way) true e = refl
  go (Some way) false e = cc

-- its number is IPSR
abbrev Numbered : State → Option Way → Type 0
Numbered s way = IfSome way (λ w. w.number ≡ s.core.registers.ipsr)

numbered_by : (s : State) (cause : Cause) (t : Bool) (kind : Option CrossKind) → Numbered s (cond t (way_by s cause kind) None)
numbered_by s cause true None = tt
numbered_by s cause true (Some kind) = refl
numbered_by s cause false kind = tt

numbered : (s : State) (due : List ScriptEvent) → Numbered (step s due).state (step s due).report.way
numbered s due =
    let e = ended (started s due) in
    numbered_by e.state e.ending.cause (crosses e) (kind_of (before_in s.core).side e.ending.cause e.state.core.registers.lr)

-- ---- two crossings

way_of_told : Way → Option Crossing → Way
way_of_told other None = other
way_of_told other (Some c) = unwrap_or c.way other

handed_of_told : Option Crossing → Handed
handed_of_told None = Nothing
handed_of_told (Some c) = c.handed

public_of_told : Public → Option Crossing → Public
public_of_told other None = other
public_of_told other (Some c) = c.public

same_crossed : (w v : Way) (s t : State) → s.bus.board.regions ≡ t.bus.board.regions → w.number ≡ s.core.registers.ipsr → v.number ≡ t.core.registers.ipsr
    → crossings_apart w v s t ≡ None → told_by s w ≡ told_by t v
same_crossed w v s t regions m n e =
    let h = first_same (is_same_way w v) _ _ e in
    let way : w ≡ v = same_way w v h.0 in
    let parts = neither _ _ h.1 in
    let ipsr : s.core.registers.ipsr ≡ t.core.registers.ipsr = sym m ∙ ap (λ (x : Way). x.number) way ∙ n in
    let handed : handed_by w.kind s.core.registers ≡ handed_by v.kind t.core.registers =
    same_handed w.kind s.core.registers t.core.registers ipsr parts.0 ∙ ap (λ (x : Way). handed_by x.kind t.core.registers) way in
    let public : public_of s ≡ public_of t = same_public s t regions parts.1 in
    λ i. record { way = Some (way i); handed = handed i; public = public i }

-- of one board
pub same_told : (way other : Option Way) (s t : State) → s.bus.board.regions ≡ t.bus.board.regions → Numbered s way → Numbered t other
    → what_by way other s t ≡ None → told way s ≡ told other t
same_told None None s t regions m n e = refl
same_told None (Some v) s t regions m n e = cc
same_told (Some w) None s t regions m n e = cc
same_told (Some w) (Some v) s t regions m n e = ap Some (same_crossed w v s t regions m n e)

pub none_told : (way other : Option Way) (s t : State) → told way s ≡ told other t → what_by way other s t ≡ None
unfolding way_of_told handed_of_told public_of_told
none_told None None s t e = refl
none_told None (Some v) s t e = cc
none_told (Some w) None s t e = cc
none_told (Some w) (Some v) s t e =
    let way : w ≡ v = ap (way_of_told w) e in
    let handed : handed_by w.kind s.core.registers ≡ handed_by w.kind t.core.registers =
    ap handed_of_told e ∙ sym (ap (λ (x : Way). handed_by x.kind t.core.registers) way) in
    let public : public_of s ≡ public_of t = ap (public_of_told (public_of s)) e in
    rw (passed_by_same is_same_way way_itself w v way)
    (or_none _ _ (none_handed w.kind s.core.registers t.core.registers handed) (none_public s t public))

-- ---- two steps

pub same_crossing : (s t : State) (due : List ScriptEvent) → (step s due).state.bus.board.regions ≡ (step t due).state.bus.board.regions
    → what_of (step s due) (step t due) ≡ None → crossing (step s due) ≡ crossing (step t due)
same_crossing s t due regions e =
    crossing_told (step s due) (tells_way s due)
    ∙ same_told (step s due).report.way (step t due).report.way (step s due).state (step t due).state regions (numbered s due) (numbered t due) e
    ∙ sym (crossing_told (step t due) (tells_way t due))

pub none_crossing : (s t : State) (due : List ScriptEvent) → crossing (step s due) ≡ crossing (step t due) → what_of (step s due) (step t due) ≡ None
none_crossing s t due e =
    none_told (step s due).report.way (step t due).report.way (step s due).state (step t due).state
    (sym (crossing_told (step s due) (tells_way s due)) ∙ e ∙ crossing_told (step t due) (tells_way t due))
