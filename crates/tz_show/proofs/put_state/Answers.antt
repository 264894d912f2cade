use Rattle.std.proofs.Common.{◌≡◌, ◌++◌, ◌∙◌, ap, refl, subst, List, ℕ}
use Rattle.tz_model.specs.Outside.{Put}
use Rattle.tz_regs.specs.declared.parts.Core.{Core}
use Rattle.tz_state.specs.Slots.{ExceptionsValue}
use Rattle.tz_state.specs.State.{Bus, State}
use Rattle.tz_show.specs.Page.{core_text, rest_text, state_text}
use Rattle.tz_show.proofs.put_state.Goals as goal

-- the sections of the parts of a state are those of the state
state_of_parts : (s : State) (c : Core) (e : ExceptionsValue) (b : Bus) (step : ℕ) →
    c ≡ s.core → e ≡ s.exceptions → b ≡ s.bus → core_text c e step ++ rest_text c e b ≡ state_text s step
unfolding state_text
state_of_parts s c e b step p q r = rw (p, q, r) refl

pub returns-clause-put : goal.returns-clause-put
returns-clause-put g c =
    let s = c.args.state.now in
    let k = c.core-core.result.now in
    let e = c.exceptions-exceptions.result.now in
    let b = c.bus.result.now.state in
    let core = c.push_core.ensures.bytes ∙ ap (λ (x : List ℕ). x ++ core_text k e c.args.step) c.new-text.ensures in
    let all = c.push_rest.ensures.bytes ∙ ap (λ (x : List ℕ). x ++ rest_text k e b) core in
    let bytes = c.as_bytes.ensures.value ∙ (c.as_str.ensures.value ∙ (all ∙ state_of_parts s k e b c.args.step c.core-core.ensures c.exceptions-exceptions.ensures c.bus.ensures)) in
    subst (λ (bs : List ℕ). Put (g.O.Sink.written c.args.out.now) (g.O.Sink.written c.put.new.self) (g.O.Sink.space c.args.out.now) (g.O.Sink.space c.put.new.self) bs c.put.result) bytes c.put.ensures.put
