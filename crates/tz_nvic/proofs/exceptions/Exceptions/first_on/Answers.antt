use Rattle.std.proofs.Common.{Option, sym, subst, ap, ◌∙◌}
use Rattle.tz_state.specs.Slots.{ExceptionsValue}
use Rattle.tz_nvic.specs.declared.choice.Candidate.{Candidate}
use Rattle.tz_nvic.specs.Choice.{candidate_at, Leads, IsOn}
use Rattle.tz_nvic.specs.Viewed.{value_of}
use Rattle.tz_nvic.proofs.Leading.{first_leads}
use Rattle.tz_nvic.proofs.exceptions.Exceptions.first_on.Goals as goal

pub returns-in-Some-clause-is : goal.returns-in-Some-clause-is
returns-in-Some-clause-is g c =
    let h = c.self.invariant in
    let e : ExceptionsValue = value_of c.self.inside in
    let leads = first_leads e c.self.inside.ready c.args.side c.in-Some.slot (h.2, h.3) h.6 c.in-Some.ensures.is in
    let same = c.candidate.ensures.is ∙ ap (candidate_at c.args.self.now) c.from.ensures in
    subst (λ (o : Option Candidate). Leads c.args.self.now (IsOn c.args.self.now c.args.side) o) (sym same)
    (subst (λ (x : ExceptionsValue). Leads x (IsOn x c.args.side) (candidate_at x c.in-Some.slot)) c.self.view_is leads)
