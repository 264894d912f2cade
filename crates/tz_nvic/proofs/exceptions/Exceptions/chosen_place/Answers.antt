-- What leads the three slots of fixed priority and both sides is chosen.
use Rattle.std.proofs.Common.{Option, sym, subst, ap, ◌∙◌}
use Rattle.tz_nvic.specs.declared.choice.Candidate.{Candidate}
use Rattle.tz_nvic.specs.Choice.{Leads}
use Rattle.tz_nvic.proofs.Leading.{IsAny, place_of, found_leads, leading_chosen, ready_place}
use Rattle.tz_nvic.proofs.exceptions.Exceptions.chosen_place.Goals as goal

pub returns-in-None-clause-is : goal.returns-in-None-clause-is
returns-in-None-clause-is g c =
    let leads = found_leads c.args.self.now c.candidate-nmi.result c.candidate-hard_s.result c.candidate-hard_ns.result c.lower.result c.first_on-secure.result c.first_on-nonsecure.result c.lower-fixed.result c.lower-2.result c.lower-3.result
    c.candidate-nmi.ensures.is c.candidate-hard_s.ensures.is c.candidate-hard_ns.ensures.is c.first_on-secure.ensures.is c.first_on-nonsecure.ensures.is c.lower.ensures c.lower-fixed.ensures c.lower-2.ensures c.lower-3.ensures in
    ap place_of (sym c.in-None.is) ∙ leading_chosen c.args.self.now c.lower-3.result leads

pub returns-in-Some-clause-is : goal.returns-in-Some-clause-is
returns-in-Some-clause-is g c =
    let leads = found_leads c.args.self.now c.candidate-nmi.result c.candidate-hard_s.result c.candidate-hard_ns.result c.lower.result c.first_on-secure.result c.first_on-nonsecure.result c.lower-fixed.result c.lower-2.result c.lower-3.result
    c.candidate-nmi.ensures.is c.candidate-hard_s.ensures.is c.candidate-hard_ns.ensures.is c.first_on-secure.ensures.is c.first_on-nonsecure.ensures.is c.lower.ensures c.lower-fixed.ensures c.lower-2.ensures c.lower-3.ensures in
    ap place_of (sym c.in-Some.is) ∙ leading_chosen c.args.self.now c.lower-3.result leads

pub returns-in-Some-clause-place : goal.returns-in-Some-clause-place
returns-in-Some-clause-place g c =
    let leads = found_leads c.args.self.now c.candidate-nmi.result c.candidate-hard_s.result c.candidate-hard_ns.result c.lower.result c.first_on-secure.result c.first_on-nonsecure.result c.lower-fixed.result c.lower-2.result c.lower-3.result
    c.candidate-nmi.ensures.is c.candidate-hard_s.ensures.is c.candidate-hard_ns.ensures.is c.first_on-secure.ensures.is c.first_on-nonsecure.ensures.is c.lower.ensures c.lower-fixed.ensures c.lower-2.ensures c.lower-3.ensures in
    let first = subst (λ (o : Option Candidate). Leads c.args.self.now (IsAny c.args.self.now) o) c.in-Some.is leads in
    ready_place c.args.self.now c.in-Some.first.place first.ready
