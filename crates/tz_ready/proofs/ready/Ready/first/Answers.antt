use Rattle.std.proofs.Common.{◌+◌, get_or, subst}
use Rattle.tz_ready.specs.Levels.{is_set}
use Rattle.tz_ready.specs.Links.{Linked, HasNone, IsFirst}
use Rattle.tz_ready.proofs.Finding.{none_found, first_found}
use Rattle.tz_ready.proofs.ready.Ready.first.Goals as goal

pub returns-in-None-clause-is : goal.returns-in-None-clause-is
returns-in-None-clause-is g c =
    let h = rw (c.number-start.ensures.is, c.words_to.ensures) at c.in-None.ensures.is in
    subst (λ (l : Linked). HasNone l c.args.side c.args.from) c.self.view_is
    (none_found c.self.inside.queues (λ i. get_or c.self.inside.after i 0) (λ i. get_or c.self.inside.before i 0) (is_set c.self.inside.levels.words) c.args.side c.args.from c.self.invariant.threads h)

pub returns-in-Some-clause-is : goal.returns-in-Some-clause-is
returns-in-Some-clause-is g c =
    let h = rw (c.number-start.ensures.is, c.words_to.ensures) at c.in-Some.ensures.is in
    subst (λ (l : Linked). IsFirst l c.args.side c.args.from (get_or c.self.inside.after (272 + c.in-Some.number) 0)) c.self.view_is
    (first_found c.self.inside.queues (λ i. get_or c.self.inside.after i 0) (λ i. get_or c.self.inside.before i 0) (is_set c.self.inside.levels.words) c.args.side c.args.from c.self.invariant.threads c.in-Some.number h)
