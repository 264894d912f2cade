use Rattle.std.proofs.Common.{◌≡◌, Some, refl, ap, ◌∙◌, sym, subst}
use Rattle.tz_access.specs.Written.{before_stores}
use Rattle.tz_access.proofs.bus.Bus.write_noted.Goals as goal

pub returns-in-None-clause-noted : goal.returns-in-None-clause-noted
unfolding before_stores
returns-in-None-clause-noted c =
    subst (λ o. before_stores o c.write.new.self.state.memory ≡ before_stores o c.args.self.now.state.memory) (sym c.in-None.is) refl

pub returns-in-Some-clause-noted : goal.returns-in-Some-clause-noted
unfolding before_stores
returns-in-Some-clause-noted c = ap Some c.write_into.ensures.noted ∙ ap (λ o. before_stores o c.args.self.now.state.memory) (sym c.in-Some.is)
