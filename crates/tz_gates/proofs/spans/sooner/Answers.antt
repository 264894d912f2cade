use Rattle.std.proofs.Common.{ℕ, Option, subst}
use Rattle.tz_gates.specs.Scanned.{IsNextOf}
use Rattle.tz_gates.proofs.Regions.{next_other, next_one, next_first, next_second}
use Rattle.tz_gates.proofs.spans.sooner.Goals as goal

pub returns-in-None : goal.returns-in-None
returns-in-None c = λ rs qs from p q.
    next_other rs qs from c.args.other (subst (λ (o : Option (ℕ × ℕ)). IsNextOf rs from o) c.in-None.is p) q

pub returns-in-None-other : goal.returns-in-None-other
returns-in-None-other c = λ rs qs from p q.
    next_one rs qs from c.in-Some.first (subst (λ (o : Option (ℕ × ℕ)). IsNextOf rs from o) c.in-Some.is p) (subst (λ (o : Option (ℕ × ℕ)). IsNextOf qs from o) c.in-None-other.is q)

pub returns-then-first-second : goal.returns-then-first-second
returns-then-first-second c = λ rs qs from p q.
    next_first rs qs from c.in-Some.first c.in-Some-other.second c.if-first-second.true (subst (λ (o : Option (ℕ × ℕ)). IsNextOf rs from o) c.in-Some.is p)
    (subst (λ (o : Option (ℕ × ℕ)). IsNextOf qs from o) c.in-Some-other.is q)

pub returns-else-first-second : goal.returns-else-first-second
returns-else-first-second c = λ rs qs from p q.
    next_second rs qs from c.in-Some.first c.in-Some-other.second c.if-first-second.false (subst (λ (o : Option (ℕ × ℕ)). IsNextOf rs from o) c.in-Some.is p)
    (subst (λ (o : Option (ℕ × ℕ)). IsNextOf qs from o) c.in-Some-other.is q)
