-- A slot that stands where it is put stays there.
use Rattle.std.proofs.Common.{◌≡◌, ℕ, Bool, true, false, Some, None, Option, set, refl, sym, ap, ◌∙◌, arith}
use Rattle.std.specs.Prelude.{◌==◌, ◌&&◌, not}
use Rattle.std.proofs.lemmas.List.{set-get_or}
use Rattle.std.proofs.lemmas.Bool.Decides.{nat_tests}
use denote.Enum.Bare.{sameb}
use Rattle.tz_table.specs.contracts.units.Side.{the_type}
use Rattle.tz_table.specs.declared.units.Side.{Side}
use Rattle.tz_table.specs.declared.units.Side.TheVariants.{Secure, NonSecure}
use Rattle.tz_ready.specs.declared.queue.Queue.{Queue}
use Rattle.tz_ready.specs.Links.{Linked, queue_of}
use Rattle.tz_ready.proofs.ready.Ready.put.Goals as goal

both : (a b : Bool) → false ≡ not (a && b) → (a ≡ true) × (b ≡ true)
both true true e = (refl, refl)
both true false e = cc
both false b e = cc

same_level : (l m : ℕ) → (l == m) ≡ true → l ≡ m
same_level l m e = grind (arith, nat_tests)

same_side : (s t : Side) → sameb the_type s t ≡ true → s ≡ t
same_side Secure Secure e = refl
same_side Secure NonSecure e = cc
same_side NonSecure Secure e = cc
same_side NonSecure NonSecure e = refl

abbrev queue : ℕ → Side → Queue
queue level side = record { level = level; side = side }

same_queue : (p q : Queue) → false ≡ not ((p.level == q.level) && sameb the_type p.side q.side) → p ≡ q
same_queue p q e =
    let h = both (p.level == q.level) (sameb the_type p.side q.side) e in
    ap (λ l. queue l p.side) (same_level p.level q.level h.0) ∙ ap (λ s. queue q.level s) (same_side p.side q.side h.1)

stays : (l : Linked) (i : ℕ) (q : Option Queue) → queue_of l i ≡ q → l ≡ set l i q
stays l i q e = sym (ap (set l i) (sym e) ∙ set-get_or l i None)

pub returns-else-ne : goal.returns-else-ne
returns-else-ne c =
    let same = same_queue c.in-Some-Some.old c.in-Some-Some.queue (sym c.if-ne.false ∙ c.ne.ensures) in
    stays c.args.self.now c.args.slot c.args.queue (sym c.queue.ensures ∙ c.in-Some-Some.is-0 ∙ ap (λ q. Some q) same ∙ sym c.in-Some-Some.is-1)
