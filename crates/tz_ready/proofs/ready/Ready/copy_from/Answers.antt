use Rattle.std.proofs.Common.{◌≡◌, ℕ, ◌<◌, ◌≤◌, None, length, get_or, sym, subst, ◌∙◌, arith}
use Rattle.std.specs.Prelude.{is_some}
use Rattle.std.specs.List.{count_by}
use Rattle.tz_ready.specs.Levels.{is_set}
use Rattle.tz_ready.specs.Links.{Linked, queue_of}
use Rattle.tz_ready.specs.Threads.{Threads}
use Rattle.tz_ready.proofs.Copying.{same_linked, both_empty, all_copied}
use Rattle.tz_ready.proofs.ready.Ready.copy_from.Goals as goal

pub returns-then-other-eq0 : goal.returns-then-other-eq0
returns-then-other-eq0 c =
    sym c.self.view_is ∙ both_empty c.self.inside.queues c.other.inside.queues c.self.invariant.queues c.other.invariant.queues (sym c.self.invariant.count ∙ c.if-self-eq0.true) (sym c.other.invariant.count ∙ c.if-other-eq0.true) ∙ c.other.view_is

abbrev NoneFrom : ℕ → Linked → Type 0
NoneFrom end l = (i : ℕ) → end ≤ i → i < 272 → queue_of l i ≡ None

pub invariant_of-self : goal.invariant_of-self
invariant_of-self c =
    let h = c.other.invariant in
    let none_here = subst (NoneFrom c.args.end) (sym c.self.view_is) c.requires.none_here in
    let none_there = subst (NoneFrom c.args.end) (sym c.other.view_is) c.requires.none_there in
    let many : length c.copy_between.new.places ≡ 272 = omega (arith, c.self.invariant.queues, c.copy_between.auto.places) in
    let same = same_linked c.self.inside.queues c.other.inside.queues c.copy_between.new.places c.args.end c.self.invariant.queues many c.copy_between.ensures h.queues none_here none_there in
    let threads = all_copied c.other.inside.queues c.self.inside.after c.copy_between-2.new.places c.copy_heads.new.after c.other.inside.after c.self.inside.before c.copy_between-3.new.places c.other.inside.before c.other.inside.levels.words c.args.end c.requires.few none_there
    c.copy_between-2.ensures c.copy_between-3.ensures c.copy_heads.ensures.slots c.copy_heads.ensures.heads h.threads in
    record {
      queues = many;
      after = omega (arith, c.self.invariant.after, c.copy_between-2.auto.places, c.copy_heads.auto.after);
      before = omega (arith, c.self.invariant.before, c.copy_between-3.auto.places);
      threads = subst (λ (l : Linked). Threads (queue_of l) (λ i. get_or c.copy_heads.new.after i 0) (λ i. get_or c.copy_between-3.new.places i 0) (is_set c.other.inside.levels.words)) (sym same) threads;
      count = subst (λ (l : Linked). c.other.inside.count ≡ count_by (λ q. is_some q) l) (sym same) h.count;
    }

pub returns : goal.returns
returns c =
    let none_here = subst (NoneFrom c.args.end) (sym c.self.view_is) c.requires.none_here in
    let none_there = subst (NoneFrom c.args.end) (sym c.other.view_is) c.requires.none_there in
    let many : length c.copy_between.new.places ≡ 272 = omega (arith, c.self.invariant.queues, c.copy_between.auto.places) in
    same_linked c.self.inside.queues c.other.inside.queues c.copy_between.new.places c.args.end c.self.invariant.queues many c.copy_between.ensures c.other.invariant.queues none_here none_there ∙ c.other.view_is
