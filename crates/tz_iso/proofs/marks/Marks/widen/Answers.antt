use Rattle.std.proofs.Common.{◌≡◌, ℕ, List, get_or, false, refl, subst}
use Rattle.tz_iso.specs.declared.marks.Blocks.{Blocks}
use Rattle.tz_iso.specs.Marks.{is_among}
use Rattle.tz_iso.proofs.Marking.{widened_grows, widened_marks, written_through}
use Rattle.tz_iso.proofs.marks.Marks.widen.Goals as goal

pub returns-clause-grows : goal.returns-clause-grows
returns-clause-grows c =
    widened_grows c.args.self.now _ c.args.index (record { first = 0; last = 0 }) c.widened.result refl refl
    (written_through c.args.self.now.ranges.items c.deref_mut.result.now c.args.index c.widened.result c.deref_mut.ensures.value)
    (subst (λ (rs : List Blocks). (block : ℕ) → is_among c.widened.result block ≡ false → is_among (get_or rs c.args.index (record { first = 0; last = 0 })) block ≡ false) c.deref.ensures.0
    c.widened.ensures.more)

pub returns-clause-block : goal.returns-clause-block
returns-clause-block c =
    widened_marks c.args.self.now.all c.args.self.now.ranges.items _ c.args.index c.widened.result c.args.block c.requires
    (written_through c.args.self.now.ranges.items c.deref_mut.result.now c.args.index c.widened.result c.deref_mut.ensures.value) c.widened.ensures.block
