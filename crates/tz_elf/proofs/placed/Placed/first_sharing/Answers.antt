use Rattle.std.proofs.Common.{◌≡◌, ◌∙◌, ◌+◌, ap, arith, length}
use Rattle.tz_model.specs.Image.{SegmentValue, end_of}
use Rattle.tz_elf.proofs.Taken.{first_sharing-free_from}
use Rattle.tz_elf.proofs.placed.Placed.first_sharing.Goals as goal

pub returns-then-are_free-clause-first : goal.returns-then-are_free-clause-first
returns-then-are_free-clause-first c =
    let s = c.args.segment.now in
    let base : c.from-base.result ≡ s.base = c.from-base.ensures ∙ ap (λ (s : SegmentValue). s.base) c.segment.view_is in
    let size : c.len.result ≡ length s.bytes = c.len.ensures ∙ c.segment.inside.bytes.ok.0 ∙ ap (λ (s : SegmentValue). length s.bytes) c.segment.view_is in
    let past : c.from-base.result + c.len.result ≡ end_of s = omega (arith, base, size) in
    first_sharing-free_from c.args.self.now.ranges s c.args.self.now.segments.items c.from-base.result (c.from-base.result + c.len.result) base past c.requires.kept.each
    (c.are_free.ensures.0 c.if-are_free.true)
