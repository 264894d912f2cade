use Rattle.std.proofs.Common.{◌≡◌, ◌∙◌, ◌+◌, ap, arith, length}
use Rattle.tz_model.specs.Image.{SegmentValue, end_of}
use Rattle.tz_elf.proofs.Taken.{AreOf-push_from}
use Rattle.tz_elf.proofs.placed.Placed.push.Goals as goal

pub returns-clause-kept : goal.returns-clause-kept
returns-clause-kept c =
    let s = c.args.segment in
    let base : c.from-base.result ≡ s.base = c.from-base.ensures ∙ ap (λ (s : SegmentValue). s.base) c.segment.view_is in
    let size : c.len.result ≡ length s.bytes = c.len.ensures ∙ c.segment.inside.bytes.ok.0 ∙ ap (λ (s : SegmentValue). length s.bytes) c.segment.view_is in
    let past : c.from-base.result + c.len.result ≡ end_of s = omega (arith, base, size) in
    AreOf-push_from c.args.self.now.segments.items c.push.new.self.items s c.args.self.now.ranges c.insert.new.self c.from-base.result (c.from-base.result + c.len.result) base past
    c.in_ok-push.ensures.items c.requires.kept c.requires.some c.requires.clear c.in_ok-insert.ensures.updates
