use Rattle.std.proofs.Common.{◌∙◌, ap, rules}
use Rattle.std.proofs.lemmas.Fn.{filter_same}
use Rattle.std.proofs.lemmas.List.Sorted.{IsNonDecreasingBy-from_sort_by_key}
use Rattle.tz_model.specs.Image.{ImageValue, SegmentValue}
use Rattle.tz_text.specs.Runs.{ascending, filled, has_bytes}
use Rattle.tz_text.proofs.Sorting.{sorted_addressed, sorted_is}
use Rattle.tz_text.proofs.disassembly.order.ascending.Goals as goal

pub returns-clause-order : goal.returns-clause-order
returns-clause-order c =
    let kept = filter_same _ has_bytes _ (λ x b f' k. search rules) _ _ c.retain.ensures.filtered in
    let order = IsNonDecreasingBy-from_sort_by_key (λ (s : SegmentValue). s.base) _ c.sort_unstable_by_key.ensures.sorted (λ a r q k. search rules) in
    sorted_is c.image.inside.segments.items c.retain.new.self.items c.sort_unstable_by_key.new.self.items c.image.invariant.clear kept c.sort_unstable_by_key.ensures.permutation order
    ∙ ap (λ (i : ImageValue). ascending (filled i.segments)) c.image.view_is

pub returns-clause-addressed : goal.returns-clause-addressed
returns-clause-addressed c =
    let kept = filter_same _ has_bytes _ (λ x b f' k. search rules) _ _ c.retain.ensures.filtered in
    sorted_addressed c.image.inside.segments.items c.retain.new.self.items c.sort_unstable_by_key.new.self.items c.image.invariant.addressed kept c.sort_unstable_by_key.ensures.permutation
