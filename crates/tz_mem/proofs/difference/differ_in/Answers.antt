use Rattle.std.proofs.Common.{◌≡◌, ◌∙◌, ◌+◌, ◌<◌, ◌≤◌, ap, sym, arith, length, map}
use Rattle.std.specs.Prelude.{not, nat_eq}
use Rattle.std.specs.List.{slice_range}
use Rattle.std.specs.Cmp.Lexicographic.{pointwise}
use Rattle.tz_model.specs.declared.board.Region.{Region}
use Rattle.tz_state.specs.Difference.{byte_differs}
use Rattle.tz_mem.specs.Blocks.{BlockValue, memory_of, region_of}
use Rattle.tz_mem.specs.Difference.{some_from, region_at}
use Rattle.tz_mem.proofs.Ranges.{region_there, same_length, ranges_differ}
use Rattle.tz_mem.proofs.difference.differ_in.Goals as goal

pub returns : goal.returns
returns c =
    let ks = c.args.blocks.now in
    let hs = c.args.others.now in
    let i = c.args.index in
    let j = c.args.offset in
    let n = c.args.count in
    let k = c.index-blocks-index.result in
    let h = c.index-others-index.result in
    let left : c.deref.result.now ≡ k.bytes = c.deref.ensures.value ∙ ap (λ (x : BlockValue). x.bytes) c.mine.view_is in
    let right : c.deref-2.result.now ≡ h.bytes = c.deref-2.ensures.value ∙ ap (λ (x : BlockValue). x.bytes) c.other.view_is in
    let region : region_at (map region_of ks) i ≡ region_of k = region_there ks i k c.requires.there c.index-blocks-index.is in
    let size : (region_at (map region_of ks) i).size ≡ length k.bytes = ap (λ (r : Region). r.size) region in
    let fit : j + n ≤ length k.bytes = omega (arith, c.requires.fit, size) in
    let there : i < length hs = omega (arith, c.requires.there, same_length ks hs c.requires.same) in
    c.ne.ensures
    ∙ ap (λ xs. not (pointwise nat_eq (slice_range xs j (j + n)) (slice_range c.deref-2.result.now j (j + n)))) left
    ∙ ap (λ xs. not (pointwise nat_eq (slice_range k.bytes j (j + n)) (slice_range xs j (j + n)))) right
    ∙ ranges_differ ks hs i j n k h c.requires.same c.requires.apart c.requires.there there c.index-blocks-index.is c.index-others-index.is fit
    ∙ ap (λ (r : Region). some_from (byte_differs (memory_of ks) (memory_of hs)) (r.base + j) n) (sym region)
