use Rattle.std.proofs.Common.{◌≤◌, arith}
use Rattle.std.proofs.lemmas.Bool.Decides.{nat_tests}
use Rattle.tz_model.specs.declared.board.RegionKind.TheVariants.{Rom}
use Rattle.tz_model.specs.declared.board.RegionSide.TheVariants.{Secure}
use Rattle.tz_model.specs.Board.{bytes_of}
use Rattle.tz_fields.proofs.Indexed.{memory_next, memory_whole}
use Rattle.tz_fields.proofs.words.word_count.Goals as goal

pub overflow_add-memory : goal.overflow_add-memory
overflow_add-memory c =
    let small : bytes_of c.deref-region-items.result.now ≤ 4194304 = grind (arith, nat_tests, c.deref-region-items.ensures.value, c.board.invariant.small) in
    omega (arith, c.loop-region.invariant, memory_next c.deref-region-items.result.now c.loop-region.region-index (record { base = 0; size = 0; kind = Rom; side = Secure }) c.loop-region-test.true small)

pub overflow_add-result-3 : goal.overflow_add-result-3
overflow_add-result-3 c =
    let small : bytes_of c.deref-region-items.result.now ≤ 4194304 = grind (arith, nat_tests, c.deref-region-items.ensures.value, c.board.invariant.small) in
    omega (arith, c.loop-region.invariant, memory_whole c.deref-region-items.result.now c.loop-region.region-index small, c.field_count.ensures.few, c.slot_count.ensures.few, c.channel_count.ensures.few)
