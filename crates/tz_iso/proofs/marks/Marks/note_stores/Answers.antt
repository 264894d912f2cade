use Rattle.tz_iso.proofs.Marking.{grows_then, in_memory_next, in_memory_end, beside_next, beside_end}
use Rattle.tz_iso.proofs.marks.Marks.note_stores.Goals as goal

pub loop-store-preserved : goal.loop-store-preserved
loop-store-preserved c =
    let h = c.loop-store.invariant in
    let k = c.note_store.ensures in
    record {
      grows = grows_then c.args.self.now c.loop-store.self c.note_store.new.self h.grows k.grows;
      all = λ e. in_memory_next c.args.stores.now c.loop-store.store-index _ _ c.loop-store-test.true (k.all e) (h.all (k.grows.all e));
      exceptions = λ e. in_memory_next c.args.stores.now c.loop-store.store-index _ _ c.loop-store-test.true (k.exceptions e) (h.exceptions (k.grows.exceptions e));
      bytes = λ a e. beside_next c.args.stores.now c.loop-store.store-index _ a _ c.loop-store-test.true (k.bytes a e) (h.bytes a (k.grows.blocks _ e));
    }

pub returns-clause-all : goal.returns-clause-all
returns-clause-all c = λ e. in_memory_end c.args.stores.now c.loop-store.store-index _ c.loop-store-test.false (c.loop-store.invariant.all e)

pub returns-clause-exceptions : goal.returns-clause-exceptions
returns-clause-exceptions c = λ e. in_memory_end c.args.stores.now c.loop-store.store-index _ c.loop-store-test.false (c.loop-store.invariant.exceptions e)

pub returns-clause-bytes : goal.returns-clause-bytes
returns-clause-bytes c = λ a e. beside_end c.args.stores.now c.loop-store.store-index a _ c.loop-store-test.false (c.loop-store.invariant.bytes a e)
