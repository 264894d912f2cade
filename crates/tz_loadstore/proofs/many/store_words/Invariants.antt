use Rattle.std.proofs.Common.{◌≡◌, ◌≤◌, ◌+◌, drop}
use Rattle.std.specs.Prelude.{replicate}
use Rattle.tz_model.specs.Ports.{answers}
use Rattle.tz_sem.specs.Local.{local_of}
use Rattle.tz_sem.specs.LoadStore.{word_stores}
use Rattle.tz_loadstore.proofs.Words.{read_on}
use Rattle.tz_loadstore.proofs.many.store_words.Given as goal

abbrev pub invariant-loop-index : goal.invariant-loop-index
invariant-loop-index g l = record {
  answered : read_on (replicate l.index-index 0) (answers g.P.Port.answer (g.P.Port.held l.port) (word_stores (local_of l.core) l.next (drop l.index-index l.registers))) ≡ answers g.P.Port.answer (g.P.Port.held l.fn.port) (word_stores (local_of l.core) l.addr l.registers);
  room : g.P.Port.room l.fn.port ≤ g.P.Port.room l.port + l.index-index;
  lent : g.P.Port.lent l.port ≡ g.P.Port.lent l.fn.port;
}
