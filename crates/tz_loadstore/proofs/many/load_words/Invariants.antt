use Rattle.std.proofs.Common.{◌≡◌, ◌-◌}
use Rattle.arrayvec.specs.ArrayVec.{array_vec_len}
use Rattle.tz_model.specs.Ports.{answers}
use Rattle.tz_sem.specs.LoadStore.{word_loads}
use Rattle.tz_loadstore.proofs.Words.{read_on}
use Rattle.tz_loadstore.proofs.many.load_words.Given as goal

abbrev pub invariant-loop : goal.invariant-loop
invariant-loop g l = record {
  answered : read_on l.words.items (answers g.P.Port.answer (g.P.Port.held l.port) (word_loads l.next (l.count - l.counter))) ≡ answers g.P.Port.answer (g.P.Port.held l.fn.port) (word_loads l.addr l.count);
  length : array_vec_len l.words ≡ l.counter;
  room : g.P.Port.room l.port ≡ g.P.Port.room l.fn.port;
  lent : g.P.Port.lent l.port ≡ g.P.Port.lent l.fn.port;
}
