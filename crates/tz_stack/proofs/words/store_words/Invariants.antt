use Rattle.std.proofs.Common.{◌≡◌, ◌≤◌, ◌+◌, drop}
use Rattle.tz_frames.specs.Stack.{written}
use Rattle.tz_stack.proofs.words.store_words.Given as goal

abbrev pub invariant-loop-word : goal.invariant-loop-word
invariant-loop-word g l = record {
  told : written g.P.Frames.answer l.side l.privileged (g.P.Frames.held l.port) l.addr (drop l.word-index l.words) ≡ written g.P.Frames.answer l.side l.privileged (g.P.Frames.held l.fn.port) l.base l.words;
  room : g.P.Frames.room l.fn.port ≤ g.P.Frames.room l.port + l.word-index;
  lent : g.P.Frames.lent l.port ≡ g.P.Frames.lent l.fn.port;
}
