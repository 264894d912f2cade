use Rattle.std.proofs.Common.{◌≡◌, ◌-◌, length, take}
use Rattle.tz_frames.specs.Stack.{reads}
use Rattle.tz_stack.proofs.Reading.{behind}
use Rattle.tz_stack.proofs.words.load_words.Given as goal

abbrev pub invariant-loop-index : goal.invariant-loop-index
invariant-loop-index g l = record {
  read : reads g.P.Frames.answer l.side l.privileged (g.P.Frames.held l.fn.port) l.base g.row.N ≡ behind (take l.index l.words) (reads g.P.Frames.answer l.side l.privileged (g.P.Frames.held l.fn.port) l.addr (g.row.N - l.index));
  long : length l.words ≡ g.row.N;
  kept : g.P.Frames.held l.port ≡ g.P.Frames.held l.fn.port;
  room : g.P.Frames.room l.port ≡ g.P.Frames.room l.fn.port;
  lent : g.P.Frames.lent l.port ≡ g.P.Frames.lent l.fn.port;
}
