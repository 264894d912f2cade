use Rattle.std.proofs.Common.{◌≡◌, ◌+◌, ◌-◌, length, take, ap, ◌∙◌, sym, arith}
use Rattle.tz_state.specs.State.{Bus, with_memory}
use Rattle.tz_access.specs.Written.{undone}
use Rattle.tz_access.proofs.Undoing.{undone_none, taken_all}
use Rattle.tz_access.proofs.bus.Bus.undo.Goals as goal

pub loop-index-init : goal.loop-index-init
loop-index-init c =
    let ws = c.args.written.now.items in
    let all : c.len-count.result - 0 ≡ length ws = omega (arith, c.len-count.ensures) in
    record {
      told = ap (λ xs. with_memory c.args.self.now.state (undone xs c.args.self.now.state.memory)) (sym (taken_all ws (c.len-count.result - 0) all));
      count = c.len-count.ensures;
    }

pub loop-index-preserved : goal.loop-index-preserved
loop-index-preserved c =
    let ws = c.args.written.now.items in
    let before : Bus = c.loop-index.self.state in
    let after : Bus = c.undo_one.new.self.state in
    let left : c.len-count.result - c.loop-index.index ≡ c.len-count.result - 1 - c.loop-index.index + 1 = omega (arith, c.loop-index-test.true) in
    let next : c.len-count.result - 1 - c.loop-index.index ≡ c.len-count.result - (c.loop-index.index + 1) = omega arith in
    record {
      told = c.loop-index.invariant.told
          ∙ ap (λ n. with_memory before (undone (take n ws) before.memory)) left
          ∙ sym c.undo_one.ensures
          ∙ ap (λ n. with_memory after (undone (take n ws) after.memory)) next;
      count = c.loop-index.invariant.count;
    }

pub returns : goal.returns
returns c =
    let ws = c.args.written.now.items in
    let left : Bus = c.loop-index.self.state in
    let none : c.len-count.result - c.loop-index.index ≡ 0 = omega (arith, c.loop-index-test.false) in
    sym (c.loop-index.invariant.told ∙ ap (λ n. with_memory left (undone (take n ws) left.memory)) none ∙ ap (λ m. with_memory left m) (undone_none ws left.memory))
