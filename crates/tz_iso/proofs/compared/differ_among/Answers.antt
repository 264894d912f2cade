use Rattle.std.proofs.Common.{◌*◌, arith, sym}
use Rattle.tz_state.specs.Difference.{open_byte_differs}
use Rattle.tz_access.proofs.OpenBytes.{some_anywhere}
use Rattle.tz_iso.proofs.Blockwise.{none_before, none_further, none_past}
use Rattle.tz_iso.proofs.compared.differ_among.Goals as goal

pub loop-block-init : goal.loop-block-init
loop-block-init c = λ a from below. none_before c.args.range.first _ from below

pub returns-then-differs_at_block-clause-some : goal.returns-then-differs_at_block-clause-some
returns-then-differs_at_block-clause-some c = λ is. some_anywhere c.args.b.now.state c.args.c.now.state (c.loop-block.block * 32) 32 (sym c.if-differs_at_block.ensures)

pub loop-block-preserved : goal.loop-block-preserved
loop-block-preserved c =
    none_further (open_byte_differs c.args.b.now.state c.args.c.now.state) c.args.range.first c.loop-block.block c.loop-block.invariant (sym c.if-differs_at_block.ensures)

pub returns-clause-none : goal.returns-clause-none
returns-clause-none c =
    λ is. none_past (open_byte_differs c.args.b.now.state c.args.c.now.state) c.args.range c.loop-block.block c.loop-block.invariant (omega (arith, c.loop-block-test.false))
