use Rattle.std.proofs.Common.{ap, sym, ◌∙◌, arith, rules}
use Rattle.std.proofs.lemmas.Grind.{common_steps}
use Rattle.tz_frames.specs.Stack.{word_read}
use Rattle.tz_stack.proofs.Reading.{reads_fail, reads_more, reads_done}
use Rattle.tz_stack.proofs.words.load_words.Goals as goal

pub returns-in-Err-clause-read : goal.returns-in-Err-clause-read
returns-in-Err-clause-read g c =
    let l = c.loop-index in
    sym
    (l.invariant.read
    ∙ reads_fail g.P.Frames.answer c.args.side c.args.privileged (g.P.Frames.held c.args.port.now) l.addr g.row.N l.index _ c.in-Err.fault (omega arith)
    (sym c.in-Err.is ∙ c.load_word.ensures.read ∙ ap (λ h. word_read g.P.Frames.answer c.args.side c.args.privileged h l.addr) l.invariant.kept))

pub loop-index-preserved : goal.loop-index-preserved
loop-index-preserved g c =
    let l = c.loop-index in
    record {
      read = l.invariant.read
          ∙ reads_more g.P.Frames.answer c.args.side c.args.privileged (g.P.Frames.held c.args.port.now) l.addr g.row.N l.index l.words c.in-Ok.word (omega arith) l.invariant.long
          (sym c.in-Ok.is ∙ c.load_word.ensures.read ∙ ap (λ h. word_read g.P.Frames.answer c.args.side c.args.privileged h l.addr) l.invariant.kept);
      long = search rules;
      kept = c.load_word.ensures.kept ∙ l.invariant.kept;
      room = c.load_word.ensures.room ∙ l.invariant.room;
      lent = c.load_word.ensures.lent ∙ l.invariant.lent;
    }

pub returns-clause-read : goal.returns-clause-read
returns-clause-read g c =
    let l = c.loop-index in
    sym (l.invariant.read ∙ reads_done g.P.Frames.answer c.args.side c.args.privileged (g.P.Frames.held c.args.port.now) l.addr g.row.N l.index l.words (omega arith) l.invariant.long)

-- The first call that the prover tries finds nothing here, after long: the one that does is named.
pub loop-index-init : goal.loop-index-init
loop-index-init g c = grind (arith, common_steps)

pub bounds-words-index : goal.bounds-words-index
bounds-words-index g c = grind (arith, common_steps)
