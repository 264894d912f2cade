use Rattle.std.proofs.Common.{◌∙◌, ap, sym}
use Rattle.tz_text.specs.Fronts.{line_of, size_of}
use Rattle.tz_text.proofs.Listing.{front_none, front_some}
use Rattle.tz_text.proofs.disassembly.lines.push_front.Goals as goal

pub returns-then-is_empty-clause-line : goal.returns-then-is_empty-clause-line
returns-then-is_empty-clause-line c =
    let e = front_none c.args.at c.args.bytes.now c.front_text-text.result.bytes c.read_front-front.result c.is_empty.result c.read_front-front.ensures c.front_text-text.ensures c.is_empty.ensures c.if-is_empty.true in
    c.push_line.ensures ∙ ap (line_of c.args.at) (c.first_alone-first.ensures ∙ sym e)

pub returns-then-is_empty-clause-size : goal.returns-then-is_empty-clause-size
returns-then-is_empty-clause-size c =
    let e = front_none c.args.at c.args.bytes.now c.front_text-text.result.bytes c.read_front-front.result c.is_empty.result c.read_front-front.ensures c.front_text-text.ensures c.is_empty.ensures c.if-is_empty.true in
    c.size_of.ensures ∙ ap size_of (c.first_alone-first.ensures ∙ sym e)

pub returns-clause-line : goal.returns-clause-line
returns-clause-line c =
    let e = front_some c.args.at c.args.bytes.now c.front_text-text.result.bytes c.read_front-front.result c.is_empty.result c.read_front-front.ensures c.front_text-text.ensures c.is_empty.ensures c.if-is_empty.false in
    c.push_line-2.ensures ∙ ap (line_of c.args.at) (sym e)

pub returns-clause-size : goal.returns-clause-size
returns-clause-size c =
    let e = front_some c.args.at c.args.bytes.now c.front_text-text.result.bytes c.read_front-front.result c.is_empty.result c.read_front-front.ensures c.front_text-text.ensures c.is_empty.ensures c.if-is_empty.false in
    c.size_of-2.ensures ∙ ap size_of (sym e)
