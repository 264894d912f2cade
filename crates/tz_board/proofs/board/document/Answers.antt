use Rattle.std.proofs.Common.{◌∙◌, None, Some, ap, sym}
use Rattle.std.proofs.lemmas.Bool.{false≢true}
use Rattle.toml.specs.Parse.{parse_document}
use Rattle.toml.specs.View.{table_view}
use Rattle.tz_board.specs.Boards.{documented}
use Rattle.tz_board.proofs.Documents.{document_of-not_utf8, document_of-utf8}
use Rattle.tz_board.proofs.board.document.Goals as goal

pub returns-in_default-clause-err : goal.returns-in_default-clause-err
returns-in_default-clause-err c = ap documented (document_of-not_utf8 c.args.bytes.now c.in_default.ensures.cases.0)

pub returns-in-Ok-table_from_str-clause-ok : goal.returns-in-Ok-table_from_str-clause-ok
returns-in-Ok-table_from_str-clause-ok c =
    let text = c.in-Ok.ensures.cases in
    ap documented (document_of-utf8 c.args.bytes.now (Some (table_view c.in-Ok-table_from_str.table)) text.1 (sym (ap parse_document text.0) ∙ c.in-Ok-table_from_str.ensures.ok))

pub returns-else-is_memory-clause-err : goal.returns-else-is_memory-clause-err
returns-else-is_memory-clause-err c =
    let text = c.in-Ok.ensures.cases in
    ap documented (document_of-utf8 c.args.bytes.now None text.1 (sym (ap parse_document text.0) ∙ c.in-Err.ensures.refused (λ memory. false≢true (c.if-is_memory.ensures.1 memory))))
