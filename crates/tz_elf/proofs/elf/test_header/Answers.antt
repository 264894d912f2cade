use Rattle.std.proofs.Common.{◌∙◌}
use Rattle.tz_elf.proofs.Headers.{header_refusal-table, refused_as}
use Rattle.tz_elf.proofs.elf.test_header.Goals as goal

pub returns-clause-err : goal.returns-clause-err
returns-clause-err c =
    let b = c.half_field.ensures in
    let d = c.half_field-else-half_field-ne2.ensures in
    refused_as c.test_table.result _ _
    (header_refusal-table c.args.file.now c.if-file-lt-FILE_HEADER.false c.if-file-ne127.false c.if-file-ne69.false c.if-file-ne76.false c.if-file-ne70.false
    c.if-file-ne1.false c.if-file-ne1-2.false (b ∙ c.if-half_field-ne2.false) (d ∙ c.if-half_field-ne40.false))
    c.test_table.ensures.err
