use Rattle.std.proofs.Common.{◌∙◌, ◌++◌, ap, List, ℕ}
use Rattle.tz_elf.proofs.WrittenElf.{appended}
use Rattle.tz_elf.proofs.elf_writer.write_header.Goals as goal

abbrev behind : List ℕ → List ℕ → List ℕ
behind start part = start ++ part

pub returns : goal.returns
returns c =
    let start = c.args.file.now.items in
    let fixed = c.in_ok-extend_from_slice.ensures.items ∙ ap (behind start) c.as_slice.ensures in
    let count = c.in_ok-extend_from_slice-2.ensures.items ∙ ap (behind c.extend_from_slice.new.self.items) (c.as_slice-2.ensures ∙ c.to_le_bytes.ensures) in
    let zeros = c.in_ok-extend_from_slice-3.ensures.items ∙ ap (behind c.extend_from_slice-2.new.self.items) c.as_slice-3.ensures in
    appended start _ _ _ c.extend_from_slice-2.new.self.items zeros (appended start _ _ _ c.extend_from_slice.new.self.items count fixed)
