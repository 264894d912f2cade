use Rattle.std.proofs.Common.{◌≡◌, ◌++◌, drop}
use Rattle.tz_elf.specs.ElfImage.{entry_bytes}
use Rattle.tz_elf.proofs.WrittenElf.{words_bytes}
use Rattle.tz_elf.proofs.elf_writer.write_entry.Given as goal

abbrev pub invariant-loop-word : goal.invariant-loop-word
invariant-loop-word l =
    l.file.items ++ words_bytes (drop l.word-index l.word-items) ≡ l.fn.file.items ++ entry_bytes l.offset l.base l.size
