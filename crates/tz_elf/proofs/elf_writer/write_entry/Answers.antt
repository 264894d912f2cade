use Rattle.std.proofs.Common.{◌∙◌, ◌+◌, ◌++◌, ap, drop, sym, List, ℕ}
use Rattle.tz_elf.proofs.Written.{written-all, written-more}
use Rattle.tz_elf.proofs.WrittenElf.{words_bytes, words_bytes-entry, words_bytes-item, words_bytes-none}
use Rattle.tz_elf.proofs.elf_writer.write_entry.Goals as goal

pub loop-word-init : goal.loop-word-init
loop-word-init c =
    ap (λ (bytes : List ℕ). c.args.file.now.items ++ bytes) (ap words_bytes c.as_slice-word-items.ensures ∙ words_bytes-entry c.args.offset c.args.base c.args.size)

pub loop-word-preserved : goal.loop-word-preserved
loop-word-preserved c =
    written-more _ c.loop-word.file.items c.extend_from_slice.new.self.items c.as_slice.result.now _ _ c.loop-word.invariant c.in_ok-extend_from_slice.ensures.items
    (words_bytes-item c.as_slice-word-items.result.now c.loop-word.word-index c.loop-word-test.true
    ∙ ap (λ (bytes : List ℕ). bytes ++ words_bytes (drop (c.loop-word.word-index + 1) c.as_slice-word-items.result.now)) (sym (c.as_slice.ensures ∙ c.to_le_bytes.ensures)))

pub returns : goal.returns
returns c = written-all _ c.loop-word.file.items _ c.loop-word.invariant (words_bytes-none c.as_slice-word-items.result.now c.loop-word.word-index c.loop-word-test.false)
