use Rattle.std.proofs.Common.{◌≡◌, length, sym, ap, ◌∙◌, take_at}
use Rattle.std.proofs.lemmas.Str.{is_utf8-from_IsUtf8}
use Rattle.tz_text.specs.Instruction.{ran_text}
use Rattle.tz_text.proofs.Numbers.{same_code}
use Rattle.tz_text.proofs.kept.Entry.of.Goals as goal

pub invariant_of-result : goal.invariant_of-result
invariant_of-result c =
    let shown : c.copy_from_slice.new.self ≡ ran_text c.args.pc c.args.code.now = c.copy_from_slice.ensures.after ∙ c.as_bytes.ensures.value ∙ c.as_str.ensures.value ∙ c.push_ran.ensures in
    let size : length c.copy_from_slice.new.self ≡ c.len-len.result =
    ap length (c.copy_from_slice.ensures.after ∙ c.as_bytes.ensures.value ∙ c.as_str.ensures.value) ∙ sym c.len-len.ensures.value in
    let bytes = c.copy_from_slice.ensures.after in
    record {
      within = c.len-len.ensures.fits;
      text = rw (take_at c.copy_from_slice.new.self _ c.len-len.result size, bytes) (is_utf8-from_IsUtf8 _ c.as_bytes.ensures.utf8);
      tells = λ code l e. take_at c.copy_from_slice.new.self _ c.len-len.result size ∙ shown ∙
          ap (ran_text c.args.pc) (sym (same_code code c.args.code.now l c.number_of-number.ensures.first (e ∙ c.number_of-number.ensures.value)));
    }
