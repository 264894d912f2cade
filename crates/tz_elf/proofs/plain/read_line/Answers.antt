use Rattle.std.proofs.Common.{◌∙◌, ℕ, ap, sym, inl, inr, Option, Some, Ok, Err}
use Rattle.tz_model.specs.Image.{SegmentValue}
use Rattle.tz_elf.proofs.Digits.{segment_of-read, segment_of-refused}
use Rattle.tz_elf.proofs.plain.read_line.Goals as goal

pub returns-then-is_err : goal.returns-then-is_err
returns-then-is_err c =
    segment_of-refused c.args.line.now c.decode_to_slice.new.out c.decode_to_slice.result c.if-line-lt11.false c.decode_to_slice.ensures.value (sym c.if-is_err.ensures.value)

pub returns-in-Ok : goal.returns-in-Ok
returns-in-Ok c =
    let segment : ℕ → Option SegmentValue = λ base. Some (record { base = base; bytes = c.in-Ok.bytes.items }) in
    segment_of-read c.args.line.now c.decode_to_slice.new.out c.decode_to_slice.result (Ok c.in-Ok.bytes.items) c.if-line-lt11.false c.if-line-gt137.false c.if-line-ne32.false
    c.decode_to_slice.ensures.value (sym c.if-is_err.ensures.value) c.in-Ok.ensures.ok
    ∙ ap segment (sym c.from_be_bytes.ensures)

pub returns-in_default : goal.returns-in_default
returns-in_default c =
    elim c.in-Err.ensures.err [
      | inl memory ↦ absurd (c.in_default.not-OutOfMemory memory)
      | inr refused ↦
          segment_of-read c.args.line.now c.decode_to_slice.new.out c.decode_to_slice.result (Err c.in-Err.error) c.if-line-lt11.false c.if-line-gt137.false c.if-line-ne32.false
          c.decode_to_slice.ensures.value (sym c.if-is_err.ensures.value) refused
    ]
