use Rattle.std.proofs.Common.{◌∙◌, ap}
use Rattle.tz_elf.specs.PlainImage.{digits_of}
use Rattle.tz_elf.proofs.Written.{digits_of-encode_lower, line-written}
use Rattle.tz_elf.proofs.plain_writer.write_line.Goals as goal
use Rattle.std.proofs.Common.{arith, rules, tests}
use Rattle.std.proofs.lemmas.Grind.{common_steps, elements}

pub returns : goal.returns
returns c =
    line-written c.args.text.now.items _ _ _ _ _ _ _ _ c.in_ok-extend_from_slice.ensures.items c.in_ok-push.ensures.items c.in_ok-extend_from_slice-2.ensures.items c.in_ok-push-2.ensures.items
    (c.as_bytes.ensures.value ∙ c.in_ok-address.ensures ∙ digits_of-encode_lower _ ∙ ap digits_of c.to_be_bytes.ensures)
    (c.as_bytes-2.ensures.value ∙ c.in_ok-digits.ensures ∙ digits_of-encode_lower c.args.bytes.now)

-- What the tactics try, by name: a body that is refused is then told without a search for what to offer.
pub returns-in_err-address : goal.returns-in_err-address
returns-in_err-address c = first_of (assumption, search (tests, rules), grind (arith, common_steps), grind (arith, elements))

pub returns-in_err-digits : goal.returns-in_err-digits
returns-in_err-digits c = first_of (assumption, search (tests, rules), grind (arith, common_steps), grind (arith, elements))

pub returns-in_err-extend_from_slice : goal.returns-in_err-extend_from_slice
returns-in_err-extend_from_slice c = first_of (assumption, search (tests, rules), grind (arith, common_steps), grind (arith, elements))

pub returns-in_err-push : goal.returns-in_err-push
returns-in_err-push c = first_of (assumption, search (tests, rules), grind (arith, common_steps), grind (arith, elements))

pub returns-in_err-extend_from_slice-2 : goal.returns-in_err-extend_from_slice-2
returns-in_err-extend_from_slice-2 c = first_of (assumption, search (tests, rules), grind (arith, common_steps), grind (arith, elements))

pub returns-in_err-push-2 : goal.returns-in_err-push-2
returns-in_err-push-2 c = first_of (assumption, search (tests, rules), grind (arith, common_steps), grind (arith, elements))
