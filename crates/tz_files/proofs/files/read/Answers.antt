-- A file under each of its forms: whole, or why it isn't.
use Rattle.std.proofs.Common.{Err, ap, refl, inl}
use Rattle.tz_files.proofs.Stages.{whole_file, long_file}
use Rattle.tz_files.proofs.files.read.Goals as goal

pub returns-in-Ok-clause-files : goal.returns-in-Ok-clause-files
returns-in-Ok-clause-files g c = λ form. record {
  held = λ i any. c.get.ensures.held any i;
  sound = c.get.ensures.stays;
  later = c.get.ensures.cause.later;
  answer = whole_file c.args.name.now c.args.limit (g.H.Shelf.held c.args.shelf.now c.args.name.now) c.new-bytes.result.items c.get.new.into.items c.new-bytes.ensures.items c.in-Ok.ensures.ok;
}

pub returns-in-Err-Failed-clause-files : goal.returns-in-Err-Failed-clause-files
returns-in-Err-Failed-clause-files g c = λ form. record {
  held = λ i any. c.get.ensures.held any i;
  sound = c.get.ensures.stays;
  later = c.get.ensures.cause.later;
  answer = ((form, inl refl), c.in-Err-Failed.ensures.cause.failed (ap Err c.in-Err-Failed.field-0-is), λ sound. c.in-Err-Failed.ensures.sound sound (ap Err c.in-Err-Failed.field-0-is));
}

pub returns-in-Err-Long-clause-files : goal.returns-in-Err-Long-clause-files
returns-in-Err-Long-clause-files g c = λ form. record {
  held = λ i any. c.get.ensures.held any i;
  sound = c.get.ensures.stays;
  later = c.get.ensures.cause.later;
  answer = (
    (form, inl refl),
    long_file c.args.name.now c.args.limit (g.H.Shelf.held c.args.shelf.now c.args.name.now) c.new-bytes.result.items c.get.new.into.items c.in-Err-Long.ensures.err (c.in-Err-Long.ensures.long.0 (ap Err c.in-Err-Long.field-0-is)),
  );
}

pub returns-clause-files : goal.returns-clause-files
returns-clause-files g c = λ form. record {
  held = λ i any. c.get.ensures.held any i;
  sound = c.get.ensures.stays;
  later = c.get.ensures.cause.later;
  answer = tt;
}
