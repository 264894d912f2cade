-- The bytes past the limit are the rest of the file.
use Rattle.std.proofs.Common.{◌+◌, take, drop}
use Rattle.std.proofs.lemmas.List.{take-append-drop}
use Rattle.tz_testing.proofs.shelf_double.give.Goals as goal

pub returns-then-bytes-limit-clause-err : goal.returns-then-bytes-limit-clause-err
returns-then-bytes-limit-clause-err c = record {
  gained = take (c.args.limit + 1) c.args.bytes.now;
  appended = c.in_ok-extend_from_slice.ensures.items;
  front = (drop (c.args.limit + 1) c.args.bytes.now, take-append-drop (c.args.limit + 1) c.args.bytes.now);
}
