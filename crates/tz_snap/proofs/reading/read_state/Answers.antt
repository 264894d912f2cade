use Rattle.std.proofs.Common.{◌-◌, ◌*◌, arith, drop, length, take}
use Rattle.tz_fields.specs.ReadWords.{read_words, words_of}
use Rattle.tz_snap.proofs.Files.{place_small, read_err, read_ok, refused}
use Rattle.tz_snap.proofs.reading.read_state.Goals as goal

pub overflow_add-result : goal.overflow_add-result
overflow_add-result c =
    let bytes = c.args.bytes.now in
    let head = c.head_count-head.result in
    let read = refused c.in-Err-Value.field-0 c.in-Err-Value.index (read_words c.args.board.now (words_of (take (length bytes - 4 * head) (drop (4 * head) bytes)))) c.in-Err-Value.field-0-is c.in-Err-Value.ensures in
    let small = place_small c.args.board.now head bytes c.in-Err-Value.index c.head_count-head.ensures c.requires.whole c.requires.few read in
    omega arith

pub returns-in-Ok-clause-ok : goal.returns-in-Ok-clause-ok
returns-in-Ok-clause-ok c = read_ok c.args.board.now c.args.step c.head_count-head.result c.args.bytes.now c.in-Ok.machine c.head_count-head.ensures (omega arith) c.in-Ok.ensures

pub returns-in-Err-Value-clause-err : goal.returns-in-Err-Value-clause-err
returns-in-Err-Value-clause-err c =
    let bytes = c.args.bytes.now in
    let head = c.head_count-head.result in
    let read = refused c.in-Err-Value.field-0 c.in-Err-Value.index (read_words c.args.board.now (words_of (take (length bytes - 4 * head) (drop (4 * head) bytes)))) c.in-Err-Value.field-0-is c.in-Err-Value.ensures in
    read_err c.args.board.now c.args.step head bytes c.in-Err-Value.index c.head_count-head.ensures (omega arith) read
