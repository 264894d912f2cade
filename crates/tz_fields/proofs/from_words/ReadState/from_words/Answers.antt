use Rattle.std.proofs.Common.{◌∙◌, ap}
use Rattle.tz_fields.specs.ReadWords.{words_of, and_channels}
use Rattle.tz_fields.proofs.Blank.{fresh, is_blank, fields_refused, fields_accepted}
use Rattle.tz_fields.proofs.from_words.ReadState.from_words.Goals as goal

pub read_fields-requires-clause-fresh : goal.read_fields-requires-clause-fresh
read_fields-requires-clause-fresh c = fresh c.args.board.now _ c.in-Ok.state c.in-Ok.ensures

pub returns-in-Err : goal.returns-in-Err
returns-in-Err c =
    let blank = is_blank c.args.board.now c.args.bytes.now c.field_count.result c.slot_count.result c.channel_count.result c.in-Ok.state c.field_count.ensures.is c.slot_count.ensures.is c.channel_count.ensures.is c.requires c.in-Ok.ensures in
    fields_refused c.args.board.now (words_of c.args.bytes.now) c.in-Ok.state c.in-Err.index blank c.in-Err.ensures

pub returns-in-Err-read_slots : goal.returns-in-Err-read_slots
returns-in-Err-read_slots c =
    let blank = is_blank c.args.board.now c.args.bytes.now c.field_count.result c.slot_count.result c.channel_count.result c.in-Ok.state c.field_count.ensures.is c.slot_count.ensures.is c.channel_count.ensures.is c.requires c.in-Ok.ensures in
    fields_accepted c.args.board.now (words_of c.args.bytes.now) c.in-Ok.state c.read_fields.new.self blank c.in_default-read_fields.ensures
    ∙ ap (and_channels c.args.board.now (words_of c.args.bytes.now)) c.in-Err-read_slots.ensures

pub returns-in-Err-read_channels : goal.returns-in-Err-read_channels
returns-in-Err-read_channels c =
    let blank = is_blank c.args.board.now c.args.bytes.now c.field_count.result c.slot_count.result c.channel_count.result c.in-Ok.state c.field_count.ensures.is c.slot_count.ensures.is c.channel_count.ensures.is c.requires c.in-Ok.ensures in
    fields_accepted c.args.board.now (words_of c.args.bytes.now) c.in-Ok.state c.read_fields.new.self blank c.in_default-read_fields.ensures
    ∙ ap (and_channels c.args.board.now (words_of c.args.bytes.now)) c.in_default-read_slots.ensures
    ∙ c.in-Err-read_channels.ensures

pub returns : goal.returns
returns c =
    let blank = is_blank c.args.board.now c.args.bytes.now c.field_count.result c.slot_count.result c.channel_count.result c.in-Ok.state c.field_count.ensures.is c.slot_count.ensures.is c.channel_count.ensures.is c.requires c.in-Ok.ensures in
    fields_accepted c.args.board.now (words_of c.args.bytes.now) c.in-Ok.state c.read_fields.new.self blank c.in_default-read_fields.ensures
    ∙ ap (and_channels c.args.board.now (words_of c.args.bytes.now)) c.in_default-read_slots.ensures
    ∙ c.in_default-read_channels.ensures
