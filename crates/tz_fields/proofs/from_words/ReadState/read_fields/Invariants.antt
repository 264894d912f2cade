use Rattle.std.proofs.Common.{◌≡◌, drop}
use Rattle.tz_fields.specs.Fields.{fields}
use Rattle.tz_fields.specs.ReadWords.{read_fields, words_of, IsFresh}
use Rattle.tz_fields.proofs.from_words.ReadState.read_fields.Given as goal

abbrev pub invariant-loop-index : goal.invariant-loop-index
invariant-loop-index l =
    record {
      told : read_fields (fields l.board) (words_of l.bytes) 0 l.fn.self ≡ read_fields (drop l.index (fields l.board)) (drop l.index (words_of l.bytes)) l.index l.self;
      fresh : IsFresh l.self;
    }
