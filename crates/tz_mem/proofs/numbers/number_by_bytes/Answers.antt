use Rattle.std.proofs.Common.{arith}
use Rattle.tz_state.specs.Memory.{half_at, word_at}
use Rattle.tz_mem.proofs.Bytes.{get_memory_of}
use Rattle.tz_mem.proofs.Places.{mapped_at}
use Rattle.tz_mem.proofs.numbers.number_by_bytes.Goals as goal

-- The call that closes each goal, by name: what is tried before it finds nothing, after long.
pub returns-in_default : goal.returns-in_default
unfolding half_at word_at
returns-in_default c = grind (arith, mapped_at, get_memory_of)

pub returns-in_default-byte_of : goal.returns-in_default-byte_of
unfolding half_at word_at
returns-in_default-byte_of c = grind (arith, mapped_at, get_memory_of)

pub returns-in_default-byte_of-2 : goal.returns-in_default-byte_of-2
unfolding half_at word_at
returns-in_default-byte_of-2 c = grind (arith, mapped_at, get_memory_of)

pub returns-in_default-byte_of-3 : goal.returns-in_default-byte_of-3
unfolding half_at word_at
returns-in_default-byte_of-3 c = grind (arith, mapped_at, get_memory_of)

pub returns-in_default-byte_of-4 : goal.returns-in_default-byte_of-4
unfolding half_at word_at
returns-in_default-byte_of-4 c = grind (arith, mapped_at, get_memory_of)

pub returns-in-Byte : goal.returns-in-Byte
unfolding half_at word_at
returns-in-Byte c = grind (arith, mapped_at, get_memory_of)

pub returns-in-Some-byte_of : goal.returns-in-Some-byte_of
unfolding half_at word_at
returns-in-Some-byte_of c = grind (arith, mapped_at, get_memory_of)

pub returns-in-Some-byte_of-4 : goal.returns-in-Some-byte_of-4
unfolding half_at word_at
returns-in-Some-byte_of-4 c = grind (arith, mapped_at, get_memory_of)
