-- A look-up that is kept, as it is told.
use Rattle.std.specs.Prelude.{◌≡◌, ℕ, Bool, ◌*◌, ◌%◌}
use Rattle.tz_state.specs.declared.request.Kind.{Kind}
use Rattle.tz_state.specs.declared.request.Kind.TheVariants.{Read, Write, Fetch}
use Rattle.tz_state.specs.Attribution.{attribution}
use Rattle.tz_state.specs.Protection.{permits}
use Rattle.tz_state.specs.State.{Bus, map_in, mpu_of}
use Rattle.tz_access.specs.declared.looking.Kept.{Kept}
use Rattle.tz_access.specs.declared.look_up.LookUp.{LookUp}
use Rattle.tz_access.specs.Keys.{who_of}

-- the MPU of its side permits a kind of access in its block, to who asks
abbrev pub kept_permits : Bus → Kept → Kind → Bool
kept_permits b k kind = permits b.board.profile (mpu_of k.side b) (k.block * 32) kind k.privileged k.negative

-- it stands at the place of its block, and tells what the definitions say
pub record IsKept (b : Bus) (index : ℕ) (k : Kept) : Type 0 where
  pub place : k.block % 16 ≡ index
  pub attribute : k.attribute ≡ attribution (map_in b) k.fetch k.side (k.block * 32)
  pub read : k.read ≡ kept_permits b k Read
  pub write : k.write ≡ kept_permits b k Write
  pub execute : k.execute ≡ kept_permits b k Fetch

-- what is told of a look-up
abbrev pub told_of : Bus → LookUp → Kept
told_of b one = let who = who_of one.key in record {
  block = one.block;
  fetch = who.fetch;
  side = who.side;
  privileged = who.privileged;
  negative = who.negative;
  attribute = attribution (map_in b) who.fetch who.side (one.block * 32);
  read = one.permitted.read;
  write = one.permitted.write;
  execute = one.permitted.execute;
}
