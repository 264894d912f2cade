-- The places of look-ups that are kept: 16 of blocks as data, and 16 of blocks as code. A block has one place of each.
use Rattle.std.specs.Prelude.{◌≡◌, ℕ, ◌/◌, ◌%◌, ◌==◌, ◌&&◌, if◌then◌else◌, Bool, true, false, List, Option, None, Some, MatchOption, replicate, slice_index_or, slice_set}
use Rattle.tz_table.specs.declared.units.Side.{Side}
use Rattle.tz_state.specs.declared.request.Request.{Request}
use Rattle.tz_access.specs.declared.look_up.Who.{Who}
use Rattle.tz_access.specs.declared.look_up.LookUp.{LookUp}
use Rattle.tz_access.specs.declared.look_up.LookUps.{LookUps}
use Rattle.tz_access.specs.Keys.{who_of, key_of}

abbrev pub none_kept : LookUps
none_kept = record { data_places = replicate 16 None; code_places = replicate 16 None }

abbrev pub places_for : Bool → LookUps → List (Option LookUp)
places_for true k = k.code_places
places_for false k = k.data_places

abbrev pub or_else : Option LookUp → Option LookUp → Option LookUp
or_else (Some k) other = Some k
or_else None other = other

-- what is told of a place: what is kept there of a block as data, or else as code
abbrev pub kept_at : LookUps → ℕ → Option LookUp
kept_at k index = or_else (slice_index_or k.data_places index None) (slice_index_or k.code_places index None)

-- one more is kept, at the place of its block
abbrev pub with_look_up : Bool → LookUps → LookUp → LookUps
with_look_up true k one = record k { code_places = slice_set k.code_places (one.block % 16) (Some one) }
with_look_up false k one = record k { data_places = slice_set k.data_places (one.block % 16) (Some one) }

-- a look-up of a block for who asks, which the place of the block holds
abbrev pub IsHeld : LookUps → Who → ℕ → LookUp → Type 0
IsHeld k who block one = (slice_index_or (places_for who.fetch k) (block % 16) None ≡ Some one) × (one.block ≡ block) × (who_of one.key ≡ who)

-- what the place of a block holds for who asks, by the number of who that is
abbrev pub found_by : ℕ → ℕ → Option LookUp → Option LookUp
found_by block key None = None
found_by block key (Some one) = if one.block == block && one.key == key then Some one else None

abbrev pub found_in : LookUps → Who → ℕ → Option LookUp
found_in k who block = found_by block (key_of who) (slice_index_or (places_for who.fetch k) (block % 16) None)

-- who asks for bytes as data
abbrev pub for_data : Side → Bool → Bool → Who
for_data side privileged negative = record { fetch = false; side = side; privileged = privileged; negative = negative }

-- who asks for the bytes of an access
abbrev pub who_accesses : Request → Who
who_accesses q = for_data q.side q.privileged q.negative

-- the place of the block of an access holds the look-up for it, as data
pub record Holds (k : LookUps) (q : Request) : Type 0 where
  pub held : MatchOption (slice_index_or k.data_places (q.addr / 32 % 16) None) ⊥ (λ one. (one.block ≡ q.addr / 32) × (who_of one.key ≡ who_accesses q))
