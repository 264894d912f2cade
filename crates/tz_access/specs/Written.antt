-- What stores overwrote, and memory as it was before them.
use Rattle.std.specs.Prelude.{ℕ, List, [], ◌∷◌, Option, Some, None}
use Rattle.arrayvec.specs.ArrayVec.{ArrayVec, array_vec_len}
use Rattle.tz_state.specs.Memory.{Memory, with_value}
use Rattle.tz_access.specs.declared.written.Was.{Was}

-- what a store overwrote is put back
abbrev pub put_back : Was → Memory → Memory
put_back w m = with_value m w.size w.addr w.value

-- all that stores overwrote is put back, the newest, which is the last, first
unfoldable pub undone : List Was → Memory → Memory
undone [] m = m
undone (w ∷ ws) m = put_back w (undone ws m)

-- memory before the stores, where it is noted what they overwrote; where it isn't, none is known
unfoldable pub before_stores : Option (ArrayVec Was) → Memory → Option Memory
before_stores None m = None
before_stores (Some ws) m = Some (undone ws.items m)

-- how many stores are noted
abbrev pub noted_count : Option (ArrayVec Was) → ℕ
noted_count None = 0
noted_count (Some ws) = array_vec_len ws
