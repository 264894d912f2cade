-- Who asks for a byte, as one number.
use Rattle.std.specs.Prelude.{ℕ, ◌+◌, ◌/◌, ◌%◌, ◌==◌, Bool, true, false}
use Rattle.tz_table.specs.declared.units.Side.{Side}
use Rattle.tz_table.specs.declared.units.Side.TheVariants.{Secure, NonSecure}
use Rattle.tz_access.specs.declared.look_up.Who.{Who}

abbrev pub bit_if : Bool → ℕ → ℕ
bit_if true bit = bit
bit_if false bit = 0

abbrev pub is_nonsecure : Side → Bool
is_nonsecure Secure = false
is_nonsecure NonSecure = true

abbrev pub side_if : Bool → Side
side_if true = NonSecure
side_if false = Secure

unfoldable pub key_of : Who → ℕ
key_of w = bit_if w.fetch 1 + bit_if (is_nonsecure w.side) 2 + bit_if w.privileged 4 + bit_if w.negative 8

unfoldable pub who_of : ℕ → Who
who_of k = record { fetch = k % 2 == 1; side = side_if (k / 2 % 2 == 1); privileged = k / 4 % 2 == 1; negative = k / 8 % 2 == 1 }
