-- Where the bytes of a source go, line by line.
use Rattle.std.specs.Prelude.{ℕ, ◌+◌, ◌-◌, ◌%◌, ◌^◌, ◌==◌, ◌≤◌, nat_lt, Bool, true, false, not, ◌&&◌, ◌||◌, if◌then◌else◌, length, Option, Some, None, Result, Ok, Err}
use Rattle.tz_asm.specs.Refusals.{Refusal, OrgBackwards, TooLarge}
use Rattle.tz_asm.specs.declared.layout.Layout.{Layout}
use Rattle.tz_model.specs.Board.{most_bytes}
use Rattle.tz_asm.specs.Statements.{StatementValue, Nothing, Org, Align, Data, Equ, Space, Text, Instruction}
use Rattle.tz_asm.specs.declared.source.number.Signed.{Signed}
use Rattle.tz_table.specs.declared.units.Size.{Size}
use Rattle.tz_table.specs.declared.units.Size.TheVariants.{Byte, Half, Word}
use Rattle.tz_table.specs.declared.units.Width.{Width}
use Rattle.tz_table.specs.declared.units.Width.TheVariants.{Narrow, Wide}

-- a source with so many segments is too large (own)
abbrev pub too_many_segments : ℕ
too_many_segments = 65536

-- the place begins at 0
abbrev pub start : Layout
start = record { place = 0; inside = false; bytes = 0; segments = 0; org_line = 0 }

-- what each layout that comes up meets: bytes up to its place have addresses, and it isn't too large
pub record IsLayout (l : Layout) : Type 0 where
  pub placed : l.place ≤ 2 ^ 32
  pub few : l.bytes ≤ most_bytes
  pub segments : l.segments ≤ 65535

-- how many bytes lie between a place and the next multiple
abbrev pub padding : ℕ → ℕ → ℕ
padding multiple place =
    if multiple == 0 then 0
    else if place % multiple == 0 then 0
    else multiple - place % multiple

abbrev pub size_bytes : Size → ℕ
size_bytes Byte = 1
size_bytes Half = 2
size_bytes Word = 4

abbrev pub width_bytes : Width → ℕ
width_bytes Narrow = 2
width_bytes Wide = 4

-- how many bytes a text has, and the zero byte that it may end with
abbrev pub text_count : ℕ → Bool → ℕ
text_count bytes ends = if ends then bytes + 1 else bytes

-- how many bytes a statement puts at a place
unfoldable pub byte_count : ℕ → StatementValue → ℕ
byte_count place Nothing = 0
byte_count place (Org number) = 0
byte_count place (Align multiple) = padding multiple place
byte_count place (Data size value) = size_bytes size
byte_count place (Equ name value) = 0
byte_count place (Space count) = count
byte_count place (Text bytes ends) = text_count (length bytes) ends
byte_count place (Instruction width mnemonic operands) = width_bytes width

-- the place that an `.org` names: none where its number is negative
abbrev pub org_place : Signed → Option ℕ
org_place number = if number.negative && not (number.size == 0) then None else Some number.size

-- behind some bytes the place is behind them, and stands in their segment
abbrev pub behind : ℕ → ℕ → Layout → Layout
behind segments count l =
    record { place = l.place + count; inside = true; bytes = l.bytes + count; segments = segments; org_line = l.org_line }

-- so many bytes in a line. A segment that they begin counts, and is refused at the line of its `.org`
unfoldable pub put : ℕ → ℕ → Layout → Result Layout Refusal
put line count l =
    if count == 0 then Ok l
    else if nat_lt (2 ^ 32) (l.place + count) || nat_lt most_bytes (l.bytes + count) then Err (TooLarge line)
    else if l.inside then Ok (behind l.segments count l)
    else if nat_lt (l.segments + 1) too_many_segments then Ok (behind (l.segments + 1) count l)
    else Err (TooLarge l.org_line)

-- an `.org` in a line: above the place the next byte begins a segment
unfoldable pub go_to : ℕ → Option ℕ → Layout → Result Layout Refusal
go_to line None l = Err (OrgBackwards line)
go_to line (Some place) l =
    if nat_lt place l.place then Err (OrgBackwards line)
    else if place == l.place then Ok l
    else Ok (record { place = place; inside = false; bytes = l.bytes; segments = l.segments; org_line = line })

-- a statement in a line
unfoldable pub advance : ℕ → StatementValue → Layout → Result Layout Refusal
advance line (Org number) l = go_to line (org_place number) l
advance line statement l = put line (byte_count l.place statement) l
