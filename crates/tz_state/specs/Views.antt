-- The system registers by address and size: whose view an address gives, and bytes and halfwords of a register.
use Rattle.std.specs.Prelude.{ℕ, ◌+◌, ◌-◌, ◌*◌, ◌/◌, ◌%◌, ◌^◌, if◌then◌else◌, [], ◌∷◌, Option, Some, None, slice_index, slice_set}
use Rattle.std.specs.Int.{w16, w32, from_le_bytes, to_le_bytes}
use Rattle.tz_table.specs.declared.units.Side.{Side}
use Rattle.tz_table.specs.declared.units.Side.TheVariants.{Secure, NonSecure}
use Rattle.tz_table.specs.declared.units.Size.{Size}
use Rattle.tz_table.specs.declared.units.Size.TheVariants.{Byte, Half, Word}
use Rattle.tz_model.specs.AddressMap.{scs_first, scs_last, scs_ns_first, scs_ns_last}
use Rattle.tz_model.specs.Board.{within}
use Rattle.tz_state.specs.declared.register.ViewedRegister.{ViewedRegister}
use Rattle.tz_state.specs.declared.register.Narrow.{Narrow}
use Rattle.tz_state.specs.declared.register.Narrow.TheVariants.{Keeps, Zeros, Ignored}
use Rattle.tz_state.specs.declared.register.Register.{Register}
use Rattle.tz_state.specs.declared.register.Register.TheVariants.{Priorities, Control, Fault}
use Rattle.tz_state.specs.declared.register.ControlRegister.{ControlRegister}
use Rattle.tz_state.specs.declared.register.ControlRegister.TheVariants.{Shpr1, Shpr2, Shpr3}
use Rattle.tz_state.specs.declared.register.FaultRegister.{FaultRegister}
use Rattle.tz_state.specs.declared.register.FaultRegister.TheVariants.{Cfsr}
use Rattle.tz_state.specs.RegisterTable.{register_at}
use Rattle.tz_state.specs.SystemRegisters.{SystemState, value_of, after_read, written}

-- ---- addresses

abbrev pub found_by : Side → Option Register → Option ViewedRegister
found_by side None = None
found_by side (Some r) = Some (record { view = side; register = r })

-- the register whose word holds an address of a window
abbrev pub in_window : ℕ → ℕ → Option Register
in_window base a = register_at ((a - base) / 4 * 4)

-- the alias gives Secure code the Non-secure view, and nothing to Non-secure code
abbrev pub alias_found : Side → ℕ → Option ViewedRegister
alias_found Secure a = if within scs_ns_first scs_ns_last a then found_by NonSecure (in_window scs_ns_first a) else None
alias_found NonSecure a = None

-- what an access by code of a side finds at an address: in the system control space its own view
abbrev pub found_at : Side → ℕ → Option ViewedRegister
found_at side a = if within scs_first scs_last a then found_by side (in_window scs_first a) else alias_found side a

-- ---- sizes

-- the bytes of a word from one of them on; an aligned access stays in its word
abbrev pub part_of : ℕ → ℕ → Size → ℕ
part_of word lane Byte = slice_index (to_le_bytes w32 word) lane
part_of word lane Half = from_le_bytes w16 (slice_index (to_le_bytes w32 word) lane ∷ slice_index (to_le_bytes w32 word) (lane + 1) ∷ [])
part_of word lane Word = word

-- a word with a number put at one of its bytes
abbrev pub with_part : ℕ → ℕ → Size → ℕ → ℕ
with_part word lane Byte value = from_le_bytes w32 (slice_set (to_le_bytes w32 word) lane (value % 2 ^ 8))
with_part word lane Half value =
    from_le_bytes w32 (slice_set (slice_set (to_le_bytes w32 word) lane (value % 2 ^ 8)) (lane + 1) (value / 2 ^ 8 % 2 ^ 8))
with_part word lane Word value = value

-- (own) bytes and halfwords are written in IPR, SHPR1 to SHPR3 and CFSR, and ignored elsewhere
abbrev pub control_narrow : ControlRegister → Narrow
control_narrow Shpr1 = Keeps
control_narrow Shpr2 = Keeps
control_narrow Shpr3 = Keeps
control_narrow _ = Ignored

abbrev pub fault_narrow : FaultRegister → Narrow
fault_narrow Cfsr = Zeros
fault_narrow _ = Ignored

abbrev pub narrow_of : Register → Narrow
narrow_of (Priorities word) = Keeps
narrow_of (Control r) = control_narrow r
narrow_of (Fault r) = fault_narrow r
narrow_of _ = Ignored

-- a part of a register is written: as the word that the view shows with that part in place, or as a word of zeros
-- with it
abbrev pub narrow_written : Side → SystemState → Register → Narrow → ℕ → Size → ℕ → SystemState
narrow_written side s r Keeps lane size value = written side s r (with_part (value_of side s r) lane size value)
narrow_written side s r Zeros lane size value = written side s r (with_part 0 lane size value)
narrow_written side s r Ignored lane size value = s

abbrev pub sized_written : Side → SystemState → Register → ℕ → Size → ℕ → SystemState
sized_written side s r lane Byte value = narrow_written side s r (narrow_of r) lane Byte value
sized_written side s r lane Half value = narrow_written side s r (narrow_of r) lane Half value
sized_written side s r lane Word value = written side s r value

-- ---- reads and writes

-- where there is no register, reads give zero
abbrev pub found_value : SystemState → Option ViewedRegister → ℕ → Size → ℕ
found_value s None lane size = 0
found_value s (Some f) lane size = part_of (value_of f.view s f.register) lane size

abbrev pub found_read : SystemState → Option ViewedRegister → SystemState
found_read s None = s
found_read s (Some f) = after_read f.view s f.register

-- and writes do nothing
abbrev pub found_written : SystemState → Option ViewedRegister → ℕ → Size → ℕ → SystemState
found_written s None lane size value = s
found_written s (Some f) lane size value = sized_written f.view s f.register lane size value

-- a read by code of a side: the number, and what it leaves
abbrev pub system_value : Side → SystemState → ℕ → Size → ℕ
system_value side s a size = found_value s (found_at side a) (a % 4) size

abbrev pub system_read : Side → SystemState → ℕ → SystemState
system_read side s a = found_read s (found_at side a)

-- a write
abbrev pub system_written : Side → SystemState → ℕ → Size → ℕ → SystemState
system_written side s a size value = found_written s (found_at side a) (a % 4) size value
