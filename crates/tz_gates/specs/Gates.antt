-- Gates: the addresses at which Non-secure code can enter Secure code by SG (DDI0553, `SG`).
use Rattle.std.specs.Prelude.{ℕ, zero, suc, ◌+◌, ◌^◌, ◌==◌, Bool, ◌&&◌, if◌then◌else◌, List, [], ◌∷◌, ◌++◌}
use Rattle.tz_model.specs.Words.{wrap}
use Rattle.tz_model.specs.Board.{is_multiple}
use Rattle.tz_state.specs.Memory.{half_at}
use Rattle.tz_state.specs.State.{State, map_of}
use Rattle.tz_state.specs.Fetch.{is_entry, is_half_mapped, sg_half}

-- a halfword of SG in a region of the board, that Non-secure code may call; what the Secure MPU permits isn't asked
abbrev pub is_gate_half : State → ℕ → Bool
is_gate_half s a = is_entry (map_of s) a && (is_half_mapped s.bus a && half_at s.bus.memory a == sg_half)

-- an even address of two such halfwords
unfoldable pub is_gate : State → ℕ → Bool
is_gate s a = is_multiple 2 a && (is_gate_half s a && is_gate_half s (wrap (a + 2)))

-- the gates below an address, ascending
unfoldable pub gates_below : State → ℕ → List ℕ
gates_below s zero = []
gates_below s (suc a) = if is_gate s a then gates_below s a ++ a ∷ [] else gates_below s a

-- all gates, ascending
unfoldable pub gates_of : State → List ℕ
gates_of s = gates_below s (2 ^ 32)
