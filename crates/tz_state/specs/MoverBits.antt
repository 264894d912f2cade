-- The bits of CTRL of a channel of the mover by their places; the field IRQ has the place of its lowest bit (own).
use Rattle.std.specs.Prelude.{ℕ, ◌+◌, ◌*◌, ◌^◌}

-- it moves a word each step
abbrev pub mover_go : ℕ
mover_go = 0

-- all its words are moved
abbrev pub mover_done : ℕ
mover_done = 1

-- a word couldn't be moved
abbrev pub mover_error : ℕ
mover_error = 2

-- it pends an interrupt when it stops
abbrev pub mover_ie : ℕ
mover_ie = 3

-- the number of that interrupt, eight bits
abbrev pub mover_irq : ℕ
mover_irq = 8

-- what a write writes: GO, IE and IRQ
abbrev pub mover_ctrl_written : ℕ
mover_ctrl_written = 2 ^ mover_go + 2 ^ mover_ie + 0xFF * 2 ^ mover_irq

-- all bits
abbrev pub mover_ctrl_bits : ℕ
mover_ctrl_bits = mover_ctrl_written + 2 ^ mover_done + 2 ^ mover_error
