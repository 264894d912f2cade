-- The pieces of operands, by the places of their values.
use Rattle.std.specs.Prelude.{ℕ, List, [], ◌∷◌}
use Rattle.tz_syntax.specs.declared.row.Mark.{Mark}
use Rattle.tz_syntax.specs.declared.row.Mark.TheVariants.{Comma, Open, Close, Back, Pc, Doubled}
use Rattle.tz_syntax.specs.declared.row.Piece.{Piece}
use Rattle.tz_syntax.specs.declared.row.Piece.TheVariants as pieces

abbrev pub mark : Mark → Piece
mark m = pieces.Mark m

-- a register
abbrev pub reg : ℕ → List Piece
reg j = pieces.Register j ∷ []

-- a base that is written back
abbrev pub back : ℕ → List Piece
back j = pieces.Register j ∷ mark Back ∷ []

-- a constant or an offset
abbrev pub num : ℕ → List Piece
num j = pieces.Number j ∷ []

-- the constant that twelve bits stand for
abbrev pub imm : ℕ → List Piece
imm j = pieces.Expanded j ∷ []

-- where an offset leads to
abbrev pub target : ℕ → List Piece
target j = pieces.Target j ∷ []

-- where an offset from the aligned address leads to
abbrev pub aligned : ℕ → List Piece
aligned j = pieces.AlignedTarget j ∷ []

-- a list of registers
abbrev pub list : ℕ → List Piece
list j = pieces.List j ∷ []

-- a special register
abbrev pub special : ℕ → List Piece
special j = pieces.Special j ∷ []

-- a condition
abbrev pub condition : ℕ → List Piece
condition j = pieces.Condition j ∷ []

-- i, f or both
abbrev pub masks : ℕ → ℕ → List Piece
masks i f = pieces.Masks i f ∷ []

-- a register, shifted by any kind
abbrev pub shifted : ℕ → ℕ → ℕ → List Piece
shifted r k n = pieces.Register r ∷ pieces.Shift k n ∷ []

-- a register, shifted left
abbrev pub left : ℕ → ℕ → List Piece
left r n = pieces.Register r ∷ pieces.Left n ∷ []

-- a register, shifted right with its sign
abbrev pub right : ℕ → ℕ → List Piece
right r n = pieces.Register r ∷ pieces.Right n ∷ []

-- a register, rotated right
abbrev pub rotated : ℕ → ℕ → List Piece
rotated r n = pieces.Register r ∷ pieces.Rotated n ∷ []

-- [rn]
abbrev pub at_base : ℕ → List Piece
at_base r = mark Open ∷ pieces.Register r ∷ mark Close ∷ []

-- [rn, #k]
abbrev pub at : ℕ → ℕ → List Piece
at r k = mark Open ∷ pieces.Register r ∷ mark Comma ∷ pieces.Number k ∷ mark Close ∷ []

-- [rn, #k]!
abbrev pub at_pre : ℕ → ℕ → List Piece
at_pre r k = mark Open ∷ pieces.Register r ∷ mark Comma ∷ pieces.Number k ∷ mark Close ∷ mark Back ∷ []

-- [rn, rm]
abbrev pub at_sum : ℕ → ℕ → List Piece
at_sum r m = mark Open ∷ pieces.Register r ∷ mark Comma ∷ pieces.Register m ∷ mark Close ∷ []

-- [rn, rm, lsl #n]
abbrev pub at_scaled : ℕ → ℕ → ℕ → List Piece
at_scaled r m n = mark Open ∷ pieces.Register r ∷ mark Comma ∷ pieces.Register m ∷ pieces.Left n ∷ mark Close ∷ []

-- [rn, rm, lsl #1]
abbrev pub at_doubled : ℕ → ℕ → List Piece
at_doubled r m = mark Open ∷ pieces.Register r ∷ mark Comma ∷ pieces.Register m ∷ mark Doubled ∷ mark Close ∷ []

-- [pc, #k]
abbrev pub at_pc : ℕ → List Piece
at_pc k = mark Open ∷ mark Pc ∷ mark Comma ∷ pieces.Number k ∷ mark Close ∷ []
