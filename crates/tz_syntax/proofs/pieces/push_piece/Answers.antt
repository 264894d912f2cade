use Rattle.std.proofs.Common.{arith}
use Rattle.std.proofs.lemmas.Grind.{common_steps}
use Rattle.tz_syntax.proofs.pieces.push_piece.Goals as goal

-- What a call asks for and what it gives is said of the variant of its arm.
pub push_constant-requires : goal.push_constant-requires
push_constant-requires g c = let h = rw c.in-Number.is at c.requires in first_of (assumption, omega arith)

pub push_expanded-requires : goal.push_expanded-requires
push_expanded-requires g c = let h = rw c.in-Expanded.is at c.requires in first_of (assumption, omega arith)

pub push_target-requires : goal.push_target-requires
push_target-requires g c = let h = rw c.in-Target.is at c.requires in first_of (assumption, omega arith)

pub push_target-requires-in-AlignedTarget : goal.push_target-requires-in-AlignedTarget
push_target-requires-in-AlignedTarget g c = let h = rw c.in-AlignedTarget.is at c.requires in first_of (assumption, omega arith)

pub push_list-requires : goal.push_list-requires
push_list-requires g c = let h = rw c.in-List.is at c.requires in first_of (assumption, omega arith)

pub push_shift-requires : goal.push_shift-requires
push_shift-requires g c = let h = rw c.in-Shift.is at c.requires in first_of (assumption, omega arith)

pub push_shift-requires-in-Left : goal.push_shift-requires-in-Left
push_shift-requires-in-Left g c = let h = rw c.in-Left.is at c.requires in first_of (assumption, omega arith)

pub push_shift-requires-in-Right : goal.push_shift-requires-in-Right
push_shift-requires-in-Right g c = let h = rw c.in-Right.is at c.requires in first_of (assumption, omega arith)

pub push_shift-requires-in-Rotated : goal.push_shift-requires-in-Rotated
push_shift-requires-in-Rotated g c = let h = rw c.in-Rotated.is at c.requires in first_of (assumption, omega arith)

pub push_letters-requires : goal.push_letters-requires
push_letters-requires g c = let h = rw c.in-Letters.is at c.requires in first_of (assumption, omega arith)

pub push_masks-requires : goal.push_masks-requires
push_masks-requires g c = let h = rw c.in-Masks.is at c.requires in first_of (assumption, omega arith)

pub returns-in-Number-clause-len : goal.returns-in-Number-clause-len
returns-in-Number-clause-len g c = rw c.in-Number.is c.push_constant.ensures.len

pub returns-in-Expanded-clause-bytes : goal.returns-in-Expanded-clause-bytes
returns-in-Expanded-clause-bytes g c = rw c.in-Expanded.is (rw c.number_at-in-Expanded.ensures at c.push_expanded.ensures.bytes)

pub returns-in-Expanded-clause-len : goal.returns-in-Expanded-clause-len
returns-in-Expanded-clause-len g c = rw c.in-Expanded.is c.push_expanded.ensures.len

pub returns-in-Target-clause-bytes : goal.returns-in-Target-clause-bytes
returns-in-Target-clause-bytes g c = rw c.in-Target.is (rw c.program_counter.ensures at c.push_target.ensures.bytes)

pub returns-in-Target-clause-len : goal.returns-in-Target-clause-len
returns-in-Target-clause-len g c = rw c.in-Target.is c.push_target.ensures.len

pub returns-in-AlignedTarget-clause-bytes : goal.returns-in-AlignedTarget-clause-bytes
returns-in-AlignedTarget-clause-bytes g c = rw c.in-AlignedTarget.is (rw c.program_counter-in-AlignedTarget.ensures at c.push_target-in-AlignedTarget.ensures.bytes)

pub returns-in-AlignedTarget-clause-len : goal.returns-in-AlignedTarget-clause-len
returns-in-AlignedTarget-clause-len g c = rw c.in-AlignedTarget.is c.push_target-in-AlignedTarget.ensures.len

pub returns-in-List-clause-bytes : goal.returns-in-List-clause-bytes
returns-in-List-clause-bytes g c = rw c.in-List.is (rw c.number_at-in-List.ensures at c.push_list.ensures.bytes)

pub returns-in-List-clause-len : goal.returns-in-List-clause-len
returns-in-List-clause-len g c = rw c.in-List.is c.push_list.ensures.len

pub returns-in-Shift-clause-bytes : goal.returns-in-Shift-clause-bytes
returns-in-Shift-clause-bytes g c = rw c.in-Shift.is (rw c.number_at-in-Shift.ensures at c.push_shift.ensures.bytes)

pub returns-in-Shift-clause-len : goal.returns-in-Shift-clause-len
returns-in-Shift-clause-len g c = rw c.in-Shift.is c.push_shift.ensures.len

pub returns-in-Left-clause-bytes : goal.returns-in-Left-clause-bytes
returns-in-Left-clause-bytes g c = rw c.in-Left.is c.push_shift-in-Left.ensures.bytes

pub returns-in-Left-clause-len : goal.returns-in-Left-clause-len
returns-in-Left-clause-len g c = rw c.in-Left.is c.push_shift-in-Left.ensures.len

pub returns-in-Right-clause-bytes : goal.returns-in-Right-clause-bytes
returns-in-Right-clause-bytes g c = rw c.in-Right.is c.push_shift-in-Right.ensures.bytes

pub returns-in-Right-clause-len : goal.returns-in-Right-clause-len
returns-in-Right-clause-len g c = rw c.in-Right.is c.push_shift-in-Right.ensures.len

pub returns-in-Rotated-clause-bytes : goal.returns-in-Rotated-clause-bytes
returns-in-Rotated-clause-bytes g c = rw c.in-Rotated.is c.push_shift-in-Rotated.ensures.bytes

pub returns-in-Rotated-clause-len : goal.returns-in-Rotated-clause-len
returns-in-Rotated-clause-len g c = rw c.in-Rotated.is c.push_shift-in-Rotated.ensures.len

pub returns-in-Letters-clause-bytes : goal.returns-in-Letters-clause-bytes
returns-in-Letters-clause-bytes g c = rw c.in-Letters.is (rw (c.number_at-in-Letters.ensures, c.number_at-in-Letters-2.ensures) at c.push_letters.ensures.bytes)

pub returns-in-Letters-clause-len : goal.returns-in-Letters-clause-len
returns-in-Letters-clause-len g c = rw c.in-Letters.is c.push_letters.ensures.len

pub returns-in-Masks-clause-bytes : goal.returns-in-Masks-clause-bytes
returns-in-Masks-clause-bytes g c = rw c.in-Masks.is (rw (c.number_at-in-Masks.ensures, c.number_at-in-Masks-2.ensures) at c.push_masks.ensures.bytes)

pub returns-in-Masks-clause-len : goal.returns-in-Masks-clause-len
returns-in-Masks-clause-len g c = rw c.in-Masks.is c.push_masks.ensures.len

-- The first call that the prover tries finds nothing at these goals, after long: the one that does is named.
pub returns-in-Mark-clause-bytes : goal.returns-in-Mark-clause-bytes
returns-in-Mark-clause-bytes g c = grind (arith, common_steps)

pub returns-in-Register-clause-bytes : goal.returns-in-Register-clause-bytes
returns-in-Register-clause-bytes g c = grind (arith, common_steps)

pub returns-in-Special-clause-bytes : goal.returns-in-Special-clause-bytes
returns-in-Special-clause-bytes g c = grind (arith, common_steps)

pub returns-in-Condition-clause-bytes : goal.returns-in-Condition-clause-bytes
returns-in-Condition-clause-bytes g c = grind (arith, common_steps)

pub returns-in-Number-clause-bytes : goal.returns-in-Number-clause-bytes
returns-in-Number-clause-bytes g c = grind (arith, common_steps)
