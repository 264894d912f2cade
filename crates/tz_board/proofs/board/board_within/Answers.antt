use Rattle.std.proofs.Common.{◌≡◌, ◌∙◌, ap, sym, true, None, []}
use Rattle.tz_board.specs.Boards.{board_with, first_overlap, is_small}
use Rattle.tz_board.specs.BoardErrors.{numbers_of}
use Rattle.tz_board.proofs.Accepted.{is_board}
use Rattle.tz_board.proofs.board.board_within.Goals as goal

pub invariant_of-result : goal.invariant_of-result
invariant_of-result c =
    let n = c.requires.numbers in
    let small : is_small (board_with (numbers_of c.args.numbers) c.args.profile c.args.mover c.args.regions.items c.args.sau.items) ≡ true =
    sym (rw (c.deref.ensures.value, c.deref-2.ensures.value) at c.if-not-is_small.ensures) in
    let apart : first_overlap [] c.args.regions.items ≡ None =
    ap (first_overlap []) (sym c.deref-3.ensures.value) ∙ sym c.in_default.ensures in
    is_board _ n.secure_vtor n.nonsecure_vtor (rw c.from.ensures n.interrupts) n.sau_regions n.mpu_secure n.mpu_nonsecure c.requires.some_regions c.requires.regions c.requires.sau small apart
