use Rattle.std.proofs.Common.{◌≡◌, ◌+◌, ◌-◌, ap, arith}
use Rattle.tz_model.specs.Board.{BoardValue}
use Rattle.tz_fields.proofs.Order.{secure_here, nonsecure_here, shared_here}
use Rattle.tz_fields.proofs.words.field_at.Goals as goal

pub returns-then-index-nonsecure : goal.returns-then-index-nonsecure
returns-then-index-nonsecure c =
    let secure : c.board.inside.mpu_secure ≡ c.args.board.now.mpu_secure = ap (λ (b : BoardValue). b.mpu_secure) c.board.view_is in
    secure_here c.args.board.now c.args.index (c.args.index - 22) _ (omega (arith, c.if-index-lt22.false)) (rw secure at c.banked_field-field.ensures)

pub returns-then-index-shared : goal.returns-then-index-shared
returns-then-index-shared c =
    let secure : c.board.inside.mpu_secure ≡ c.args.board.now.mpu_secure = ap (λ (b : BoardValue). b.mpu_secure) c.board.view_is in
    let nonsecure : c.board.inside.mpu_nonsecure ≡ c.args.board.now.mpu_nonsecure = ap (λ (b : BoardValue). b.mpu_nonsecure) c.board.view_is in
    nonsecure_here c.args.board.now c.args.index (c.args.index - (22 + c.banked_count-nonsecure.result)) _
    (omega (arith, secure, c.if-index-nonsecure.false, c.banked_count-nonsecure.ensures)) (rw nonsecure at c.banked_field-field-then-index-shared.ensures)

pub returns-else-index-shared : goal.returns-else-index-shared
returns-else-index-shared c =
    let secure : c.board.inside.mpu_secure ≡ c.args.board.now.mpu_secure = ap (λ (b : BoardValue). b.mpu_secure) c.board.view_is in
    let nonsecure : c.board.inside.mpu_nonsecure ≡ c.args.board.now.mpu_nonsecure = ap (λ (b : BoardValue). b.mpu_nonsecure) c.board.view_is in
    let sau : c.board.inside.sau_regions ≡ c.args.board.now.sau_regions = ap (λ (b : BoardValue). b.sau_regions) c.board.view_is in
    shared_here c.args.board.now c.args.index (c.args.index - (22 + c.banked_count-nonsecure.result + c.banked_count.result)) _
    (omega (arith, secure, nonsecure, c.if-index-shared.false, c.banked_count-nonsecure.ensures, c.banked_count.ensures)) (rw sau at c.shared_field.ensures)
