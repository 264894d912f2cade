-- The choices of an entry, one at a time.
use Rattle.std.proofs.Common.{◌≡◌, ℕ, zero, suc, ◌-◌, ◌≢◌, refl, arith}
use Rattle.tz_model.specs.declared.board.Profile.{Profile}
use Rattle.tz_frames.specs.FrameAccess.{FrameAnswering}
use Rattle.tz_frames.specs.Enter.{Work, choosing, goes_on, locked_up, tries}

pub tries_more : {H : Type 0} → (answering : FrameAnswering H) (profile : Profile) (n : ℕ) (w : Work H) → n ≢ 0 → tries answering profile n w ≡ goes_on (tries answering profile (n - 1)) (choosing answering profile w).work (choosing answering profile w).choice
unfolding tries
tries_more answering profile zero w l = absurd (l refl)
tries_more answering profile (suc n) w l = let e : suc n - 1 ≡ n = omega arith in rw e refl

pub tries_none : {H : Type 0} → (answering : FrameAnswering H) (profile : Profile) (n : ℕ) (w : Work H) → n ≡ 0 → tries answering profile n w ≡ locked_up w
unfolding tries
tries_none answering profile n w e = rw e refl

pub ruleset tries_laws = (tries_more, tries_none)
