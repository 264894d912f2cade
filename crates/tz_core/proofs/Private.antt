-- An access to private space that no check refuses is aligned.
use Rattle.std.proofs.Common.{◌≡◌, ℕ, Bool, true, false, ◌&&◌, ◌||◌, not, cond, Option, Some, None, refl, arith}
use Rattle.std.specs.Prelude.{nat_le}
use Rattle.std.proofs.lemmas.Bool.Decides.{nat_tests}
use Rattle.tz_model.specs.declared.report.Fault.{Fault}
use Rattle.tz_model.specs.declared.report.Fault.TheVariants.{Unaligned}
use Rattle.tz_state.specs.declared.request.Request.{Request}
use Rattle.tz_state.specs.State.{Bus}
use Rattle.tz_state.specs.Access.{is_aligned, is_private, verdict}

high : (a : ℕ) → is_private a ≡ true → nat_le 0xE0000000 a ≡ true
high a e = grind (arith, nat_tests)

pub private_aligned : (b : Bus) (q : Request) → verdict b q ≡ None → is_private q.addr ≡ true → is_aligned q.size q.addr ≡ true
unfolding verdict
private_aligned b q e private = go q.must_align (nat_le 0xE0000000 q.addr) (is_aligned q.size q.addr) _ (high q.addr private) e where
  go : (must_align high aligned : Bool) (rest : Option Fault) → high ≡ true → cond ((must_align || high) && not aligned) (Some Unaligned) rest ≡ None → aligned ≡ true
  go must_align true true rest h e = refl
  go true true false rest h e = cc
  go false true false rest h e = cc
  go must_align false aligned rest h e = cc
