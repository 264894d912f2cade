-- An instruction over the machine's port that makes no access.
use Rattle.std.proofs.Common.{◌≡◌, ℕ, List, [], Ok, Err, refl}
use Rattle.tz_table.specs.declared.instruction.Insn.{Insn}
use Rattle.tz_model.specs.Ports.{answers}
use Rattle.tz_state.specs.Access.{reached_in, access}
use Rattle.tz_state.specs.State.{State}
use Rattle.tz_sem.specs.Local.{Finished, local_of, finished_in}
use Rattle.tz_sem.specs.Branch.{plan_branch, finish_branch}
use Rattle.tz_sem.specs.Exec.{ported, after_accesses, branch_over, through, alone}

left_alone : (s : State) (f : Finished) → through s (ported (reached_in s) (finished_in s.core f)) ≡ alone s (finished_in s.core f)
left_alone s (Ok f) = refl
left_alone s (Err fault) = refl

no_access : (s : State) (finish : List ℕ → Finished) → through s (after_accesses s.core (answers access (reached_in s) []) finish) ≡ alone s (finished_in s.core (finish []))
unfolding answers
no_access s finish = left_alone s (finish [])

-- a branch that isn't a table branch
pub branch_alone : (s : State) (i : Insn) → plan_branch i (local_of s.core) ≡ []
    → through s (branch_over access i s.core (reached_in s)) ≡ alone s (finished_in s.core (finish_branch i (local_of s.core) []))
branch_alone s i e = rw e (no_access s (finish_branch i (local_of s.core)))
