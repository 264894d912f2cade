use Rattle.std.proofs.Common.{◌≡◌, ℕ, ◌++◌, List, ◌∷◌, length, get_or, drop, sym, ap, ◌∙◌, arith, append-nil}
use Rattle.std.proofs.lemmas.List.{at_drop_more, at_drop_all}
use Rattle.tz_model.specs.declared.report.Change.{Change}
use Rattle.tz_sem.specs.Ended.{changed, registers_changed}
use Rattle.tz_core.proofs.changes.tell_general.Goals as goal

-- none stands behind the thirteenth
last : (xs ys : List ℕ) → length xs ≡ 13 → length ys ≡ 13 → registers_changed 12 (drop 12 xs) (drop 12 ys) ≡ changed 12 (get_or xs 12 0) (get_or ys 12 0)
unfolding registers_changed
last xs ys h g =
    at_drop_more (λ (l : List ℕ). registers_changed 12 l (drop 12 ys)) xs 12 0 (omega arith)
    ∙ at_drop_more (λ (l : List ℕ). registers_changed 12 (get_or xs 12 0 ∷ drop 13 xs) l) ys 12 0 (omega arith)
    ∙ ap (λ (l : List Change). changed 12 (get_or xs 12 0) (get_or ys 12 0) ++ l) (at_drop_all (λ (l : List ℕ). registers_changed 13 l (drop 13 ys)) xs 13 (omega arith))
    ∙ append-nil (changed 12 (get_or xs 12 0) (get_or ys 12 0))

pub returns-clause-items : goal.returns-clause-items
returns-clause-items c =
    c.tell.ensures.items
    ∙ ap (λ (l : List Change). c.tell_four-3.new.changes.items ++ l) (sym (last c.args.before.now c.args.after.now c.told-before c.told-after))
    ∙ c.tell_four-3.ensures.items
    ∙ c.tell_four-2.ensures.items
    ∙ c.tell_four.ensures.items
    ∙ ap (λ (l : List Change). l ++ registers_changed 0 c.args.before.now c.args.after.now) c.requires
