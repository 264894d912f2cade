use Rattle.std.proofs.Common.{refl, sym, ap, ◌∙◌, None}
use Rattle.tz_model.specs.Words.{is_nonsecure_side}
use Rattle.tz_regs.specs.Banks.{stacks_of}
use Rattle.tz_state.specs.State.{side_of}
use Rattle.tz_core.specs.Closing.{way_told}
use Rattle.tz_twin.proofs.Split.{sides_alike}
use Rattle.tz_iso.proofs.Agreement.{regions_stepped, what_stepped, lines_stepped, linked_stepped, exact_stepped}
use Rattle.tz_iso.proofs.Stepped.{same_side, marked_linked, marked_after, noted_step}
use Rattle.tz_iso.proofs.runs.step_both.Goals as goal

-- neither crosses out

pub returns-then-is_quiet-clause-what : goal.returns-then-is_quiet-clause-what
returns-then-is_quiet-clause-what c =
    what_stepped c.args.first.now c.args.second.now c.args.due.now c.step_way.new.self c.step_way-2.new.self None None
    c.step_way.ensures.steps (sym (c.is_quiet.ensures.first c.if-is_quiet.true c.step_way.new.self (side_of c.args.first.now)) ∙ c.step_way.ensures.way)
    c.step_way-2.ensures.steps (sym (c.is_quiet.ensures.second c.if-is_quiet.true c.step_way-2.new.self (side_of c.args.second.now)) ∙ c.step_way-2.ensures.way)

pub returns-then-is_quiet-clause-exact : goal.returns-then-is_quiet-clause-exact
returns-then-is_quiet-clause-exact c = exact_stepped c.args.first.now c.args.second.now c.args.due.now None c.requires.linked (returns-then-is_quiet-clause-what c)

pub returns-then-is_quiet-clause-lines : goal.returns-then-is_quiet-clause-lines
returns-then-is_quiet-clause-lines c = lines_stepped c.args.first.now c.args.second.now c.args.due.now None c.requires.linked (returns-then-is_quiet-clause-what c)

pub returns-then-is_quiet-clause-linked : goal.returns-then-is_quiet-clause-linked
returns-then-is_quiet-clause-linked c =
    linked_stepped c.args.first.now c.args.second.now c.args.due.now c.step_way.new.self c.step_way-2.new.self None c.requires.linked
    c.step_way.ensures.steps c.step_way-2.ensures.steps (returns-then-is_quiet-clause-what c)

pub returns-then-is_quiet-clause-marked : goal.returns-then-is_quiet-clause-marked
returns-then-is_quiet-clause-marked c =
    marked_linked c.begin_marks.new.marks c.step_way.new.self c.step_way-2.new.self (returns-then-is_quiet-clause-linked c refl)
    (ap is_nonsecure_side (c.is_quiet.ensures.side c.if-is_quiet.true))

-- both stay in Secure state

pub returns-then-are_secure-clause-what : goal.returns-then-are_secure-clause-what
returns-then-are_secure-clause-what c =
    what_stepped c.args.first.now c.args.second.now c.args.due.now c.step_way.new.self c.step_way-2.new.self None None
    c.step_way.ensures.steps (sym (c.are_secure.ensures.first c.if-are_secure.true (side_of c.args.first.now) c.step_way.new.close) ∙ c.step_way.ensures.way)
    c.step_way-2.ensures.steps (sym (c.are_secure.ensures.second c.if-are_secure.true (side_of c.args.second.now) c.step_way-2.new.close) ∙ c.step_way-2.ensures.way)

pub returns-then-are_secure-clause-exact : goal.returns-then-are_secure-clause-exact
returns-then-are_secure-clause-exact c = exact_stepped c.args.first.now c.args.second.now c.args.due.now None c.requires.linked (returns-then-are_secure-clause-what c)

pub returns-then-are_secure-clause-lines : goal.returns-then-are_secure-clause-lines
returns-then-are_secure-clause-lines c = lines_stepped c.args.first.now c.args.second.now c.args.due.now None c.requires.linked (returns-then-are_secure-clause-what c)

pub returns-then-are_secure-clause-linked : goal.returns-then-are_secure-clause-linked
returns-then-are_secure-clause-linked c =
    linked_stepped c.args.first.now c.args.second.now c.args.due.now c.step_way.new.self c.step_way-2.new.self None c.requires.linked
    c.step_way.ensures.steps c.step_way-2.ensures.steps (returns-then-are_secure-clause-what c)

pub returns-then-are_secure-clause-marked : goal.returns-then-are_secure-clause-marked
returns-then-are_secure-clause-marked c =
    marked_after c.begin_marks.new.marks c.note.new.self c.note-2.new.self c.args.first.now c.args.second.now c.step_way.new.self c.step_way-2.new.self
    c.args.due.now (c.begin_marks.ensures c.args.due.now)
    (noted_step c.begin_marks.new.marks c.note.new.self c.args.first.now c.step_way.new.self c.args.due.now c.step_way.new.stores.items
    c.is_exceptional-exceptional.result (stacks_of c.core.result.now.run.side c.core-3.result.now) c.step_way.ensures.steps c.step_way.ensures.stores (c.is_exceptional-exceptional.ensures ∙ c.step_way.ensures.exceptional)
    (λ i. stacks_of (c.core.ensures i).run.side (c.core-3.ensures i)) c.note.ensures)
    (noted_step c.note.new.self c.note-2.new.self c.args.second.now c.step_way-2.new.self c.args.due.now c.step_way-2.new.stores.items
    c.is_exceptional-exceptional_other.result (stacks_of c.core-2.result.now.run.side c.core-4.result.now) c.step_way-2.ensures.steps c.step_way-2.ensures.stores (c.is_exceptional-exceptional_other.ensures ∙ c.step_way-2.ensures.exceptional)
    (λ i. stacks_of (c.core-2.ensures i).run.side (c.core-4.ensures i)) c.note-2.ensures)

-- what differs is looked for

pub what_by-requires-clause-same : goal.what_by-requires-clause-same
what_by-requires-clause-same c =
    regions_stepped c.args.first.now c.args.second.now c.args.due.now _ _ c.requires.linked c.step_way.ensures.steps c.step_way-2.ensures.steps

pub what_by-requires-clause-marked : goal.what_by-requires-clause-marked
what_by-requires-clause-marked c =
    marked_after c.begin_marks.new.marks c.note.new.self c.note-2.new.self c.args.first.now c.args.second.now c.step_way.new.self c.step_way-2.new.self
    c.args.due.now (c.begin_marks.ensures c.args.due.now)
    (noted_step c.begin_marks.new.marks c.note.new.self c.args.first.now c.step_way.new.self c.args.due.now c.step_way.new.stores.items
    c.is_exceptional-exceptional.result (stacks_of c.core.result.now.run.side c.core-3.result.now) c.step_way.ensures.steps c.step_way.ensures.stores (c.is_exceptional-exceptional.ensures ∙ c.step_way.ensures.exceptional)
    (λ i. stacks_of (c.core.ensures i).run.side (c.core-3.ensures i)) c.note.ensures)
    (noted_step c.note.new.self c.note-2.new.self c.args.second.now c.step_way-2.new.self c.args.due.now c.step_way-2.new.stores.items
    c.is_exceptional-exceptional_other.result (stacks_of c.core-2.result.now.run.side c.core-4.result.now) c.step_way-2.ensures.steps c.step_way-2.ensures.stores (c.is_exceptional-exceptional_other.ensures ∙ c.step_way-2.ensures.exceptional)
    (λ i. stacks_of (c.core-2.ensures i).run.side (c.core-4.ensures i)) c.note-2.ensures)

pub returns-clause-what : goal.returns-clause-what
returns-clause-what c =
    c.what_by.ensures
    ∙ what_stepped c.args.first.now c.args.second.now c.args.due.now _ _ _ _ c.step_way.ensures.steps
    (c.way-way.ensures ∙ ap (λ start. way_told c.step_way.new.self start c.step_way.new.close) c.side-start.ensures ∙ c.step_way.ensures.way)
    c.step_way-2.ensures.steps
    (c.way-way_of_other.ensures ∙ ap (λ start. way_told c.step_way-2.new.self start c.step_way-2.new.close) (c.side-start.ensures ∙ same_side (side_of c.args.first.now) (side_of c.args.second.now) (sides_alike c.args.first.now c.args.second.now c.requires.linked)) ∙ c.step_way-2.ensures.way)

pub returns-clause-exact : goal.returns-clause-exact
returns-clause-exact c = exact_stepped c.args.first.now c.args.second.now c.args.due.now _ c.requires.linked (returns-clause-what c)

pub returns-clause-lines : goal.returns-clause-lines
returns-clause-lines c = lines_stepped c.args.first.now c.args.second.now c.args.due.now _ c.requires.linked (returns-clause-what c)

pub returns-clause-linked : goal.returns-clause-linked
returns-clause-linked c =
    linked_stepped c.args.first.now c.args.second.now c.args.due.now _ _ _ c.requires.linked c.step_way.ensures.steps c.step_way-2.ensures.steps
    (returns-clause-what c)

pub returns-clause-marked : goal.returns-clause-marked
returns-clause-marked c =
    marked_after c.begin_marks.new.marks c.note.new.self c.note-2.new.self c.args.first.now c.args.second.now c.step_way.new.self c.step_way-2.new.self
    c.args.due.now (c.begin_marks.ensures c.args.due.now)
    (noted_step c.begin_marks.new.marks c.note.new.self c.args.first.now c.step_way.new.self c.args.due.now c.step_way.new.stores.items
    c.is_exceptional-exceptional.result (stacks_of c.core.result.now.run.side c.core-3.result.now) c.step_way.ensures.steps c.step_way.ensures.stores (c.is_exceptional-exceptional.ensures ∙ c.step_way.ensures.exceptional)
    (λ i. stacks_of (c.core.ensures i).run.side (c.core-3.ensures i)) c.note.ensures)
    (noted_step c.note.new.self c.note-2.new.self c.args.second.now c.step_way-2.new.self c.args.due.now c.step_way-2.new.stores.items
    c.is_exceptional-exceptional_other.result (stacks_of c.core-2.result.now.run.side c.core-4.result.now) c.step_way-2.ensures.steps c.step_way-2.ensures.stores (c.is_exceptional-exceptional_other.ensures ∙ c.step_way-2.ensures.exceptional)
    (λ i. stacks_of (c.core-2.ensures i).run.side (c.core-4.ensures i)) c.note-2.ensures)
