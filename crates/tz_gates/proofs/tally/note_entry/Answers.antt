use Rattle.std.proofs.Common.{sym, ap, cond, Bool, Ok, Err, ◌+◌}
use Rattle.tz_gates.proofs.Hits.{found_at, hit_one, hit_none, among_at, among_none}
use Rattle.tz_gates.proofs.tally.note_entry.Goals as goal

pub returns-in-Ok-clause-hits : goal.returns-in-Ok-clause-hits
returns-in-Ok-clause-hits c =
    let at = found_at c.args.gates.now c.args.entry (Ok c.in-Ok.index) c.requires.ascending c.in-Ok.ensures.position in
    hit_one c.args.gates.now c.args.hits.now c.args.entry c.in-Ok.index c.requires.ascending c.requires.long at.0 at.1

pub returns-in-Ok-clause-others : goal.returns-in-Ok-clause-others
returns-in-Ok-clause-others c =
    let at = found_at c.args.gates.now c.args.entry (Ok c.in-Ok.index) c.requires.ascending c.in-Ok.ensures.position in
    ap (λ (t : Bool). cond t c.args.others (c.args.others + 1)) (sym (among_at c.args.gates.now c.args.entry c.in-Ok.index at.0 at.1))

pub returns-in-Err-clause-hits : goal.returns-in-Err-clause-hits
returns-in-Err-clause-hits c =
    let none = found_at c.args.gates.now c.args.entry (Err c.in-Err.field-0) c.requires.ascending c.in-Err.ensures.position in
    λ k l. hit_none c.args.gates.now c.args.hits.now c.args.entry k (none k l)

pub returns-in-Err-clause-others : goal.returns-in-Err-clause-others
returns-in-Err-clause-others c =
    let none = found_at c.args.gates.now c.args.entry (Err c.in-Err.field-0) c.requires.ascending c.in-Err.ensures.position in
    ap (λ (t : Bool). cond t c.args.others (c.args.others + 1)) (sym (among_none c.args.gates.now c.args.entry none))
