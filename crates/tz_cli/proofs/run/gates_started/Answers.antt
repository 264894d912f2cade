use Rattle.std.proofs.Common.{◌≡◌, ℕ, List, map, subst, arith, rules, tests}
use Rattle.std.proofs.lemmas.Grind.{common_steps}
use Rattle.tz_model.specs.Outside.{Put}
use Rattle.tz_state.specs.State.{State}
use Rattle.tz_sem.specs.Boot.{boot}
use Rattle.tz_sem.specs.Run.{Events}
use Rattle.tz_run.specs.Events.{events_of}
use Rattle.tz_gates.specs.Gates.{gates_of}
use Rattle.tz_gates.specs.Entries.{entries_at, other_entries}
use Rattle.tz_gates.specs.GatesText.{gates_text}
use Rattle.tz_cli.specs.Tasks.{counted_gates}
use Rattle.tz_cli.proofs.Exits.{told_put}
use Rattle.tz_cli.proofs.run.gates_started.Goals as goal

-- the gates that were found, and the counts at them, as one text
counts_told : (events : Events) (s t : State) (steps : ℕ) (gates shown asked hits : List ℕ) (others : ℕ) → s ≡ t → gates ≡ gates_of t → shown ≡ gates → asked ≡ gates
    → hits ≡ map (entries_at events 0 s steps) asked → others ≡ other_entries events 0 s steps asked → gates_text shown hits others ≡ counted_gates events t steps (gates_of t)
counts_told events s t steps gates shown asked hits others same is as_shown as_asked counted rest = cc

pub returns-clause-ran : goal.returns-clause-ran
returns-clause-ran g c =
    let files = c.args.files.now in
    let events = events_of files.script in
    let start = boot files.board files.secure files.nonsecure in
    let hits : c.deref-3.result.now ≡ map (entries_at events 0 c.in_ok-machine.machine c.args.words.now.steps) c.deref.result.now =
    first_of (cc (c.deref-3.ensures.value, c.count-unlisted.ensures.hits), search (tests, rules), grind (arith, common_steps)) in
    told_put _ _ _ (g.O.Sink.space c.put_gates.new.out) _ _ _ c.put_gates.result _ c.put_status.ensures
    (subst (λ (text : List ℕ). Put (g.O.Sink.written c.args.out.now) (g.O.Sink.written c.put_gates.new.out) (g.O.Sink.space c.args.out.now) (g.O.Sink.space c.put_gates.new.out) text c.put_gates.result)
    (counts_told events c.in_ok-machine.machine start c.args.words.now.steps c.in_ok-gates.gates.items c.deref-2.result.now c.deref.result.now c.deref-3.result.now c.count-unlisted.result
    c.in_ok-machine.ensures c.in_ok-gates.ensures.gates c.deref-2.ensures.value c.deref.ensures.value hits c.count-unlisted.ensures.others)
    c.put_gates.ensures.put)
    c.put_gates.ensures.cause
