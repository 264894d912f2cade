use Rattle.std.proofs.Common.{◌≡◌, ◌∙◌, sym, subst, length, List, arith}
use Rattle.tz_model.specs.declared.report.ScriptEvent.{ScriptEvent}
use Rattle.tz_run.specs.Events.{events_of}
use Rattle.tz_sem.specs.Step.{step}
use Rattle.tz_gates.proofs.Counting.{so_far_start, so_far_quiet, so_far_entry, hits_room, hits_at_end, others_at_end, as_long}
use Rattle.tz_gates.proofs.Exact.{no_others}
use Rattle.tz_gates.proofs.Hits.{hits_more, others_more}
use Rattle.tz_gates.proofs.tally.count_counted.Goals as goal
use Rattle.tz_gates.proofs.tally.count_counted.Goals.{in-Some, in_default}

pub loop-step-init : goal.loop-step-init
loop-step-init g c = record { so_far = so_far_start (events_of c.args.script.now) c.args.gates.now c.args.machine.now c.args.steps c.args.hits.now c.requires.zeros }

pub note_entry-others-requires-clause-room : goal.note_entry-others-requires-clause-room
note_entry-others-requires-clause-room g c =
    hits_room (events_of c.args.script.now) c.args.gates.now c.args.machine.now c.loop-step.machine c.loop-step.step c.args.steps c.loop-step.hits c.loop-step.others c.loop-step.invariant.so_far
    c.loop-step-test.true (omega arith)

pub loop-step-preserved : goal.loop-step-preserved
loop-step-preserved g c =
    let report = c.step_into.new.report in
    let made =
    subst (λ (due : List ScriptEvent). step c.loop-step.machine due ≡ record { state = c.step_into.new.self; report = report }) c.due-due.ensures.events c.step_into.ensures.steps in
    let h = c.loop-step.invariant.so_far in
    elim c.match-entry_of.branch [
      | in-Some w ↦
          let long : length w.note_entry-others.new.hits ≡ length c.args.gates.now =
          let same = w.note_entry-others.auto.hits in
          let before =
          as_long (events_of c.args.script.now) c.args.gates.now c.args.machine.now c.loop-step.machine c.loop-step.step c.args.steps c.loop-step.hits c.loop-step.others h in
          omega arith in
          record {
            so_far = so_far_entry (events_of c.args.script.now) c.args.gates.now c.args.machine.now c.loop-step.machine c.step_into.new.self c.loop-step.step c.args.steps c.loop-step.hits
                c.match-entry_of.hits c.loop-step.others c.match-entry_of.others report w.in-Some.entry c.loop-step-test.true made (sym c.entry_of.ensures ∙ w.in-Some.is) h
                (w.hits-is
                ∙ hits_more c.args.gates.now c.loop-step.hits w.note_entry-others.new.hits h.done w.in-Some.entry long h.counted w.note_entry-others.ensures.hits)
                (w.others-is ∙ w.note_entry-others.ensures.others ∙ others_more c.args.gates.now h.done w.in-Some.entry c.loop-step.others h.elsewhere);
          }
      | in_default w ↦
          record {
            so_far = so_far_quiet (events_of c.args.script.now) c.args.gates.now c.args.machine.now c.loop-step.machine c.step_into.new.self c.loop-step.step c.args.steps c.loop-step.hits
                c.match-entry_of.hits c.loop-step.others c.match-entry_of.others report c.loop-step-test.true made (sym c.entry_of.ensures ∙ w.in_default.is) w.hits-is w.others-is h;
          }
    ]

pub returns-clause-hits : goal.returns-clause-hits
returns-clause-hits g c =
    hits_at_end (events_of c.args.script.now) c.args.gates.now c.args.machine.now c.loop-step.machine c.loop-step.step c.args.steps c.loop-step.hits c.loop-step.others c.loop-step-test.false
    c.loop-step.invariant.so_far

pub returns-clause-others : goal.returns-clause-others
returns-clause-others g c =
    others_at_end (events_of c.args.script.now) c.args.gates.now c.args.machine.now c.loop-step.machine c.loop-step.step c.args.steps c.loop-step.hits c.loop-step.others c.loop-step-test.false
    c.loop-step.invariant.so_far

pub returns-clause-exact : goal.returns-clause-exact
returns-clause-exact g c = λ s all keeps even.
    others_at_end (events_of c.args.script.now) c.args.gates.now c.args.machine.now c.loop-step.machine c.loop-step.step c.args.steps c.loop-step.hits c.loop-step.others c.loop-step-test.false
    c.loop-step.invariant.so_far
    ∙ no_others s c.args.gates.now (events_of c.args.script.now) c.args.machine.now c.args.steps c.know_regions.ensures all keeps even
