-- Each clause is what the answer says.
use Rattle.std.proofs.Common.{refl, map, Global}
use Rattle.std.specs.String.{string_bytes}
use Rattle.tz_cli.proofs.Clauses.{usage_only, settled_stop, settled_task, unread_only, unwritten_only, cut_only, refused_only, memory_told, one_status, task_written, nothing_told, no_stop, quiet_else, front_written, room_suffices, sound_reads, trace_written, isolated_trace}
use Rattle.tz_cli.proofs.PairClauses.{agreement_told, disagreement_told}
use Rattle.tz_cli.proofs.RunClauses.{full_written, gates_written, none_unlisted, page_written, saved_written, state_written, lines_written, rest_written, last_written, last_of_trace, summary_written}
use Rattle.tz_words.proofs.Backs.{goes_near}
use Rattle.tz_cli.proofs.program.top.Goals as goal

pub returns-clause-usage : goal.returns-clause-usage
returns-clause-usage g c = usage_only _ _ c.answer.ensures

pub returns-clause-stops : goal.returns-clause-stops
returns-clause-stops g c = settled_stop _ _ c.answer.ensures

pub returns-clause-unread : goal.returns-clause-unread
returns-clause-unread g c = unread_only _ _ _ refl c.answer.ensures

pub returns-clause-unwritten : goal.returns-clause-unwritten
returns-clause-unwritten g c = unwritten_only _ _ c.answer.ensures

pub returns-clause-cut : goal.returns-clause-cut
returns-clause-cut g c = cut_only _ _ _ refl c.answer.ensures

pub returns-clause-refused : goal.returns-clause-refused
returns-clause-refused g c = refused_only _ _ c.answer.ensures

pub returns-clause-memory : goal.returns-clause-memory
returns-clause-memory g c = memory_told _ _ c.answer.ensures

pub returns-clause-one_of : goal.returns-clause-one_of
returns-clause-one_of g c = one_status _ _ c.answer.ensures

pub returns-clause-done : goal.returns-clause-done
returns-clause-done g c = task_written _ _ c.answer.ensures

pub returns-clause-accepted : goal.returns-clause-accepted
returns-clause-accepted g c = no_stop _ _ c.answer.ensures

pub returns-clause-silent : goal.returns-clause-silent
returns-clause-silent g c = nothing_told _ _ c.answer.ensures

pub returns-clause-quiet : goal.returns-clause-quiet
returns-clause-quiet g c = quiet_else _ _ c.answer.ensures

pub returns-clause-front : goal.returns-clause-front
returns-clause-front g c = front_written _ _ c.answer.ensures

pub returns-clause-complete : goal.returns-clause-complete
returns-clause-complete g c = settled_task _ _ c.answer.ensures

pub returns-clause-sound : goal.returns-clause-sound
returns-clause-sound g c = sound_reads _ _ c.answer.ensures

pub returns-clause-room : goal.returns-clause-room
returns-clause-room g c = room_suffices _ _ c.answer.ensures

pub returns-clause-trace : goal.returns-clause-trace
returns-clause-trace g c = trace_written _ _ c.answer.ensures

pub returns-clause-full : goal.returns-clause-full
returns-clause-full g c = full_written _ _ c.answer.ensures

pub returns-clause-isolation : goal.returns-clause-isolation
returns-clause-isolation g c = λ done r run job told view other image accepted agree. isolated_trace _ _ c.answer.ensures done r run job told view image agree

pub returns-clause-agree : goal.returns-clause-agree
returns-clause-agree g c = agreement_told _ _ c.answer.ensures

pub returns-clause-differ : goal.returns-clause-differ
returns-clause-differ g c = disagreement_told _ _ c.answer.ensures

pub returns-clause-gates : goal.returns-clause-gates
returns-clause-gates g c = gates_written _ _ c.answer.ensures

pub returns-clause-unlisted : goal.returns-clause-unlisted
returns-clause-unlisted g c = none_unlisted _ _ c.answer.ensures

pub returns-clause-snap : goal.returns-clause-snap
returns-clause-snap g c = state_written _ _ c.answer.ensures

pub returns-clause-shown : goal.returns-clause-shown
returns-clause-shown g c = page_written _ _ c.answer.ensures

pub returns-clause-shown_saved : goal.returns-clause-shown_saved
returns-clause-shown_saved g c = saved_written _ _ c.answer.ensures

pub returns-clause-resumed : goal.returns-clause-resumed
returns-clause-resumed g c = lines_written _ _ c.answer.ensures

pub returns-clause-continued : goal.returns-clause-continued
returns-clause-continued g c = rest_written _ _ c.answer.ensures

pub returns-clause-undone : goal.returns-clause-undone
returns-clause-undone g c = last_written _ _ c.answer.ensures

pub returns-clause-remade : goal.returns-clause-remade
returns-clause-remade g c = λ done w says. last_of_trace _ _ c.answer.ensures done w says (goes_near (map (string_bytes {Z = Global}) c.args.words.now) w says)

pub returns-clause-generated : goal.returns-clause-generated
returns-clause-generated g c = summary_written _ _ c.answer.ensures
