-- What view `full` shows of a step under its line.
use Rattle.std.specs.Prelude.{ℕ, List, ◌++◌}
use Rattle.tz_model.specs.declared.report.Report.{Report}
use Rattle.tz_model.specs.declared.report.ScriptEvent.{ScriptEvent}
use Rattle.tz_state.specs.State.{State}
use Rattle.tz_sem.specs.declared.account.Account.{Account}
use Rattle.tz_full.specs.BegunLines.{events_text, begun_text}
use Rattle.tz_full.specs.CrossingLine.{crossing_text}
use Rattle.tz_full.specs.LoadLines.{loads_by, store_lines}
use Rattle.tz_full.specs.Instruction.{done_by}
use Rattle.tz_full.specs.WayLines.{ways_text, resumed_text}
use Rattle.tz_full.specs.TakenLines.{taken_text}

-- the accesses of the instruction, then SG, a call or a return from one
unfoldable pub ran_text : Account → Report → State → List ℕ
ran_text t r s = loads_by t s (done_by t.core r.kind) ++ store_lines s.bus.board.mover r.stores.items ++ ways_text t r s

-- what exceptions did, and the crossing to Non-secure code last
unfoldable pub handled_text : Account → Report → State → List ℕ
handled_text t r s = taken_text t s ++ resumed_text t r s ++ crossing_text r.way s.core.registers

-- all but the events
unfoldable pub rest_text : Account → Report → State → List ℕ
rest_text t r s = begun_text t r ++ ran_text t r s ++ handled_text t r s

-- by the account of the step, the events that were due, the report, and the state after the step
unfoldable pub full : Account → List ScriptEvent → Report → State → List ℕ
full t due r s = events_text due ++ rest_text t r s
