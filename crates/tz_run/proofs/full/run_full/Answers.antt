-- What the run over a ledger says, by name: a body that runs otherwise is then refused at once.
use Rattle.tz_run.proofs.full.run_full.Goals as goal

pub returns-clause-put : goal.returns-clause-put
returns-clause-put g c = c.run_counted.ensures.put

pub returns-clause-cause : goal.returns-clause-cause
returns-clause-cause g c = c.run_counted.ensures.cause

pub returns-clause-state : goal.returns-clause-state
returns-clause-state g c = c.run_counted.ensures.state
