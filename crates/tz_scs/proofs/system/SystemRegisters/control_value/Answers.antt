use Rattle.std.proofs.Common.{rules, tests}
use Rattle.tz_scs.proofs.system.SystemRegisters.control_value.Goals as goal

-- The call that closes it, by name: a body that is refused is then told without a search for what to offer.
pub returns-in-Shcsr : goal.returns-in-Shcsr
returns-in-Shcsr c = first_of (assumption, search (tests, rules))
