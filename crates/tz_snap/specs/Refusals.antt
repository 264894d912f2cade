-- What an error says of a definition's answer.
use Rattle.std.specs.Prelude.{◌≡◌, Result, Err}
use Rattle.tz_snap.specs.StateFile.{Refusal, SavedState}
use Rattle.tz_snap.specs.StateFile as refusals
use Rattle.tz_snap.specs.declared.error.SnapError.{SnapError}
use Rattle.tz_snap.specs.declared.error.SnapError.TheVariants.{Magic, Board, Length, Value, Memory}

-- the answer is the refusal that the error names; want of memory says nothing
abbrev pub IsStateRefusal : SnapError → Result SavedState Refusal → Type 0
IsStateRefusal Magic answer = answer ≡ Err refusals.Magic
IsStateRefusal Board answer = answer ≡ Err refusals.Board
IsStateRefusal Length answer = answer ≡ Err refusals.Length
IsStateRefusal (Value index) answer = answer ≡ Err (refusals.Value index)
IsStateRefusal Memory answer = Unit {0}
