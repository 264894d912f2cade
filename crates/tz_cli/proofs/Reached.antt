-- The files of a command that are read: its words name each, and one that is absent settles no task.
use Rattle.std.proofs.Common.{◌≡◌, ℕ, List, Option, Some, None}
use Rattle.std.specs.Prelude.{nat_lt}
use Rattle.tz_model.specs.Outside.{Held, Absent}
use Rattle.tz_words.specs.StartWords.{start_names}
use Rattle.tz_words.specs.Run.{start_of}
use Rattle.tz_words.specs.ShowWords.{saved_names}
use Rattle.tz_words.specs.Resume.{resume_names}
use Rattle.tz_words.specs.Pair.{pair_names}
use Rattle.tz_words.specs.Asm.{asm_names}
use Rattle.tz_words.specs.Dis.{dis_names}
use Rattle.tz_words.specs.Commands.{Command, Run, RunFull, Pair, Asm, Dis, Gates, Snap, Show, ShowSaved, Resume, Back, Gen, longest, names_of}
use Rattle.tz_files.specs.Told.{TooManySteps, TooManyBack, step_limit, back_limit}
use Rattle.tz_files.specs.Reads.{Reading, IsOneOf}
use Rattle.tz_cli.specs.Tasks.{told, reads_of, files_of}
use Rattle.tz_files.proofs.Sure.{NeverGives, IsSure, sure_none, sure_settling, sure_limited, sure_start, sure_begun, sure_saved, sure_pair, sure_source, sure_listed, sure_shown}

-- ---- the files of commands

module _ (held : List ℕ → Held) where
  pub sure_command : (command : Command) → IsSure held (longest (names_of command)) (files_of held (Some command))
  sure_command (Run r) =
      let n = longest (start_names (start_of r)) in
      sure_settling held n _ _ (sure_settling held n _ _ (sure_begun held (start_of r)))
  sure_command (RunFull s) = sure_settling held (longest (start_names s)) _ _ (sure_begun held s)
  sure_command (Pair p) =
      let n = longest (pair_names p) in
      sure_settling held n _ _ (sure_settling held n _ _ (sure_limited held n TooManySteps (nat_lt step_limit p.steps) _ (sure_pair held p)))
  sure_command (Asm a) = sure_settling held (longest (asm_names a)) _ _ (sure_source held a)
  sure_command (Dis d) = sure_settling held (longest (dis_names d)) _ _ (sure_listed held d)
  sure_command (Gates s) = sure_settling held (longest (start_names s)) _ _ (sure_begun held s)
  sure_command (Snap s) = sure_settling held (longest (start_names s)) _ _ (sure_begun held s)
  sure_command (Show s) = sure_settling held (longest (start_names s.start)) _ _ (sure_begun held s.start)
  sure_command (ShowSaved w) = sure_settling held (longest (saved_names w)) _ _ (sure_shown held w)
  sure_command (Resume w) =
      let n = longest (resume_names w) in
      sure_settling held n _ _ (sure_limited held n TooManySteps (nat_lt step_limit w.steps) _ (sure_saved held w))
  sure_command (Back w) =
      let n = longest (start_names w.start) in
      sure_settling held n _ _ (sure_limited held n TooManySteps (nat_lt step_limit w.start.steps) _ (sure_limited held n TooManyBack (nat_lt back_limit w.back) _ (sure_start held w.start)))
  sure_command (Gen w) = sure_settling held 0 _ _ (sure_limited held 0 TooManySteps (nat_lt step_limit w.steps) _ (sure_none held 0 w))

-- an absent file that is read settles no task
pub absent_task : (held : List ℕ → Held) (o : Option Command) (file : Reading) → held file.name ≡ Absent → IsOneOf (reads_of held o) file → NeverGives (told held o)
absent_task held None file gone read = absurd read
absent_task held (Some command) file gone read = (sure_command held command).absent file read gone
