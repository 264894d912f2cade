-- Files that are read: none has a name longer than a bound, and one that is absent settles nothing.
use Rattle.std.proofs.Common.{◌≡◌, ℕ, ◌≤◌, ◌&&◌, not, Bool, true, false, cond, List, [], length, refl, ap, ◌∙◌, subst, arith}
use Rattle.std.specs.Prelude.{nat_lt}
use Rattle.std.proofs.lemmas.Bool.{and_parts}
use Rattle.tz_table.specs.declared.units.Side.{Side}
use Rattle.tz_model.specs.Board.{BoardValue}
use Rattle.tz_model.specs.Outside.{Held, Absent}
use Rattle.tz_words.specs.StartWords.{StartWords, start_names}
use Rattle.tz_words.specs.ShowWords.{SavedWords, saved_names}
use Rattle.tz_words.specs.Resume.{ResumeWords, resume_names}
use Rattle.tz_words.specs.Pair.{PairWords, pair_names}
use Rattle.tz_words.specs.Asm.{AsmWords, asm_names}
use Rattle.tz_words.specs.Dis.{DisWords, dis_names}
use Rattle.tz_words.specs.Commands.{longest}
use Rattle.tz_files.specs.Told.{Stop, TooManySteps, Unread, Told, Unknown, Stops, Gives, told_then, is_demo, is_none_script, board_told, board_file, image_told, state_told, script_told, script_file, source_told, step_limit}
use Rattle.tz_files.specs.Reads.{Reading, Settled, goes_on, read_where, no_files, one_file, and_file, settling, within_limit, IsOneOf}
use Rattle.tz_words.specs.declared.asm.Form.{Form as AsmForm}
use Rattle.tz_files.specs.Starts.{board_files, source_files, start_files, saved_files, shown_files, pair_start_files, listed_files}
use Rattle.tz_files.proofs.Settling.{by_part, read_where_is}

-- ---- no value is settled

pub NeverGives : {A : Type 0} → Told A → Type 0
NeverGives {A = A} t = (x : A) → t ≡ Gives x → ⊥

never_stops : {A : Type 0} (t : Told A) (stop : Stop) → t ≡ Stops stop → NeverGives t
unfolding NeverGives
never_stops t stop e = λ x h. cc (e, h)

never_then : {A B : Type 0} (t : Told A) (next : A → Told B) → NeverGives t → NeverGives (told_then t next)
unfolding NeverGives
never_then Unknown next h = λ x e. cc
never_then (Stops stop) next h = λ x e. cc
never_then (Gives a) next h = absurd (h a refl)

never_after : {A B : Type 0} (t : Told A) (next : A → Told B) → ((a : A) → NeverGives (next a)) → NeverGives (told_then t next)
unfolding NeverGives
never_after Unknown next h = λ x e. cc
never_after (Stops stop) next h = λ x e. cc
never_after (Gives a) next h = h a

pub never_gives : {A : Type 0} (t : Told A) (x : A) → NeverGives t → t ≡ Gives x → ⊥
unfolding NeverGives
never_gives t x h e = h x e

-- ---- one file that is absent

false_not : (b : Bool) → not b ≡ true → b ≡ false
false_not false e = refl
false_not true e = absurd (cc)

absent_board : (held : List ℕ → Held) (name : List ℕ) → held name ≡ Absent → is_demo name ≡ false → board_told held name ≡ Stops (Unread name)
unfolding board_told board_file
absent_board held name e demo = rw (demo, e) refl

absent_image : (held : List ℕ → Held) (b : BoardValue) (side : Side) (name : List ℕ) → held name ≡ Absent → image_told held b side name ≡ Stops (Unread name)
unfolding image_told
absent_image held b side name e = rw e refl

absent_state : (held : List ℕ → Held) (b : BoardValue) (name : List ℕ) → held name ≡ Absent → state_told held b name ≡ Stops (Unread name)
unfolding state_told
absent_state held b name e = rw e refl

absent_script : (held : List ℕ → Held) (interrupts : ℕ) (name : List ℕ) → held name ≡ Absent → is_none_script name ≡ false → script_told held interrupts name ≡ Stops (Unread name)
unfolding script_told script_file
absent_script held interrupts name e named = rw (named, e) refl

absent_source : (held : List ℕ → Held) (form : AsmForm) (name : List ℕ) → held name ≡ Absent → source_told held form name ≡ Stops (Unread name)
unfolding source_told
absent_source held form name e = rw e refl

never_board : (held : List ℕ → Held) (name : List ℕ) → not (is_demo name) ≡ true → held name ≡ Absent → NeverGives (board_told held name)
never_board held name is gone = never_stops (board_told held name) (Unread name) (absent_board held name gone (false_not (is_demo name) is))

never_image : (held : List ℕ → Held) (b : BoardValue) (side : Side) (name : List ℕ) → held name ≡ Absent → NeverGives (image_told held b side name)
never_image held b side name gone = never_stops (image_told held b side name) (Unread name) (absent_image held b side name gone)

never_state : (held : List ℕ → Held) (b : BoardValue) (name : List ℕ) → held name ≡ Absent → NeverGives (state_told held b name)
never_state held b name gone = never_stops (state_told held b name) (Unread name) (absent_state held b name gone)

never_script : (held : List ℕ → Held) (interrupts : ℕ) (name : List ℕ) → not (is_none_script name) ≡ true → held name ≡ Absent → NeverGives (script_told held interrupts name)
never_script held interrupts name is gone =
    never_stops (script_told held interrupts name) (Unread name) (absent_script held interrupts name gone (false_not (is_none_script name) is))

never_source : (held : List ℕ → Held) (form : AsmForm) (name : List ℕ) → held name ≡ Absent → NeverGives (source_told held form name)
never_source held form name gone = never_stops (source_told held form name) (Unread name) (absent_source held form name gone)

-- ---- files, one after another

-- no name is longer than a bound, and an absent file leaves nothing settled
pub record IsSure {A : Type 0} (held : List ℕ → Held) (n : ℕ) (files : Settled A) : Type 0 where
  pub absent : (file : Reading) → IsOneOf files.reads file → held file.name ≡ Absent → NeverGives files.told
  pub within : (file : Reading) → IsOneOf files.reads file → length file.name ≤ n

module _ (held : List ℕ → Held) (n : ℕ) where
  pub sure_none : {A : Type 0} (x : A) → IsSure held n (no_files x)
  sure_none x = record { absent = λ file read gone. absurd read; within = λ file read. absurd read }

  sure_one : {A : Type 0} (is_file : Bool) (file : Reading) (t : Told A) → length file.name ≤ n → (is_file ≡ true → held file.name ≡ Absent → NeverGives t)
      → IsSure held n (one_file is_file file t)
  sure_one is_file file t short never = record {
    absent = λ other read gone. let at = read_where_is is_file file other read in never at.0 (ap (λ (x : Reading). held x.name) at.1 ∙ gone);
    within = λ other read. subst (λ (x : Reading). length x.name ≤ n) (read_where_is is_file file other read).1 short;
  }

  sure_and : {A B C : Type 0} (before : Settled A) (is_file : Bool) (file : Reading) (next : A → Told B) (join : A → B → C) → IsSure held n before → length file.name ≤ n
      → (is_file ≡ true → held file.name ≡ Absent → (x : A) → NeverGives (next x)) → IsSure held n (and_file before is_file file next join)
  sure_and {A = A} before is_file file next join sure short never =
      let is = is_file && goes_on before.told in
      record {
        absent = λ other read gone. by_part before.reads (read_where is file) other _ (λ first. never_then before.told _ (sure.absent other first gone))
            (λ second.
            let at = read_where_is is file other second in
            never_after before.told _ (λ (x : A). never_then (next x) _ (never (and_parts is_file (goes_on before.told) at.0).0 (ap (λ (y : Reading). held y.name) at.1 ∙ gone) x))) read;
        within = λ other read. by_part before.reads (read_where is file) other _ (sure.within other)
            (λ second. subst (λ (x : Reading). length x.name ≤ n) (read_where_is is file other second).1 short) read;
      }

  pub sure_settling : {A B : Type 0} (next : A → Told B) (files : Settled A) → IsSure held n files → IsSure held n (settling next files)
  sure_settling next files sure = record {
    absent = λ file read gone. never_then files.told next (sure.absent file read gone);
    within = sure.within;
  }

  pub sure_limited : {A : Type 0} (stop : Stop) (past : Bool) (files : Settled A) → IsSure held n files → IsSure held n (cond past (record { told = Stops stop; reads = [] }) files)
  sure_limited stop true files sure = record { absent = λ file read gone. absurd read; within = λ file read. absurd read }
  sure_limited stop false files sure = sure

-- ---- the files of commands

module _ (held : List ℕ → Held) where
  sure_board : (n : ℕ) (name : List ℕ) → length name ≤ n → IsSure held n (board_files held name)
  sure_board n name short = sure_one held n (not (is_demo name)) _ (board_told held name) short (never_board held name)

  pub sure_start : (w : StartWords) → IsSure held (longest (start_names w)) (start_files held w)
  sure_start w =
      let n = longest (start_names w) in
      sure_and held n _ (not (is_none_script w.script)) _ _ _
      (sure_and held n _ true _ _ _
      (sure_and held n _ true _ _ _ (sure_board n w.board (omega arith)) (omega arith) (λ is gone b. never_image held b _ w.secure gone))
      (omega arith) (λ is gone s. never_image held s.board _ w.nonsecure gone))
      (omega arith) (λ is gone s. never_script held s.board.interrupts w.script is gone)

  pub sure_saved : (w : ResumeWords) → IsSure held (longest (resume_names w)) (saved_files held w)
  sure_saved w =
      let n = longest (resume_names w) in
      sure_and held n _ (not (is_none_script w.script)) _ _ _
      (sure_and held n _ true _ _ _ (sure_board n w.board (omega arith)) (omega arith) (λ is gone b. never_state held b w.state gone))
      (omega arith) (λ is gone s. never_script held s.board.interrupts w.script is gone)

  pub sure_pair : (p : PairWords) → IsSure held (longest (pair_names p)) (pair_start_files held p)
  sure_pair p =
      let n = longest (pair_names p) in
      sure_and held n _ (not (is_none_script p.script)) _ _ _
      (sure_and held n _ true _ _ _
      (sure_and held n _ true _ _ _
      (sure_and held n _ true _ _ _ (sure_board n p.board (omega arith)) (omega arith) (λ is gone b. never_image held b _ p.first gone))
      (omega arith) (λ is gone s. never_image held s.board _ p.second gone))
      (omega arith) (λ is gone s. never_image held s.board _ p.nonsecure gone))
      (omega arith) (λ is gone s. never_script held s.board.interrupts p.script is gone)

  pub sure_source : (a : AsmWords) → IsSure held (longest (asm_names a)) (source_files held a.form a.source)
  sure_source a = sure_one held (longest (asm_names a)) true _ (source_told held a.form a.source) (omega arith) (λ is gone. never_source held a.form a.source gone)

  pub sure_listed : (d : DisWords) → IsSure held (longest (dis_names d)) (listed_files held d)
  sure_listed d =
      let n = longest (dis_names d) in
      sure_and held n _ true _ _ _ (sure_board n d.board (omega arith)) (omega arith) (λ is gone b. never_image held b d.side d.image gone)

  pub sure_shown : (w : SavedWords) → IsSure held (longest (saved_names w)) (shown_files held w)
  sure_shown w =
      let n = longest (saved_names w) in
      sure_and held n _ true _ _ _ (sure_board n w.board (omega arith)) (omega arith) (λ is gone b. never_state held b w.state gone)

  pub sure_begun : (w : StartWords) → IsSure held (longest (start_names w)) (within_limit w.steps (start_files held w))
  sure_begun w = sure_limited held (longest (start_names w)) TooManySteps (nat_lt step_limit w.steps) _ (sure_start w)
