-- Files that are read one after another, each with its form.
use Rattle.std.proofs.Common.{◌≡◌, inl, ℕ, ◌+◌, ◌≤◌, ◌&&◌, not, Bool, true, false, cond, List, [], ◌++◌, length, length-append, append-nil, Option, Some, None, Result, Ok, Err, refl, sym, ap, ◌∙◌, subst, arith}
use Rattle.std.specs.Prelude.{IsTrue}
use Rattle.std.specs.Borrow.{Bor}
use Rattle.tz_table.specs.declared.units.Side.{Side}
use Rattle.tz_model.specs.Board.{BoardValue}
use Rattle.tz_model.specs.Image.{ImageValue}
use Rattle.tz_model.specs.Outside.{Held, Untold, Absent, Holds, Rose, Got, Cut}
use Rattle.tz_elf.specs.Images.{Refusal, image_of}
use Rattle.tz_elf.specs.Refusals.{IsImageRefusal}
use Rattle.tz_board.specs.Boards.{BoardRefusal, board_of}
use Rattle.tz_board.specs.BoardErrors.{refusal_of, IsBoardRefusal, IsTold}
use Rattle.tz_board.specs.Demo.{demo}
use Rattle.tz_board.specs.Scripts.{Timed, ScriptRefusal, script_of}
use Rattle.tz_board.specs.ScriptErrors.{script_refusal_of, IsScriptRefusal, IsToldScript}
use Rattle.tz_board.specs.declared.error.BoardError.{BoardError}
use Rattle.tz_board.specs.declared.error.ScriptError.{ScriptError}
use Rattle.tz_elf.specs.declared.error.ElfError.{ElfError}
use Rattle.tz_elf.specs.declared.error.ElfError.TheVariants as elf
use Rattle.tz_snap.specs.StateFile.{SavedState, saved_of}
use Rattle.tz_snap.specs.StateFile.{Refusal as StateRefusal}
use Rattle.tz_snap.specs.Refusals.{IsStateRefusal}
use Rattle.tz_snap.specs.declared.error.SnapError.{SnapError}
use Rattle.tz_snap.specs.declared.error.SnapError.TheVariants as snap
use Rattle.tz_asm.specs.Errors.{IsRefusal}
use Rattle.tz_asm.specs.Refusals.{Refusal as AsmRefusal}
use Rattle.tz_asm.specs.declared.error.AsmError.{AsmError}
use Rattle.tz_asm.specs.declared.error.AsmError.TheVariants as asm
use Rattle.tz_files.specs.declared.stops.LoadError.{LoadError}
use Rattle.tz_files.specs.declared.stops.LoadError.TheVariants.{Unread, Long, Board, Image, State, Script, Source, Memory}
use Rattle.tz_files.specs.Told.{Stop, TooLong, BadBoard, BadImage, BadState, BadScript, BadSource, Told, Stops, Gives, told_then, graded, is_demo, is_none_script, board_limit, image_limit, script_limit, source_limit, file_with, board_file, board_told, image_told, state_told, script_file, script_told, assembly_in, source_told}
use Rattle.tz_files.specs.Reads.{Form, AsBoard, AsImage, AsState, AsScript, AsSource, Reading, Settled, goes_on, read_where, one_file, and_file, IsOneOf}
use Rattle.tz_words.specs.declared.asm.Form.{Form as AsmForm}
use Rattle.tz_files.specs.Starts.{board_files, image_files, state_files, script_files, source_files}
use Rattle.tz_files.specs.Allowed.{Allows, AllowsStop, IsOfFile, Shelved}
use Rattle.tz_files.specs.Faults.{AllowsRefusal, IsFault, IsOfFiles, IsRead, Standing, between, image_refusal, state_refusal, source_refusal}
use Rattle.tz_files.proofs.Settling.{then_stop, after_stop, then_allows, then_gives, goes, one_of_first, one_of_second, and_holds, past, fits}

-- ---- faults of some files as faults of more

-- what stops it stops the command
abbrev pub StopsAll : {A B : Type 0} → Told A → Told B → Type 0
StopsAll t u = (stop : Stop) → IsOfFile stop → AllowsStop t stop → AllowsStop u stop

refused_more : {A B E : Type 0} (t : Told A) (u : Told B) (stop : E → Stop) (o : Option E) → ((x : E) → IsOfFile (stop x)) → StopsAll t u → AllowsRefusal t stop o → AllowsRefusal u stop o
refused_more t u stop None of all h = tt
refused_more t u stop (Some x) of all h = all (stop x) (of x) h

rose_before : (a b c d : ℕ) → a ≤ b → c ≤ d → Rose b c → Rose a d
rose_before a b c d l m h = omega arith

-- the shelf as some files were read, in that of more
pub record Within (s s' : Shelved) : Type 0 where
  pub held : s'.held ≡ s.held
  pub sound : s'.sound ≡ s.sound
  pub before : s.before ≤ s'.before
  pub now : s'.now ≤ s.now

-- a fault of some files is one of others that have these among them, where what stops these stops those
fault_of_more : {A B : Type 0} (s s' : Shelved) (files : Settled A) (others : Settled B) (e : LoadError)
    → Within s s' → ((file : Reading) → IsOneOf files.reads file → IsOneOf others.reads file) → StopsAll files.told others.told → IsFault s' files e → IsFault s others e
fault_of_more s s' files others (Unread name) within read all h = (
  (h.0.0, read (record { name = name.now; form = h.0.0 }) h.0.1),
  rose_before s.before s'.before s'.now s.now within.before within.now h.1,
  λ sound. ap (λ (g : List ℕ → Held). g name.now) (sym within.held) ∙ h.2 (subst (λ (b : Bool). IsTrue b) (sym within.sound) sound),
)
fault_of_more s s' files others (Long name) within read all h =
    ((h.0.0, read (record { name = name.now; form = h.0.0 }) h.0.1), all (TooLong name.now) tt h.1)
fault_of_more s s' files others (Board name x) within read all h =
    (read (record { name = name.now; form = AsBoard }) h.0, refused_more files.told others.told (BadBoard name.now) (refusal_of x) (λ r. tt) all h.1)
fault_of_more s s' files others (Image name x) within read all h =
    (read (record { name = name.now; form = AsImage }) h.0, refused_more files.told others.told (BadImage name.now) (image_refusal x) (λ r. tt) all h.1)
fault_of_more s s' files others (State name x) within read all h =
    (read (record { name = name.now; form = AsState }) h.0, refused_more files.told others.told (BadState name.now) (state_refusal x) (λ r. tt) all h.1)
fault_of_more s s' files others (Script name x) within read all h =
    (read (record { name = name.now; form = AsScript }) h.0, refused_more files.told others.told (BadScript name.now) (script_refusal_of x) (λ r. tt) all h.1)
fault_of_more s s' files others (Source name x) within read all h =
    (read (record { name = name.now; form = AsSource }) h.0, refused_more files.told others.told (BadSource name.now) (source_refusal x) (λ r. tt) all h.1)
fault_of_more s s' files others Memory within read all h = tt

same_shelf : (s : Shelved) → Within s s
same_shelf s = record { held = refl; sound = refl; before = omega arith; now = omega arith }

-- ---- one file after others

module _ {A B C : Type 0} (a b : Standing) (before : (List ℕ → Held) → Settled A) (is_file : Bool) (file : Reading) (next : (List ℕ → Held) → A → Told B) (join : A → B → C) where
  abbrev All : (List ℕ → Held) → Settled C
  All held = and_file (before held) is_file file (next held) join

  -- a fault of those before
  pub first_failed : (e : LoadError) → IsRead a b before (Err e) → IsRead a b All (Err e)
  first_failed e h = record {
    held = h.held;
    sound = h.sound;
    later = h.later;
    answer = fault_of_more (between a b) (between a b) (before a.held) (All a.held) e (same_shelf (between a b))
        (λ other read. one_of_first (before a.held).reads (read_where (is_file && goes_on (before a.held).told) file) other read)
        (λ stop of stops. then_stop (before a.held).told _ stop stops) h.answer;
  }

  module _ (c : Standing) (x : A) (h : IsRead a b before (Ok x)) where
    -- the file by the word of the shelf before
    at_first : (r : Result B LoadError) → IsRead b c (λ held. one_file is_file file (next held x)) r → IsOfFiles (between b c) (one_file is_file file (next a.held x)) r
    at_first r k = subst (λ (g : List ℕ → Held). IsOfFiles (between b c) (one_file is_file file (next g x)) r) h.held k.answer

    is_read : (is_file && goes_on (before a.held).told) ≡ is_file
    is_read = and_holds is_file (goes_on (before a.held).told) (goes (before a.held).told x h.answer)

    -- its own fault
    pub next_failed : (e : LoadError) → IsRead b c (λ held. one_file is_file file (next held x)) (Err e) → IsRead a c All (Err e)
    next_failed e k =
        let first = h.later in
        let second = k.later in
        record {
          held = k.held ∙ h.held;
          sound = k.sound ∙ h.sound;
          later = omega (arith, first, second);
          answer = fault_of_more (between a c) (between b c) (one_file is_file file (next a.held x)) (All a.held) e
              (record { held = h.held; sound = h.sound; before = first; now = omega arith })
              (λ other read. one_of_second (before a.held).reads (read_where (is_file && goes_on (before a.held).told) file) other
              (subst (λ (is : Bool). IsOneOf (read_where is file) other) (sym is_read) read))
              (λ stop of stops. after_stop (before a.held).told _ x stop h.answer of (then_stop (next a.held x) _ stop stops))
              (at_first (Err e) k);
        }

    -- both were read
    pub both_read : (y : B) → IsRead b c (λ held. one_file is_file file (next held x)) (Ok y) → IsRead a c All (Ok (join x y))
    both_read y k =
        let first = h.later in
        let second = k.later in
        record {
          held = k.held ∙ h.held;
          sound = k.sound ∙ h.sound;
          later = omega (arith, first, second);
          answer = then_allows (before a.held).told _ x (join x y) h.answer (then_gives (join x) (next a.held x) y (at_first (Ok y) k));
        }

-- ---- the form of a file

-- want of memory is a fault of any files
pub no_memory : {A B : Type 0} (a b : Standing) (files : (List ℕ → Held) → Settled A) (others : (List ℕ → Held) → Settled B) (r : Result A LoadError) → IsRead a b files r → IsRead a b others (Err Memory)
no_memory a b files others r h = record { held = h.held; sound = h.sound; later = h.later; answer = tt }

module _ {B : Type 0} (a b : Standing) (file : Reading) (limit : ℕ) (grade : List ℕ → Told B) where
  abbrev Bytes : (List ℕ → Held) → Settled (List ℕ)
  Bytes held = one_file true file (file_with file.name limit (held file.name))

  abbrev pub Graded : (List ℕ → Held) → Settled B
  Graded held = one_file true file (told_then (file_with file.name limit (held file.name)) grade)

  -- it isn't read
  pub unread : (e : LoadError) → IsRead a b Bytes (Err e) → IsRead a b Graded (Err e)
  unread e h = record {
    held = h.held;
    sound = h.sound;
    later = h.later;
    answer = fault_of_more (between a b) (between a b) (Bytes a.held) (Graded a.held) e (same_shelf (between a b)) (λ other read. read)
        (λ stop of stops. then_stop (file_with file.name limit (a.held file.name)) grade stop stops) h.answer;
  }

  -- it is accepted, or refused
  pub graded_read : (bytes : List ℕ) (r : Result B LoadError) → IsRead a b Bytes (Ok bytes) → IsOfFiles (between a b) (one_file true file (grade bytes)) r → IsRead a b Graded r
  graded_read bytes (Ok x) h allowed = record {
    held = h.held;
    sound = h.sound;
    later = h.later;
    answer = then_allows (file_with file.name limit (a.held file.name)) grade bytes x h.answer allowed;
  }
  graded_read bytes (Err e) h fault = record {
    held = h.held;
    sound = h.sound;
    later = h.later;
    answer = fault_of_more (between a b) (between a b) (one_file true file (grade bytes)) (Graded a.held) e (same_shelf (between a b)) (λ other read. read)
        (λ stop of stops. after_stop (file_with file.name limit (a.held file.name)) grade bytes stop h.answer of stops) fault;
  }

-- ---- the bytes of a file

-- all of a file within the limit
pub whole_file : (name : List ℕ) (limit : ℕ) (h : Held) (old new : List ℕ) → old ≡ [] → Got h limit old new → Allows (file_with name limit h) new
whole_file name limit Untold old new none got = tt
whole_file name limit Absent old new none got = absurd got.whole
whole_file name limit (Holds bytes) old new none got =
    let short = got.short in
    let is : got.gained ≡ bytes = got.whole in
    let same : new ≡ got.gained = got.appended ∙ ap (λ (x : List ℕ). x ++ got.gained) none in
    let within : length bytes ≤ limit = subst (λ (x : List ℕ). length x ≤ limit) is short in
    subst (λ (b : Bool). Allows (cond b (Stops (TooLong name)) (Gives bytes)) new) (sym (fits limit (length bytes) within)) (sym (same ∙ is))

-- a file past the limit, by its front
pub long_file : (name : List ℕ) (limit : ℕ) (h : Held) (old new : List ℕ) → Cut h old new → length new ≡ length old + (limit + 1) → AllowsStop (file_with name limit h) (TooLong name)
long_file name limit Untold old new cut more = tt
long_file name limit Absent old new cut more =
    let none : cut.gained ≡ [] = cut.front in
    let same : new ≡ old ++ [] = cut.appended ∙ ap (λ (x : List ℕ). old ++ x) none in
    let long = ap length (same ∙ append-nil old) in
    absurd (omega (arith, long, more))
long_file name limit (Holds bytes) old new cut more =
    let front : cut.gained ++ cut.front.0 ≡ bytes = cut.front.1 in
    let long = ap length cut.appended ∙ length-append old cut.gained in
    let all = sym (ap length front) ∙ length-append cut.gained cut.front.0 in
    subst (λ (b : Bool). AllowsStop (cond b (Stops (TooLong name)) (Gives bytes)) (TooLong name)) (sym (past limit (length bytes) (omega (arith, long, all, more)))) refl

-- ---- grammars

accepted_by : {A E : Type 0} (stop : E → Stop) (read : Result A E) (x : A) → read ≡ Ok x → Allows (graded stop read) x
accepted_by stop read x e = subst (λ r. Allows (graded stop r) x) (sym e) refl

refused_by : {A E : Type 0} (stop : E → Stop) (read : Result A E) (refusal : E) → read ≡ Err refusal → AllowsStop (graded stop read) (stop refusal)
refused_by stop read refusal e = subst (λ r. AllowsStop (graded stop r) (stop refusal)) (sym e) refl

board_by : (stop : BoardRefusal → Stop) (o : Option BoardRefusal) (read : Result BoardValue BoardRefusal) → IsTold o read → AllowsRefusal (graded stop read) stop o
board_by stop None read h = tt
board_by stop (Some refusal) read h = refused_by stop read refusal h

script_by : (stop : ScriptRefusal → Stop) (o : Option ScriptRefusal) (read : Result (List Timed) ScriptRefusal) → IsToldScript o read → AllowsRefusal (graded stop read) stop o
script_by stop None read h = tt
script_by stop (Some refusal) read h = refused_by stop read refusal h

image_by : (stop : Refusal → Stop) (e : ElfError) (read : Result ImageValue Refusal) → IsImageRefusal e read → AllowsRefusal (graded stop read) stop (image_refusal e)
image_by stop elf.Magic read h = refused_by stop read _ h
image_by stop elf.ClassOrOrder read h = refused_by stop read _ h
image_by stop elf.TypeOrMachine read h = refused_by stop read _ h
image_by stop elf.HeaderCut read h = refused_by stop read _ h
image_by stop (elf.SegmentCut index) read h = refused_by stop read _ h
image_by stop (elf.Outside index) read h = refused_by stop read _ h
image_by stop (elf.WrongSide index) read h = refused_by stop read _ h
image_by stop (elf.Overlap earlier index) read h = refused_by stop read _ h
image_by stop (elf.Hex line) read h = refused_by stop read _ h
image_by stop elf.Memory read h = tt

state_by : (stop : StateRefusal → Stop) (e : SnapError) (read : Result SavedState StateRefusal) → IsStateRefusal e read → AllowsRefusal (graded stop read) stop (state_refusal e)
state_by stop snap.Magic read h = refused_by stop read _ h
state_by stop snap.Board read h = refused_by stop read _ h
state_by stop snap.Length read h = refused_by stop read _ h
state_by stop (snap.Value index) read h = refused_by stop read _ h
state_by stop snap.Memory read h = tt

source_by : {A : Type 0} (stop : AsmRefusal → Stop) (e : AsmError) (read : Result A AsmRefusal) → IsRefusal e read → AllowsRefusal (graded stop read) stop (source_refusal e)
source_by stop (asm.Token line) read h = refused_by stop read _ h
source_by stop (asm.Mnemonic line) read h = refused_by stop read _ h
source_by stop (asm.Operands line) read h = refused_by stop read _ h
source_by stop (asm.Range line) read h = refused_by stop read _ h
source_by stop (asm.NoLabel line) read h = refused_by stop read _ h
source_by stop (asm.TwoLabels line) read h = refused_by stop read _ h
source_by stop (asm.OrgBackwards line) read h = refused_by stop read _ h
source_by stop (asm.TooLarge line) read h = refused_by stop read _ h
source_by stop asm.Memory read h = tt

-- ---- files by their forms

-- of a shelf that was not asked
pub nothing_read : {A : Type 0} (a : Standing) (files : (List ℕ → Held) → Settled A) (r : Result A LoadError) → IsOfFiles (between a a) (files a.held) r → IsRead a a files r
nothing_read a files r h = record { held = refl; sound = refl; later = omega arith; answer = h }

pub demo_read : (a : Standing) (name : List ℕ) (b : BoardValue) → is_demo name ≡ true → b ≡ demo → IsRead a a (λ held. board_files held name) (Ok b)
unfolding board_told
demo_read a name b is e = nothing_read a (λ held. board_files held name) (Ok b) (rw is (sym e))

pub none_read : (a : Standing) (interrupts : ℕ) (name : List ℕ) (s : List Timed) → is_none_script name ≡ true → s ≡ [] → IsRead a a (λ held. script_files held interrupts name) (Ok s)
unfolding script_told
none_read a interrupts name s is e = nothing_read a (λ held. script_files held interrupts name) (Ok s) (rw is (sym e))

module _ (a b : Standing) (name : Bor (List ℕ)) where
  abbrev pub BytesRead : Form → ℕ → Result (List ℕ) LoadError → Type 0
  BytesRead form limit r = IsRead a b (λ held. one_file true (record { name = name.now; form = form }) (file_with name.now limit (held name.now))) r

  -- the board's
  board_graded : (r : Result BoardValue LoadError) → is_demo name.now ≡ false
      → IsRead a b (Graded a b (record { name = name.now; form = AsBoard }) board_limit (λ bytes. graded (BadBoard name.now) (board_of bytes))) r → IsRead a b (λ held. board_files held name.now) r
  unfolding board_told board_file
  board_graded r is h =
      subst (λ (v : Bool). IsRead a b (λ held. one_file (not v) (record { name = name.now; form = AsBoard })
      (cond v (Gives demo) (told_then (file_with name.now board_limit (held name.now)) (λ bytes. graded (BadBoard name.now) (board_of bytes))))) r) (sym is) h

  pub board_unread : (e : LoadError) → is_demo name.now ≡ false → BytesRead AsBoard board_limit (Err e) → IsRead a b (λ held. board_files held name.now) (Err e)
  board_unread e is h = board_graded (Err e) is (unread a b (record { name = name.now; form = AsBoard }) board_limit (λ bytes. graded (BadBoard name.now) (board_of bytes)) e h)

  pub board_accepted : (bytes : List ℕ) (x : BoardValue) → is_demo name.now ≡ false → BytesRead AsBoard board_limit (Ok bytes) → board_of bytes ≡ Ok x → IsRead a b (λ held. board_files held name.now) (Ok x)
  board_accepted bytes x is h e =
      board_graded (Ok x) is
      (graded_read a b (record { name = name.now; form = AsBoard }) board_limit (λ bs. graded (BadBoard name.now) (board_of bs)) bytes (Ok x) h (accepted_by (BadBoard name.now) (board_of bytes) x e))

  pub board_refused : (bytes : List ℕ) (e : BoardError) → is_demo name.now ≡ false → BytesRead AsBoard board_limit (Ok bytes) → IsBoardRefusal e (board_of bytes)
      → IsRead a b (λ held. board_files held name.now) (Err (Board name e))
  board_refused bytes e is h refused =
      board_graded (Err (Board name e)) is
      (graded_read a b (record { name = name.now; form = AsBoard }) board_limit (λ bs. graded (BadBoard name.now) (board_of bs)) bytes (Err (Board name e)) h
      (inl refl, board_by (BadBoard name.now) (refusal_of e) (board_of bytes) refused))

  -- an image's
  module _ (board : BoardValue) (side : Side) where
    pub image_unread : (e : LoadError) → BytesRead AsImage image_limit (Err e) → IsRead a b (λ held. image_files held board side name.now) (Err e)
    unfolding image_told
    image_unread e h = unread a b (record { name = name.now; form = AsImage }) image_limit (λ bytes. graded (BadImage name.now) (image_of bytes board side)) e h

    pub image_accepted : (bytes : List ℕ) (x : ImageValue) → BytesRead AsImage image_limit (Ok bytes) → image_of bytes board side ≡ Ok x → IsRead a b (λ held. image_files held board side name.now) (Ok x)
    unfolding image_told
    image_accepted bytes x h e =
        graded_read a b (record { name = name.now; form = AsImage }) image_limit (λ bs. graded (BadImage name.now) (image_of bs board side)) bytes (Ok x) h
        (accepted_by (BadImage name.now) (image_of bytes board side) x e)

    pub image_refused : (bytes : List ℕ) (e : ElfError) → BytesRead AsImage image_limit (Ok bytes) → IsImageRefusal e (image_of bytes board side)
        → IsRead a b (λ held. image_files held board side name.now) (Err (Image name e))
    unfolding image_told
    image_refused bytes e h refused =
        graded_read a b (record { name = name.now; form = AsImage }) image_limit (λ bs. graded (BadImage name.now) (image_of bs board side)) bytes (Err (Image name e)) h
        (inl refl, image_by (BadImage name.now) e (image_of bytes board side) refused)

  -- a state's
  module _ (board : BoardValue) where
    pub state_unread : (e : LoadError) → BytesRead AsState image_limit (Err e) → IsRead a b (λ held. state_files held board name.now) (Err e)
    unfolding state_told
    state_unread e h = unread a b (record { name = name.now; form = AsState }) image_limit (λ bytes. graded (BadState name.now) (saved_of board bytes)) e h

    pub state_accepted : (bytes : List ℕ) (x : SavedState) → BytesRead AsState image_limit (Ok bytes) → saved_of board bytes ≡ Ok x → IsRead a b (λ held. state_files held board name.now) (Ok x)
    unfolding state_told
    state_accepted bytes x h e =
        graded_read a b (record { name = name.now; form = AsState }) image_limit (λ bs. graded (BadState name.now) (saved_of board bs)) bytes (Ok x) h
        (accepted_by (BadState name.now) (saved_of board bytes) x e)

    pub state_refused : (bytes : List ℕ) (e : SnapError) → BytesRead AsState image_limit (Ok bytes) → IsStateRefusal e (saved_of board bytes)
        → IsRead a b (λ held. state_files held board name.now) (Err (State name e))
    unfolding state_told
    state_refused bytes e h refused =
        graded_read a b (record { name = name.now; form = AsState }) image_limit (λ bs. graded (BadState name.now) (saved_of board bs)) bytes (Err (State name e)) h
        (inl refl, state_by (BadState name.now) e (saved_of board bytes) refused)

  -- the script's
  module _ (interrupts : ℕ) where
    script_graded : (r : Result (List Timed) LoadError) → is_none_script name.now ≡ false
        → IsRead a b (Graded a b (record { name = name.now; form = AsScript }) script_limit (λ bytes. graded (BadScript name.now) (script_of bytes interrupts))) r
        → IsRead a b (λ held. script_files held interrupts name.now) r
    unfolding script_told script_file
    script_graded r is h =
        subst (λ (v : Bool). IsRead a b (λ held. one_file (not v) (record { name = name.now; form = AsScript })
        (cond v (Gives []) (told_then (file_with name.now script_limit (held name.now)) (λ bytes. graded (BadScript name.now) (script_of bytes interrupts))))) r) (sym is) h

    pub script_unread : (e : LoadError) → is_none_script name.now ≡ false → BytesRead AsScript script_limit (Err e) → IsRead a b (λ held. script_files held interrupts name.now) (Err e)
    script_unread e is h =
        script_graded (Err e) is (unread a b (record { name = name.now; form = AsScript }) script_limit (λ bytes. graded (BadScript name.now) (script_of bytes interrupts)) e h)

    pub script_accepted : (bytes : List ℕ) (x : List Timed) → is_none_script name.now ≡ false → BytesRead AsScript script_limit (Ok bytes) → script_of bytes interrupts ≡ Ok x
        → IsRead a b (λ held. script_files held interrupts name.now) (Ok x)
    script_accepted bytes x is h e =
        script_graded (Ok x) is
        (graded_read a b (record { name = name.now; form = AsScript }) script_limit (λ bs. graded (BadScript name.now) (script_of bs interrupts)) bytes (Ok x) h
        (accepted_by (BadScript name.now) (script_of bytes interrupts) x e))

    pub script_refused : (bytes : List ℕ) (e : ScriptError) → is_none_script name.now ≡ false → BytesRead AsScript script_limit (Ok bytes) → IsScriptRefusal e (script_of bytes interrupts)
        → IsRead a b (λ held. script_files held interrupts name.now) (Err (Script name e))
    script_refused bytes e is h refused =
        script_graded (Err (Script name e)) is
        (graded_read a b (record { name = name.now; form = AsScript }) script_limit (λ bs. graded (BadScript name.now) (script_of bs interrupts)) bytes (Err (Script name e)) h
        (inl refl, script_by (BadScript name.now) (script_refusal_of e) (script_of bytes interrupts) refused))

  -- a source's
  module _ (form : AsmForm) where
    pub source_unread : (e : LoadError) → BytesRead AsSource source_limit (Err e) → IsRead a b (λ held. source_files held form name.now) (Err e)
    unfolding source_told
    source_unread e h = unread a b (record { name = name.now; form = AsSource }) source_limit (λ bytes. graded (BadSource name.now) (assembly_in form bytes)) e h

    pub source_accepted : (bytes x : List ℕ) → BytesRead AsSource source_limit (Ok bytes) → assembly_in form bytes ≡ Ok x → IsRead a b (λ held. source_files held form name.now) (Ok x)
    unfolding source_told
    source_accepted bytes x h e =
        graded_read a b (record { name = name.now; form = AsSource }) source_limit (λ bs. graded (BadSource name.now) (assembly_in form bs)) bytes (Ok x) h
        (accepted_by (BadSource name.now) (assembly_in form bytes) x e)

    pub source_refused : (bytes : List ℕ) (e : AsmError) → BytesRead AsSource source_limit (Ok bytes) → IsRefusal e (assembly_in form bytes)
        → IsRead a b (λ held. source_files held form name.now) (Err (Source name e))
    unfolding source_told
    source_refused bytes e h refused =
        graded_read a b (record { name = name.now; form = AsSource }) source_limit (λ bs. graded (BadSource name.now) (assembly_in form bs)) bytes (Err (Source name e)) h
        (inl refl, source_by (BadSource name.now) e (assembly_in form bytes) refused)
