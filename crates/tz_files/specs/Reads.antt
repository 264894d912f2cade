-- Files that are read one after another: what they settle together, and which of them are read.
use Rattle.std.specs.Prelude.{◌≡◌, ◌⊎◌, ℕ, nat_lt, ◌&&◌, Bool, true, false, if◌then◌else◌, List, [], ◌∷◌, ◌++◌}
use Rattle.tz_files.specs.Told.{Stop, BadWords, TooManySteps, TooManyBack, Unread, TooLong, BadBoard, BadImage, BadState, BadScript, BadSource, TooFar, Told, Unknown, Stops, Gives, told_then, step_limit, back_limit}

-- what a file is read as
pub data Form : Type 0 where
  AsBoard : Form
  AsImage : Form
  AsState : Form
  AsScript : Form
  AsSource : Form

-- a file that is read
pub record Reading : Type 0 where
  pub name : List ℕ
  pub form : Form

-- what files settle together, and those that are read
pub record Settled (A : Type 0) : Type 0 where
  pub told : Told A
  pub reads : List Reading

-- nothing that is settled stops the command
abbrev pub goes_on : {A : Type 0} → Told A → Bool
goes_on Unknown = true
goes_on (Stops stop) = false
goes_on (Gives x) = true

-- the file, where it is read
abbrev pub read_where : Bool → Reading → List Reading
read_where false file = []
read_where true file = file ∷ []

-- a value that no file settles
abbrev pub no_files : {A : Type 0} → A → Settled A
no_files x = record { told = Gives x; reads = [] }

-- one file; a name that stands for no file isn't read
abbrev pub one_file : {A : Type 0} → Bool → Reading → Told A → Settled A
one_file is_file file told = record { told = told; reads = read_where is_file file }

-- a file behind others: it is read where nothing before it stops the command, and joins what they give
abbrev pub and_file : {A B C : Type 0} → Settled A → Bool → Reading → (A → Told B) → (A → B → C) → Settled C
and_file before is_file file next join = record {
  told = told_then before.told (λ x. told_then (next x) (λ y. Gives (join x y)));
  reads = before.reads ++ read_where (is_file && goes_on before.told) file;
}

-- what is settled of what the files give
abbrev pub settling : {A B : Type 0} → (A → Told B) → Settled A → Settled B
settling next files = record { told = told_then files.told next; reads = files.reads }

-- past the limit of steps no file is read
abbrev pub within_limit : {A : Type 0} → ℕ → Settled A → Settled A
within_limit steps files = if nat_lt step_limit steps then record { told = Stops TooManySteps; reads = [] } else files

-- past the limit of steps that are undone none is read either
abbrev pub within_back : {A : Type 0} → ℕ → Settled A → Settled A
within_back back files = if nat_lt back_limit back then record { told = Stops TooManyBack; reads = [] } else files

-- one of the files
abbrev pub IsOneOf : List Reading → Reading → Type 0
IsOneOf [] file = ⊥
IsOneOf (f ∷ files) file = (f ≡ file) ⊎ IsOneOf files file

-- a stop that names a file names one of these, by its form
abbrev pub TellsOf : List Reading → Stop → Type 0
TellsOf files BadWords = Unit {0}
TellsOf files TooManySteps = Unit {0}
TellsOf files TooManyBack = Unit {0}
TellsOf files (Unread name) = (form : Form) × IsOneOf files (record { name = name; form = form })
TellsOf files (TooLong name) = (form : Form) × IsOneOf files (record { name = name; form = form })
TellsOf files (BadBoard name refusal) = IsOneOf files (record { name = name; form = AsBoard })
TellsOf files (BadImage name refusal) = IsOneOf files (record { name = name; form = AsImage })
TellsOf files (BadState name refusal) = IsOneOf files (record { name = name; form = AsState })
TellsOf files (BadScript name refusal) = IsOneOf files (record { name = name; form = AsScript })
TellsOf files (BadSource name refusal) = IsOneOf files (record { name = name; form = AsSource })
TellsOf files (TooFar name) = IsOneOf files (record { name = name; form = AsState })
