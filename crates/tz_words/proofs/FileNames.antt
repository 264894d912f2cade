-- The names of files are words.
use Rattle.std.proofs.Common.{◌≡◌, ◌==◌, ℕ, ◌+◌, ◌≤◌, ◌++◌, Bool, true, false, cond, List, [], ◌∷◌, length, Option, Some, None, refl, sym, subst, arith}
use Rattle.std.proofs.lemmas.Bool.Decides.{nat_tests}
use Rattle.std.specs.Prelude.{max, nat_lt, option_map, option_and_then, unwrap_or, codes}
use Rattle.std.specs.List.{list_any, after_first, position_or_len}
use Rattle.std.proofs.lemmas.List.{length-drop}
use Rattle.std.specs.Str.{bytes_eq}
use Rattle.tz_table.specs.declared.units.Side.{Side}
use Rattle.tz_model.specs.declared.report.View.{View}
use Rattle.tz_words.specs.declared.ranges.Range.{Range}
use Rattle.tz_words.specs.Parts.{Text, is_hyphened, Look, EndsOptions, Named, NamedWith, Refused, Positional, look_of, Parts, Next, AnyWord, ItsValue, parts_by, parts_of, with_positional, with_value}
use Rattle.tz_words.specs.Counts.{count_of}
use Rattle.tz_words.specs.StartWords.{StartWords, bare_with, start_behind, start_names, start_parts, start_with}
use Rattle.tz_words.specs.Ranges.{cut_at, range_of}
use Rattle.tz_words.specs.declared.show.ShowOption.{ShowOption}
use Rattle.tz_words.specs.declared.show.ShowOption.TheVariants as options
use Rattle.tz_words.specs.declared.show.Next.{Next as NextWord}
use Rattle.tz_words.specs.declared.show.Next.TheVariants as nexts
use Rattle.tz_words.specs.ShowWords.{ShowWords, SavedWords, ShowParts, no_parts, option_named, with_range, with_state, with_option, with_any, with_next, with_word, with_words, show_names, saved_names}
use Rattle.tz_words.specs.ShowWords as shown
use Rattle.tz_words.specs.Run.{view_of}
use Rattle.tz_words.specs.Resume.{ResumeWords, resume_behind, resume_names, resume_parts, resume_with}
use Rattle.tz_words.specs.Back.{BackWords, back_behind, back_names, back_of, back_parts, back_with}
use Rattle.tz_words.specs.Pair.{PairWords, pair_behind, pair_names, pair_parts, pair_with}
use Rattle.tz_words.specs.Asm.{AsmWords, asm_behind, asm_names, asm_parts, asm_with, form_of}
use Rattle.tz_words.specs.declared.asm.Form.{Form}
use Rattle.tz_words.specs.declared.start.Work.{Work}
use Rattle.tz_words.specs.declared.start.Work.TheVariants as works
use Rattle.tz_words.specs.GenWords.{gen_behind}
use Rattle.tz_words.specs.declared.generated.GenWords.{GenWords}
use Rattle.tz_words.specs.Dis.{DisWords, dis_behind, dis_names, dis_parts, dis_with, side_named}
use Rattle.tz_words.specs.Commands.{Command, Pair, Asm, Dis, Gates, Snap, Show, ShowSaved, Resume, Back, Gen, command_with, run_with, run_parts, run_behind, work_of, show_with, show_next, show_parts, show_behind, command_behind, command_of, longest, names_of}

-- no positional word is longer than a bound
abbrev pub Within : ℕ → Option Parts → Type 0
Within n None = Unit {0}
Within n (Some p) = longest p.positionals ≤ n

within_more : (n m : ℕ) (o : Option Parts) → n ≤ m → Within n o → Within m o
within_more n m None l h = tt
within_more n m (Some p) l h = omega arith

within_positional : (word : Text) (n : ℕ) (o : Option Parts) → Within n o → Within (max (length word) n) (with_positional word o)
within_positional word n None h = tt
within_positional word n (Some p) h = omega arith

within_value : (value : Text) (n : ℕ) (o : Option Parts) → Within n o → Within n (with_value value o)
within_value value n None h = tt
within_value value n (Some p) h = h

within_by : (look : Look) (word : Text) (rest : List Text) (go : Next → Option Parts) → Within (longest rest) (go AnyWord) → Within (longest rest) (go ItsValue) → Within (longest (word ∷ rest)) (parts_by look word rest go)
within_by EndsOptions word rest go any value = omega arith
within_by Named word rest go any value = within_more (longest rest) (longest (word ∷ rest)) (go ItsValue) (omega arith) value
within_by (NamedWith given) word rest go any value = within_more (longest rest) (longest (word ∷ rest)) (with_value given (go AnyWord)) (omega arith) (within_value given (longest rest) (go AnyWord) any)
within_by Refused word rest go any value = tt
within_by Positional word rest go any value = within_positional word (longest rest) (go AnyWord) any

within_parts : (option : Text) (next : Next) (words : List Text) → Within (longest words) (parts_of option next words)
unfolding parts_of
within_parts option AnyWord [] = omega arith
within_parts option ItsValue [] = tt
within_parts option ItsValue (word ∷ rest) =
    within_more (longest rest) (longest (word ∷ rest)) _ (omega arith) (within_value word (longest rest) (parts_of option AnyWord rest) (within_parts option AnyWord rest))
within_parts option AnyWord (word ∷ rest) = within_by (look_of option word) word rest (λ next. parts_of option next rest) (within_parts option AnyWord rest) (within_parts option ItsValue rest)

-- ---- what is made of words

-- words that are read of the positional ones have no longer names
module _ {A : Type 0} (names : A → List Text) (option : Text) (told : Parts → Option A)
    (inside : (p : Parts) (x : A) → told p ≡ Some x → longest (names x) ≤ longest p.positionals) where
  by_parts : (n : ℕ) (o : Option Parts) (x : A) → Within n o → option_and_then told o ≡ Some x → longest (names x) ≤ n
  by_parts n None x h e = absurd (cc)
  by_parts n (Some p) x h e = let l = inside p x e in omega arith

  pub behind_within : (words : List Text) (x : A) → option_and_then told (parts_of option AnyWord words) ≡ Some x → longest (names x) ≤ longest words
  behind_within words x e = by_parts (longest words) (parts_of option AnyWord words) x (within_parts option AnyWord words) e

-- what a value is made into keeps its names
mapped_within : {A B : Type 0} (names : A → List Text) (others : B → List Text) (n : ℕ) (make : A → B) (o : Option A) (y : B)
    → ((x : A) → longest (others (make x)) ≡ longest (names x)) → ((x : A) → o ≡ Some x → longest (names x) ≤ n) → option_map make o ≡ Some y → longest (others y) ≤ n
mapped_within names others n make None y same h e = absurd (cc)
mapped_within {B = B} names others n make (Some x) y same h e =
    let is : ◌≡◌ {A = B} (make x) y = cc in
    let l = h x refl in
    let l' = same x in
    subst (λ (z : B). longest (others z) ≤ n) is (omega (arith, l, l'))

-- the names that begin a run are positional words
start_in : (words : List Text) (s : StartWords) → start_with words ≡ Some s → longest (start_names s) ≤ longest words
start_in [] s e = absurd (cc)
start_in (a ∷ []) s e = absurd (cc)
start_in (a ∷ b ∷ []) s e = absurd (cc)
start_in (a ∷ b ∷ c ∷ []) s e = absurd (cc)
start_in (a ∷ b ∷ c ∷ d ∷ []) s e = absurd (cc)
start_in (a ∷ b ∷ c ∷ d ∷ w ∷ x ∷ more) s e = absurd (cc)
start_in (a ∷ b ∷ c ∷ d ∷ w ∷ []) s e =
    mapped_within (λ (n : ℕ). a ∷ b ∷ c ∷ d ∷ []) start_names (longest (a ∷ b ∷ c ∷ d ∷ w ∷ [])) _ (count_of w) s (λ n. refl) (λ n h. omega arith) e

names_with : (work : Work) (s : StartWords) → longest (names_of (command_with s work)) ≡ longest (start_names s)
names_with (works.Trace view) s = refl
names_with works.Full s = refl
names_with works.Gates s = refl
names_with works.Save s = refl
names_with (works.Page ranges) s = refl

run_in : (work : Option Work) (words : List Text) (command : Command) → run_with work words ≡ Some command → longest (names_of command) ≤ longest words
run_in None words command e = absurd (cc)
run_in (Some work) words command e = mapped_within start_names names_of (longest words) (λ s. command_with s work) (start_with words) command (names_with work) (start_in words) e

bare_in : (values words : List Text) (s : StartWords) → bare_with values words ≡ Some s → longest (start_names s) ≤ longest words
bare_in [] words s e = start_in words s e
bare_in (v ∷ values) words s e = absurd (cc)

-- so are those of a run that goes on
resume_in : (view : Option View) (words : List Text) (w : ResumeWords) → resume_with view words ≡ Some w → longest (resume_names w) ≤ longest words
resume_in None words w e = absurd (cc)
resume_in (Some view) [] w e = absurd (cc)
resume_in (Some view) (a ∷ []) w e = absurd (cc)
resume_in (Some view) (a ∷ b ∷ []) w e = absurd (cc)
resume_in (Some view) (a ∷ b ∷ c ∷ []) w e = absurd (cc)
resume_in (Some view) (a ∷ b ∷ c ∷ d ∷ x ∷ more) w e = absurd (cc)
resume_in (Some view) (a ∷ b ∷ c ∷ d ∷ []) w e =
    mapped_within (λ (n : ℕ). a ∷ b ∷ c ∷ []) resume_names (longest (a ∷ b ∷ c ∷ d ∷ [])) _ (count_of d) w (λ n. refl) (λ n h. omega arith) e

-- so are those of a run that goes back, no further than its begin
pub record GoesBack (names : List Text) (w : BackWords) : Type 0 where
  pub are : back_names w ≡ names
  pub near : w.back ≤ w.start.steps

back_made : (view : View) (start : StartWords) (back : ℕ) (w : BackWords) → back_of view start back ≡ Some w → GoesBack (start_names start) w
back_made view start back w e = by_test (nat_lt start.steps back) refl e
  where
    by_test : (b : Bool) → nat_lt start.steps back ≡ b → cond b None (Some (record { start = start; back = back; view = view })) ≡ Some w → GoesBack (start_names start) w
    by_test true is e = absurd (cc)
    by_test false is e =
        let same : ◌≡◌ {A = BackWords} (record { start = start; back = back; view = view }) w = cc in
        let near : back ≤ start.steps = grind (arith, nat_tests) in
        subst (λ (x : BackWords). GoesBack (start_names start) x) same (record { are = refl; near = near })

back_counted : (view : View) (start : ℕ → StartWords) (names : List Text) (steps back : Option ℕ) (w : BackWords) → ((n : ℕ) → start_names (start n) ≡ names)
    → option_and_then (λ n. option_and_then (back_of view (start n)) back) steps ≡ Some w → GoesBack names w
back_counted view start names None back w same e = absurd (cc)
back_counted view start names (Some n) None w same e = absurd (cc)
back_counted view start names (Some n) (Some m) w same e = subst (λ (x : List Text). GoesBack x w) (same n) (back_made view (start n) m w e)

pub record BackIn (words : List Text) (w : BackWords) : Type 0 where
  pub within : longest (back_names w) ≤ longest words
  pub near : w.back ≤ w.start.steps

pub back_in : (view : Option View) (words : List Text) (w : BackWords) → back_with view words ≡ Some w → BackIn words w
back_in None words w e = absurd (cc)
back_in (Some view) [] w e = absurd (cc)
back_in (Some view) (a ∷ []) w e = absurd (cc)
back_in (Some view) (a ∷ b ∷ []) w e = absurd (cc)
back_in (Some view) (a ∷ b ∷ c ∷ []) w e = absurd (cc)
back_in (Some view) (a ∷ b ∷ c ∷ d ∷ []) w e = absurd (cc)
back_in (Some view) (a ∷ b ∷ c ∷ d ∷ f ∷ []) w e = absurd (cc)
back_in (Some view) (a ∷ b ∷ c ∷ d ∷ f ∷ g ∷ x ∷ more) w e = absurd (cc)
back_in (Some view) (a ∷ b ∷ c ∷ d ∷ f ∷ g ∷ []) w e =
    let goes = back_counted view (λ n. record { board = a; secure = b; nonsecure = c; script = d; steps = n }) (a ∷ b ∷ c ∷ d ∷ []) (count_of f) (count_of g) w (λ n. refl) e in
    record {
      within = subst (λ (names : List Text). longest names ≤ longest (a ∷ b ∷ c ∷ d ∷ f ∷ g ∷ [])) (sym goes.are) (omega arith);
      near = goes.near;
    }

-- so are those of a pair
pair_in : (values words : List Text) (p : PairWords) → pair_with values words ≡ Some p → longest (pair_names p) ≤ longest words
pair_in (v ∷ values) words p e = absurd (cc)
pair_in [] [] p e = absurd (cc)
pair_in [] (a ∷ []) p e = absurd (cc)
pair_in [] (a ∷ b ∷ []) p e = absurd (cc)
pair_in [] (a ∷ b ∷ c ∷ []) p e = absurd (cc)
pair_in [] (a ∷ b ∷ c ∷ d ∷ []) p e = absurd (cc)
pair_in [] (a ∷ b ∷ c ∷ d ∷ f ∷ []) p e = absurd (cc)
pair_in [] (a ∷ b ∷ c ∷ d ∷ f ∷ w ∷ x ∷ more) p e = absurd (cc)
pair_in [] (a ∷ b ∷ c ∷ d ∷ f ∷ w ∷ []) p e =
    mapped_within (λ (n : ℕ). a ∷ b ∷ c ∷ d ∷ f ∷ []) pair_names (longest (a ∷ b ∷ c ∷ d ∷ f ∷ w ∷ [])) _ (count_of w) p (λ n. refl) (λ n h. omega arith) e

-- so is that of an assembly
asm_in : (form : Option Form) (words : List Text) (a : AsmWords) → asm_with form words ≡ Some a → longest (asm_names a) ≤ longest words
asm_in None words a e = absurd (cc)
asm_in (Some form) [] a e = absurd (cc)
asm_in (Some form) (w ∷ x ∷ more) a e = absurd (cc)
asm_in (Some form) (w ∷ []) a e =
    let same : ◌≡◌ {A = AsmWords} (record { source = w; form = form }) a = cc in
    subst (λ (x : AsmWords). longest (asm_names x) ≤ longest (w ∷ [])) same (omega arith)

-- so are those of a disassembly
dis_in : (values words : List Text) (d : DisWords) → dis_with values words ≡ Some d → longest (dis_names d) ≤ longest words
dis_in (v ∷ values) words d e = absurd (cc)
dis_in [] [] d e = absurd (cc)
dis_in [] (a ∷ []) d e = absurd (cc)
dis_in [] (a ∷ b ∷ []) d e = absurd (cc)
dis_in [] (a ∷ b ∷ w ∷ x ∷ more) d e = absurd (cc)
dis_in [] (a ∷ b ∷ w ∷ []) d e =
    mapped_within (λ (s : Side). a ∷ b ∷ []) dis_names (longest (a ∷ b ∷ w ∷ [])) _ (side_named w) d (λ s. refl) (λ s h. omega arith) e

-- ---- the words of `show`

longest_last : (words : List Text) (word : Text) → longest (words ++ word ∷ []) ≡ max (longest words) (length word)
longest_last [] word = omega arith
longest_last (w ∷ words) word = let l = longest_last words word in omega (arith, l)

-- the longest name among what was read
abbrev named : ShowParts → ℕ
named p = max (longest p.positionals) (length (unwrap_or p.state []))

abbrev NamedIn : ℕ → Option ShowParts → Type 0
NamedIn n None = Unit {0}
NamedIn n (Some p) = named p ≤ n

-- the value of an option is no longer than its word
abbrev Shorter : ℕ → Option Text → Type 0
Shorter n None = Unit {0}
Shorter n (Some value) = length value ≤ n

after_shorter : (c : ℕ) (word : Text) → length (after_first (λ x. x == c) word) ≤ length word
after_shorter c word = let l = length-drop (position_or_len (λ x. x == c) word + 1) word in omega (arith, l)

cut_shorter : (word : Text) (n : ℕ) → length word ≤ n → Shorter n (cut_at 61 word).1
cut_shorter word n l = by_test (list_any (λ x. x == 61) word)
  where
    by_test : (b : Bool) → Shorter n (cond b (Some (after_first (λ x. x == 61) word)) None)
    by_test true = let shorter = after_shorter 61 word in omega (arith, l, shorter)
    by_test false = tt

module _ (n : ℕ) (p : ShowParts) (before : named p ≤ n) where
  named_range : (range : Option Range) → NamedIn n (with_range range p)
  named_range None = tt
  named_range (Some range) = before

  named_state : (state : Option Text) (file : Text) → length file ≤ n → NamedIn n (with_state state file p)
  named_state None file l = omega (arith, before, l)
  named_state (Some other) file l = tt

  named_value : (option : ShowOption) (value : Text) → length value ≤ n → NamedIn n (shown.with_value option value p)
  named_value options.Memory value l = named_range (range_of value)
  named_value options.State value l = named_state p.state value l

  named_option : (option : Option ShowOption) (value : Option Text) → Shorter n value → NamedIn n (with_option option value p)
  named_option None value l = tt
  named_option (Some option) None l = before
  named_option (Some option) (Some value) l = named_value option value l

  named_positional : (word : Text) → length word ≤ n → NamedIn n (Some (shown.with_positional word p))
  named_positional word l = let last = longest_last p.positionals word in omega (arith, last, before, l)

  named_any : (word : Text) → length word ≤ n → NamedIn n (with_any word p)
  named_any word l = by_end (bytes_eq word (codes "--")) (is_hyphened word)
    where
      by_end : (ends hyphened : Bool) → NamedIn n (cond ends (Some (record p { next = nexts.NoOption }))
          (cond hyphened (with_option (option_named (cut_at 61 word).0) (cut_at 61 word).1 p) (Some (shown.with_positional word p))))
      by_end true hyphened = before
      by_end false true = named_option (option_named (cut_at 61 word).0) (cut_at 61 word).1 (cut_shorter word n l)
      by_end false false = named_positional word l

  named_next : (next : NextWord) (word : Text) → length word ≤ n → NamedIn n (with_next next word p)
  named_next nexts.AnyWord word l = named_any word l
  named_next (nexts.ItsValue option) word l = named_value option word l
  named_next nexts.NoOption word l = named_positional word l

named_then : (n : ℕ) (words : List Text) (o : Option ShowParts) → NamedIn n o → ((q : ShowParts) → named q ≤ n → NamedIn n (with_words words q)) → NamedIn n (option_and_then (with_words words) o)
named_then n words None h go = tt
named_then n words (Some q) h go = go q h

named_words : (n : ℕ) (words : List Text) (p : ShowParts) → named p ≤ n → longest words ≤ n → NamedIn n (with_words words p)
unfolding with_word
named_words n [] p before l = before
named_words n (word ∷ words) p before l =
    named_then n words (with_word word p) (named_next n p before p.next word (omega (arith, l))) (λ q h. named_words n words q h (omega (arith, l)))

show_in : (state : Option Text) (words : List Text) (ranges : List Range) (command : Command) → show_with state words ranges ≡ Some command
    → longest (names_of command) ≤ max (longest words) (length (unwrap_or state []))
show_in None words ranges command e =
    let l = mapped_within start_names names_of (longest words) (λ s. Show (record { start = s; ranges = ranges })) (start_with words) command (λ s. refl) (start_in words) e in
    omega (arith, l)
show_in (Some file) [] ranges command e = absurd (cc)
show_in (Some file) (a ∷ b ∷ more) ranges command e = absurd (cc)
show_in (Some file) (board ∷ []) ranges command e =
    let same : ◌≡◌ {A = Command} (ShowSaved (record { board = board; state = file; ranges = ranges })) command = cc in
    subst (λ (x : Command). longest (names_of x) ≤ max (longest (board ∷ [])) (length file)) same (omega arith)

shown_next : (next : NextWord) (p : ShowParts) (command : Command) → show_next next p ≡ Some command → longest (names_of command) ≤ named p
shown_next nexts.AnyWord p command e = show_in p.state p.positionals p.ranges command e
shown_next (nexts.ItsValue option) p command e = absurd (cc)
shown_next nexts.NoOption p command e = show_in p.state p.positionals p.ranges command e

show_within : (words : List Text) (command : Command) → show_behind words ≡ Some command → longest (names_of command) ≤ longest words
show_within words command e = by_parts_of (with_words words no_parts) (named_words (longest words) words no_parts (omega arith) (omega arith)) e
  where
    by_parts_of : (o : Option ShowParts) → NamedIn (longest words) o → option_and_then show_parts o ≡ Some command → longest (names_of command) ≤ longest words
    by_parts_of None h e = absurd (cc)
    by_parts_of (Some p) h e = let l = shown_next p.next p command e in omega (arith, l, h)

-- a job that is made from a number has no names
gen_within : (n : ℕ) (o : Option GenWords) (command : Command) → option_map Gen o ≡ Some command → longest (names_of command) ≤ n
gen_within n None command e = absurd (cc)
gen_within n (Some w) command e =
    let same : ◌≡◌ {A = Command} (Gen w) command = cc in
    subst (λ (x : Command). longest (names_of x) ≤ n) same (omega arith)

-- ---- commands

-- the command of one word or of another
either : (is : Bool) (this other : Option Command) (command : Command) (n : ℕ) → (this ≡ Some command → longest (names_of command) ≤ n) → (other ≡ Some command → longest (names_of command) ≤ n)
    → cond is this other ≡ Some command → longest (names_of command) ≤ n
either true this other command n first second e = first e
either false this other command n first second e = second e

names_command : (name : Text) (words : List Text) (command : Command) → command_behind name words ≡ Some command → longest (names_of command) ≤ longest words
names_command name words command =
    let n = longest words in
    either (bytes_eq name (codes "run")) (run_behind words) _ command n
    (behind_within names_of (codes "view") run_parts (λ p. run_in (work_of p.values) p.positionals) words command)
    (either (bytes_eq name (codes "gates")) (option_map Gates (start_behind words)) _ command n
    (mapped_within start_names names_of n Gates (start_behind words) command (λ s. refl) (behind_within start_names [] start_parts (λ p. bare_in p.values p.positionals) words))
    (either (bytes_eq name (codes "snap")) (option_map Snap (start_behind words)) _ command n
    (mapped_within start_names names_of n Snap (start_behind words) command (λ s. refl) (behind_within start_names [] start_parts (λ p. bare_in p.values p.positionals) words))
    (either (bytes_eq name (codes "show")) (show_behind words) _ command n (show_within words command)
    (either (bytes_eq name (codes "resume")) (option_map Resume (resume_behind words)) _ command n
    (mapped_within resume_names names_of n Resume (resume_behind words) command (λ w. refl)
    (behind_within resume_names (codes "view") resume_parts (λ p. resume_in (view_of p.values) p.positionals) words))
    (either (bytes_eq name (codes "back")) (option_map Back (back_behind words)) _ command n
    (mapped_within back_names names_of n Back (back_behind words) command (λ w. refl)
    (behind_within back_names (codes "view") back_parts (λ p w e. (back_in (view_of p.values) p.positionals w e).within) words))
    (either (bytes_eq name (codes "pair")) (option_map Pair (pair_behind words)) _ command n
    (mapped_within pair_names names_of n Pair (pair_behind words) command (λ p. refl) (behind_within pair_names [] pair_parts (λ p. pair_in p.values p.positionals) words))
    (either (bytes_eq name (codes "asm")) (option_map Asm (asm_behind words)) _ command n
    (mapped_within asm_names names_of n Asm (asm_behind words) command (λ a. refl) (behind_within asm_names (codes "form") asm_parts (λ p. asm_in (form_of p.values) p.positionals) words))
    (either (bytes_eq name (codes "dis")) (option_map Dis (dis_behind words)) _ command n
    (mapped_within dis_names names_of n Dis (dis_behind words) command (λ d. refl) (behind_within dis_names [] dis_parts (λ p. dis_in p.values p.positionals) words))
    (either (bytes_eq name (codes "gen")) (option_map Gen (gen_behind words)) None command n (gen_within n (gen_behind words) command)
    (λ e. absurd (cc e)))))))))))

-- a command's names are among the words
pub names_of-longest : (words : List Text) (command : Command) → command_of words ≡ Some command → longest (names_of command) ≤ longest words
names_of-longest [] command e = absurd (cc)
names_of-longest (program ∷ []) command e = absurd (cc)
names_of-longest (program ∷ name ∷ words) command e = let l = names_command name words command e in omega arith
