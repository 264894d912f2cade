-- clap takes words exactly where they have parts, with one value at most, which passes.
use Rattle.std.proofs.Common.{◌≡◌, ◌∙◌, ◌&&◌, ◌||◌, not, Bool, true, false, refl, sym, ap, ap₂, List, [], ◌∷◌, Option, Some, None, codes}
use Rattle.std.specs.Prelude.{fold}
use Rattle.std.specs.Option.{option_map_or}
use Rattle.std.specs.Str.{bytes_eq}
use Rattle.clap.specs.ValueTests.{accepts}
use Rattle.std.specs.Prelude.{is_some}
use Rattle.clap.specs.Kinds.{Kinds, or_else}
use Rattle.clap.specs.Simple.{built, entered, filled, with_index}
use Rattle.clap.specs.Walk.{reading_by, walk, walk_from, nothing_held, settled, finished, Row, Waiting, idle, positional, Walk, walked, has_row, with_values, without}
use Rattle.clap.specs.Faults.{check_fault, defaults_fault, entered_fault, fault_of, settle_fault, turn_fault, walk_fault}
use Rattle.clap.specs.declared.builder.value_parser.Reading.{Reading}
use Rattle.clap.specs.declared.parser.matches.ValueSource.TheVariants.{CommandLine}
use Rattle.tz_words.specs.Leaf.{Leaf, app_for, is_name, is_one, option_rule}
use Rattle.tz_words.specs.Parts.{Text, Positional, look_of, all_positional, parts_by, AnyWord, ItsValue, Parts, parts_of, with_positional, with_value}
use Rattle.tz_words.proofs.Looks.{Seen, EndsAll, NamesIt, GivesIt, NamesOther, Hyphened, NoCharacter, NoHyphen, seen}
use Rattle.tz_words.proofs.WordTurns.{free, free-or_else, Pend, Nothing, Word, Value, pend, asked, Ready, Idle, After, ready, shape, rules_of, at, settles, after, turn, next_of, passes, waits, settles_value, ended_turn, ended_next, asked_ended, plain_turn, plain_next, ends_turn, ends_next, bare_turn, bare_next, valued_turn, valued_next, long_turn, short_turn, half_turn, half_next, taking_ends, taking_bare, taking_long, taking_short, taking_half, taking_plain}

pub and_assoc : (a b c : Bool) → ((a && b) && c) ≡ (a && (b && c))
and_assoc true b c = refl
and_assoc false b c = refl

pub and-false : (a : Bool) → (a && false) ≡ false
and-false true = refl
and-false false = refl

pub and-true : (a : Bool) → (a && true) ≡ a
and-true true = refl
and-true false = refl

or-true : (a : Bool) → (a || true) ≡ true
or-true true = refl
or-true false = refl

five : (a b c d e : Kinds) → free b ≡ true → free d ≡ true → free e ≡ true → free (or_else a (or_else b (or_else c (or_else d e)))) ≡ (free a && free c)
five a b c d e hb hd he = free-or_else a _ ∙ ap (λ (x : Bool). free a && x)
    (free-or_else b _ ∙ rw hb (free-or_else c _ ∙ rw (free-or_else d e, hd, he) (and-true (free c))))

-- an option that was used has a row
pub has_row-own : (how : Reading) (values : List Text) (rows : List Row) → has_row (codes "option") (with_values (codes "option") how CommandLine values rows) ≡ true
has_row-own how values [] = refl
has_row-own how values (r ∷ rs) = by_test _ refl (has_row-own how values rs)
  where
    by_test : (b : Bool) → bytes_eq r.id (codes "option") ≡ b → has_row (codes "option") (with_values (codes "option") how CommandLine values rs) ≡ true
        → has_row (codes "option") (with_values (codes "option") how CommandLine values (r ∷ rs)) ≡ true
    by_test true e ih = rw (e, e)
    by_test false e ih = rw (e, e) ih

-- a positional word leaves the option's row
pub has_row-other : (how : Reading) (values : List Text) (rows : List Row) → has_row (codes "option") (with_values (codes "words") how CommandLine values rows) ≡ has_row (codes "option") rows
has_row-other how values [] = refl
has_row-other how values (r ∷ rs) = by_test _ refl (has_row-other how values rs)
  where
    by_test : (b : Bool) → bytes_eq r.id (codes "words") ≡ b → has_row (codes "option") (with_values (codes "words") how CommandLine values rs) ≡ has_row (codes "option") rs
        → has_row (codes "option") (with_values (codes "words") how CommandLine values (r ∷ rs)) ≡ has_row (codes "option") (r ∷ rs)
    by_test true e ih = rw e
    by_test false e ih = rw e (ap (λ (b : Bool). bytes_eq r.id (codes "option") || b) ih)

module _ (p : Leaf) (named : is_name p.option ≡ true) (only : (v : Text) → accepts false p.parser v ≡ true → look_of p.option v ≡ Positional) where
  -- the walk over the words, and what is settled at its end, pass
  abbrev pub goes : Walk → List Text → Bool
  goes w words = free (walk_fault (shape p) [] w words) && free (settle_fault (rules_of p) false (fold (walked (rules_of p) []) w words).held)

  pub goes-cons : (w : Walk) (word : Text) (rest : List Text) → goes w (word ∷ rest) ≡ (turn p w word && goes (next_of p w word) rest)
  unfolding walk_fault
  goes-cons w word rest = rw (free-or_else (turn_fault (shape p) [] w word) (walk_fault (shape p) [] (next_of p w word) rest)) (and_assoc (turn p w word) (free (walk_fault (shape p) [] (next_of p w word) rest)) _)

  pub goes-step : (w next : Walk) (word : Text) (rest : List Text) (t : Bool) → turn p w word ≡ t → next_of p w word ≡ next → goes w (word ∷ rest) ≡ (t && goes next rest)
  goes-step w next word rest t e n = goes-cons w word rest ∙ ap₂ (λ (a : Bool) (x : Walk). a && goes x rest) e n

  goes-stop : (w : Walk) (word : Text) (rest : List Text) → turn p w word ≡ false → goes w (word ∷ rest) ≡ false
  goes-stop w word rest e = goes-cons w word rest ∙ ap (λ (a : Bool). a && goes (next_of p w word) rest) e

  abbrev pub fits : Bool → Option Parts → Bool
  fits had o = option_map_or (λ (r : Parts). is_one (accepts false p.parser) had r.values) o false

  fits-positional : (had : Bool) (word : Text) (o : Option Parts) → fits had (with_positional word o) ≡ fits had o
  fits-positional had word None = refl
  fits-positional had word (Some r) = refl

  fits-value : (had : Bool) (v : Text) (o : Option Parts) → fits had (with_value v o) ≡ ((not had && accepts false p.parser v) && fits true o)
  fits-value had v None = sym (and-false _)
  fits-value had v (Some r) = refl

  -- a word that looks like an option is no value
  fits-look : (had : Bool) (v : Text) (o : Option Parts) → (look_of p.option v ≡ Positional → ⊥) → fits had (with_value v o) ≡ false
  fits-look had v o not_plain = fits-value had v o ∙ by_test _ refl
    where
      by_test : (b : Bool) → accepts false p.parser v ≡ b → ((not had && accepts false p.parser v) && fits true o) ≡ false
      by_test true e = absurd (not_plain (only v e))
      by_test false e = rw e (ap (λ (b : Bool). b && fits true o) (and-false _))

  -- the option has a value, once what is pending is settled
  abbrev had : List Row → Pend → Bool
  had rows held = has_row (codes "option") (after p rows (pend held))

  had-word : (rows : List Row) (held : Pend) (w : Text) → has_row (codes "option") (after p (after p rows (pend held)) (pend (Word w))) ≡ had rows held
  had-word rows held w = has_row-other _ (w ∷ []) (after p rows (pend held))

  had-value : (rows : List Row) (v : Text) → has_row (codes "option") (after p rows (pend (Value v))) ≡ true
  had-value rows v = has_row-own (reading_by (with_index 2 (filled (option_rule p)))) (v ∷ []) (without (codes "option") rows)

  -- the option waits past `--`: refused
  pub never : (rows : List Row) (waiting : Waiting) (words : List Text) → goes (at p rows asked waiting true) words ≡ false
  never rows waiting [] = and-false _
  never rows waiting (word ∷ rest) = goes-stop (at p rows asked waiting true) word rest (asked_ended p rows waiting word)

  pub record Claims (words : List Text) : Type 0 where
    pub open_words : (rows : List Row) (held : Pend) (r : Ready) → goes (at p rows (pend held) (ready r) false) words ≡ (settles p rows (pend held) && fits (had rows held) (parts_of p.option AnyWord words))
    pub ended_words : (rows : List Row) (held : Pend) (r : Ready) → goes (at p rows (pend held) (ready r) true) words ≡ (settles p rows (pend held) && fits (had rows held) (all_positional words))
    pub taking_words : (rows : List Row) → goes (at p rows asked (waits p) false) words ≡ fits (has_row (codes "option") rows) (parts_of p.option ItsValue words)

  abbrev with_settled : List Row → Pend → Bool → Bool
  with_settled rows held b = settles p rows (pend held) && b

  plain-step : (word : Text) (rest : List Text) (ih : Claims rest) (rows : List Row) (held : Pend) (r : Ready)
      → turn p (at p rows (pend held) (ready r) false) word ≡ settles p rows (pend held)
      → next_of p (at p rows (pend held) (ready r) false) word ≡ at p (after p rows (pend held)) (pend (Word word)) positional false
      → goes (at p rows (pend held) (ready r) false) (word ∷ rest) ≡ (settles p rows (pend held) && fits (had rows held) (with_positional word (parts_of p.option AnyWord rest)))
  plain-step word rest ih rows held r t n = goes-step (at p rows (pend held) (ready r) false) (at p (after p rows (pend held)) (pend (Word word)) positional false) word rest _ t n
      ∙ ap (with_settled rows held) (ih.open_words (after p rows (pend held)) (Word word) After
      ∙ ap (λ (b : Bool). fits b (parts_of p.option AnyWord rest)) (had-word rows held word) ∙ sym (fits-positional (had rows held) word (parts_of p.option AnyWord rest)))

  open-step : (word : Text) (rest : List Text) (ih : Claims rest) → Seen p.option word → (rows : List Row) (held : Pend) (r : Ready)
      → goes (at p rows (pend held) (ready r) false) (word ∷ rest) ≡ (settles p rows (pend held) && fits (had rows held) (parts_by (look_of p.option word) word rest (λ next. parts_of p.option next rest)))
  open-step word rest ih (EndsAll e k) rows held r = rw k (goes-step (at p rows (pend held) (ready r) false) (at p rows (pend held) (ready r) true) word rest true
      (ends_turn p rows (pend held) r word e) (ends_next p rows (pend held) r word e) ∙ ih.ended_words rows held r)
  open-step word rest ih (NamesIt e l k) rows held r = rw k (goes-step (at p rows (pend held) (ready r) false) (at p (after p rows (pend held)) asked (waits p) false) word rest _
      (bare_turn p rows held r word e l) (bare_next p rows (pend held) r word e l) ∙ ap (with_settled rows held) (ih.taking_words (after p rows (pend held))))
  open-step word rest ih (GivesIt v e l k) rows held r = rw k (goes-step (at p rows (pend held) (ready r) false) (at p (after p (after p rows (pend held)) (pend (Value v))) None idle false) word rest _
      (valued_turn p rows (pend held) r word v e l) (valued_next p rows (pend held) r word v e l)
      ∙ ap (λ (b : Bool). (settles p rows (pend held) && passes p (after p rows (pend held)) v) && b)
      (ih.open_words (after p (after p rows (pend held)) (pend (Value v))) Nothing Idle ∙ ap (λ (b : Bool). fits b (parts_of p.option AnyWord rest)) (had-value (after p rows (pend held)) v))
      ∙ and_assoc (settles p rows (pend held)) _ _ ∙ ap (with_settled rows held) (sym (fits-value (had rows held) v (parts_of p.option AnyWord rest))))
  open-step word rest ih (NamesOther name v e l n k) rows held r = rw k (goes-stop (at p rows (pend held) (ready r) false) word rest (long_turn p rows (pend held) r word name v e l n) ∙ sym (and-false _))
  open-step word rest ih (Hyphened x y flags e l s c k) rows held r = rw k (goes-stop (at p rows (pend held) (ready r) false) word rest (short_turn p rows (pend held) r word x y flags e l s c) ∙ sym (and-false _))
  open-step word rest ih (NoCharacter y flags e l s c k) rows held r = rw k (plain-step word rest ih rows held r (half_turn p rows held r word y flags e l s c) (half_next p rows held r word y flags e l s c))
  open-step word rest ih (NoHyphen e l s k) rows held r = rw k (plain-step word rest ih rows held r (plain_turn p rows held r word e l s) (plain_next p rows held r word e l s))

  value-step : (word : Text) (rest : List Text) (ih : Claims rest) (rows : List Row)
      → (turn p (at p rows asked (waits p) false) word ≡ true) × (next_of p (at p rows asked (waits p) false) word ≡ at p rows (pend (Value word)) idle false)
      → goes (at p rows asked (waits p) false) (word ∷ rest) ≡ fits (has_row (codes "option") rows) (with_value word (parts_of p.option AnyWord rest))
  value-step word rest ih rows h = goes-step (at p rows asked (waits p) false) (at p rows (pend (Value word)) idle false) word rest true h.0 h.1
      ∙ ih.open_words rows (Value word) Idle
      ∙ ap₂ (λ (a b : Bool). a && fits b (parts_of p.option AnyWord rest)) (settles_value p rows word) (had-value rows word)
      ∙ sym (fits-value (has_row (codes "option") rows) word (parts_of p.option AnyWord rest))

  taking-step : (word : Text) (rest : List Text) (ih : Claims rest) → Seen p.option word → (rows : List Row)
      → goes (at p rows asked (waits p) false) (word ∷ rest) ≡ fits (has_row (codes "option") rows) (with_value word (parts_of p.option AnyWord rest))
  taking-step word rest ih (EndsAll e k) rows = goes-cons (at p rows asked (waits p) false) word rest
      ∙ ap (λ (x : Walk). turn p (at p rows asked (waits p) false) word && goes x rest) (taking_ends p rows word e)
      ∙ ap (λ (b : Bool). turn p (at p rows asked (waits p) false) word && b) (never rows (waits p) rest) ∙ and-false _
      ∙ sym (fits-look (has_row (codes "option") rows) word (parts_of p.option AnyWord rest) (λ h. cc))
  taking-step word rest ih (NamesIt e l k) rows = goes-stop (at p rows asked (waits p) false) word rest (taking_bare p rows word None e l)
      ∙ sym (fits-look (has_row (codes "option") rows) word (parts_of p.option AnyWord rest) (λ h. cc))
  taking-step word rest ih (GivesIt v e l k) rows = goes-stop (at p rows asked (waits p) false) word rest (taking_bare p rows word (Some v) e l)
      ∙ sym (fits-look (has_row (codes "option") rows) word (parts_of p.option AnyWord rest) (λ h. cc))
  taking-step word rest ih (NamesOther name v e l n k) rows = goes-stop (at p rows asked (waits p) false) word rest (taking_long p rows word name v e l n)
      ∙ sym (fits-look (has_row (codes "option") rows) word (parts_of p.option AnyWord rest) (λ h. cc))
  taking-step word rest ih (Hyphened x y flags e l s c k) rows = goes-stop (at p rows asked (waits p) false) word rest (taking_short p rows word x y flags e l s c)
      ∙ sym (fits-look (has_row (codes "option") rows) word (parts_of p.option AnyWord rest) (λ h. cc))
  taking-step word rest ih (NoCharacter y flags e l s c k) rows = value-step word rest ih rows (taking_half p rows word y flags e l s c)
  taking-step word rest ih (NoHyphen e l s k) rows = value-step word rest ih rows (taking_plain p rows word e l s)

  ended-step : (word : Text) (rest : List Text) (ih : Claims rest) (rows : List Row) (held : Pend) (r : Ready)
      → goes (at p rows (pend held) (ready r) true) (word ∷ rest) ≡ (settles p rows (pend held) && fits (had rows held) (with_positional word (all_positional rest)))
  ended-step word rest ih rows held r = goes-step (at p rows (pend held) (ready r) true) (at p (after p rows (pend held)) (pend (Word word)) positional true) word rest _
      (ended_turn p rows held (ready r) word) (ended_next p rows held (ready r) word)
      ∙ ap (with_settled rows held) (ih.ended_words (after p rows (pend held)) (Word word) After
      ∙ ap (λ (b : Bool). fits b (all_positional rest)) (had-word rows held word) ∙ sym (fits-positional (had rows held) word (all_positional rest)))

  pub claims : (words : List Text) → Claims words
  unfolding walk_fault parts_of
  claims [] = record {
    open_words = λ rows held r. sym (and-true _);
    ended_words = λ rows held r. sym (and-true _);
    taking_words = λ rows. refl;
  }
  claims (word ∷ rest) = let ih = claims rest in record {
    open_words = open-step word rest ih (seen p.option named word);
    ended_words = ended-step word rest ih;
    taking_words = taking-step word rest ih (seen p.option named word);
  }

  no_subcommand : (stop : Option (Text × List Text)) → free (entered_fault (built (app_for p)) stop) ≡ true
  no_subcommand None = refl
  no_subcommand (Some s) = refl

  nothing_asked : (rows : List Row) (has : Bool) → free (check_fault (shape p) rows has) ≡ true
  nothing_asked rows true = refl
  nothing_asked rows false = refl

  no_defaults : (rows : List Row) → free (defaults_fault rows (rules_of p)) ≡ true
  unfolding defaults_fault
  no_defaults rows = simp or-true

  -- clap takes the words exactly where they have parts that fit
  pub takes-parts : (words : List Text) → free (fault_of (app_for p) words) ≡ fits false (parts_of p.option AnyWord words)
  takes-parts words =
      let end = walk (rules_of p) [] nothing_held words in
      five (walk_fault (shape p) [] (walk_from nothing_held) words) (entered_fault (built (app_for p)) end.stopped)
      (settle_fault (rules_of p) false end.held) (defaults_fault (settled (rules_of p) end.held).rows (rules_of p))
      (check_fault (shape p) (finished (rules_of p) end.held) (is_some (entered (built (app_for p)) end.stopped)))
      (no_subcommand end.stopped) (no_defaults (settled (rules_of p) end.held).rows) (nothing_asked (finished (rules_of p) end.held) (is_some (entered (built (app_for p)) end.stopped)))
      ∙ (claims words).open_words [] Nothing Idle
