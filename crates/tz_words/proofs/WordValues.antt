-- What the matches hold where clap takes the words: their parts.
use Rattle.std.proofs.Common.{◌≡◌, ◌∙◌, ◌++◌, not, Bool, true, false, refl, sym, ap, append_assoc, List, [], ◌∷◌, Option, Some, None, codes, cond, true≢false}
use Rattle.std.specs.Prelude.{fold, IfSome, unwrap_or}
use Rattle.std.specs.Str.{bytes_eq}
use Rattle.std.proofs.lemmas.Bool.{and_parts}
use Rattle.std.proofs.lemmas.Slice.Eq.{bytes_eq-Decides}
use Rattle.clap.specs.ValueTests.{accepts}
use Rattle.clap.specs.Faults.{fault_of}
use Rattle.clap.specs.Simple.{matches_of, filled, with_index}
use Rattle.clap.specs.Walk.{Row, idle, positional, Walk, walked, reading_by, all_of, has_row, with_values, without, finished, settled}
use Rattle.clap.specs.declared.builder.value_parser.Reading.{Reading}
use Rattle.clap.specs.declared.parser.matches.ValueSource.TheVariants.{CommandLine}
use Rattle.tz_words.specs.Leaf.{Leaf, app_for, is_name, is_one, option_rule}
use Rattle.tz_words.specs.Parts.{Text, Positional, look_of, all_positional, parts_by, AnyWord, ItsValue, Parts, parts_of, with_positional, with_value}
use Rattle.tz_words.proofs.Looks.{Seen, EndsAll, NamesIt, GivesIt, NamesOther, Hyphened, NoCharacter, NoHyphen, not_true, seen}
use Rattle.tz_words.proofs.WordTurns.{free, Pend, Nothing, Word, Value, pend, asked, Ready, Idle, After, ready, rules_of, at, settles, after, turn, next_of, passes, waits, settles_value, ended_next, plain_next, ends_next, bare_next, valued_turn, valued_next, long_turn, short_turn, half_next, taking_ends, taking_bare, taking_long, taking_short, taking_half, taking_plain}
use Rattle.tz_words.proofs.WordWalks.{goes, goes-cons, never, claims, fits, takes-parts}

-- the values of an argument
abbrev pub held_by : Text → List Row → List Text
held_by id rows = unwrap_or (all_of id rows) []

-- more values of an argument
pub more-own : (id : Text) (how : Reading) (values : List Text) (rows : List Row) → held_by id (with_values id how CommandLine values rows) ≡ held_by id rows ++ values
more-own id how values [] = rw ((bytes_eq-Decides id id).1 refl)
more-own id how values (r ∷ rs) = by_test _ refl (more-own id how values rs)
  where
    by_test : (b : Bool) → bytes_eq r.id id ≡ b → held_by id (with_values id how CommandLine values rs) ≡ held_by id rs ++ values
        → held_by id (with_values id how CommandLine values (r ∷ rs)) ≡ held_by id (r ∷ rs) ++ values
    by_test true e ih = rw (e, e)
    by_test false e ih = rw (e, e) ih

-- the other argument keeps its values
pub more-other : (id other : Text) (how : Reading) (values : List Text) (rows : List Row) → bytes_eq id other ≡ false → held_by other (with_values id how CommandLine values rows) ≡ held_by other rows
more-other id other how values [] d = rw d
more-other id other how values (r ∷ rs) d = by_test _ refl (more-other id other how values rs d)
  where
    same : (b : Bool) → bytes_eq r.id other ≡ b → held_by other (with_values id how CommandLine values rs) ≡ held_by other rs
        → held_by other (r ∷ with_values id how CommandLine values rs) ≡ held_by other (r ∷ rs)
    same true e ih = rw e
    same false e ih = rw e ih

    by_test : (b : Bool) → bytes_eq r.id id ≡ b → held_by other (with_values id how CommandLine values rs) ≡ held_by other rs
        → held_by other (with_values id how CommandLine values (r ∷ rs)) ≡ held_by other (r ∷ rs)
    by_test true e ih = let is = (bytes_eq-Decides r.id id).0 e in rw (e, is, d)
    by_test false e ih = rw e (same _ refl ih)

-- no row, so nothing goes
pub without-none : (id : Text) (rows : List Row) → has_row id rows ≡ false → without id rows ≡ rows
without-none id [] h = refl
without-none id (r ∷ rs) h = by_test _ refl (without-none id rs)
  where
    by_test : (b : Bool) → bytes_eq r.id id ≡ b → (has_row id rs ≡ false → without id rs ≡ rs) → without id (r ∷ rs) ≡ r ∷ rs
    by_test true e ih = absurd (true≢false (rw e at h))
    by_test false e ih = rw e (ap (λ (x : List Row). r ∷ x) (ih (rw e at h)))

same_either : (b : Bool) (x : List Row) → cond b x x ≡ x
same_either true x = refl
same_either false x = refl

append-none : (xs : List Text) → xs ++ [] ≡ xs
append-none [] = refl
append-none (x ∷ xs) = ap (λ (ys : List Text). x ∷ ys) (append-none xs)

module _ (p : Leaf) (named : is_name p.option ≡ true) (only : (v : Text) → accepts false p.parser v ≡ true → look_of p.option v ≡ Positional) where
  -- the rows at the end
  abbrev pub ends : Walk → List Text → List Row
  ends w words = finished (rules_of p) (fold (walked (rules_of p) []) w words).held

  -- the values at the end are those before, and the parts of the words
  abbrev pub Gains : List Row → Option Parts → List Row → Type 0
  Gains before o rows = IfSome o (λ r. (held_by (codes "words") rows ≡ held_by (codes "words") before ++ r.positionals)
      × (held_by (codes "option") rows ≡ held_by (codes "option") before ++ r.values))

  gains-word : (rows : List Row) (w : Text) (o : Option Parts) (end : List Row) → Gains (after p rows (pend (Word w))) o end → Gains rows (with_positional w o) end
  gains-word rows w None end h = tt
  gains-word rows w (Some r) end h = (
    h.0 ∙ ap (λ (x : List Text). x ++ r.positionals) (more-own (codes "words") _ (w ∷ []) rows) ∙ append_assoc (held_by (codes "words") rows) (w ∷ []) r.positionals,
    h.1 ∙ ap (λ (x : List Text). x ++ r.values) (more-other (codes "words") (codes "option") _ (w ∷ []) rows refl),
  )

  gains-value : (rows : List Row) (v : Text) (o : Option Parts) (end : List Row) → has_row (codes "option") rows ≡ false → Gains (after p rows (pend (Value v))) o end → Gains rows (with_value v o) end
  gains-value rows v None end new h = tt
  gains-value rows v (Some r) end new h =
      let how = reading_by (with_index 2 (filled (option_rule p))) in
      let same : after p rows (pend (Value v)) ≡ with_values (codes "option") how CommandLine (v ∷ []) rows = ap (with_values (codes "option") how CommandLine (v ∷ [])) (without-none (codes "option") rows new) in (
        h.0 ∙ ap (λ (x : List Row). held_by (codes "words") x ++ r.positionals) same ∙ ap (λ (x : List Text). x ++ r.positionals) (more-other (codes "option") (codes "words") how (v ∷ []) rows refl),
        h.1 ∙ ap (λ (x : List Row). held_by (codes "option") x ++ r.values) same ∙ ap (λ (x : List Text). x ++ r.values) (more-own (codes "option") how (v ∷ []) rows) ∙ append_assoc (held_by (codes "option") rows) (v ∷ []) r.values,
      )

  -- nothing more comes at the end
  last : (w : Walk) → ends w [] ≡ (settled (rules_of p) w.held).rows
  last w = let rows = (settled (rules_of p) w.held).rows in
      same_either (has_row (codes "option") (cond (has_row (codes "words") rows) rows rows)) _ ∙ same_either (has_row (codes "words") rows) rows

  gains-nothing : (w : Walk) → Gains (settled (rules_of p) w.held).rows (Some (record { positionals = []; values = [] })) (ends w [])
  gains-nothing w = (ap (held_by (codes "words")) (last w) ∙ sym (append-none _), ap (held_by (codes "option")) (last w) ∙ sym (append-none _))

  -- a turn that passes, and the walk after it
  both : (w next : Walk) (word : Text) (rest : List Text) → next_of p w word ≡ next → goes p named only w (word ∷ rest) ≡ true
      → (turn p w word ≡ true) × (goes p named only next rest ≡ true) × (ends w (word ∷ rest) ≡ ends next rest)
  both w next word rest n h = let parts = and_parts (turn p w word) (goes p named only (next_of p w word) rest) (sym (goes-cons p named only w word rest) ∙ h) in
      (parts.0, ap (λ (x : Walk). goes p named only x rest) (sym n) ∙ parts.1, ap (λ (x : Walk). ends x rest) n)

  refused : (w : Walk) (word : Text) (rest : List Text) → turn p w word ≡ false → goes p named only w (word ∷ rest) ≡ true → ⊥
  refused w word rest e h = true≢false (sym (and_parts (turn p w word) (goes p named only (next_of p w word) rest) (sym (goes-cons p named only w word rest) ∙ h)).0 ∙ e)

  pub record Held (words : List Text) : Type 0 where
    pub open_words : (rows : List Row) (held : Pend) (r : Ready) → goes p named only (at p rows (pend held) (ready r) false) words ≡ true → Gains (after p rows (pend held)) (parts_of p.option AnyWord words) (ends (at p rows (pend held) (ready r) false) words)
    pub ended_words : (rows : List Row) (held : Pend) (r : Ready) → goes p named only (at p rows (pend held) (ready r) true) words ≡ true → Gains (after p rows (pend held)) (all_positional words) (ends (at p rows (pend held) (ready r) true) words)
    pub taking_words : (rows : List Row) → goes p named only (at p rows asked (waits p) false) words ≡ true → Gains rows (parts_of p.option ItsValue words) (ends (at p rows asked (waits p) false) words)

  plain-step : (word : Text) (rest : List Text) (ih : Held rest) (rows : List Row) (held : Pend) (r : Ready)
      → next_of p (at p rows (pend held) (ready r) false) word ≡ at p (after p rows (pend held)) (pend (Word word)) positional false
      → goes p named only (at p rows (pend held) (ready r) false) (word ∷ rest) ≡ true
      → Gains (after p rows (pend held)) (with_positional word (parts_of p.option AnyWord rest)) (ends (at p rows (pend held) (ready r) false) (word ∷ rest))
  plain-step word rest ih rows held r n h =
      let b = both (at p rows (pend held) (ready r) false) (at p (after p rows (pend held)) (pend (Word word)) positional false) word rest n h in
      rw b.2 (gains-word (after p rows (pend held)) word (parts_of p.option AnyWord rest) (ends (at p (after p rows (pend held)) (pend (Word word)) positional false) rest) (ih.open_words (after p rows (pend held)) (Word word) After b.1))

  open-step : (word : Text) (rest : List Text) (ih : Held rest) → Seen p.option word → (rows : List Row) (held : Pend) (r : Ready)
      → goes p named only (at p rows (pend held) (ready r) false) (word ∷ rest) ≡ true
      → Gains (after p rows (pend held)) (parts_by (look_of p.option word) word rest (λ next. parts_of p.option next rest)) (ends (at p rows (pend held) (ready r) false) (word ∷ rest))
  open-step word rest ih (EndsAll e k) rows held r h =
      let b = both (at p rows (pend held) (ready r) false) (at p rows (pend held) (ready r) true) word rest (ends_next p rows (pend held) r word e) h in
      rw (k, b.2) (ih.ended_words rows held r b.1)
  open-step word rest ih (NamesIt e l k) rows held r h =
      let b = both (at p rows (pend held) (ready r) false) (at p (after p rows (pend held)) asked (waits p) false) word rest (bare_next p rows (pend held) r word e l) h in
      rw (k, b.2) (ih.taking_words (after p rows (pend held)) b.1)
  open-step word rest ih (GivesIt v e l k) rows held r h =
      let b = both (at p rows (pend held) (ready r) false) (at p (after p (after p rows (pend held)) (pend (Value v))) None idle false) word rest (valued_next p rows (pend held) r word v e l) h in
      let t = and_parts (settles p rows (pend held)) (passes p (after p rows (pend held)) v) (sym (valued_turn p rows (pend held) r word v e l) ∙ b.0) in
      let new = and_parts (not (has_row (codes "option") (after p rows (pend held)))) (accepts false p.parser v) t.1 in
      rw (k, b.2) (gains-value (after p rows (pend held)) v (parts_of p.option AnyWord rest) (ends (at p (after p (after p rows (pend held)) (pend (Value v))) None idle false) rest) (not_true _ new.0) (ih.open_words (after p (after p rows (pend held)) (pend (Value v))) Nothing Idle b.1))
  open-step word rest ih (NamesOther name v e l n k) rows held r h = absurd (refused (at p rows (pend held) (ready r) false) word rest (long_turn p rows (pend held) r word name v e l n) h)
  open-step word rest ih (Hyphened x y flags e l s c k) rows held r h = absurd (refused (at p rows (pend held) (ready r) false) word rest (short_turn p rows (pend held) r word x y flags e l s c) h)
  open-step word rest ih (NoCharacter y flags e l s c k) rows held r h = rw k (plain-step word rest ih rows held r (half_next p rows held r word y flags e l s c) h)
  open-step word rest ih (NoHyphen e l s k) rows held r h = rw k (plain-step word rest ih rows held r (plain_next p rows held r word e l s) h)

  value-step : (word : Text) (rest : List Text) (ih : Held rest) (rows : List Row)
      → (turn p (at p rows asked (waits p) false) word ≡ true) × (next_of p (at p rows asked (waits p) false) word ≡ at p rows (pend (Value word)) idle false)
      → goes p named only (at p rows asked (waits p) false) (word ∷ rest) ≡ true → Gains rows (with_value word (parts_of p.option AnyWord rest)) (ends (at p rows asked (waits p) false) (word ∷ rest))
  value-step word rest ih rows t h =
      let b = both (at p rows asked (waits p) false) (at p rows (pend (Value word)) idle false) word rest t.1 h in
      let settled_now = and_parts (settles p rows (pend (Value word))) _ (sym ((claims p named only rest).open_words rows (Value word) Idle) ∙ b.1) in
      let new = and_parts (not (has_row (codes "option") rows)) (accepts false p.parser word) (sym (settles_value p rows word) ∙ settled_now.0) in
      rw b.2 (gains-value rows word (parts_of p.option AnyWord rest) (ends (at p rows (pend (Value word)) idle false) rest) (not_true _ new.0) (ih.open_words rows (Value word) Idle b.1))

  taking-step : (word : Text) (rest : List Text) (ih : Held rest) → Seen p.option word → (rows : List Row)
      → goes p named only (at p rows asked (waits p) false) (word ∷ rest) ≡ true → Gains rows (with_value word (parts_of p.option AnyWord rest)) (ends (at p rows asked (waits p) false) (word ∷ rest))
  taking-step word rest ih (EndsAll e k) rows h =
      let b = both (at p rows asked (waits p) false) (at p rows asked (waits p) true) word rest (taking_ends p rows word e) h in
      absurd (true≢false (sym b.1 ∙ never p named only rows (waits p) rest))
  taking-step word rest ih (NamesIt e l k) rows h = absurd (refused (at p rows asked (waits p) false) word rest (taking_bare p rows word None e l) h)
  taking-step word rest ih (GivesIt v e l k) rows h = absurd (refused (at p rows asked (waits p) false) word rest (taking_bare p rows word (Some v) e l) h)
  taking-step word rest ih (NamesOther name v e l n k) rows h = absurd (refused (at p rows asked (waits p) false) word rest (taking_long p rows word name v e l n) h)
  taking-step word rest ih (Hyphened x y flags e l s c k) rows h = absurd (refused (at p rows asked (waits p) false) word rest (taking_short p rows word x y flags e l s c) h)
  taking-step word rest ih (NoCharacter y flags e l s c k) rows h = value-step word rest ih rows (taking_half p rows word y flags e l s c) h
  taking-step word rest ih (NoHyphen e l s k) rows h = value-step word rest ih rows (taking_plain p rows word e l s) h

  ended-step : (word : Text) (rest : List Text) (ih : Held rest) (rows : List Row) (held : Pend) (r : Ready)
      → goes p named only (at p rows (pend held) (ready r) true) (word ∷ rest) ≡ true
      → Gains (after p rows (pend held)) (with_positional word (all_positional rest)) (ends (at p rows (pend held) (ready r) true) (word ∷ rest))
  ended-step word rest ih rows held r h =
      let b = both (at p rows (pend held) (ready r) true) (at p (after p rows (pend held)) (pend (Word word)) positional true) word rest (ended_next p rows held (ready r) word) h in
      rw b.2 (gains-word (after p rows (pend held)) word (all_positional rest) (ends (at p (after p rows (pend held)) (pend (Word word)) positional true) rest) (ih.ended_words (after p rows (pend held)) (Word word) After b.1))

  held : (words : List Text) → Held words
  unfolding parts_of
  held [] = record {
    open_words = λ rows h r g. gains-nothing (at p rows (pend h) (ready r) false);
    ended_words = λ rows h r g. gains-nothing (at p rows (pend h) (ready r) true);
    taking_words = λ rows g. tt;
  }
  held (word ∷ rest) = let ih = held rest in record {
    open_words = open-step word rest ih (seen p.option named word);
    ended_words = ended-step word rest ih;
    taking_words = taking-step word rest ih (seen p.option named word);
  }

  -- the matches of words that clap takes
  pub has-parts : (words : List Text) → free (fault_of (app_for p) words) ≡ true
      → (r : Parts) × (parts_of p.option AnyWord words ≡ Some r) × (is_one (accepts false p.parser) false r.values ≡ true) × (held_by (codes "words") (matches_of (app_for p) words) ≡ r.positionals) × (held_by (codes "option") (matches_of (app_for p) words) ≡ r.values)
  has-parts words h = by_parts (parts_of p.option AnyWord words) refl
    where
      taken : fits p named only false (parts_of p.option AnyWord words) ≡ true
      taken = sym (takes-parts p named only words) ∙ h

      gained : Gains [] (parts_of p.option AnyWord words) (matches_of (app_for p) words)
      gained = (held words).open_words [] Nothing Idle ((claims p named only words).open_words [] Nothing Idle ∙ taken)

      by_parts : (o : Option Parts) → parts_of p.option AnyWord words ≡ o → (r : Parts) × (parts_of p.option AnyWord words ≡ Some r) × (is_one (accepts false p.parser) false r.values ≡ true) × (held_by (codes "words") (matches_of (app_for p) words) ≡ r.positionals) × (held_by (codes "option") (matches_of (app_for p) words) ≡ r.values)
      by_parts None e = absurd (true≢false (sym taken ∙ ap (fits p named only false) e))
      by_parts (Some r) e = let g = rw e at gained in (r, e, rw e at taken, g.0, g.1)
