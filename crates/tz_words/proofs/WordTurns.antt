-- One turn of clap's walk over the words behind a command's name.
use Rattle.std.proofs.Common.{◌≡◌, ◌∙◌, ◌&&◌, not, ℕ, Bool, true, false, refl, ap, List, [], ◌∷◌, Option, Some, None, codes, cond}
use Rattle.std.proofs.lemmas.Slice.Eq.{bytes_eq-Decides}
use Rattle.std.specs.Prelude.{slice_get}
use Rattle.std.specs.Str.{bytes_eq, chars}
use Rattle.clap.specs.Lexer.{long_of, short_of}
use Rattle.clap.specs.ValueTests.{accepts}
use Rattle.clap.specs.Walk.{Row, Rule, Waiting, idle, option, positional, Walk, walked, bundle_met, settled_rows, has_row}
use Rattle.clap.specs.Simple.{Shape, built}
use Rattle.clap.specs.Kinds.{Kinds, or_else}
use Rattle.clap.specs.Faults.{settle_fault, turn_fault, flags_fault}
use Rattle.clap.specs.declared.error.kind.ErrorKind.{ErrorKind}
use Rattle.clap.specs.declared.error.kind.ErrorKind.TheVariants.{ArgumentConflict}
use Rattle.clap.specs.Values.{refused_kind}
use Rattle.tz_words.specs.Leaf.{Leaf, app_for}
use Rattle.tz_words.specs.Parts.{Text}

-- no kind of error comes
abbrev pub free : Kinds → Bool
free [] = true
free (k ∷ ks) = false

pub free-or_else : (a b : Kinds) → free (or_else a b) ≡ (free a && free b)
free-or_else [] b = refl
free-or_else (k ∷ ks) b = refl

pub free-right : (a : Kinds) → free (or_else a []) ≡ free a
free-right [] = refl
free-right (k ∷ ks) = refl

-- one value, that was not there before and passes
pub two : (a b : Bool) (j k : ErrorKind) → free (or_else (cond (a && true) (j ∷ []) []) (or_else (cond b [] (k ∷ [])) [])) ≡ (not a && b)
two true true j k = refl
two true false j k = refl
two false true j k = refl
two false false j k = refl

pub three : (before : Kinds) (a b : Bool) (j k : ErrorKind) → free (or_else (or_else before (or_else (cond (a && true) (j ∷ []) []) (or_else (cond b [] (k ∷ [])) []))) []) ≡ (free before && (not a && b))
three before a b j k = free-right _ ∙ free-or_else before _ ∙ ap (λ (x : Bool). free before && x) (two a b j k)

-- what is pending: nothing, a positional word, or the option's value
pub data Pend : Type 0 where
  Nothing : Pend
  Word : Text → Pend
  Value : Text → Pend

abbrev pub Pending : Type 0
Pending = Option (Text × List Text)

abbrev pub pend : Pend → Pending
pend Nothing = None
pend (Word w) = Some (codes "words", w ∷ [])
pend (Value v) = Some (codes "option", v ∷ [])

-- the option waits for its value
abbrev pub asked : Pending
asked = Some (codes "option", [])

-- no option waits
pub data Ready : Type 0 where
  Idle : Ready
  After : Ready

abbrev pub ready : Ready → Waiting
ready Idle = idle
ready After = positional

module _ (p : Leaf) where
  same_option : bytes_eq p.option p.option ≡ true
  same_option = (bytes_eq-Decides p.option p.option).1 refl

  abbrev pub shape : Shape
  shape = (built (app_for p)).top

  abbrev pub rules_of : List Rule
  rules_of = shape.rules

  -- where the walk stands
  abbrev pub at : List Row → Pending → Waiting → Bool → Walk
  at rows pending waiting is_trailing = record {
    held = record { rows = rows; pending = pending; skip = 0 };
    waiting = waiting;
    position = 1;
    is_trailing = is_trailing;
    stopped = None;
  }

  abbrev pub settles : List Row → Pending → Bool
  settles rows pending = free (settle_fault rules_of false (record { rows = rows; pending = pending; skip = 0 }))

  abbrev pub after : List Row → Pending → List Row
  after rows pending = settled_rows rules_of pending rows

  abbrev pub turn : Walk → Text → Bool
  turn w word = free (turn_fault shape [] w word)

  abbrev pub next_of : Walk → Text → Walk
  next_of w word = walked rules_of [] w word

  -- a word past `--`
  pub ended_turn : (rows : List Row) (held : Pend) (waiting : Waiting) (word : Text) → turn (at rows (pend held) waiting true) word ≡ settles rows (pend held)
  ended_turn rows Nothing waiting word = refl
  ended_turn rows (Word w) waiting word = refl
  ended_turn rows (Value v) waiting word = refl

  pub ended_next : (rows : List Row) (held : Pend) (waiting : Waiting) (word : Text) → next_of (at rows (pend held) waiting true) word ≡ at (after rows (pend held)) (Some (codes "words", word ∷ [])) positional true
  unfolding walked
  ended_next rows Nothing waiting word = refl
  ended_next rows (Word w) waiting word = refl
  ended_next rows (Value v) waiting word = refl

  pub asked_ended : (rows : List Row) (waiting : Waiting) (word : Text) → turn (at rows asked waiting true) word ≡ false
  asked_ended rows waiting word = refl

  -- a word that is a positional
  pub plain_turn : (rows : List Row) (held : Pend) (r : Ready) (word : Text) → bytes_eq word (45 ∷ 45 ∷ []) ≡ false → long_of word ≡ None → short_of word ≡ None
      → turn (at rows (pend held) (ready r) false) word ≡ settles rows (pend held)
  plain_turn rows Nothing Idle word e l s = rw (e, l, s)
  plain_turn rows Nothing After word e l s = rw (e, l, s)
  plain_turn rows (Word w) Idle word e l s = rw (e, l, s)
  plain_turn rows (Word w) After word e l s = rw (e, l, s)
  plain_turn rows (Value v) Idle word e l s = rw (e, l, s)
  plain_turn rows (Value v) After word e l s = rw (e, l, s)

  pub plain_next : (rows : List Row) (held : Pend) (r : Ready) (word : Text) → bytes_eq word (45 ∷ 45 ∷ []) ≡ false → long_of word ≡ None → short_of word ≡ None
      → next_of (at rows (pend held) (ready r) false) word ≡ at (after rows (pend held)) (Some (codes "words", word ∷ [])) positional false
  unfolding walked
  plain_next rows Nothing Idle word e l s = rw (e, l, s)
  plain_next rows Nothing After word e l s = rw (e, l, s)
  plain_next rows (Word w) Idle word e l s = rw (e, l, s)
  plain_next rows (Word w) After word e l s = rw (e, l, s)
  plain_next rows (Value v) Idle word e l s = rw (e, l, s)
  plain_next rows (Value v) After word e l s = rw (e, l, s)

  -- `--`
  pub ends_turn : (rows : List Row) (pending : Pending) (r : Ready) (word : Text) → bytes_eq word (45 ∷ 45 ∷ []) ≡ true
      → turn (at rows pending (ready r) false) word ≡ true
  ends_turn rows pending Idle word e = rw e
  ends_turn rows pending After word e = rw e

  pub ends_next : (rows : List Row) (pending : Pending) (r : Ready) (word : Text) → bytes_eq word (45 ∷ 45 ∷ []) ≡ true
      → next_of (at rows pending (ready r) false) word ≡ at rows pending (ready r) true
  unfolding walked
  ends_next rows pending Idle word e = rw e
  ends_next rows pending After word e = rw e

  -- the option alone
  pub bare_turn : (rows : List Row) (held : Pend) (r : Ready) (word : Text) → bytes_eq word (45 ∷ 45 ∷ []) ≡ false → long_of word ≡ Some (p.option, None)
      → turn (at rows (pend held) (ready r) false) word ≡ settles rows (pend held)
  bare_turn rows Nothing Idle word e l = rw (e, l, same_option)
  bare_turn rows Nothing After word e l = rw (e, l, same_option)
  bare_turn rows (Word w) Idle word e l = rw (e, l, same_option)
  bare_turn rows (Word w) After word e l = rw (e, l, same_option)
  bare_turn rows (Value v) Idle word e l = rw (e, l, same_option) (free-right _)
  bare_turn rows (Value v) After word e l = rw (e, l, same_option) (free-right _)

  pub bare_next : (rows : List Row) (pending : Pending) (r : Ready) (word : Text) → bytes_eq word (45 ∷ 45 ∷ []) ≡ false → long_of word ≡ Some (p.option, None)
      → next_of (at rows pending (ready r) false) word ≡ at (after rows pending) asked (option (codes "option")) false
  unfolding walked
  bare_next rows pending Idle word e l = rw (e, l, same_option)
  bare_next rows pending After word e l = rw (e, l, same_option)

  -- the option with its value
  abbrev pub passes : List Row → Text → Bool
  passes rows v = not (has_row (codes "option") rows) && accepts false p.parser v

  pub settles_value : (rows : List Row) (v : Text) → settles rows (pend (Value v)) ≡ passes rows v
  settles_value rows v = two (has_row (codes "option") rows) (accepts false p.parser v) ArgumentConflict (refused_kind p.parser)

  pub valued_turn : (rows : List Row) (pending : Pending) (r : Ready) (word v : Text) → bytes_eq word (45 ∷ 45 ∷ []) ≡ false → long_of word ≡ Some (p.option, Some v)
      → turn (at rows pending (ready r) false) word ≡ (settles rows pending && passes (after rows pending) v)
  valued_turn rows pending Idle word v e l = rw (e, l, same_option) (three (settle_fault rules_of false (record { rows = rows; pending = pending; skip = 0 })) (has_row (codes "option") (after rows pending)) (accepts false p.parser v) ArgumentConflict (refused_kind p.parser))
  valued_turn rows pending After word v e l = rw (e, l, same_option) (three (settle_fault rules_of false (record { rows = rows; pending = pending; skip = 0 })) (has_row (codes "option") (after rows pending)) (accepts false p.parser v) ArgumentConflict (refused_kind p.parser))

  pub valued_next : (rows : List Row) (pending : Pending) (r : Ready) (word v : Text) → bytes_eq word (45 ∷ 45 ∷ []) ≡ false → long_of word ≡ Some (p.option, Some v)
      → next_of (at rows pending (ready r) false) word ≡ at (after (after rows pending) (pend (Value v))) None idle false
  unfolding walked
  valued_next rows pending Idle word v e l = rw (e, l, same_option)
  valued_next rows pending After word v e l = rw (e, l, same_option)

  -- a word that is refused
  pub long_turn : (rows : List Row) (pending : Pending) (waiting : Ready) (word name : Text) (v : Option Text) → bytes_eq word (45 ∷ 45 ∷ []) ≡ false → long_of word ≡ Some (name, v)
      → bytes_eq p.option name ≡ false → turn (at rows pending (ready waiting) false) word ≡ false
  long_turn rows pending Idle word name v e l n = rw (e, l, n)
  long_turn rows pending After word name v e l n = rw (e, l, n)

  pub short_turn : (rows : List Row) (pending : Pending) (r : Ready) (word : Text) (x y : ℕ) (flags : Text) → bytes_eq word (45 ∷ 45 ∷ []) ≡ false → long_of word ≡ None
      → short_of word ≡ Some (y ∷ flags) → slice_get (chars (y ∷ flags)) 0 ≡ Some x → turn (at rows pending (ready r) false) word ≡ false
  unfolding flags_fault
  short_turn rows pending Idle word x y flags e l s c = rw (e, l, s, c)
  short_turn rows pending After word x y flags e l s c = rw (e, l, s, c)

  -- bytes that spell nothing
  pub half_turn : (rows : List Row) (held : Pend) (r : Ready) (word : Text) (y : ℕ) (flags : Text) → bytes_eq word (45 ∷ 45 ∷ []) ≡ false → long_of word ≡ None
      → short_of word ≡ Some (y ∷ flags) → slice_get (chars (y ∷ flags)) 0 ≡ None → turn (at rows (pend held) (ready r) false) word ≡ settles rows (pend held)
  unfolding flags_fault bundle_met
  half_turn rows Nothing Idle word y flags e l s c = rw (e, l, s, c)
  half_turn rows Nothing After word y flags e l s c = rw (e, l, s, c)
  half_turn rows (Word w) Idle word y flags e l s c = rw (e, l, s, c)
  half_turn rows (Word w) After word y flags e l s c = rw (e, l, s, c)
  half_turn rows (Value v) Idle word y flags e l s c = rw (e, l, s, c)
  half_turn rows (Value v) After word y flags e l s c = rw (e, l, s, c)

  pub half_next : (rows : List Row) (held : Pend) (r : Ready) (word : Text) (y : ℕ) (flags : Text) → bytes_eq word (45 ∷ 45 ∷ []) ≡ false → long_of word ≡ None
      → short_of word ≡ Some (y ∷ flags) → slice_get (chars (y ∷ flags)) 0 ≡ None
      → next_of (at rows (pend held) (ready r) false) word ≡ at (after rows (pend held)) (Some (codes "words", word ∷ [])) positional false
  unfolding walked bundle_met
  half_next rows Nothing Idle word y flags e l s c = rw (e, l, s, c)
  half_next rows Nothing After word y flags e l s c = rw (e, l, s, c)
  half_next rows (Word w) Idle word y flags e l s c = rw (e, l, s, c)
  half_next rows (Word w) After word y flags e l s c = rw (e, l, s, c)
  half_next rows (Value v) Idle word y flags e l s c = rw (e, l, s, c)
  half_next rows (Value v) After word y flags e l s c = rw (e, l, s, c)

  -- where the option waits for its value
  abbrev pub waits : Waiting
  waits = option (codes "option")

  pub taking_ends : (rows : List Row) (word : Text) → bytes_eq word (45 ∷ 45 ∷ []) ≡ true → next_of (at rows asked waits false) word ≡ at rows asked waits true
  unfolding walked
  taking_ends rows word e = rw e

  pub taking_bare : (rows : List Row) (word : Text) (v : Option Text) → bytes_eq word (45 ∷ 45 ∷ []) ≡ false → long_of word ≡ Some (p.option, v) → turn (at rows asked waits false) word ≡ false
  taking_bare rows word None e l = rw (e, l, same_option)
  taking_bare rows word (Some v) e l = rw (e, l, same_option)

  pub taking_long : (rows : List Row) (word name : Text) (v : Option Text) → bytes_eq word (45 ∷ 45 ∷ []) ≡ false → long_of word ≡ Some (name, v)
      → bytes_eq p.option name ≡ false → turn (at rows asked waits false) word ≡ false
  taking_long rows word name v e l n = rw (e, l, n)

  pub taking_short : (rows : List Row) (word : Text) (x y : ℕ) (flags : Text) → bytes_eq word (45 ∷ 45 ∷ []) ≡ false → long_of word ≡ None
      → short_of word ≡ Some (y ∷ flags) → slice_get (chars (y ∷ flags)) 0 ≡ Some x → turn (at rows asked waits false) word ≡ false
  unfolding flags_fault
  taking_short rows word x y flags e l s c = rw (e, l, s, c)

  pub taking_half : (rows : List Row) (word : Text) (y : ℕ) (flags : Text) → bytes_eq word (45 ∷ 45 ∷ []) ≡ false → long_of word ≡ None
      → short_of word ≡ Some (y ∷ flags) → slice_get (chars (y ∷ flags)) 0 ≡ None
      → (turn (at rows asked waits false) word ≡ true) × (next_of (at rows asked waits false) word ≡ at rows (pend (Value word)) idle false)
  unfolding flags_fault walked bundle_met
  taking_half rows word y flags e l s c = (rw (e, l, s, c), rw (e, l, s, c))

  pub taking_plain : (rows : List Row) (word : Text) → bytes_eq word (45 ∷ 45 ∷ []) ≡ false → long_of word ≡ None → short_of word ≡ None
      → (turn (at rows asked waits false) word ≡ true) × (next_of (at rows asked waits false) word ≡ at rows (pend (Value word)) idle false)
  unfolding walked
  taking_plain rows word e l s = (rw (e, l, s), rw (e, l, s))
