-- What clap answers to the words of a command, said by their parts.
use Rattle.std.proofs.Common.{◌≡◌, ◌∙◌, ◌||◌, Bool, true, false, map, refl, sym, ap, ap₂, subst, List, [], ◌∷◌, Option, Some, None, option_map, codes, true≢false}
use Rattle.std.specs.Prelude.{find, unwrap_or, ◌&&◌, not}
use Rattle.std.specs.List.{list_any}
use Rattle.std.specs.Str.{bytes_eq}
use Rattle.std.specs.Borrow.{Bor}
use Rattle.std.proofs.lemmas.Slice.Eq.{bytes_eq-Decides}
use Rattle.clap.specs.Values.{same_text}
use Rattle.clap.specs.ValueTests.{accepts}
use Rattle.clap.specs.Faults.{fault_of}
use Rattle.clap.specs.Kinds.{IsAmong, Kinds}
use Rattle.clap.specs.Matches.{found_of, matched_of, raw_values}
use Rattle.clap.specs.Facts.{Entry}
use Rattle.clap.specs.Simple.{matches_of}
use Rattle.clap.specs.Walk.{Row, row_of, rows_of}
use Rattle.std.proofs.lemmas.Bool.{and_parts}
use Rattle.clap.specs.declared.error.kind.ErrorKind.{ErrorKind}
use Rattle.clap.specs.declared.parser.matches.ArgMatches.{ArgMatches}
use Rattle.clap.specs.declared.parser.matches.Found.{Found}
use Rattle.clap.proofs.WalkLemmas.{find_row}
use Rattle.tz_words.specs.Leaf.{Leaf, app_for, are_positional, is_name, is_one, is_one_of, is_positional, with_one}
use Rattle.tz_words.specs.Parts.{Text, Look, EndsOptions, Named, NamedWith, Refused, Positional, look_of, AnyWord, Parts, parts_of}
use Rattle.tz_words.specs.Found.{parts_in}
use Rattle.tz_words.proofs.WordTurns.{free}
use Rattle.tz_words.proofs.WordWalks.{fits, takes-parts}
use Rattle.tz_words.proofs.WordValues.{has-parts, held_by}

pub any_named : (names : List (Bor Text)) (v : Text) → list_any (λ (name : Bor Text). same_text false name.now v) names ≡ list_any (λ (name : Text). bytes_eq name v) (map (λ (s : Bor Text). s.now) names)
any_named [] v = refl
any_named (n ∷ ns) v = ap (λ (b : Bool). bytes_eq n.now v || b) (any_named ns v)

plain_is : (l : Look) → is_positional l ≡ true → l ≡ Positional
plain_is Positional h = refl
plain_is EndsOptions h = absurd (true≢false (sym h))
plain_is Named h = absurd (true≢false (sym h))
plain_is (NamedWith v) h = absurd (true≢false (sym h))
plain_is Refused h = absurd (true≢false (sym h))

-- a value is no option
pub value_is_plain : (opt : Text) (names : List Text) (v : Text) → are_positional opt names ≡ true → is_one_of names v ≡ true → look_of opt v ≡ Positional
value_is_plain opt [] v p h = absurd (true≢false (sym h))
value_is_plain opt (n ∷ ns) v p h = by_test _ refl (value_is_plain opt ns v (and_parts (is_positional (look_of opt n)) (are_positional opt ns) p).1)
  where
    by_test : (b : Bool) → bytes_eq n v ≡ b → (is_one_of ns v ≡ true → look_of opt v ≡ Positional) → look_of opt v ≡ Positional
    by_test true e ih = subst (λ (t : Text). look_of opt t ≡ Positional) ((bytes_eq-Decides n v).0 e) (plain_is (look_of opt n) (and_parts (is_positional (look_of opt n)) (are_positional opt ns) p).0)
    by_test false e ih = ih (rw e at h)

same_one : (f g : Text → Bool) (had : Bool) (vs : List Text) → ((v : Text) → f v ≡ g v) → is_one f had vs ≡ is_one g had vs
same_one f g had [] h = refl
same_one f g had (v ∷ vs) h = ap₂ (λ (a b : Bool). (not had && a) && b) (h v) (same_one f g true vs h)

-- the values that a getter gives, by the rows
values_by_rows : (f : Found) (id : Text) → unwrap_or (option_map raw_values (matched_of f id)) [] ≡ held_by id (rows_of f)
values_by_rows f id = of_entry (find (λ (e : Entry). bytes_eq e.0.now id) f.entries.items)
    ∙ ap (λ (o : Option Row). unwrap_or (option_map (λ (r : Row). r.values) o) []) (sym (find_row f.entries.items id))
  where
    of_entry : (o : Option Entry) → unwrap_or (option_map raw_values (option_map (λ (e : Entry). e.1) o)) [] ≡ unwrap_or (option_map (λ (r : Row). r.values) (option_map row_of o)) []
    of_entry None = refl
    of_entry (Some e) = refl

module _ (q : Leaf) (names : List Text) (named : is_name q.option ≡ true) (plain : are_positional q.option names ≡ true) (values : (v : Text) → accepts false q.parser v ≡ is_one_of names v) where
  only : (v : Text) → accepts false q.parser v ≡ true → look_of q.option v ≡ Positional
  only v h = value_is_plain q.option names v plain (sym (values v) ∙ h)

  pub taken : (words : List Text) (m : ArgMatches) → fault_of (app_for q) words ≡ [] → rows_of (found_of m) ≡ matches_of (app_for q) words → Some (parts_in m) ≡ with_one (is_one_of names) (parts_of q.option AnyWord words)
  taken words m none rows =
      let h = has-parts q named only words (ap free none) in
      let one : is_one (is_one_of names) false h.0.values ≡ true = sym (same_one (accepts false q.parser) (is_one_of names) false h.0.values values) ∙ h.2 in
      let is : parts_in m ≡ h.0 = λ i. record {
        positionals = (values_by_rows (found_of m) (codes "words") ∙ ap (held_by (codes "words")) rows ∙ h.3) i;
        values = (values_by_rows (found_of m) (codes "option") ∙ ap (held_by (codes "option")) rows ∙ h.4) i;
      } in
      rw (h.1, one) (ap Some is)

  pub refused : (words : List Text) (k : ErrorKind) → IsAmong k (fault_of (app_for q) words) → None ≡ with_one (is_one_of names) (parts_of q.option AnyWord words)
  refused words k among = by_parts (parts_of q.option AnyWord words) refl
    where
      not_free : (ks : Kinds) → IsAmong k ks → free ks ≡ false
      not_free [] h = absurd h
      not_free (x ∷ xs) h = refl

      by_parts : (o : Option Parts) → parts_of q.option AnyWord words ≡ o → None ≡ with_one (is_one_of names) o
      by_parts None e = refl
      by_parts (Some r) e =
          let no : is_one (is_one_of names) false r.values ≡ false = sym (same_one (accepts false q.parser) (is_one_of names) false r.values values) ∙ sym (ap (fits q named only false) e) ∙ sym (takes-parts q named only words) ∙ not_free (fault_of (app_for q) words) among in
          rw no
