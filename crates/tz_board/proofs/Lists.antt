-- Lists of tables, and what is read from each of them.
use Rattle.std.proofs.Common.{◌≡◌, ◌∙◌, ◌<◌, ◌≤◌, ◌+◌, ℕ, refl, sym, ap, List, [], ◌∷◌, ◌++◌, length, drop, get_or, append_assoc, String, Global, Option, Some, None, Ok, Err, BTreeMap, Bor}
use Rattle.std.proofs.lemmas.List.{append-nil, drop_all, drop_more}
use Rattle.toml.proofs.Views.{items_view-drop}
use Rattle.toml.specs.Data.{Members, as_table}
use Rattle.toml.specs.View.{items_view, table_view, view}
use Rattle.toml.specs.declared.value.Value.{Value}
use Rattle.tz_board.specs.Boards.{◌>>=◌, BoardRefusal, Read, each, tables_of, with_table}
use Rattle.tz_board.specs.BoardErrors.{IsBoardRefusal, IsTold, refusal_of}
use Rattle.tz_board.specs.Tables.{views}
use Rattle.tz_board.specs.declared.error.BoardError.{BoardError}

abbrev pub TableRef : Type 0
TableRef = Bor (BTreeMap (String Global) Value)

-- these before those
abbrev pub joined : {A : Type 0} → List A → Option (List A) → Option (List A)
joined xs None = None
joined xs (Some ys) = Some (xs ++ ys)

abbrev pub after : {A : Type 0} → List A → Read (List A) → Read (List A)
after xs (Ok ys) = Ok (xs ++ ys)
after xs (Err e) = Err e

pub views-last : (ts : List TableRef) (t : TableRef) → views (ts ++ t ∷ []) ≡ views ts ++ table_view t.now ∷ []
views-last [] t = refl
views-last (x ∷ ts) t = ap (λ ms. table_view x.now ∷ ms) (views-last ts t)

joined-with : (xs : List Members) (m : Members) (rest : Option (List Members)) → joined xs (with_table (Some m) rest) ≡ joined (xs ++ m ∷ []) rest
joined-with xs m None = refl
joined-with xs m (Some ys) = ap Some (sym (append_assoc xs (m ∷ []) ys))

-- one more table
pub one_table : (vs : List Value) (i : ℕ) (v : Value) (m : Members) (xs : List Members) → i < length vs → v ≡ get_or vs i v → Some m ≡ as_table (view v)
    → joined xs (tables_of (items_view (drop i vs))) ≡ joined (xs ++ m ∷ []) (tables_of (items_view (drop (i + 1) vs)))
unfolding tables_of
one_table vs i v m xs h at is =
    let same : as_table (view (get_or vs i v)) ≡ Some m = ap (λ (x : Value). as_table (view x)) (sym at) ∙ sym is in
    rw (items_view-drop vs i v h, same) (joined-with xs m (tables_of (items_view (drop (i + 1) vs))))

-- a value that is no table
pub no_table : (vs : List Value) (i : ℕ) (v : Value) (xs : List Members) → i < length vs → v ≡ get_or vs i v → None ≡ as_table (view v)
    → joined xs (tables_of (items_view (drop i vs))) ≡ None
unfolding tables_of
no_table vs i v xs h at is =
    let same : as_table (view (get_or vs i v)) ≡ None = ap (λ (x : Value). as_table (view x)) (sym at) ∙ sym is in
    rw (items_view-drop vs i v h, same)

pub all_tables : (vs : List Value) (i : ℕ) (xs : List Members) → length vs ≤ i → joined xs (tables_of (items_view (drop i vs))) ≡ Some xs
unfolding tables_of
all_tables vs i xs h = rw (drop_all i vs h) (ap Some (append-nil xs))

after-one : {A : Type 0} → (xs : List A) (x : A) (rest : Read (List A)) → after xs (rest >>= (λ ys. Ok (x ∷ ys))) ≡ after (xs ++ x ∷ []) rest
after-one xs x (Ok ys) = ap Ok (sym (append_assoc xs (x ∷ []) ys))
after-one xs x (Err e) = refl

views-drop : (ts : List TableRef) (i : ℕ) (t : TableRef) → i < length ts → t ≡ get_or ts i t → views (drop i ts) ≡ table_view t.now ∷ views (drop (i + 1) ts)
views-drop ts i t h at =
    ap views (drop_more ts i t h) ∙ ap (λ (x : TableRef). table_view x.now ∷ views (drop (i + 1) ts)) (sym at)

-- what one more table gives
pub one_read : {A : Type 0} → (read : ℕ → Members → Read A) (ts : List TableRef) (i : ℕ) (t : TableRef) (x : A) (xs : List A) → i < length ts → t ≡ get_or ts i t → read i (table_view t.now) ≡ Ok x
    → after xs (each read i (views (drop i ts))) ≡ after (xs ++ x ∷ []) (each read (i + 1) (views (drop (i + 1) ts)))
unfolding each
one_read read ts i t x xs h at is =
    rw (views-drop ts i t h at, is) (after-one xs x (each read (i + 1) (views (drop (i + 1) ts))))

told_stops : {A : Type 0} → (o : Option BoardRefusal) (read : ℕ → Members → Read A) (ts : List TableRef) (i : ℕ) (t : TableRef) (xs : List A) → i < length ts → t ≡ get_or ts i t → IsTold o (read i (table_view t.now))
    → IsTold o (after xs (each read i (views (drop i ts))))
unfolding each
told_stops None read ts i t xs h at is = tt
told_stops (Some refusal) read ts i t xs h at is = rw (views-drop ts i t h at, is)

-- the first table that is refused
pub read_stops : {A : Type 0} → (e : BoardError) (read : ℕ → Members → Read A) (ts : List TableRef) (i : ℕ) (t : TableRef) (xs : List A) → i < length ts → t ≡ get_or ts i t → IsBoardRefusal e (read i (table_view t.now))
    → IsBoardRefusal e (after xs (each read i (views (drop i ts))))
read_stops e read ts i t xs h at is = told_stops (refusal_of e) read ts i t xs h at is

pub all_read : {A : Type 0} → (read : ℕ → Members → Read A) (ts : List TableRef) (i : ℕ) (xs : List A) → length ts ≤ i → after xs (each read i (views (drop i ts))) ≡ Ok xs
unfolding each
all_read read ts i xs h = rw (drop_all i ts h) (ap Ok (append-nil xs))
