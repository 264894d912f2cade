-- Words that are loaded and stored in a row, one after the other.
use Rattle.std.proofs.Common.{◌≡◌, ℕ, suc, ◌+◌, ◌-◌, ◌<◌, true, false, List, [], ◌∷◌, ◌++◌, length, get_or, drop, Result, Ok, Err, refl, arith, add-one, drop-cons}
use Rattle.std.specs.Prelude.{replicate}
use Rattle.std.proofs.lemmas.List.{append-nil, replicate_more}
use Rattle.std.proofs.Math.Seq.{append_snoc, drop-length}
use Rattle.tz_table.specs.declared.units.Size.TheVariants.{Word}
use Rattle.tz_model.specs.declared.report.Fault.{Fault}
use Rattle.tz_model.specs.Ports.{Access, Load, Store, Answering, answers, with_read}
use Rattle.tz_model.specs.Words.{wrap}
use Rattle.tz_sem.specs.Local.{Local, reg}
use Rattle.tz_sem.specs.LoadStore.{word_loads, word_stores}

-- the words of later accesses, behind those read before
abbrev pub read_on : {H : Type 0} → List ℕ → H × Result (List ℕ) Fault → H × Result (List ℕ) Fault
read_on before (h, Ok words) = (h, Ok (before ++ words))
read_on before (h, Err fault) = (h, Err fault)

read_behind : {H : Type 0} (before : List ℕ) (word : ℕ) (a : H × Result (List ℕ) Fault) → read_on before (a.0, with_read word a.1) ≡ read_on (before ++ word ∷ []) a
read_behind before word (h, Ok words) = rw append_snoc
read_behind before word (h, Err fault) = refl

-- an access that is answered
read_next : {H : Type 0} (one : Answering H) (h later : H) (a : Access) (more : List Access) (before : List ℕ) (word : ℕ) → one h a ≡ (later, Ok word) → read_on before (answers one h (a ∷ more)) ≡ read_on (before ++ word ∷ []) (answers one later more)
unfolding answers
read_next one h later a more before word e = rw e (read_behind before word (answers one later more))

-- an access that fails
read_fails : {H : Type 0} (one : Answering H) (h later : H) (a : Access) (more : List Access) (before : List ℕ) (fault : Fault) → one h a ≡ (later, Err fault) → read_on before (answers one h (a ∷ more)) ≡ (later, Err fault)
unfolding answers
read_fails one h later a more before fault e = rw e

-- ---- loads

load_first : (addr count i : ℕ) → i < count → word_loads addr (count - i) ≡ Load Word addr true false ∷ word_loads (wrap (addr + 4)) (count - (i + 1))
load_first addr count i l =
    let e : count - i ≡ suc (count - (i + 1)) = omega arith in
    rw e

pub load_next : {H : Type 0} (one : Answering H) (h later : H) (addr count i : ℕ) (before : List ℕ) (word : ℕ) → i < count → one h (Load Word addr true false) ≡ (later, Ok word) → read_on before (answers one h (word_loads addr (count - i))) ≡ read_on (before ++ word ∷ []) (answers one later (word_loads (wrap (addr + 4)) (count - (i + 1))))
load_next one h later addr count i before word l e =
    rw (load_first addr count i l) (read_next one h later _ _ before word e)

pub load_fails : {H : Type 0} (one : Answering H) (h later : H) (addr count i : ℕ) (before : List ℕ) (fault : Fault) → i < count → one h (Load Word addr true false) ≡ (later, Err fault) → read_on before (answers one h (word_loads addr (count - i))) ≡ (later, Err fault)
load_fails one h later addr count i before fault l e =
    rw (load_first addr count i l) (read_fails one h later _ _ before fault e)

pub loaded_all : {H : Type 0} (one : Answering H) (h : H) (addr count i : ℕ) (words : List ℕ) → i ≡ count → read_on words (answers one h (word_loads addr (count - i))) ≡ (h, Ok words)
unfolding answers
loaded_all one h addr count i words e =
    let none : count - i ≡ 0 = omega arith in
    rw (none, append-nil)

-- ---- stores

store_first : (l : Local) (addr : ℕ) (ks : List ℕ) (i : ℕ) → i < length ks → word_stores l addr (drop i ks) ≡ Store Word addr (reg l (get_or ks i 0)) true false ∷ word_stores l (wrap (addr + 4)) (drop (i + 1) ks)
store_first l addr ks i b = rw (add-one, drop-cons ks i 0)

pub store_next : {H : Type 0} (one : Answering H) (h later : H) (l : Local) (addr : ℕ) (ks : List ℕ) (i : ℕ) → i < length ks → one h (Store Word addr (reg l (get_or ks i 0)) true false) ≡ (later, Ok 0) → read_on (replicate i 0) (answers one h (word_stores l addr (drop i ks))) ≡ read_on (replicate (i + 1) 0) (answers one later (word_stores l (wrap (addr + 4)) (drop (i + 1) ks)))
store_next one h later l addr ks i b e =
    rw (store_first l addr ks i b, ← replicate_more {X = ℕ} i 0) (read_next one h later _ _ (replicate i 0) 0 e)

pub store_fails : {H : Type 0} (one : Answering H) (h later : H) (l : Local) (addr : ℕ) (ks : List ℕ) (i : ℕ) (fault : Fault) → i < length ks → one h (Store Word addr (reg l (get_or ks i 0)) true false) ≡ (later, Err fault) → read_on (replicate i 0) (answers one h (word_stores l addr (drop i ks))) ≡ (later, Err fault)
store_fails one h later l addr ks i fault b e =
    rw (store_first l addr ks i b) (read_fails one h later _ _ (replicate i 0) fault e)

pub stored_all : {H : Type 0} (one : Answering H) (h : H) (l : Local) (addr : ℕ) (ks : List ℕ) (i : ℕ) → i ≡ length ks → read_on (replicate i 0) (answers one h (word_stores l addr (drop i ks))) ≡ (h, Ok (replicate (length ks) 0))
unfolding answers
stored_all one h l addr ks i e = rw (e, drop-length ks, append-nil)
