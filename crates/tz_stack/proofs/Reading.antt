-- Words that are read one by one, from the first.
use Rattle.std.proofs.Common.{◌≡◌, ℕ, suc, ◌+◌, ◌-◌, ◌<◌, ◌≤◌, List, [], ◌∷◌, ◌++◌, length, set, take, Bool, Result, Ok, Err, refl, ap, sym, ◌∙◌, arith, append_assoc}
use Rattle.std.proofs.lemmas.List.{take_more_set, take_all, append-nil}
use Rattle.tz_table.specs.declared.units.Side.{Side}
use Rattle.tz_model.specs.Words.{wrap}
use Rattle.tz_frames.specs.FrameAccess.{FrameAnswering}
use Rattle.tz_frames.specs.declared.frame.StackFault.{StackFault}
use Rattle.tz_frames.specs.Stack.{word_read, with_lowest_word, reads}

-- words before those that are still read
abbrev pub behind : List ℕ → Result (List ℕ) StackFault → Result (List ℕ) StackFault
behind words (Ok later) = Ok (words ++ later)
behind words (Err fault) = Err fault

behind_first : (words : List ℕ) (word : ℕ) (later : Result (List ℕ) StackFault) → behind words (with_lowest_word (Ok word) later) ≡ behind (words ++ (word ∷ [])) later
behind_first words word (Ok later) = simp append_assoc
behind_first words word (Err fault) = refl

-- where words are left, the first of them is read before the others
reads_next : {H : Type 0} → (answering : FrameAnswering H) (side : Side) (privileged : Bool) (h : H) (addr n i : ℕ) → i < n
    → reads answering side privileged h addr (n - i) ≡ with_lowest_word (word_read answering side privileged h addr) (reads answering side privileged h (wrap (addr + 4)) (n - (i + 1)))
unfolding reads
reads_next answering side privileged h addr n i below =
    let one_more : n - i ≡ suc (n - (i + 1)) = omega arith in
    ap (λ (m : ℕ). reads answering side privileged h addr m) one_more

pub reads_fail : {H : Type 0} → (answering : FrameAnswering H) (side : Side) (privileged : Bool) (h : H) (addr n i : ℕ) (words : List ℕ) (fault : StackFault) → i < n
    → Err fault ≡ word_read answering side privileged h addr
    → behind words (reads answering side privileged h addr (n - i)) ≡ Err fault
reads_fail answering side privileged h addr n i words fault below failed =
    let rest = reads answering side privileged h (wrap (addr + 4)) (n - (i + 1)) in
    ap (behind words) (reads_next answering side privileged h addr n i below)
    ∙ ap (λ (first : Result ℕ StackFault). behind words (with_lowest_word first rest)) (sym failed)

pub reads_more : {H : Type 0} → (answering : FrameAnswering H) (side : Side) (privileged : Bool) (h : H) (addr n i : ℕ) (words : List ℕ) (word : ℕ) → i < n → length words ≡ n
    → Ok word ≡ word_read answering side privileged h addr
    → behind (take i words) (reads answering side privileged h addr (n - i)) ≡ behind (take (i + 1) (set words i word)) (reads answering side privileged h (wrap (addr + 4)) (n - (i + 1)))
reads_more answering side privileged h addr n i words word below long got =
    let rest = reads answering side privileged h (wrap (addr + 4)) (n - (i + 1)) in
    ap (behind (take i words)) (reads_next answering side privileged h addr n i below)
    ∙ ap (λ (first : Result ℕ StackFault). behind (take i words) (with_lowest_word first rest)) (sym got)
    ∙ behind_first (take i words) word rest
    ∙ ap (λ (before : List ℕ). behind before rest) (sym (take_more_set words i word (omega arith)))

pub reads_done : {H : Type 0} → (answering : FrameAnswering H) (side : Side) (privileged : Bool) (h : H) (addr n i : ℕ) (words : List ℕ) → n ≤ i → length words ≡ n
    → behind (take i words) (reads answering side privileged h addr (n - i)) ≡ Ok words
unfolding reads
reads_done answering side privileged h addr n i words past long =
    let none_left : n - i ≡ 0 = omega arith in
    let whole : take i words ≡ words = take_all i words (omega arith) in
    rw (none_left, whole, append-nil words) refl
