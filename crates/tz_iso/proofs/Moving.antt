-- What moves at the beginning of a step may write is marked.
use Rattle.std.proofs.Common.{◌≡◌, ℕ, ◌/◌, Bool, true, false, cond, List, [], ◌∷◌, ◌++◌, refl, sym, ap, ◌∙◌, subst}
use Rattle.tz_model.specs.Board.{BoardValue}
use Rattle.tz_model.specs.declared.channel.Channel.{Channel}
use Rattle.tz_model.specs.declared.channel.Channels.{Channels}
use Rattle.tz_model.specs.declared.report.Store.{Store}
use Rattle.tz_regs.specs.Banks.{channels_of}
use Rattle.tz_state.specs.State.{State}
use Rattle.tz_twin.specs.Writing.{is_beside, are_beside, channel_stores, move_stores}
use Rattle.tz_twin.proofs.Bytes.{and_first, and_second}
use Rattle.tz_twin.proofs.Split.{board_seen, board_seen-seen}
use Rattle.tz_iso.specs.declared.marks.Marks.{Marks}
use Rattle.tz_iso.specs.Marks.{marks_byte, Grows, NotesMoves}
use Rattle.tz_iso.specs.Runs.{IsLinked}
use Rattle.tz_iso.proofs.Marking.{grows_itself, grows_then}
use Rattle.tz_iso.proofs.Same.{and_both}

-- ---- the moves of a machine

beside_both : (xs ys : List Store) (a : ℕ) → are_beside xs a ≡ true → are_beside ys a ≡ true → are_beside (xs ++ ys) a ≡ true
unfolding are_beside
beside_both [] ys a h k = k
beside_both (x ∷ xs) ys a h k = and_both (is_beside x a) (are_beside (xs ++ ys) a) (and_first _ _ h) (beside_both xs ys a (and_second _ _ h) k)

none_of_both : (xs ys : List Store) → xs ≡ [] → ys ≡ [] → xs ++ ys ≡ []
none_of_both xs ys h k = ap (λ (zs : List Store). zs ++ ys) h ∙ k

-- where there is no mover, none of these is made
beside_some : (mover : Bool) (stores : List Store) (a : ℕ) → are_beside stores a ≡ true → are_beside (cond mover stores []) a ≡ true
unfolding are_beside
beside_some true stores a h = h
beside_some false stores a h = refl

none_of_some : (mover : Bool) (stores : List Store) → stores ≡ [] → cond mover stores [] ≡ []
none_of_some true stores h = h
none_of_some false stores h = refl

-- what the move of a channel may write is marked
pub record NotesMove (c : Channel) (m m' : Marks) : Type 0 where
  pub grows : Grows m m'
  pub exceptions : m'.exceptions ≡ false → channel_stores c ≡ []
  pub beside : (a : ℕ) → marks_byte m' a ≡ false → are_beside (channel_stores c) a ≡ true

notes_channels : (s : State) (m m' m'' : Marks) → NotesMove s.core.status.s.channel m m' → NotesMove s.core.status.ns.channel m' m'' → NotesMoves s m m''
notes_channels s m m' m'' h k =
    let first = channel_stores s.core.status.s.channel in
    let second = channel_stores s.core.status.ns.channel in
    record {
      grows = grows_then m m' m'' h.grows k.grows;
      exceptions = λ none. none_of_some s.bus.board.mover (first ++ second) (none_of_both first second (h.exceptions (k.grows.exceptions none)) (k.exceptions none));
      beside = λ a unmarked.
          beside_some s.bus.board.mover (first ++ second) a (beside_both first second a (h.beside a (k.grows.blocks (a / 32) unmarked)) (k.beside a unmarked));
    }

-- by the channels that were read
pub notes_read : (s : State) (channels : Channels) (m m' m'' : Marks) → channels ≡ channels_of s.core → NotesMove channels.secure m m' → NotesMove channels.nonsecure m' m'' → NotesMoves s m m''
notes_read s channels m m' m'' is h k =
    notes_channels s m m' m'' (subst (λ (x : Channels). NotesMove x.secure m m') is h) (subst (λ (x : Channels). NotesMove x.nonsecure m' m'') is k)

-- ---- those of two

-- what is marked beside them, before or behind
pub notes_behind : (s : State) (m m' m'' : Marks) → Grows m m' → NotesMoves s m' m'' → NotesMoves s m m''
notes_behind s m m' m'' g n = record { grows = grows_then m m' m'' g n.grows; exceptions = n.exceptions; beside = n.beside }

pub notes_before : (s : State) (m m' m'' : Marks) → NotesMoves s m m' → Grows m' m'' → NotesMoves s m m''
notes_before s m m' m'' n g = record {
  grows = grows_then m m' m'' n.grows g;
  exceptions = λ none. n.exceptions (g.exceptions none);
  beside = λ a unmarked. n.beside a (g.blocks (a / 32) unmarked);
}

-- without a mover nothing has to be marked
pub notes_nothing : (s : State) (m : Marks) → s.bus.board.mover ≡ false → NotesMoves s m m
unfolding are_beside
notes_nothing s m none =
    let stores = channel_stores s.core.status.s.channel ++ channel_stores s.core.status.ns.channel in
    let empty : move_stores s ≡ [] = ap (λ (t : Bool). cond t stores []) none in
    record { grows = grows_itself m; exceptions = λ e. empty; beside = λ a unmarked. ap (λ (xs : List Store). are_beside xs a) empty }

-- both have one, or neither does
pub same_mover : (s t : State) → IsLinked s t → t.bus.board.mover ≡ s.bus.board.mover
same_mover s t linked =
    let board : t.bus.board ≡ s.bus.board = sym (board_seen-seen t) ∙ ap board_seen (sym linked) ∙ board_seen-seen s in
    ap (λ (b : BoardValue). b.mover) board
