-- Moves at the beginning of a step of Non-secure code: of twins they leave twins, and they keep the Secure side.
use Rattle.std.proofs.Common.{◌≡◌, ℕ, ◌+◌, Bool, true, false, ◌&&◌, not, cond, refl, subst}
use Rattle.std.specs.Prelude.{slice_set}
use Rattle.tz_table.specs.declared.units.Side.TheVariants.{NonSecure}
use Rattle.tz_table.specs.declared.units.Size.TheVariants.{Word}
use Rattle.tz_model.specs.declared.channel.Channel.{Channel}
use Rattle.tz_state.specs.Memory.{every, word_at, with_word}
use Rattle.tz_state.specs.Attribution.{is_open}
use Rattle.tz_state.specs.Slots.{ExceptionsValue, at, first_interrupt_place}
use Rattle.tz_state.specs.State.{Bus, State, map_in}
use Rattle.tz_state.specs.Access.{may_touch}
use Rattle.tz_state.specs.Moves.{goes, moves_word, memory_moved, after_move, irq_of, pends_irq, slots_told, Moving, moved_by, all_moved, moving_in, moves_of, after_moves}
use Rattle.tz_twin.specs.Integrity.{KeepsBytes, KeepsExceptions}
use Rattle.tz_twin.proofs.Bytes.{SameOpen, and_first, and_second, value_same, write_same, write_kept, keeps_nothing_changed}
use Rattle.tz_twin.proofs.Split.{Open, Rest, open_map, join_bus, join, Same, Twins, twins_join}
use Rattle.tz_twin.proofs.Slots.{same_exceptions, pended_kept}

-- ---- a word of the Non-secure channel

-- it is read from Non-secure bytes, and written to such
pub from_open : (b : Bus) (c : Channel) → moves_word b NonSecure c ≡ true → every (is_open (map_in b)) c.src Word ≡ true
unfolding may_touch
from_open b c is = and_first _ _ (and_second _ _ is)

pub to_open : (b : Bus) (c : Channel) → moves_word b NonSecure c ≡ true → every (is_open (map_in b)) c.dst Word ≡ true
unfolding may_touch
to_open b c is = and_first _ _ (and_second _ _ (and_second _ _ is))

-- memories that are the same to Non-secure code are so after it
memory_same : (o : Open) (x x' : Rest) (c : Channel) → SameOpen (open_map o) x.memory x'.memory
    → SameOpen (open_map o) (memory_moved (join_bus o x) NonSecure c x.memory) (memory_moved (join_bus o x') NonSecure c x'.memory)
memory_same o x x' c same = go (moves_word (join_bus o x) NonSecure c) refl where
  go : (t : Bool) → moves_word (join_bus o x) NonSecure c ≡ t
      → SameOpen (open_map o) (cond t (with_word x.memory c.dst (word_at x.memory c.src)) x.memory) (cond t (with_word x'.memory c.dst (word_at x'.memory c.src)) x'.memory)
  go false is = same
  go true is =
      subst (λ (w : ℕ). SameOpen (open_map o) (with_word x.memory c.dst (word_at x.memory c.src)) (with_word x'.memory c.dst w))
      (value_same (open_map o) x.memory x'.memory Word c.src same (from_open (join_bus o x) c is))
      (write_same (open_map o) x.memory x'.memory Word c.dst (word_at x.memory c.src) same)

-- and all bytes that aren't Non-secure are kept
memory_kept : (o : Open) (x : Rest) (c : Channel) → KeepsBytes (open_map o) x.memory (memory_moved (join_bus o x) NonSecure c x.memory)
memory_kept o x c = go (moves_word (join_bus o x) NonSecure c) refl where
  go : (t : Bool) → moves_word (join_bus o x) NonSecure c ≡ t → KeepsBytes (open_map o) x.memory (cond t (with_word x.memory c.dst (word_at x.memory c.src)) x.memory)
  go false is = keeps_nothing_changed (open_map o) x.memory
  go true is = write_kept (open_map o) x.memory Word c.dst (word_at x.memory c.src) (to_open (join_bus o x) c is)

-- an interrupt that pends changes nothing else
told_kept : (e : ExceptionsValue) (c : Channel) → KeepsExceptions e (record e { slots = slots_told NonSecure e c })
told_kept e c = go (pends_irq NonSecure e c) where
  i : ℕ
  i = first_interrupt_place + irq_of c

  go : (t : Bool) → KeepsExceptions e (record e { slots = cond t (slice_set e.slots i (record (at e i) { pending = true })) e.slots })
  go true = pended_kept e i true
  go false = same_exceptions e

-- ---- the moves of a step

-- what moves of twins leave
record Alike (o : Open) (x x' : Rest) (m m' : Moving) : Type 0 where
  pub channel : m.channels.nonsecure ≡ m'.channels.nonsecure
  pub secure : m.channels.secure ≡ x.status_s.channel
  pub secure' : m'.channels.secure ≡ x'.status_s.channel
  pub slots : m.slots ≡ m'.slots
  pub bytes : SameOpen (open_map o) m.memory m'.memory
  pub kept : KeepsBytes (open_map o) x.memory m.memory
  pub exceptions : KeepsExceptions o.exceptions (record o.exceptions { slots = m.slots })

still : (o : Open) (x x' : Rest) → Same o x x' → Alike o x x' (moving_in (join o x)) (moving_in (join o x'))
still o x x' same = record {
  channel = refl;
  secure = refl;
  secure' = refl;
  slots = refl;
  bytes = same.bytes;
  kept = keeps_nothing_changed (open_map o) x.memory;
  exceptions = same_exceptions o.exceptions;
}

abbrev move_of : Open → Rest → Moving
move_of o x = moved_by (join_bus o x) o.exceptions NonSecure o.status_ns.channel (moving_in (join o x))

made : (o : Open) (x x' : Rest) → Same o x x' → Alike o x x' (move_of o x) (move_of o x')
made o x x' same = record {
  channel = refl;
  secure = refl;
  secure' = refl;
  slots = refl;
  bytes = memory_same o x x' o.status_ns.channel same.bytes;
  kept = memory_kept o x o.status_ns.channel;
  exceptions = told_kept o.exceptions (after_move (join_bus o x) NonSecure o.status_ns.channel);
}

moves_alike : (o : Open) (x x' : Rest) → Same o x x' → Alike o x x' (moves_of (join o x)) (moves_of (join o x'))
unfolding moves_of all_moved
moves_alike o x x' same = go (o.board.mover && not false) (goes o.status_ns.channel) where
  go : (t u : Bool) → Alike o x x' (cond t (cond u (move_of o x) (moving_in (join o x))) (moving_in (join o x))) (cond t (cond u (move_of o x') (moving_in (join o x'))) (moving_in (join o x')))
  go false u = still o x x' same
  go true false = still o x x' same
  go true true = made o x x' same

-- twins stay twins
pub twin_moved : (o : Open) (x x' : Rest) → Same o x x' → Twins (after_moves (join o x)) (after_moves (join o x'))
twin_moved o x x' same =
    let h = moves_alike o x x' same in
    let m = moves_of (join o x) in
    let m' = moves_of (join o x') in
    let p : Open = record o { status_ns = record o.status_ns { channel = m.channels.nonsecure }; exceptions = record o.exceptions { slots = m.slots } } in
    let y : Rest = record x { status_s = record x.status_s { channel = m.channels.secure }; memory = m.memory } in
    let y' : Rest = record x' { status_s = record x'.status_s { channel = m'.channels.secure }; memory = m'.memory } in
    subst (λ (q : Open). Twins (join p y) (join q y'))
    (λ i. record o { status_ns = record o.status_ns { channel = h.channel i }; exceptions = record o.exceptions { slots = h.slots i } })
    (twins_join p y y' (record { bytes = h.bytes; bus = same.bus }))

-- and the Secure side is kept
pub record MovesKept (s r : State) : Type 0 where
  pub bytes : KeepsBytes (map_in s.bus) s.bus.memory r.bus.memory
  pub status : r.core.status.s ≡ s.core.status.s
  pub exceptions : KeepsExceptions s.exceptions r.exceptions

pub moves_kept : (o : Open) (x x' : Rest) → Same o x x' → MovesKept (join o x) (after_moves (join o x))
moves_kept o x x' same =
    let h = moves_alike o x x' same in
    record {
      bytes = h.kept;
      status = λ i. record x.status_s { channel = h.secure i };
      exceptions = h.exceptions;
    }
