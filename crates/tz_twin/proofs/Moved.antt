-- Which bytes moves may write.
use Rattle.std.proofs.Common.{◌≡◌, ℕ, ◌==◌, Bool, true, false, ◌&&◌, not, cond, List, [], ◌∷◌, ◌++◌, refl, ap, ◌∙◌}
use Rattle.std.specs.FinMap.{get}
use Rattle.tz_table.specs.declared.units.Side.{Side}
use Rattle.tz_table.specs.declared.units.Side.TheVariants.{Secure, NonSecure}
use Rattle.tz_table.specs.declared.units.Size.TheVariants.{Word}
use Rattle.tz_model.specs.declared.channel.Channel.{Channel}
use Rattle.tz_model.specs.declared.report.Store.{Store}
use Rattle.tz_state.specs.Memory.{every, word_at, with_word}
use Rattle.tz_state.specs.Slots.{ExceptionsValue}
use Rattle.tz_state.specs.State.{Bus, State}
use Rattle.tz_state.specs.Moves.{goes, moves_word, Moving, channel_of, moved_by, moved, all_moved, moving_in, moves_of}
use Rattle.tz_twin.specs.Writing.{are_beside, channel_stores, MovesTold}
use Rattle.tz_twin.proofs.Bytes.{and_first, and_second}
use Rattle.tz_twin.proofs.Noted.{word_beside}

-- ---- one move

-- no channel moves another
other_stays : (b : Bus) (e : ExceptionsValue) (m : Moving) → (moved b e Secure m).channels.nonsecure ≡ m.channels.nonsecure
other_stays b e m = go (goes m.channels.secure) where
  go : (t : Bool) → (cond t (moved_by b e Secure m.channels.secure m) m).channels.nonsecure ≡ m.channels.nonsecure
  go true = refl
  go false = refl

beside_channel : (t : Bool) (dst a : ℕ) → are_beside (cond t (record { addr = dst; size = Word; value = 0 } ∷ []) []) a ≡ true → t ≡ true → every (λ b. not (b == a)) dst Word ≡ true
unfolding are_beside
beside_channel true dst a h e = and_first _ _ h
beside_channel false dst a h e = cc

moved_bytes : (b : Bus) (e : ExceptionsValue) (side : Side) (m : Moving) (a : ℕ) → are_beside (channel_stores (channel_of side m.channels)) a ≡ true → get (moved b e side m).memory a ≡ get m.memory a
moved_bytes b e side m a beside = go (goes c) refl where
  c : Channel
  c = channel_of side m.channels

  word : (t : Bool) → every (λ x. not (x == a)) c.dst Word ≡ true → get (cond t (with_word m.memory c.dst (word_at m.memory c.src)) m.memory) a ≡ get m.memory a
  word true out = word_beside m.memory c.dst (word_at m.memory c.src) a out
  word false out = refl

  go : (t : Bool) → goes c ≡ t → get (cond t (moved_by b e side c m) m).memory a ≡ get m.memory a
  go true is = word (moves_word b side c) (beside_channel (goes c) c.dst a beside is)
  go false is = refl

-- a channel that doesn't go moves nothing
moved_nothing : (b : Bus) (e : ExceptionsValue) (side : Side) (m : Moving) → channel_stores (channel_of side m.channels) ≡ [] → moved b e side m ≡ m
moved_nothing b e side m none = go (goes (channel_of side m.channels)) none where
  go : (t : Bool) → cond {A = List Store} t (record { addr = (channel_of side m.channels).dst; size = Word; value = 0 } ∷ []) [] ≡ [] → cond t (moved_by b e side (channel_of side m.channels) m) m ≡ m
  go true none = cc
  go false none = refl

-- ---- all

beside_both : (xs ys : List Store) (a : ℕ) → are_beside (xs ++ ys) a ≡ true → (are_beside xs a ≡ true) × (are_beside ys a ≡ true)
unfolding are_beside
beside_both [] ys a h = (refl, h)
beside_both (x ∷ xs) ys a h =
    let rest = beside_both xs ys a (and_second _ _ h) in
    (both_true _ _ (and_first _ _ h) rest.0, rest.1)
  where
    both_true : (p q : Bool) → p ≡ true → q ≡ true → (p && q) ≡ true
    both_true true q e h = h
    both_true false q e h = e

none_of_both : (xs ys : List Store) → xs ++ ys ≡ [] → (xs ≡ []) × (ys ≡ [])
none_of_both [] ys h = (refl, h)
none_of_both (x ∷ xs) ys h = cc

all_bytes : (b : Bus) (e : ExceptionsValue) (side : Side) (m : Moving) (a : ℕ) → are_beside (channel_stores m.channels.secure) a ≡ true → are_beside (channel_stores m.channels.nonsecure) a ≡ true
    → get (all_moved b e side m).memory a ≡ get m.memory a
unfolding all_moved
all_bytes b e Secure m a first second =
    moved_bytes b e NonSecure (moved b e Secure m) a (ap (λ (c : Channel). are_beside (channel_stores c) a) (other_stays b e m) ∙ second)
    ∙ moved_bytes b e Secure m a first
all_bytes b e NonSecure m a first second = moved_bytes b e NonSecure m a second

all_nothing : (b : Bus) (e : ExceptionsValue) (side : Side) (m : Moving) → channel_stores m.channels.secure ≡ [] → channel_stores m.channels.nonsecure ≡ [] → all_moved b e side m ≡ m
unfolding all_moved
all_nothing b e Secure m first second = ap (λ (x : Moving). moved b e NonSecure x) (moved_nothing b e Secure m first) ∙ moved_nothing b e NonSecure m second
all_nothing b e NonSecure m first second = moved_nothing b e NonSecure m second

pub moves_told : (s : State) → MovesTold s
unfolding moves_of
moves_told s = record { bytes = λ a beside. bytes s.bus.board.mover s.core.run.locked a beside; exceptions = λ none. exceptions s.bus.board.mover s.core.run.locked none } where
  stores : List Store
  stores = channel_stores s.core.status.s.channel ++ channel_stores s.core.status.ns.channel

  all : Moving
  all = all_moved s.bus s.exceptions s.core.run.side (moving_in s)

  bytes : (mover locked : Bool) (a : ℕ) → are_beside (cond mover stores []) a ≡ true → get (cond (mover && not locked) all (moving_in s)).memory a ≡ get s.bus.memory a
  bytes true false a beside =
      let both = beside_both (channel_stores s.core.status.s.channel) (channel_stores s.core.status.ns.channel) a beside in
      all_bytes s.bus s.exceptions s.core.run.side (moving_in s) a both.0 both.1
  bytes true true a beside = refl
  bytes false locked a beside = refl

  exceptions : (mover locked : Bool) → cond mover stores [] ≡ [] → record s.exceptions { slots = (cond (mover && not locked) all (moving_in s)).slots } ≡ s.exceptions
  exceptions true false none =
      let both = none_of_both (channel_stores s.core.status.s.channel) (channel_stores s.core.status.ns.channel) none in
      ap (λ (m : Moving). record s.exceptions { slots = m.slots }) (all_nothing s.bus s.exceptions s.core.run.side (moving_in s) both.0 both.1)
  exceptions true true none = refl
  exceptions false locked none = refl
