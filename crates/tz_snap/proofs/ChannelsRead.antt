-- Registers of channels that are read one by one: each from the word of its index, the first of which is k.
use Rattle.std.proofs.Common.{◌≡◌, ℕ, zero, suc, ◌+◌, ◌^◌, ◌<◌, ◌≤◌, Bool, true, false, if◌then◌else◌, List, [], ◌∷◌, ◌++◌, length, drop, map, Some, Ok, Err, refl, sym, ap, ◌∙◌, subst, arith}
use Rattle.std.specs.Prelude.{slice_get, slice_index}
use Rattle.std.proofs.lemmas.Bool.{eqb-true, eq-eqb}
use Rattle.tz_table.specs.declared.units.Side.{Side}
use Rattle.tz_table.specs.declared.units.Side.TheVariants.{Secure, NonSecure}
use Rattle.tz_model.specs.declared.channel.Channels.{Channels}
use Rattle.tz_regs.specs.Banks.{channels_of, with_channels}
use Rattle.tz_regs.specs.Reset.{no_channel}
use Rattle.tz_state.specs.declared.register.MoverRegister.{MoverRegister}
use Rattle.tz_state.specs.declared.register.MoverRegister.TheVariants.{Src, Dst, Count, Ctrl}
use Rattle.tz_state.specs.State.{State, with_core}
use Rattle.tz_fields.specs.declared.fields.ChannelField.{ChannelField}
use Rattle.tz_fields.specs.Fields.{channel_fields}
use Rattle.tz_fields.specs.StateWords.{channel_word}
use Rattle.tz_fields.specs.ReadWords.{IsChannelTold, channel_fits, channel_written, read_channels}
use Rattle.tz_snap.proofs.FieldsRead.{at_index, first_of, passed, same_state}

-- a state with these channels
abbrev pub with_channels_in : State → Channels → State
with_channels_in s c = with_core s (with_channels s.core c)

-- those of a board without a mover
abbrev pub still_channels : Channels
still_channels = record { secure = no_channel; nonsecure = no_channel }

module _ (v : ℕ → ℕ) where
  -- the state after all of them are written
  abbrev pub channels_by : List ChannelField → ℕ → State → State
  channels_by [] k s = s
  channels_by (f ∷ fs) k s = channels_by fs (k + 1) (channel_written s f (v k))

  -- each holds its word where it is written
  abbrev pub ChannelsFit : List ChannelField → ℕ → State → Type 0
  ChannelsFit [] k s = Unit {0}
  ChannelsFit (f ∷ fs) k s = (channel_word (channel_written s f (v k)) f ≡ v k) × ChannelsFit fs (k + 1) (channel_written s f (v k))

  -- these are their words
  abbrev pub ChannelsTold : List ChannelField → ℕ → State → Type 0
  ChannelsTold [] k s = Unit {0}
  ChannelsTold (f ∷ fs) k s = (channel_word s f ≡ v k) × ChannelsTold fs (k + 1) s

  -- and written they leave the state as it is
  abbrev pub ChannelsLeave : List ChannelField → ℕ → State → Type 0
  ChannelsLeave [] k s = Unit {0}
  ChannelsLeave (f ∷ fs) k s = (channel_written s f (v k) ≡ s) × ChannelsLeave fs (k + 1) s

-- ---- reading is writing each where it holds its word

one_more : (ws : List ℕ) (f : ChannelField) (fs : List ChannelField) (k : ℕ) (s : State) → k < length ws →
    read_channels (f ∷ fs) (drop k ws) k s ≡ (if channel_fits s f (slice_index ws k) then read_channels fs (drop (k + 1) ws) (k + 1) (channel_written s f (slice_index ws k)) else Err k)
unfolding read_channels
one_more ws f fs k s l = ap (λ (xs : List ℕ). read_channels (f ∷ fs) xs k s) (at_index ws k l)

pub fit_read : (ws : List ℕ) (fs : List ChannelField) (k : ℕ) (s : State) → k + length fs ≤ length ws → ChannelsFit (slice_index ws) fs k s
    → read_channels fs (drop k ws) k s ≡ Ok (channels_by (slice_index ws) fs k s)
unfolding read_channels
fit_read ws [] k s l h = refl
fit_read ws (f ∷ fs) k s l h =
    let w = slice_index ws k in
    let rest = read_channels fs (drop (k + 1) ws) (k + 1) (channel_written s f w) in
    one_more ws f fs k s (omega arith)
    ∙ ap (λ (t : Bool). if t then rest else Err k) (eq-eqb (channel_word (channel_written s f w) f) w h.0)
    ∙ fit_read ws fs (k + 1) (channel_written s f w) (omega arith) h.1

pub read_fit : (ws : List ℕ) (fs : List ChannelField) (k : ℕ) (s u : State) → k + length fs ≤ length ws → read_channels fs (drop k ws) k s ≡ Ok u
    → ChannelsFit (slice_index ws) fs k s × (channels_by (slice_index ws) fs k s ≡ u)
unfolding read_channels
read_fit ws [] k s u l e = (tt, same_state s u e)
read_fit ws (f ∷ fs) k s u l e =
    let w = slice_index ws k in
    let parts = passed (channel_fits s f w) k (read_channels fs (drop (k + 1) ws) (k + 1) (channel_written s f w)) u (sym (one_more ws f fs k s (omega arith)) ∙ e) in
    let rest = read_fit ws fs (k + 1) (channel_written s f w) u (omega arith) parts.1 in
    ((eqb-true (channel_word (channel_written s f w) f) w parts.0, rest.0), rest.1)

-- ---- words of a list

-- words that begin with those of channels
pub words_told : (ws : List ℕ) (fs : List ChannelField) (k : ℕ) (s : State) (rest : List ℕ) → drop k ws ≡ map (channel_word s) fs ++ rest → ChannelsTold (slice_index ws) fs k s
words_told ws [] k s rest e = tt
words_told ws (f ∷ fs) k s rest e =
    let both = first_of ws k (channel_word s f) (map (channel_word s) fs ++ rest) e in (sym both.0, words_told ws fs (k + 1) s rest both.1)

pub told_words : (ws : List ℕ) (fs : List ChannelField) (k n : ℕ) (s : State) → k + length fs ≡ n → n ≤ length ws → ChannelsTold (slice_index ws) fs k s → drop k ws ≡ map (channel_word s) fs ++ drop n ws
told_words ws [] k n s e l h = let same : k ≡ n = omega arith in ap (λ (i : ℕ). drop i ws) same
told_words ws (f ∷ fs) k n s e l h =
    at_index ws k (omega arith) ∙ ap (λ (w : ℕ). w ∷ drop (k + 1) ws) (sym h.0) ∙ ap (λ (xs : List ℕ). channel_word s f ∷ xs) (told_words ws fs (k + 1) n s (omega arith) l h.1)

-- ---- what is told by its word

module _ (v : ℕ → ℕ) where
  stays : (fs : List ChannelField) (k : ℕ) (s : State) → ChannelsLeave v fs k s → channels_by v fs k s ≡ s
  stays [] k s h = refl
  stays (f ∷ fs) k s h = ap (channels_by v fs (k + 1)) h.0 ∙ stays fs (k + 1) s h.1

  leave_fit : (fs : List ChannelField) (k : ℕ) (s : State) → ChannelsTold v fs k s → ChannelsLeave v fs k s → ChannelsFit v fs k s
  leave_fit [] k s h m = tt
  leave_fit (f ∷ fs) k s h m = (ap (λ (t : State). channel_word t f) m.0 ∙ h.0, subst (ChannelsFit v fs (k + 1)) (sym m.0) (leave_fit fs (k + 1) s h.1 m.1))

  pub told_leave : (fs : List ChannelField) (k : ℕ) (s : State) → ((j : ℕ) (f : ChannelField) → slice_get fs j ≡ Some f → IsChannelTold s f) → ChannelsTold v fs k s → ChannelsLeave v fs k s
  told_leave [] k s all h = tt
  told_leave (f ∷ fs) k s all h = (ap (channel_written s f) (sym h.0) ∙ (all 0 f refl).1, told_leave fs (k + 1) s (λ j g e. all (suc j) g e) h.1)

  pub leave_told : (fs : List ChannelField) (k : ℕ) (s : State) → ((j : ℕ) → v j < 2 ^ 32) → ChannelsTold v fs k s → ChannelsLeave v fs k s → (j : ℕ) (f : ChannelField) → slice_get fs j ≡ Some f → IsChannelTold s f
  leave_told [] k s small h m j f e = cc
  leave_told (g ∷ fs) k s small h m zero f e =
      let same : g ≡ f = cc in
      let below = small k in
      let is = h.0 in
      subst (IsChannelTold s) same ((omega arith, ap (channel_written s g) h.0 ∙ m.0))
  leave_told (g ∷ fs) k s small h m (suc j) f e = leave_told fs (k + 1) s small h.1 m.1 j f e

  -- ---- all channels of a board

  -- what the words make of channels
  abbrev pub channels_from : Bool → ℕ → State → Channels
  channels_from mover k s = channels_of (channels_by v (channel_fields mover) k s).core

  pub channels_are : (mover : Bool) (k : ℕ) (s : State) → channels_by v (channel_fields mover) k s ≡ with_channels_in s (channels_from mover k s)
  channels_are true k s = refl
  channels_are false k s = refl

  -- words that fit are told in the end, and none changes it any more
  pub fit_told : (mover : Bool) (k : ℕ) (s : State) → ChannelsFit v (channel_fields mover) k s → ChannelsTold v (channel_fields mover) k (with_channels_in s (channels_from mover k s))
  fit_told true k s h = h
  fit_told false k s h = tt

  pub fit_leave : (mover : Bool) (k : ℕ) (s : State) → ChannelsLeave v (channel_fields mover) k (with_channels_in s (channels_from mover k s))
  fit_leave true k s = (refl, (refl, (refl, (refl, (refl, (refl, (refl, (refl, tt))))))))
  fit_leave false k s = tt

  -- without a mover they stay
  pub still_from : (mover : Bool) (k : ℕ) (s : State) → mover ≡ false → channels_from mover k s ≡ channels_of s.core
  still_from false k s e = refl
  still_from true k s e = cc

  -- words of a state fit another one, too, and make the same of it
  pub told_fit : (mover : Bool) (k : ℕ) (t s : State) → ChannelsTold v (channel_fields mover) k s → ChannelsLeave v (channel_fields mover) k s → ChannelsFit v (channel_fields mover) k t
  told_fit true k t s h m = leave_fit (channel_fields true) k s h m
  told_fit false k t s h m = tt

  pub told_alike : (mover : Bool) (k : ℕ) (t s : State) → ChannelsLeave v (channel_fields mover) k s → (mover ≡ false → channels_of s.core ≡ channels_of t.core)
      → channels_by v (channel_fields mover) k t ≡ with_channels_in t (channels_of s.core)
  told_alike true k t s m still = ap (λ (x : State). with_channels_in t (channels_of x.core)) (stays (channel_fields true) k s m)
  told_alike false k t s m still = ap (with_channels_in t) (sym (still refl))

-- ---- a state whose channels are as at boot

pub start_told : (s : State) → channels_of s.core ≡ still_channels → (f : ChannelField) → IsChannelTold s f
start_told s e f =
    subst (λ (x : State). IsChannelTold x f) (ap (with_channels_in s) (sym e)) (go f.side f.register)
  where
    n : 0 < 2 ^ 32
    n = omega arith

    go : (side : Side) (register : MoverRegister) → IsChannelTold (with_channels_in s still_channels) (record { side = side; register = register })
    go Secure Src = (n, refl)
    go Secure Dst = (n, refl)
    go Secure Count = (n, refl)
    go Secure Ctrl = (n, refl)
    go NonSecure Src = (n, refl)
    go NonSecure Dst = (n, refl)
    go NonSecure Count = (n, refl)
    go NonSecure Ctrl = (n, refl)
