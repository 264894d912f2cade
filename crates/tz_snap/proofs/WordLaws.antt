-- The words of a state of a board make that state again, and words that make one are its words.
use Rattle.std.proofs.Common.{◌≡◌, ⊎_elim, ℕ, ◌+◌, ◌-◌, ◌^◌, ◌<◌, ◌≤◌, nat_le, false, List, ◌++◌, length, drop, map, Result, Ok, Err, refl, sym, ap, ◌∙◌, subst, arith, append_assoc, length-append, length-drop}
use Rattle.std.specs.Prelude.{slice_index, slice_index_or, replicate}
use Rattle.std.proofs.lemmas.Bool.{and_parts, cases_lt, leb-true}
use Rattle.std.proofs.lemmas.List.{drop_at, length-map, length-replicate, get_or-replicate, get_or_past}
use Rattle.std.proofs.lemmas.Option.{slice_get-get_or}
use Rattle.tz_model.specs.declared.channel.Channels.{Channels}
use Rattle.tz_model.specs.Board.{BoardValue, IsBoard, within}
use Rattle.tz_regs.specs.Banks.{channels_of}
use Rattle.tz_state.specs.Memory.{Memory}
use Rattle.tz_state.specs.declared.slot.SlotState.{SlotState}
use Rattle.tz_state.specs.State.{State}
use Rattle.tz_state.specs.Slots.{places, idle}
use Rattle.tz_state.specs.Regions.{no_bounds}
use Rattle.tz_state.specs.UnitRegisters.{bounds_of, reset_sau, reset_mpu}
use Rattle.tz_state.specs.Zeros.{zero_memory}
use Rattle.tz_fields.specs.Fields.{fields, slot_places, channel_fields}
use Rattle.tz_fields.specs.StateWords.{word_of, slot_word, channel_word, memory_words, state_words, field_count, slot_count, channel_count, word_count}
use Rattle.tz_fields.specs.ReadWords.{AreWords, IsState, blank, read_fields, read_slots, read_channels, read_words, and_slots, and_channels, with_regions}
use Rattle.tz_snap.proofs.Counts.{fields_count, slots_count, channels_count, state_count}
use Rattle.tz_snap.proofs.Words.{fewer_words}
use Rattle.tz_snap.proofs.FieldsRead.{Each, Has, words_told, told_words, told_settled, settled_told}
use Rattle.tz_snap.proofs.FieldsRead as one_field
use Rattle.tz_snap.proofs.SlotsRead.{ArePlaces, SlotsTold, SlotsMade, SlotsFit, slots_by, with_slots, is_in, length_by, others_stay, fit_told, all_told, told_made, told_fit, made_alike, board_places, places_are}
use Rattle.tz_snap.proofs.SlotsRead as one_slot
use Rattle.tz_snap.proofs.ChannelsRead.{with_channels_in, ChannelsTold, ChannelsLeave, ChannelsFit, channels_from, channels_are, told_leave, leave_told, fit_leave, told_alike, still_from}
use Rattle.tz_snap.proofs.ChannelsRead as one_channel
use Rattle.tz_snap.proofs.MemoryRead.{IsMade, memory_made, memory_back}
use Rattle.tz_snap.proofs.AllFields.{HasUnits, AllFit, each_fits, all_written, starts_of, units_from}
use Rattle.tz_snap.proofs.FieldLaws.{fields_accepted, made, made_told, made_settled}
use Rattle.tz_snap.proofs.Groups.{all_done, grafted}
use Rattle.tz_snap.proofs.UnitBounds.{length_from}

-- ---- a board's state to read into

blank_sau : (b : BoardValue) → length b.sau ≤ b.sau_regions → length (reset_sau b.sau_regions b.sau).regions ≡ b.sau_regions
unfolding reset_sau
blank_sau b few =
    let one = length-append (map bounds_of b.sau) (replicate (b.sau_regions - length b.sau) no_bounds) in
    let two = length-map b.sau bounds_of in
    let three = length-replicate (b.sau_regions - length b.sau) no_bounds in
    omega arith

pub blank_units : (b : BoardValue) (m : Memory) → IsBoard b → HasUnits b (blank b m)
unfolding reset_mpu
blank_units b m h = record {
  secure = length-replicate b.mpu_secure no_bounds;
  nonsecure = length-replicate b.mpu_nonsecure no_bounds;
  sau = blank_sau b (leb-true (length b.sau) b.sau_regions h.few_sau);
}

pub few_places : (b : BoardValue) → IsBoard b → 32 + b.interrupts ≤ places
few_places b h =
    let one = and_parts (within 1 240 b.interrupts) _ h.counts in
    let most = leb-true b.interrupts 240 (and_parts (nat_le 1 b.interrupts) (nat_le b.interrupts 240) one.0).1 in
    omega arith

-- where fields, slots and channels end
field_end : (b : BoardValue) → 0 + length (fields b) ≡ field_count b
field_end b = let count = fields_count b in omega arith

slot_end : (b : BoardValue) → field_count b + length (slot_places b.interrupts) ≡ field_count b + slot_count b
slot_end b = let count = slots_count b.interrupts in omega arith

channel_end : (b : BoardValue) → field_count b + slot_count b + length (channel_fields b.mover) ≡ field_count b + slot_count b + channel_count b
channel_end b = let count = channels_count b.mover in omega arith

pub idle_slots : (i : ℕ) → i < places → slice_index_or (replicate places idle) i idle ≡ idle
idle_slots i l = get_or-replicate places i idle idle l

blank_places : (b : BoardValue) → IsBoard b → ArePlaces (slot_places b.interrupts) (length (replicate places idle))
blank_places b h = subst (ArePlaces (slot_places b.interrupts)) (sym (length-replicate places idle)) (board_places b.interrupts places (few_places b h))

-- ---- the words of a state

units_of : (b : BoardValue) (s : State) → IsState b s → HasUnits b s
units_of b s h = record { secure = h.mpu_secure; nonsecure = h.mpu_nonsecure; sau = h.sau }

back_on : (s : State) → IsBoard s.bus.board → IsState s.bus.board s → read_words s.bus.board (state_words s) ≡ Ok s
unfolding read_words state_words
back_on s board h =
    let b = s.bus.board in
    let places = slot_places b.interrupts in
    let first = map (word_of s) (fields b) in
    let second = map (slot_word s.exceptions) places in
    let third = map (channel_word s) (channel_fields b.mover) in
    let fourth = memory_words s.bus.memory b.regions in
    let ws : List ℕ = first ++ (second ++ (third ++ fourth)) in
    let v = slice_index ws in
    let i = field_count b in
    let j : ℕ = field_count b + slot_count b in
    let n : ℕ = field_count b + slot_count b + channel_count b in
    let count : length ws ≡ word_count b = state_count s in
    let size : length first ≡ i = length-map (fields b) (word_of s) ∙ fields_count b in
    let size' : length second ≡ slot_count b = length-map places (slot_word s.exceptions) ∙ slots_count b.interrupts in
    let size'' : length third ≡ channel_count b = length-map (channel_fields b.mover) (channel_word s) ∙ channels_count b.mover in
    let at_slots : drop i ws ≡ second ++ (third ++ fourth) = drop_at first (second ++ (third ++ fourth)) i size in
    let both = length-append first second in
    let at_channels : drop j ws ≡ third ++ fourth =
    ap (drop j) (sym (append_assoc first second (third ++ fourth))) ∙ drop_at (first ++ second) (third ++ fourth) j (omega arith) in
    let three = length-append (first ++ second) third in
    let at_memory : drop n ws ≡ fourth =
    ap (drop n) (sym (append_assoc first second (third ++ fourth)) ∙ sym (append_assoc (first ++ second) third fourth)) ∙ drop_at ((first ++ second) ++ third) fourth n (omega arith) in
    let m = with_regions (zero_memory b.regions) b.regions (drop n ws) in
    let memory : m ≡ s.bus.memory = ap (with_regions (zero_memory b.regions) b.regions) at_memory ∙ memory_back b.regions s.bus.memory board.regions h.mapped h.bytes in
    let t = blank b m in
    let told : Each (Has v s) (fields b) 0 = words_told ws (fields b) 0 s (second ++ (third ++ fourth)) refl in
    let settled = told_settled v (fields b) 0 s h.fields told in
    let accepted = fields_accepted v t (replicate 13 0) (blank_units b m board) s (units_of b s h) refl h.general told settled in
    let g = grafted t s.bus.monitor s in
    let end = field_end b in
    let fields_read : read_fields (fields b) ws 0 t ≡ Ok g = one_field.fit_read ws (fields b) 0 t (omega arith) accepted.0 ∙ ap Ok accepted.1 in
    let slots = s.exceptions.slots in
    let fresh = replicate 272 idle in
    let told' : SlotsTold v places i slots = one_slot.words_told ws places i s.exceptions (third ++ fourth) at_slots in
    let there : ArePlaces places (length slots) = subst (ArePlaces places) (sym h.slots) (board_places b.interrupts 272 (few_places b board)) in
    let made = told_made v places i s there told' h.slot_fields in
    let long : length fresh ≡ length slots = length-replicate 272 idle ∙ sym h.slots in
    let alike : slots_by v places i fresh ≡ slots =
    made_alike v places i fresh slots long (blank_places b board) made (λ q l out.
    idle_slots q (omega (arith, l, length-replicate 272 idle))
    ∙ sym (h.others q (omega (arith, l, length-replicate 272 idle)) (sym (places_are s.exceptions q) ∙ ap (λ (x : ℕ). is_in q (slot_places x)) h.interrupts ∙ out)))
    in
    let end' = slot_end b in
    let p = with_slots g slots in
    let slots_read : read_slots places (drop i ws) i g ≡ Ok p =
    one_slot.fit_read ws places i g (omega arith) (told_fit v places i fresh slots (blank_places b board) told' made) ∙ ap Ok (ap (with_slots g) alike) in
    let told'' : ChannelsTold v (channel_fields b.mover) j s = one_channel.words_told ws (channel_fields b.mover) j s fourth at_channels in
    let leave : ChannelsLeave v (channel_fields b.mover) j s = told_leave v (channel_fields b.mover) j s h.channels told'' in
    let still : b.mover ≡ false → channels_of s.core ≡ channels_of p.core = λ e. λ q. record { secure = (h.still e).0 q; nonsecure = (h.still e).1 q } in
    let end'' = channel_end b in
    let channels_read : read_channels (channel_fields b.mover) (drop j ws) j p ≡ Ok (with_channels_in p (channels_of s.core)) =
    one_channel.fit_read ws (channel_fields b.mover) j p (omega arith) (one_channel.told_fit v b.mover j p s told'' leave) ∙ ap Ok (told_alike v b.mover j p s leave still) in
    let last : with_channels_in p (channels_of s.core) ≡ s = λ q. record s { exceptions = record s.exceptions { interrupts = sym h.interrupts q }; bus = record s.bus { memory = memory q } } in
    ap (λ r. and_channels b ws (and_slots b ws r)) fields_read
    ∙ ap (and_channels b ws) slots_read
    ∙ channels_read
    ∙ ap Ok last

pub words_back : (b : BoardValue) (s : State) → IsBoard b → IsState b s → read_words b (state_words s) ≡ Ok s
words_back b s board h =
    ap (λ (x : BoardValue). read_words x (state_words s)) (sym h.board)
    ∙ back_on s (subst IsBoard (sym h.board) board) (subst (λ (x : BoardValue). IsState x s) (sym h.board) h)

-- ---- words that make a state

both_read : (b : BoardValue) (ws : List ℕ) (r : Result State ℕ) (s : State) → and_slots b ws r ≡ Ok s
    → (g : State) × (r ≡ Ok g) × (read_slots (slot_places b.interrupts) (drop (field_count b) ws) (field_count b) g ≡ Ok s)
both_read b ws (Ok g) s e = (g, refl, e)
both_read b ws (Err k) s e = cc

all_read : (b : BoardValue) (ws : List ℕ) (r : Result State ℕ) (s : State) → and_channels b ws r ≡ Ok s
    → (g : State) × (r ≡ Ok g) × (read_channels (channel_fields b.mover) (drop (field_count b + slot_count b) ws) (field_count b + slot_count b) g ≡ Ok s)
all_read b ws (Ok g) s e = (g, refl, e)
all_read b ws (Err k) s e = cc

each_small : (ws : List ℕ) → AreWords ws → (j : ℕ) → slice_index ws j < 2 ^ 32
each_small ws h j =
    ⊎_elim (λ (l : j < length ws). h j (slice_index ws j) (slice_get-get_or ws j 0 l))
    (λ (l : length ws ≤ j). let none : slice_index ws j ≡ 0 = get_or_past ws j 0 l in omega arith)
    (cases_lt j (length ws))

module _ (b : BoardValue) (ws : List ℕ) (board : IsBoard b) (small : AreWords ws) (count : length ws ≡ word_count b) where
  abbrev m : Memory
  m = with_regions (zero_memory b.regions) b.regions (drop (field_count b + slot_count b + channel_count b) ws)

  abbrev t : State
  t = blank b m

  abbrev board_slots : List ℕ
  board_slots = slot_places b.interrupts

  abbrev behind : ℕ
  behind = field_count b + slot_count b

  abbrev fresh : List SlotState
  fresh = replicate 272 idle

  abbrev slots : List SlotState
  slots = slots_by (slice_index ws) board_slots (field_count b) fresh

  -- what fields and slots make
  abbrev most : State
  most = with_slots (all_done (slice_index ws) (starts_of b) (units_from (slice_index ws) b) t) slots

  abbrev channels : Channels
  channels = channels_from (slice_index ws) b.mover behind most

  -- what all make
  abbrev whole : State
  whole = made (slice_index ws) t (replicate 13 0) (blank_units b m board) slots channels

  abbrev Fits : Type 0
  Fits = AllFit (slice_index ws) t (replicate 13 0) (blank_units b m board)

  abbrev SlotsAllFit : Type 0
  SlotsAllFit = SlotsFit (slice_index ws) board_slots (field_count b) fresh

  abbrev ChannelsAllFit : Type 0
  ChannelsAllFit = ChannelsFit (slice_index ws) (channel_fields b.mover) behind most

  slots_fine : SlotsAllFit → SlotsTold (slice_index ws) board_slots (field_count b) slots × SlotsMade (slice_index ws) board_slots (field_count b) slots
  slots_fine h = fit_told (slice_index ws) board_slots (field_count b) fresh (blank_places b board) h

  channels_told : ChannelsAllFit → ChannelsTold (slice_index ws) (channel_fields b.mover) behind whole
  channels_told h = one_channel.fit_told (slice_index ws) b.mover behind most h

  whole_memory : IsMade b.regions (drop (field_count b + slot_count b + channel_count b) ws) m
  whole_memory =
      let n : ℕ = field_count b + slot_count b + channel_count b in
      let left = length-drop n ws in
      memory_made b.regions (drop n ws) board.regions board.apart (fewer_words n ws small) (omega arith)

  whole_words : Fits → SlotsAllFit → ChannelsAllFit → state_words whole ≡ ws
  unfolding state_words
  whole_words h i j =
      let told = made_told (slice_index ws) t (replicate 13 0) (blank_units b m board) slots channels h in
      let one : ws ≡ map (word_of whole) (fields b) ++ drop (field_count b) ws = told_words ws (fields b) 0 (field_count b) whole (field_end b) (omega arith) told in
      let two = one_slot.told_words ws board_slots (field_count b) behind whole.exceptions (slot_end b) (omega arith) (slots_fine i).0 in
      let three = one_channel.told_words ws (channel_fields b.mover) behind (behind + channel_count b) whole (channel_end b) (omega arith) (channels_told j) in
      sym (one ∙ ap (λ (xs : List ℕ). map (word_of whole) (fields b) ++ xs)
      (two ∙ ap (λ (xs : List ℕ). map (slot_word whole.exceptions) board_slots ++ xs)
      (three ∙ ap (λ (xs : List ℕ). map (channel_word whole) (channel_fields b.mover) ++ xs) (sym whole_memory.words))))

  whole_state : Fits → SlotsAllFit → ChannelsAllFit → IsState b whole
  whole_state h i j =
      let v = slice_index ws in
      let told = made_told v t (replicate 13 0) (blank_units b m board) slots channels h in
      let settled = made_settled v t (replicate 13 0) (blank_units b m board) slots channels h in
      let fine = slots_fine i in
      let leave : ChannelsLeave v (channel_fields b.mover) behind whole = fit_leave v b.mover behind most in
      record {
        board = refl;
        interrupts = refl;
        general = refl;
        slots = length_by v board_slots (field_count b) fresh ∙ length-replicate 272 idle;
        mpu_secure = length_from v (starts_of b).secure_mpu b.mpu_secure;
        mpu_nonsecure = length_from v (starts_of b).nonsecure_mpu b.mpu_nonsecure;
        sau = length_from v (starts_of b).sau b.sau_regions;
        fields = settled_told v (fields b) 0 whole (each_small ws small) told settled;
        slot_fields = all_told v board_slots (field_count b) whole fine.0 fine.1;
        channels = leave_told v (channel_fields b.mover) behind whole (each_small ws small) (channels_told j) leave;
        still = λ e. let stay = still_from v b.mover behind most e in (ap (λ (c : Channels). c.secure) stay, ap (λ (c : Channels). c.nonsecure) stay);
        others = λ q l out. others_stay v q board_slots (field_count b) fresh (places_are whole.exceptions q ∙ out) ∙ idle_slots q l;
        mapped = whole_memory.mapped;
        bytes = whole_memory.small;
      }

  pub words_only : (s : State) → read_words b ws ≡ Ok s → (state_words s ≡ ws) × IsState b s
  unfolding read_words
  words_only s e =
      let v = slice_index ws in
      let has = blank_units b m board in
      let ends = all_read b ws (and_slots b ws (read_fields (fields b) ws 0 t)) s e in
      let parts = both_read b ws (read_fields (fields b) ws 0 t) ends.0 ends.1 in
      let end = field_end b in
      let end' = slot_end b in
      let end'' = channel_end b in
      let one = one_field.read_fit ws (fields b) 0 t parts.0 (omega arith) parts.1 in
      let fit = each_fits v t (replicate 13 0) has one.0 in
      let all = all_done v (starts_of b) (units_from v b) t in
      let is : parts.0 ≡ all = sym one.1 ∙ all_written v t (replicate 13 0) has fit.kept in
      let read = subst (λ (x : State). read_slots board_slots (drop (field_count b) ws) (field_count b) x ≡ Ok ends.0) is parts.2 in
      let two = one_slot.read_fit ws board_slots (field_count b) all ends.0 (omega arith) read in
      let read' = subst (λ (x : State). read_channels (channel_fields b.mover) (drop behind ws) behind x ≡ Ok s) (sym two.1) ends.2 in
      let three = one_channel.read_fit ws (channel_fields b.mover) behind most s (omega arith) read' in
      let same : whole ≡ s = sym (channels_are v b.mover behind most) ∙ three.1 in
      (ap state_words (sym same) ∙ whole_words fit two.0 three.0, subst (IsState b) same (whole_state fit two.0 three.0))
