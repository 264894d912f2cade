-- Look-ups are what the definitions say: those of a block that are made of one of its bytes, and all places after
-- one more is kept.
use Rattle.std.proofs.Common.{◌≡◌, ℕ, zero, suc, ◌≤◌, ◌/◌, ◌%◌, ◌^◌, ◌<◌, ◌⊎◌, inl, inr, ⊎_elim, Bool, true, false, ◌&&◌, ◌||◌, List, [], ◌∷◌, Option, None, Some, length, set, get_or, replicate, refl, sym, ap, ◌∙◌, subst, arith}
use Rattle.std.specs.Prelude.{IfSome, MatchOption, slice_index_or, slice_set}
use Rattle.std.specs.Option.{is_some}
use Rattle.std.proofs.lemmas.Bool.Decides.{nat_tests}
use Rattle.std.proofs.lemmas.List.{get_or_past}
use Rattle.tz_table.specs.declared.units.Side.{Side}
use Rattle.tz_table.specs.declared.units.Side.TheVariants.{Secure, NonSecure}
use Rattle.tz_model.specs.Board.{are_regions}
use Rattle.tz_regs.specs.Banks.{of_side}
use Rattle.tz_state.specs.declared.request.Kind.{Kind}
use Rattle.tz_state.specs.declared.request.Kind.TheVariants.{Read, Write, Fetch}
use Rattle.tz_state.specs.Attribution.{MapState, is_open}
use Rattle.tz_state.specs.declared.units.SauRegister.{SauRegister}
use Rattle.tz_state.specs.declared.units.MpuRegister.{MpuRegister}
use Rattle.tz_sau.specs.Unit as saus
use Rattle.tz_sau.specs.Unit.{SauValue}
use Rattle.tz_mpu.specs.Units as mpus
use Rattle.tz_mpu.specs.Units.{MpuValue}
use Rattle.tz_access.specs.declared.look_up.Who.{Who}
use Rattle.tz_access.specs.declared.look_up.LookUp.{LookUp}
use Rattle.tz_access.specs.declared.look_up.LookUps.{LookUps}
use Rattle.tz_table.specs.declared.units.Size.{Size}
use Rattle.tz_state.specs.declared.request.Request.{Request}
use Rattle.tz_state.specs.Memory.{every}
use Rattle.tz_state.specs.Protection.{permits}
use Rattle.tz_state.specs.State.{Bus, mpu_of}
use Rattle.tz_state.specs.Access.{may_touch, is_let, lets, is_private}
use Rattle.tz_access.specs.Checks.{IsByBlocks, last_of}
use Rattle.tz_access.specs.Keys.{key_of, who_of}
use Rattle.tz_access.specs.Places.{none_kept, places_for, or_else, kept_at, with_look_up, who_accesses, IsHeld, Holds}
use Rattle.tz_access.specs.LookUps.{Guards, admits_by, admits_data, grants, Tells, IsSeen, AreSeen}
use Rattle.tz_access.proofs.Blocks.{every_by_ends, open_by_blocks, own_by_blocks, lets_by_blocks, permission_blocks}

true_false : true ≡ false → ⊥
true_false e = grind arith

-- ---- who asks

asked : (fetch : Bool) (side : Side) (privileged negative : Bool) → (let w : Who = record { fetch = fetch; side = side; privileged = privileged; negative = negative } in who_of (key_of w) ≡ w)
unfolding key_of who_of
asked true Secure true true = refl
asked true Secure true false = refl
asked true Secure false true = refl
asked true Secure false false = refl
asked true NonSecure true true = refl
asked true NonSecure true false = refl
asked true NonSecure false true = refl
asked true NonSecure false false = refl
asked false Secure true true = refl
asked false Secure true false = refl
asked false Secure false true = refl
asked false Secure false false = refl
asked false NonSecure true true = refl
asked false NonSecure true false = refl
asked false NonSecure false true = refl
asked false NonSecure false false = refl

pub who_by_key : (k : ℕ) (w : Who) → k ≡ key_of w → who_of k ≡ w
who_by_key k w e = ap who_of e ∙ asked w.fetch w.side w.privileged w.negative

-- ---- one look-up

below_private : (a : ℕ) → a < 0xE0000000 → is_private a ≡ false
below_private a below = grind (arith, nat_tests)

and_self : (p : Bool) → (p && p) ≡ p
and_self true = refl
and_self false = refl

data_admitted : (side : Side) (m : MapState) (a b : ℕ) → are_regions m.regions ≡ true → a / 32 ≡ b / 32 → admits_data side m a ≡ admits_data side m b
data_admitted Secure m a b is e = refl
data_admitted NonSecure m a b is e = (open_by_blocks m is).same a b e

block_admitted : (fetch : Bool) (m : MapState) (side : Side) (a b : ℕ) → are_regions m.regions ≡ true → a / 32 ≡ b / 32 → admits_by fetch m side a ≡ admits_by fetch m side b
block_admitted true m side a b is e = (own_by_blocks m side is).same a b e
block_admitted false m side a b is e = data_admitted side m a b is e

block_granted : (g : Guards) (kind : Kind) (who : Who) (a b : ℕ) → a / 32 ≡ b / 32 → grants g kind who a ≡ grants g kind who b
block_granted g kind who a b e =
    ap is_some (permission_blocks g.profile (of_side who.side g.mpu_s g.mpu_ns) a b kind who.privileged who.negative e)

-- what is said of one byte is said of its block
pub seen_block : (g : Guards) (k : LookUp) (a : ℕ) → are_regions g.map.regions ≡ true → a < 2 ^ 32 → k.block ≡ a / 32 → Tells g (who_of k.key) a k → IsSeen g k
seen_block g k a is small block tells = record {
  block = omega (arith, small, block);
  tells = λ b e. (
    tells.0 ∙ block_admitted (who_of k.key).fetch g.map (who_of k.key).side a b is (sym (e ∙ block)),
    tells.1 ∙ block_granted g Read (who_of k.key) a b (sym (e ∙ block)),
    tells.2 ∙ block_granted g Write (who_of k.key) a b (sym (e ∙ block)),
    tells.3 ∙ block_granted g Fetch (who_of k.key) a b (sym (e ∙ block)),
  );
}

-- ---- an access within a block

last_same : (p : ℕ → Bool) (a b : ℕ) → IsByBlocks p → a / 32 ≡ b / 32 → (p a && p b) ≡ p a
last_same p a b is e = ap (λ q. p a && q) (sym (is.same a b e)) ∙ and_self (p a)

every_in_block : (p : ℕ → Bool) (a : ℕ) (size : Size) → IsByBlocks p → a < 2 ^ 32 → a / 32 ≡ last_of size a / 32 → every p a size ≡ p a
every_in_block p a size is small e = every_by_ends p a size is small ∙ last_same p a (last_of size a) is e

pub touch_in_block : (m : MapState) (side : Side) (size : Size) (a : ℕ) → are_regions m.regions ≡ true → a < 2 ^ 32 → a / 32 ≡ last_of size a / 32 → may_touch m side size a ≡ admits_data side m a
unfolding may_touch
touch_in_block m Secure size a is small e = refl
touch_in_block m NonSecure size a is small e = every_in_block (is_open m) a size (open_by_blocks m is) small e

-- outside the private peripheral space, of which no MPU is asked
pub let_in_block : (b : Bus) (q : Request) → q.addr < 2 ^ 32 → q.addr / 32 ≡ last_of q.size q.addr / 32 → q.addr < 0xE0000000 → is_let b q ≡ permits b.board.profile (mpu_of q.side b) q.addr q.kind q.privileged q.negative
unfolding is_let
let_in_block b q small e below =
    every_in_block (lets b q) q.addr q.size (lets_by_blocks b q) small e
    ∙ ap (λ p. p || permits b.board.profile (mpu_of q.side b) q.addr q.kind q.privileged q.negative) (below_private q.addr below)

-- ---- the places

some_is : {A : Type 0} (x y : A) → Some x ≡ Some y → x ≡ y
some_is x y e = grind arith

none_is_some : {A : Type 0} (x : A) → None ≡ Some x → ⊥
none_is_some x e = grind arith

same_at : (o : Option LookUp) (n index : ℕ) → get_or (replicate n o) index o ≡ o
same_at o zero index = refl
same_at o (suc n) zero = refl
same_at o (suc n) (suc index) = same_at o n index

-- what is kept, of blocks as data and as code
abbrev BothSeen : Guards → LookUps → Type 0
BothSeen g kept = AreSeen g kept.data_places × AreSeen g kept.code_places

data_same : (k l : LookUps) → k ≡ l → k.data_places ≡ l.data_places
data_same k l e = ap (λ (m : LookUps). m.data_places) e

code_same : (k l : LookUps) → k ≡ l → k.code_places ≡ l.code_places
code_same k l e = ap (λ (m : LookUps). m.code_places) e

same_seen : (g : Guards) (places after : List (Option LookUp)) → after ≡ places → AreSeen g places → AreSeen g after
same_seen g places after e are = subst (λ (ps : List (Option LookUp)). AreSeen g ps) (sym e) are

-- where nothing is kept
nothing_seen : (g : Guards) (places : List (Option LookUp)) → places ≡ replicate 16 None → AreSeen g places
nothing_seen g places e = record {
  place = λ index k at. absurd (none_is_some k (sym (same_at None 16 index) ∙ ap (λ (ps : List (Option LookUp)). get_or ps index None) (sym e) ∙ at));
  seen = λ index k at. absurd (none_is_some k (sym (same_at None 16 index) ∙ ap (λ (ps : List (Option LookUp)). get_or ps index None) (sym e) ∙ at));
}

pub none_seen : (g : Guards) (kept : LookUps) → kept ≡ none_kept → BothSeen g kept
none_seen g kept e = (nothing_seen g kept.data_places (data_same kept none_kept e), nothing_seen g kept.code_places (code_same kept none_kept e))

-- what stands at a place after a write is what was written, there, or what stood there
at_set : (places : List (Option LookUp)) (i j : ℕ) (k e : LookUp) → get_or (set places i (Some k)) j None ≡ Some e → ((j ≡ i) × (k ≡ e)) ⊎ (get_or places j None ≡ Some e)
at_set [] i j k e at = inr at
at_set (p ∷ ps) zero zero k e at = inl (refl, some_is k e at)
at_set (p ∷ ps) zero (suc j) k e at = inr at
at_set (p ∷ ps) (suc i) zero k e at = inr at
at_set (p ∷ ps) (suc i) (suc j) k e at = ⊎_elim (λ same. inl (ap suc same.0, same.1)) (λ old. inr old) (at_set ps i j k e at)

-- one more is kept
one_more_seen : (g : Guards) (places after : List (Option LookUp)) (k : LookUp) → after ≡ slice_set places (k.block % 16) (Some k) → AreSeen g places → IsSeen g k → AreSeen g after
one_more_seen g places after k e are is = record {
  place = λ index other at.
      ⊎_elim (λ same. ap (λ (l : LookUp). l.block % 16) (sym same.1) ∙ sym same.0) (λ old. are.place index other old)
      (at_set places (k.block % 16) index k other (ap (λ (ps : List (Option LookUp)). get_or ps index None) (sym e) ∙ at));
  seen = λ index other at.
      ⊎_elim (λ same. subst (λ (l : LookUp). IsSeen g l) same.1 is) (λ old. are.seen index other old)
      (at_set places (k.block % 16) index k other (ap (λ (ps : List (Option LookUp)). get_or ps index None) (sym e) ∙ at));
}

pub more_seen : (g : Guards) (fetch : Bool) (kept after : LookUps) (k : LookUp) → after ≡ with_look_up fetch kept k → AreSeen g kept.data_places → AreSeen g kept.code_places → IsSeen g k → BothSeen g after
more_seen g true kept after k e of_data of_code is =
    (same_seen g kept.data_places after.data_places (data_same after (with_look_up true kept k) e) of_data, one_more_seen g kept.code_places after.code_places k (code_same after (with_look_up true kept k) e) of_code is)
more_seen g false kept after k e of_data of_code is =
    (one_more_seen g kept.data_places after.data_places k (data_same after (with_look_up false kept k) e) of_data is, same_seen g kept.code_places after.code_places (code_same after (with_look_up false kept k) e) of_code)

-- registers of a unit may have been written: where that is told, nothing is kept any more
pub changed_seen : (g h : Guards) (changed : Bool) (kept after : LookUps) → (changed ≡ false → g ≡ h) → (changed ≡ true → after ≡ none_kept) → (changed ≡ false → after ≡ kept) → AreSeen g kept.data_places → AreSeen g kept.code_places → BothSeen h after
changed_seen g h true kept after same emptied left of_data of_code = none_seen h after (emptied refl)
changed_seen g h false kept after same emptied left of_data of_code =
    subst (λ (i : Guards). BothSeen i after) (same refl)
    (same_seen g kept.data_places after.data_places (data_same after kept (left refl)) of_data, same_seen g kept.code_places after.code_places (code_same after kept (left refl)) of_code)

-- what is found among the places of blocks as code, or as data
pub found_seen : (g : Guards) (kept : LookUps) (fetch : Bool) (index : ℕ) (k : LookUp) → AreSeen g kept.data_places → AreSeen g kept.code_places → slice_index_or (places_for fetch kept) index None ≡ Some k → IsSeen g k
found_seen g kept true index k of_data of_code at = of_code.seen index k at
found_seen g kept false index k of_data of_code at = of_data.seen index k at

pub found_tells : (g : Guards) (kept : LookUps) (who : Who) (a : ℕ) (found : Option LookUp) → AreSeen g kept.data_places → AreSeen g kept.code_places → IfSome found (λ k. IsHeld kept who (a / 32) k) → IfSome found (λ k. Tells g who a k)
found_tells g kept who a None of_data of_code is = tt
found_tells g kept who a (Some k) of_data of_code is =
    subst (λ (w : Who). Tells g w a k) is.2 ((found_seen g kept who.fetch (a / 32 % 16) k of_data of_code is.0).tells a (sym is.1))

-- what is told of a place is of one of its blocks, and was seen
pub told_seen : (g : Guards) (kept : LookUps) (index : ℕ) (k : LookUp) → AreSeen g kept.data_places → AreSeen g kept.code_places → kept_at kept index ≡ Some k → (k.block % 16 ≡ index) × IsSeen g k
told_seen g kept index k of_data of_code at = by (slice_index_or kept.data_places index None) refl at where
  by : (o : Option LookUp) → slice_index_or kept.data_places index None ≡ o → or_else o (slice_index_or kept.code_places index None) ≡ Some k → (k.block % 16 ≡ index) × IsSeen g k
  by None e f = (of_code.place index k f, of_code.seen index k f)
  by (Some x) e f = (of_data.place index k (e ∙ f), of_data.seen index k (e ∙ f))

-- there are 16 places
pub none_past : (kept : LookUps) (index : ℕ) → length kept.data_places ≡ 16 → length kept.code_places ≡ 16 → 16 ≤ index → kept_at kept index ≡ None
none_past kept index many as_many past =
    ap (λ (o : Option LookUp). or_else o (slice_index_or kept.code_places index None)) (get_or_past kept.data_places index None (omega arith))
    ∙ get_or_past kept.code_places index None (omega arith)

-- the look-up of an access, found as data
pub holds_held : (kept : LookUps) (q : Request) (one : LookUp) → IsHeld kept (who_accesses q) (q.addr / 32) one → Holds kept q
holds_held kept q one is = record {
  held = subst (λ (o : Option LookUp). MatchOption o ⊥ (λ (l : LookUp). (l.block ≡ q.addr / 32) × (who_of l.key ≡ who_accesses q))) (sym is.0) (is.1, is.2);
}

-- ---- a write at an address, after which it is asked whether a register was written: what isn't told as written stays

sau_stays : (s : SauValue) (register : Option SauRegister) (value : ℕ) → (saus.with_written s register value).changed ≡ false → (saus.with_written s register value).sau ≡ s.sau
sau_stays s None value e = refl
sau_stays s (Some register) value e = absurd (true_false e)

pub sau_left : (s written taken : SauValue) (register : Option SauRegister) (value : ℕ) (changed : Bool) → written ≡ saus.with_written s register value → changed ≡ written.changed → taken ≡ record written { changed = false } → changed ≡ false → s.sau ≡ taken.sau
sau_left s written taken register value changed is told rest e =
    sym (ap (λ (v : SauValue). v.sau) rest ∙ ap (λ (v : SauValue). v.sau) is
    ∙ sau_stays s register value (sym (ap (λ (v : SauValue). v.changed) is) ∙ sym told ∙ e))

regions_stay : (s : SauValue) (register : Option SauRegister) (value : ℕ) → (saus.with_written s register value).regions ≡ s.regions
regions_stay s None value = refl
regions_stay s (Some register) value = refl

pub regions_left : (s written taken : SauValue) (register : Option SauRegister) (value : ℕ) → written ≡ saus.with_written s register value → taken ≡ record written { changed = false } → taken.regions ≡ s.regions
regions_left s written taken register value is rest =
    ap (λ (v : SauValue). v.regions) rest ∙ ap (λ (v : SauValue). v.regions) is ∙ regions_stay s register value

mpu_stays : (m : MpuValue) (register : Option MpuRegister) (value : ℕ) → (mpus.with_written m register value).changed ≡ false → (mpus.with_written m register value).mpu ≡ m.mpu
mpu_stays m None value e = refl
mpu_stays m (Some register) value e = absurd (true_false e)

pub mpu_left : (m written taken : MpuValue) (register : Option MpuRegister) (value : ℕ) (changed : Bool) → written ≡ mpus.with_written m register value → changed ≡ written.changed → taken ≡ record written { changed = false } → changed ≡ false → m.mpu ≡ taken.mpu
mpu_left m written taken register value changed is told rest e =
    sym (ap (λ (v : MpuValue). v.mpu) rest ∙ ap (λ (v : MpuValue). v.mpu) is
    ∙ mpu_stays m register value (sym (ap (λ (v : MpuValue). v.changed) is) ∙ sym told ∙ e))

profile_stays : (m : MpuValue) (register : Option MpuRegister) (value : ℕ) → (mpus.with_written m register value).profile ≡ m.profile
profile_stays m None value = refl
profile_stays m (Some register) value = refl

pub profile_left : (m written taken : MpuValue) (register : Option MpuRegister) (value : ℕ) → written ≡ mpus.with_written m register value → taken ≡ record written { changed = false } → taken.profile ≡ m.profile
profile_left m written taken register value is rest =
    ap (λ (v : MpuValue). v.profile) rest ∙ ap (λ (v : MpuValue). v.profile) is ∙ profile_stays m register value
