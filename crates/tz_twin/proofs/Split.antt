-- The split of a state in which Non-secure code runs: what is open to that code, and the rest. A new part
-- of the state goes into one of the two records here.
use Rattle.std.proofs.Common.{◌≡◌, ℕ, Bool, true, false, cond, Option, Some, None, refl, sym, ap, ◌∙◌, subst}
use mathlib.Core.Path.{fun_ext}
use Rattle.tz_table.specs.declared.units.Side.{Side}
use Rattle.tz_table.specs.declared.units.Side.TheVariants.{Secure, NonSecure}
use Rattle.tz_model.specs.declared.report.Sleep.{Sleep}
use Rattle.tz_model.specs.Board.{BoardValue}
use Rattle.tz_model.specs.Words.{is_nonsecure_side}
use Rattle.tz_regs.specs.declared.parts.Registers.{Registers}
use Rattle.tz_regs.specs.declared.parts.Stacks.{Stacks}
use Rattle.tz_regs.specs.declared.parts.Masks.{Masks}
use Rattle.tz_regs.specs.declared.parts.SideStatus.{SideStatus}
use Rattle.tz_regs.specs.declared.parts.SecurityStatus.{SecurityStatus}
use Rattle.tz_regs.specs.declared.parts.BusStatus.{BusStatus}
use Rattle.tz_state.specs.Memory.{Memory}
use Rattle.tz_state.specs.declared.request.Exclusive.{Exclusive}
use Rattle.tz_state.specs.Attribution.{SauState, MapState}
use Rattle.tz_state.specs.Protection.{MpuState}
use Rattle.tz_state.specs.Slots.{ExceptionsValue}
use Rattle.tz_state.specs.State.{Bus, State, map_of, side_of}
use Rattle.tz_twin.specs.Seen.{public_of, open_bytes, open_bus, Seen, Hidden, Shown, seen}
use Rattle.tz_twin.proofs.Bytes.{SameOpen}

-- what Non-secure code has, but for bytes
pub record Open : Type 0 where
  pub board : BoardValue
  pub registers : Registers
  pub stacks_ns : Stacks
  pub masks : Masks
  pub status_ns : SideStatus
  pub exceptions : ExceptionsValue
  pub event : Bool
  pub sleep : Sleep
  pub sau : SauState
  pub mpu_ns : MpuState
  pub monitor : Option Exclusive

-- the Secure parts, all bytes, and the registers of bus faults, which are open while BFHFNMINS is 1
pub record Rest : Type 0 where
  pub stacks_s : Stacks
  pub status_s : SideStatus
  pub security : SecurityStatus
  pub bus : BusStatus
  pub mpu_s : MpuState
  pub memory : Memory

abbrev pub open_of : State → Open
open_of s =
    record {
      board = s.bus.board;
      registers = s.core.registers;
      stacks_ns = s.core.stacks_ns;
      masks = s.core.masks;
      status_ns = s.core.status.ns;
      exceptions = s.exceptions;
      event = s.core.event;
      sleep = s.core.run.sleep;
      sau = s.bus.sau;
      mpu_ns = s.bus.mpu_ns;
      monitor = s.bus.monitor;
    }

abbrev pub rest_of : State → Rest
rest_of s =
    record {
      stacks_s = s.core.stacks_s;
      status_s = s.core.status.s;
      security = s.core.status.security;
      bus = s.core.status.bus;
      mpu_s = s.bus.mpu_s;
      memory = s.bus.memory;
    }

-- what decides attribution is open
abbrev pub open_map : Open → MapState
open_map o = record { regions = o.board.regions; sau = o.sau }

abbrev pub join_bus : Open → Rest → Bus
join_bus o x =
    record {
      sau = o.sau;
      mpu_s = x.mpu_s;
      mpu_ns = o.mpu_ns;
      monitor = o.monitor;
      memory = x.memory;
      board = o.board;
    }

-- the state of the two in which Non-secure code runs
abbrev pub join : Open → Rest → State
join o x =
    record {
      core = record {
        run = record { side = NonSecure; locked = false; sleep = o.sleep };
        registers = o.registers;
        stacks_s = x.stacks_s;
        stacks_ns = o.stacks_ns;
        masks = o.masks;
        event = o.event;
        status = record { s = x.status_s; ns = o.status_ns; security = x.security; bus = x.bus };
      };
      exceptions = o.exceptions;
      bus = join_bus o x;
    }

runs_open : (locked : Bool) (side : Side) → is_nonsecure_side (cond locked Secure side) ≡ true → (locked ≡ false) × (side ≡ NonSecure)
runs_open true side e = cc
runs_open false Secure e = cc
runs_open false NonSecure e = (refl, refl)

-- each state in which Non-secure code runs is made of the two
pub joined : (s : State) → is_nonsecure_side (side_of s) ≡ true → s ≡ join (open_of s) (rest_of s)
joined s is =
    let h = runs_open s.core.run.locked s.core.run.side is in
    λ i. record s { core = record s.core { run = record s.core.run { side = h.1 i; locked = h.0 i } } }

-- two rests that are the same to Non-secure code beside an open part: in the Non-secure bytes, and while BFHFNMINS
-- is 1 in the registers of bus faults
pub record Same (o : Open) (x x' : Rest) : Type 0 where
  pub bytes : SameOpen (open_map o) x.memory x'.memory
  pub bus : o.exceptions.bfhfnmins ≡ true → x.bus ≡ x'.bus

-- two states in which Non-secure code runs with the same open part, and with rests that are the same to it
pub record Twins (s s' : State) : Type 0 where
  pub runs : is_nonsecure_side (side_of s) ≡ true
  pub runs' : is_nonsecure_side (side_of s') ≡ true
  pub opens : open_of s ≡ open_of s'
  pub same : Same (open_of s) (rest_of s) (rest_of s')

pub twins_join : (o : Open) (x x' : Rest) → Same o x x' → Twins (join o x) (join o x')
twins_join o x x' same = record { runs = refl; runs' = refl; opens = refl; same = same }

-- what holds of any two such rests beside one open part holds of twins
pub by_join : (P : State → State → Type 0) → ((o : Open) (x x' : Rest) → Same o x x' → P (join o x) (join o x'))
    → (s s' : State) → Twins s s' → P s s'
by_join P h s s' t =
    let here : P (join (open_of s) (rest_of s)) (join (open_of s) (rest_of s')) = h (open_of s) (rest_of s) (rest_of s') t.same in
    let there : P (join (open_of s) (rest_of s)) (join (open_of s') (rest_of s')) =
    subst (λ (o : Open). P (join (open_of s) (rest_of s)) (join o (rest_of s'))) t.opens here in
    subst (λ (r : State). P r s') (sym (joined s t.runs))
    (subst (λ (r : State). P (join (open_of s) (rest_of s)) r) (sym (joined s' t.runs')) there)

-- ---- what is seen, taken apart

-- the board that is seen
unfoldable pub board_seen : Seen → BoardValue
board_seen (Hidden b) = b
board_seen (Shown b registers p) = b

is_shown : Seen → Bool
is_shown (Hidden b) = false
is_shown (Shown b registers p) = true

-- the open part that is seen, or a given one where nothing is shown
open_seen : Open → Seen → Open
open_seen o (Hidden b) = o
open_seen o (Shown b registers p) =
    record {
      board = b;
      registers = registers;
      stacks_ns = p.stacks;
      masks = p.masks;
      status_ns = p.status;
      exceptions = p.exceptions;
      event = p.event;
      sleep = p.sleep;
      sau = p.sau;
      mpu_ns = p.mpu;
      monitor = p.monitor;
    }

bytes_seen : (ℕ → Option ℕ) → Seen → ℕ → Option ℕ
bytes_seen none (Hidden b) a = none a
bytes_seen none (Shown b registers p) a = p.bytes a

bus_seen : Seen → Option BusStatus
bus_seen (Hidden b) = None
bus_seen (Shown b registers p) = p.bus

pub board_seen-seen : (s : State) → board_seen (seen s) ≡ s.bus.board
unfolding board_seen
board_seen-seen s = go (is_nonsecure_side (side_of s)) where
  go : (t : Bool) → board_seen (cond t (Shown s.bus.board s.core.registers (public_of s)) (Hidden s.bus.board)) ≡ s.bus.board
  go true = refl
  go false = refl

is_shown-seen : (s : State) → is_shown (seen s) ≡ is_nonsecure_side (side_of s)
unfolding is_shown
is_shown-seen s = go (is_nonsecure_side (side_of s)) where
  go : (t : Bool) → is_shown (cond t (Shown s.bus.board s.core.registers (public_of s)) (Hidden s.bus.board)) ≡ t
  go true = refl
  go false = refl

-- states that are seen alike run code of one side
pub sides_alike : (s s' : State) → seen s ≡ seen s' → is_nonsecure_side (side_of s) ≡ is_nonsecure_side (side_of s')
sides_alike s s' e = sym (is_shown-seen s) ∙ ap is_shown e ∙ is_shown-seen s'

choose : {A : Type 0} (t : Bool) (x y : A) → t ≡ true → cond t x y ≡ x
choose true x y e = refl
choose false x y e = cc

seen-shown : (s : State) → is_nonsecure_side (side_of s) ≡ true → seen s ≡ Shown s.bus.board s.core.registers (public_of s)
seen-shown s is = choose (is_nonsecure_side (side_of s)) (Shown s.bus.board s.core.registers (public_of s)) (Hidden s.bus.board) is

-- registers of bus faults that are shown are the same
bus_same : (t t' : Bool) (b b' : BusStatus) → t ≡ t' → open_bus t b ≡ open_bus t' b' → t ≡ true → b ≡ b'
bus_same true true b b' e h is = cc
bus_same true false b b' e h is = cc
bus_same false t' b b' e h is = cc

-- and what isn't shown is nothing
open_bus_same : (t : Bool) (b b' : BusStatus) → (t ≡ true → b ≡ b') → open_bus t b ≡ open_bus t b'
open_bus_same true b b' e = ap Some (e refl)
open_bus_same false b b' e = refl

-- states that are seen alike and in which Non-secure code runs are twins
pub twins_of_seen : (s s' : State) → seen s ≡ seen s' → is_nonsecure_side (side_of s) ≡ true → Twins s s'
unfolding open_seen bytes_seen bus_seen
twins_of_seen s s' e is =
    let is' : is_nonsecure_side (side_of s') ≡ true = sym (sides_alike s s' e) ∙ is in
    let both : Shown s.bus.board s.core.registers (public_of s) ≡ Shown s'.bus.board s'.core.registers (public_of s') =
    sym (seen-shown s is) ∙ e ∙ seen-shown s' is' in
    let opens : open_of s ≡ open_of s' = ap (open_seen (open_of s)) both in
    let none : ℕ → Option ℕ = open_bytes (map_of s) s.bus.memory in
    let bytes : (a : ℕ) → open_bytes (map_of s) s.bus.memory a ≡ open_bytes (map_of s') s'.bus.memory a = λ a. ap (λ x. bytes_seen none x a) both in
    let bus : open_bus s.exceptions.bfhfnmins s.core.status.bus ≡ open_bus s'.exceptions.bfhfnmins s'.core.status.bus = ap bus_seen both in
    record {
      runs = is;
      runs' = is';
      opens = opens;
      same = record {
        bytes = λ a. bytes a ∙ ap (λ (o : Open). open_bytes (open_map o) s'.bus.memory a) (sym opens);
        bus = bus_same s.exceptions.bfhfnmins s'.exceptions.bfhfnmins s.core.status.bus s'.core.status.bus (λ i. (opens i).exceptions.bfhfnmins) bus;
      };
    }

-- and twins are seen alike
pub seen_of_twins : (s s' : State) → Twins s s' → seen s ≡ seen s'
seen_of_twins s s' t =
    by_join (λ r r'. seen r ≡ seen r')
    (λ o x x' same.
    ap (λ (bytes : ℕ → Option ℕ). Shown o.board o.registers (record (public_of (join o x)) { bytes = bytes })) (fun_ext same.bytes)
    ∙ ap (λ (bus : Option BusStatus). Shown o.board o.registers (record (public_of (join o x')) { bus = bus }))
    (open_bus_same o.exceptions.bfhfnmins x.bus x'.bus same.bus)) s s' t
