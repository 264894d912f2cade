-- The machine at its start: its board is the one that is given, and bit 0 of PC is clear.
use Rattle.std.proofs.Common.{◌≡◌, ℕ, ◌%◌, Bool, true, false, cond, refl, ap, ◌∙◌, arith}
use Rattle.std.proofs.lemmas.Bool.{eq-eqb}
use Rattle.tz_model.specs.Board.{BoardValue, IsBoard, are_regions}
use Rattle.tz_model.specs.Image.{ImageValue}
use Rattle.tz_model.specs.Words.{even_of}
use Rattle.tz_state.specs.Memory.{Memory}
use Rattle.tz_state.specs.State.{State}
use Rattle.tz_sem.specs.Boot.{boot, boot_memory, has_vectors, start_from}
use Rattle.tz_gates.specs.Stays.{HasEvenPc}

even_start : (n : ℕ) → (even_of n % 2) ≡ 0
even_start n = omega arith

board_cond : (b : BoardValue) (t : Bool) (x y : State) → x.bus.board ≡ b → y.bus.board ≡ b → (cond t x y).bus.board ≡ b
board_cond b true x y p q = p
board_cond b false x y p q = q

even_either : (t : Bool) (x y : State) → HasEvenPc x → HasEvenPc y → HasEvenPc (cond t x y)
even_either true x y p q = p
even_either false x y p q = q

from_board : (b : BoardValue) (m : Memory) → (start_from b m).bus.board ≡ b
from_board b m = board_cond b (has_vectors b) _ _ refl refl

from_even : (b : BoardValue) (m : Memory) → HasEvenPc (start_from b m)
from_even b m = even_either (has_vectors b) _ _ (eq-eqb _ 0 (even_start _)) refl

pub boot_board : (b : BoardValue) (secure nonsecure : ImageValue) → (boot b secure nonsecure).bus.board ≡ b
unfolding boot
boot_board b secure nonsecure = from_board b (boot_memory b secure nonsecure)

pub boot_even : (b : BoardValue) (secure nonsecure : ImageValue) → HasEvenPc (boot b secure nonsecure)
unfolding boot
boot_even b secure nonsecure = from_even b (boot_memory b secure nonsecure)

pub boot_regions : (b : BoardValue) (secure nonsecure : ImageValue) → IsBoard b → are_regions (boot b secure nonsecure).bus.board.regions ≡ true
boot_regions b secure nonsecure is = ap (λ (x : BoardValue). are_regions x.regions) (boot_board b secure nonsecure) ∙ is.regions
