-- Writes of registers in a row.
use Rattle.std.proofs.Common.{◌≡◌, ℕ, zero, suc, ◌+◌, ◌<◌, ◌≤◌, Bool, true, false, List, [], ◌∷◌, length, get_or, take, refl, ap, ◌∙◌, arith, add-one}
use Rattle.tz_table.specs.declared.units.Side.{Side}
use Rattle.tz_table.specs.declared.units.Side.TheVariants.{Secure, NonSecure}
use Rattle.tz_regs.specs.declared.parts.Core.{Core}
use Rattle.tz_regs.specs.declared.parts.Registers.{Registers}
use Rattle.tz_regs.specs.declared.parts.Stacks.{Stacks}
use Rattle.tz_regs.specs.Banks.{of_side, secure_after, nonsecure_after}
use Rattle.tz_sem.specs.Local.{Local, put, local_of, with_local}
use Rattle.tz_sem.specs.LoadStore.{based_past, filled}

stacks_left : (side : Side) (own s ns : Stacks) → of_side side (secure_after side own s) (nonsecure_after side own ns) ≡ own
stacks_left Secure own s ns = refl
stacks_left NonSecure own s ns = refl

secure_again : (side : Side) (later own s : Stacks) → secure_after side later (secure_after side own s) ≡ secure_after side later s
secure_again Secure later own s = refl
secure_again NonSecure later own s = refl

nonsecure_again : (side : Side) (later own ns : Stacks) → nonsecure_after side later (nonsecure_after side own ns) ≡ nonsecure_after side later ns
nonsecure_again Secure later own ns = refl
nonsecure_again NonSecure later own ns = refl

-- a register that is written after others
pub put_after : (c : Core) (l : Local) (k value : ℕ) → with_local (with_local c l) (put (local_of (with_local c l)) k value) ≡ with_local c (put l k value)
put_after c l k value =
    rw (stacks_left c.run.side l.own c.stacks_s c.stacks_ns, secure_again c.run.side (put l k value).own l.own c.stacks_s, nonsecure_again c.run.side (put l k value).own l.own c.stacks_ns)

-- ---- many registers

filled_more : (l : Local) (ks words : List ℕ) (i : ℕ) → i < length ks → length ks ≤ length words → filled l (take (suc i) ks) words ≡ put (filled l (take i ks) words) (get_or ks i 0) (get_or words i 0)
filled_more l [] words i b fits = absurd (omega (arith, b))
filled_more l (k ∷ more) [] i b fits = absurd (omega (arith, fits))
filled_more l (k ∷ more) (word ∷ words) zero b fits = refl
filled_more l (k ∷ more) (word ∷ words) (suc i) b fits = filled_more (put l k word) more words i (omega (arith, b)) (omega (arith, fits))

-- one more register of a list
pub put_more : (c : Core) (ks words : List ℕ) (i : ℕ) → i < length ks → length ks ≤ length words → with_local (with_local c (filled (local_of c) (take i ks) words)) (put (local_of (with_local c (filled (local_of c) (take i ks) words))) (get_or ks i 0) (get_or words i 0)) ≡ with_local c (filled (local_of c) (take (i + 1) ks) words)
put_more c ks words i b fits =
    rw (add-one, filled_more (local_of c) ks words i b fits) (put_after c (filled (local_of c) (take i ks) words) (get_or ks i 0) (get_or words i 0))

-- ---- many registers after the base

-- the registers and the stacks that running code leaves, and nothing else of it
abbrev left_as : Core → Registers → Stacks → Local
left_as c registers own = record (local_of c) { registers = registers; own = own }

local_left : (c : Core) (registers : Registers) (own : Stacks) → local_of (with_local c (left_as c registers own)) ≡ left_as c registers own
local_left c registers own = rw (stacks_left c.run.side own c.stacks_s c.stacks_ns) refl

local_again : (c : Core) (l later : Local) → with_local (with_local c l) later ≡ with_local c later
local_again c l later =
    rw (secure_again c.run.side later.own l.own c.stacks_s, nonsecure_again c.run.side later.own l.own c.stacks_ns) refl

filled_left : (c : Core) (registers : Registers) (own : Stacks) (ks words : List ℕ)
    → with_local (with_local c (left_as c registers own)) (filled (local_of (with_local c (left_as c registers own))) ks words) ≡ with_local c (filled (left_as c registers own) ks words)
filled_left c registers own ks words =
    ap (λ (l : Local). with_local (with_local c (left_as c registers own)) (filled l ks words)) (local_left c registers own)
    ∙ local_again c (left_as c registers own) (filled (left_as c registers own) ks words)

pub filled_after : (c : Core) (back : Bool) (rn past : ℕ) (ks words : List ℕ)
    → with_local (with_local c (based_past back rn past (local_of c))) (filled (local_of (with_local c (based_past back rn past (local_of c)))) ks words) ≡ with_local c (filled (based_past back rn past (local_of c)) ks words)
filled_after c true rn past ks words =
    filled_left c (put (local_of c) rn past).registers (put (local_of c) rn past).own ks words
filled_after c false rn past ks words = filled_left c c.registers (local_of c).own ks words
