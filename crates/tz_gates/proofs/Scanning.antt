-- How a search for gates goes on from an address to the next.
use Rattle.std.proofs.Common.{◌≡◌, ℕ, zero, suc, ◌+◌, ◌-◌, ◌%◌, ◌^◌, ◌<◌, ◌≤◌, Bool, true, false, ◌&&◌, cond, List, [], ◌∷◌, ◌++◌, refl, sym, ap, ◌∙◌, subst, arith}
use Rattle.std.specs.Prelude.{◌==◌, nat_le}
use Rattle.std.proofs.lemmas.Bool.{and_right, and_left}
use Rattle.std.proofs.lemmas.Bool.Decides.{nat_tests}
use Rattle.tz_model.specs.Words.{wrap}
use Rattle.tz_model.specs.Board.{are_regions}
use Rattle.tz_state.specs.Access.{is_mapped}
use Rattle.tz_state.specs.State.{State, map_of}
use Rattle.tz_state.specs.Fetch.{is_entry}
use Rattle.tz_access.proofs.Blocks.{entry_by_blocks}
use Rattle.tz_gates.specs.Gates.{is_gate_half, is_gate, gates_below, gates_of}
use Rattle.tz_gates.specs.Scanned.{Scanned, IsGap}

-- ---- one address

odd_no : (s : State) (a : ℕ) → a % 2 ≡ 1 → is_gate s a ≡ false
unfolding is_gate
odd_no s a odd = and_left (a % 2 == 0) (is_gate_half s a && is_gate_half s (wrap (a + 2))) (grind (arith, nat_tests))

first_no : (s : State) (a : ℕ) → is_gate_half s a ≡ false → is_gate s a ≡ false
unfolding is_gate
first_no s a isnt = and_right (a % 2 == 0) (is_gate_half s a && is_gate_half s (wrap (a + 2))) (and_left (is_gate_half s a) (is_gate_half s (wrap (a + 2))) isnt)

second_no : (s : State) (a : ℕ) → a + 2 < 2 ^ 32 → is_gate_half s (a + 2) ≡ false → is_gate s a ≡ false
unfolding is_gate
second_no s a small isnt =
    let same : wrap (a + 2) ≡ a + 2 = omega arith in
    let second : is_gate_half s (wrap (a + 2)) ≡ false = ap (is_gate_half s) same ∙ isnt in
    and_right (a % 2 == 0) (is_gate_half s a && is_gate_half s (wrap (a + 2))) (and_right (is_gate_half s a) (is_gate_half s (wrap (a + 2))) second)

both_halves : (s : State) (a : ℕ) → a % 2 ≡ 0 → a + 2 < 2 ^ 32 → is_gate s a ≡ (is_gate_half s a && is_gate_half s (a + 2))
unfolding is_gate
both_halves s a even small =
    let same : wrap (a + 2) ≡ a + 2 = omega arith in
    let is : (a % 2 == 0) ≡ true = grind (arith, nat_tests) in
    ap (λ (b : Bool). b && (is_gate_half s a && is_gate_half s (wrap (a + 2)))) is ∙ ap (λ (b : ℕ). is_gate_half s a && is_gate_half s b) same

-- ---- the gates below an address

no_more : (s : State) (a : ℕ) → is_gate s a ≡ false → gates_below s (suc a) ≡ gates_below s a
unfolding gates_below
no_more s a isnt = ap (λ (b : Bool). cond b (gates_below s a ++ a ∷ []) (gates_below s a)) isnt

one_more : (s : State) (a : ℕ) → is_gate s a ≡ true → gates_below s (suc a) ≡ gates_below s a ++ a ∷ []
unfolding gates_below
one_more s a is = ap (λ (b : Bool). cond b (gates_below s a ++ a ∷ []) (gates_below s a)) is

none_for : (s : State) (a n : ℕ) → ((x : ℕ) → a ≤ x → x < a + n → is_gate s x ≡ false) → gates_below s (a + n) ≡ gates_below s a
none_for s a zero none = let e : a + zero ≡ a = omega arith in ap (gates_below s) e
none_for s a (suc n) none =
    let e : a + suc n ≡ suc (a + n) = omega arith in
    let last : is_gate s (a + n) ≡ false = none (a + n) (omega arith) (omega arith) in
    ap (gates_below s) e ∙ no_more s (a + n) last ∙ none_for s a n (λ x l h. none x l (omega arith))

none_to : (s : State) (a b : ℕ) → a ≤ b → ((x : ℕ) → a ≤ x → x < b → is_gate s x ≡ false) → gates_below s b ≡ gates_below s a
none_to s a b up none =
    let e : a + (b - a) ≡ b = omega arith in
    ap (gates_below s) (sym e) ∙ none_for s a (b - a) (λ x l h. none x l (omega arith))

-- ---- a halfword

-- below an even address there is what is below the one before it, and that
two_more : (s : State) (a : ℕ) → a % 2 ≡ 0 → is_gate s a ≡ true → gates_below s (a + 2) ≡ gates_below s a ++ a ∷ []
two_more s a even is =
    let e : a + 2 ≡ suc (suc a) = omega arith in
    let odd : suc a % 2 ≡ 1 = omega arith in
    ap (gates_below s) e ∙ no_more s (suc a) (odd_no s (suc a) odd) ∙ one_more s a is

two_same : (s : State) (a : ℕ) → a % 2 ≡ 0 → is_gate s a ≡ false → gates_below s (a + 2) ≡ gates_below s a
two_same s a even isnt =
    let e : a + 2 ≡ suc (suc a) = omega arith in
    let odd : suc a % 2 ≡ 1 = omega arith in
    ap (gates_below s) e ∙ no_more s (suc a) (odd_no s (suc a) odd) ∙ no_more s a isnt

nothing_below : (s : State) → gates_below s 0 ≡ []
unfolding gates_below
nothing_below s = refl

pub scanned_start : (s : State) → Scanned s 0 [] false
scanned_start s = record { found = sym (nothing_below s); last = refl }

half_there : (s : State) (a : ℕ) (half : Bool) → half ≡ is_gate_half s a → half ≡ (nat_le 2 (a + 2) && is_gate_half s (a + 2 - 2))
half_there s a half is =
    let same : a + 2 - 2 ≡ a = omega arith in
    let above : nat_le 2 (a + 2) ≡ true = grind (arith, nat_tests) in
    is ∙ ap (is_gate_half s) (sym same) ∙ ap (λ (b : Bool). b && is_gate_half s (a + 2 - 2)) (sym above)

-- the halfword before an address is one of a gate, and so there are two bytes below it
half_above : (s : State) (a : ℕ) (gates : List ℕ) (half : Bool) → Scanned s a gates half → half ≡ true → 2 ≤ a
half_above s a gates half h is = go (nat_le 2 a) refl (sym h.last ∙ is) where
  go : (b : Bool) → nat_le 2 a ≡ b → (b && is_gate_half s (a - 2)) ≡ true → 2 ≤ a
  go true e t = grind (arith, nat_tests)
  go false e t = cc

-- a halfword of a gate after another
scanned_gate : (s : State) (a : ℕ) (gates : List ℕ) → a % 2 ≡ 0 → a < 2 ^ 32 → is_gate_half s a ≡ true → Scanned s a gates true → Scanned s (a + 2) (gates ++ (a - 2) ∷ []) true
scanned_gate s a gates even small is h =
    let above : 2 ≤ a = half_above s a gates true h refl in
    let b : ℕ = a - 2 in
    let e : a - 2 + 2 ≡ a = omega arith in
    let first : is_gate_half s (a - 2) ≡ true = go (nat_le 2 a) (sym h.last) in
    let second : is_gate_half s (a - 2 + 2) ≡ true = ap (is_gate_half s) e ∙ is in
    let gate : is_gate s (a - 2) ≡ true = both_halves s (a - 2) (omega arith) (omega arith) ∙ ap (λ (p : Bool). p && is_gate_half s (a - 2 + 2)) first ∙ second in
    let same : a + 2 - 2 ≡ a - 2 + 2 = omega arith in
    record {
      found = ap (λ (xs : List ℕ). xs ++ (a - 2) ∷ []) h.found ∙ sym (two_more s (a - 2) (omega arith) gate) ∙ ap (gates_below s) (sym same);
      last = half_there s a true (sym is);
    }
  where
    go : (t : Bool) → (t && is_gate_half s (a - 2)) ≡ true → is_gate_half s (a - 2) ≡ true
    go true e = e
    go false e = cc

-- a halfword after which no gate is found
scanned_half : (s : State) (a : ℕ) (gates : List ℕ) (half before : Bool) → a % 2 ≡ 0 → a < 2 ^ 32 → half ≡ is_gate_half s a → (half && before) ≡ false → Scanned s a gates before
    → Scanned s (a + 2) gates half
scanned_half s a gates half before even small is isnt h =
    record { found = h.found ∙ below (nat_le 2 a) refl; last = half_there s a half is }
  where
    pair : nat_le 2 a ≡ true → (is_gate_half s (a - 2) && is_gate_half s (a - 2 + 2)) ≡ false
    pair above =
        let le : 2 ≤ a = grind (arith, nat_tests) in
        let e : a - 2 + 2 ≡ a = omega arith in
        let first : before ≡ is_gate_half s (a - 2) = h.last ∙ ap (λ (b : Bool). b && is_gate_half s (a - 2)) above in
        ap (λ (b : ℕ). is_gate_half s (a - 2) && is_gate_half s b) e ∙ other half before (is_gate_half s (a - 2)) (is_gate_half s a) first is isnt
      where
        other : (p q x y : Bool) → q ≡ x → p ≡ y → (p && q) ≡ false → (x && y) ≡ false
        other true q x y e f isnt = let g : x ≡ false = sym e ∙ isnt in and_left x y g
        other false q x y e f isnt = and_right x y (sym f)

    below : (t : Bool) → nat_le 2 a ≡ t → gates_below s (a - 2) ≡ gates_below s (a + 2 - 2)
    below true above =
        let le : 2 ≤ a = grind (arith, nat_tests) in
        let same : a - 2 + 2 ≡ a + 2 - 2 = omega arith in
        let no_gate : is_gate s (a - 2) ≡ false = both_halves s (a - 2) (omega arith) (omega arith) ∙ pair above in
        sym (two_same s (a - 2) (omega arith) no_gate) ∙ ap (gates_below s) same
    below false above =
        let low : a < 2 = grind (arith, nat_tests) in
        let same : a - 2 ≡ a + 2 - 2 = omega arith in
        ap (gates_below s) same

-- both, in words of the code
pub scanned_push : (s : State) (a : ℕ) (gates new : List ℕ) (half before : Bool) → a % 2 ≡ 0 → a < 2 ^ 32 → half ≡ is_gate_half s a → half ≡ true → before ≡ true → new ≡ gates ++ (a - 2) ∷ [] → Scanned s a gates before
    → Scanned s (a + 2) new half
scanned_push s a gates new half before even small is first second e h =
    subst (λ (xs : List ℕ). Scanned s (a + 2) xs half) (sym e)
    (subst (λ (t : Bool). Scanned s (a + 2) (gates ++ (a - 2) ∷ []) t) (sym first) (scanned_gate s a gates even small (sym is ∙ first) (subst (λ (t : Bool). Scanned s a gates t) second h)))

pub scanned_same : (s : State) (a : ℕ) (gates new : List ℕ) (half before : Bool) → a % 2 ≡ 0 → a < 2 ^ 32 → half ≡ is_gate_half s a → (half && before) ≡ false → new ≡ gates → Scanned s a gates before
    → Scanned s (a + 2) new half
scanned_same s a gates new half before even small is none e h = subst (λ (xs : List ℕ). Scanned s (a + 2) xs half) (sym e) (scanned_half s a gates half before even small is none h)

-- ---- addresses at which no halfword is one of a gate

-- of two halfwords one is such, where the address isn't odd
no_gate_before : (s : State) (a b : ℕ) → a % 2 ≡ 0 → b ≤ 2 ^ 32 → ((x : ℕ) → a ≤ x → x < b → is_gate_half s x ≡ false) → (x : ℕ) → a ≤ x + 2 → x + 2 < b → is_gate s x ≡ false
no_gate_before s a b even small none x l h = second_no s x (omega arith) (none (x + 2) l h)

scanned_none : (s : State) (a b : ℕ) (gates : List ℕ) (half : Bool) → a % 2 ≡ 0 → b % 2 ≡ 0 → a < b → b ≤ 2 ^ 32 → ((x : ℕ) → a ≤ x → x < b → is_gate_half s x ≡ false) → Scanned s a gates half
    → Scanned s b gates false
scanned_none s a b gates half even even' up small none h =
    let last : is_gate_half s (b - 2) ≡ false = none (b - 2) (omega arith) (omega arith) in
    record {
      found = h.found ∙ sym (none_to s (a - 2) (b - 2) (omega arith) (λ x l k. no_gate_before s a b even small none x (omega arith) (omega arith)));
      last = sym (and_right (nat_le 2 b) (is_gate_half s (b - 2)) last);
    }

-- up to the last address
scanned_all : (s : State) (a : ℕ) (gates : List ℕ) (half : Bool) → a % 2 ≡ 0 → a < 2 ^ 32 → ((x : ℕ) → a ≤ x → x < 2 ^ 32 → is_gate_half s x ≡ false) → Scanned s a gates half → gates ≡ gates_of s
unfolding gates_of
scanned_all s a gates half even small none h = h.found ∙ sym (none_to s (a - 2) 0x100000000 (omega arith) (λ x l k. go x l k (x + 2) refl)) where
  go : (x : ℕ) → a - 2 ≤ x → x < 0x100000000 → (y : ℕ) → x + 2 ≡ y → is_gate s x ≡ false
  go x l k y e = cases (nat_le 0x100000000 y) refl where
    cases : (t : Bool) → nat_le 0x100000000 y ≡ t → is_gate s x ≡ false
    cases true big =
        let above : 0x100000000 ≤ y = grind (arith, nat_tests) in
        first_no s x (none x (omega arith) k)
    cases false low =
        let below : y < 0x100000000 = grind (arith, nat_tests) in
        no_gate_before s a 0x100000000 even (omega arith) none x (omega arith) (omega arith)

-- ---- why a halfword isn't one

no_entry : (s : State) (a : ℕ) → is_entry (map_of s) a ≡ false → is_gate_half s a ≡ false
no_entry s a isnt = and_left _ _ isnt

unmapped : (s : State) (a : ℕ) → is_mapped s.bus.board.regions a ≡ false → is_gate_half s a ≡ false
unmapped s a isnt = and_right _ _ (and_left _ _ (and_left _ _ isnt))

-- attribution is the same in a block of 32 bytes
pub entry_in_block : (s : State) (block a : ℕ) → are_regions s.bus.board.regions ≡ true → block % 32 ≡ 0 → block ≤ a → a < block + 32 → is_entry (map_of s) a ≡ is_entry (map_of s) block
entry_in_block s block a is whole l h = (entry_by_blocks (map_of s) is).same a block (omega arith)

-- over a block that Non-secure code may not call
pub scanned_block : (s : State) (block : ℕ) (gates : List ℕ) (half : Bool) → are_regions s.bus.board.regions ≡ true → block % 32 ≡ 0 → block < 0xE0000000 → is_entry (map_of s) block ≡ false → Scanned s block gates half
    → Scanned s (block + 32) gates false
scanned_block s block gates half is whole low isnt h =
    scanned_none s block (block + 32) gates half (omega arith) (omega arith) (omega arith) (omega arith) (λ x l k. no_entry s x (entry_in_block s block x is whole l k ∙ isnt)) h

-- over addresses that no region holds
pub scanned_gap : (s : State) (a b : ℕ) (gates : List ℕ) (half : Bool) → a % 2 ≡ 0 → b % 2 ≡ 0 → a < b → b ≤ 2 ^ 32 → IsGap s.bus.board.regions a b → Scanned s a gates half → Scanned s b gates false
scanned_gap s a b gates half even even' up small gap h = scanned_none s a b gates half even even' up small (λ x l k. unmapped s x (gap x l k)) h

-- over all that are left
pub scanned_end : (s : State) (a : ℕ) (gates : List ℕ) (half : Bool) → a % 2 ≡ 0 → a < 2 ^ 32 → IsGap s.bus.board.regions a (2 ^ 32) → Scanned s a gates half → gates ≡ gates_of s
scanned_end s a gates half even small gap h = scanned_all s a gates half even small (λ x l k. unmapped s x (gap x l k)) h
