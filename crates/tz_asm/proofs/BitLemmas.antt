-- The least twelve bits that stand for a constant.
use Rattle.std.proofs.Common.{◌≡◌, ◌∙◌, ℕ, zero, suc, ◌+◌, ◌-◌, ◌*◌, ◌/◌, ◌%◌, ◌^◌, ◌<◌, ◌≤◌, ◌==◌, Bool, true, false, Option, Some, None, if◌then◌else◌, ap, arith, refl, sym, nat_le, inl, inr, add-zero, zero-add}
use Rattle.std.proofs.lemmas.Bool.{and_right, cases_eq, eq-eqb, lt-leb, ne_eqb}
use Rattle.std.proofs.lemmas.Nat.{div-add-mod', shl-shr}
use Rattle.std.proofs.Math.Nat.{div-eq_of_lt, mod-eq_of_lt, mul-mod_left, mul-div_right, pow-succ'}
use Rattle.std.proofs.Math.Pow.{pow_mono}
use Rattle.std.specs.Option.{option_or}
use Rattle.tz_bits.specs.Constants.{imm_is_bad, imm_of, imm_value}
use Rattle.tz_bits.specs.Shifts.{rotated}
use Rattle.tz_asm.specs.Bits.{is_constant, least_bits, least_from}

least_next : (n k c m : ℕ) → c ≡ suc m → least_from n k c ≡ (if is_constant n (imm_of k false) then Some k else least_from n (k + 1) m)
unfolding least_from
least_next n k c m h = ap (least_from n k) h

least_of_none : (n k : ℕ) → least_from n k 0 ≡ None
unfolding least_from
least_of_none n k = refl

-- none of some numbers stands for the constant
none_from : (n k c : ℕ) → ((j : ℕ) → k ≤ j → j < k + c → is_constant n (imm_of j false) ≡ false) → least_from n k c ≡ None
none_from n k zero h = least_of_none n k
none_from n k (suc c) h =
    let here : is_constant n (imm_of k false) ≡ false = h k (omega arith) (omega arith) in
    least_next n k (suc c) c refl ∙ rw here (none_from n (k + 1) c (λ j a b. h j (omega arith) (omega arith)))

-- the first of them that does
found_at : (n k c j : ℕ) → k ≤ j → j < k + c → is_constant n (imm_of j false) ≡ true → ((i : ℕ) → k ≤ i → i < j → is_constant n (imm_of i false) ≡ false) → least_from n k c ≡ Some j
found_at n k zero j a b is h = absurd (omega arith)
found_at n k (suc c) j a b is h =
    elim (cases_eq k j) [
      | inl same ↦ least_next n k (suc c) c refl ∙ rw same (rw is refl)
      | inr other ↦
          let here : is_constant n (imm_of k false) ≡ false = h k (omega arith) (omega arith) in
          least_next n k (suc c) c refl ∙ rw here (found_at n (k + 1) c j (omega arith) (omega arith) is (λ i d e. h i (omega arith) e))
    ]

chosen : (here : Bool) (k : ℕ) (x y z : Option ℕ) → x ≡ option_or y z → (if here then Some k else x) ≡ option_or (if here then Some k else y) z
chosen true k x y z h = refl
chosen false k x y z h = h

-- some numbers and those behind them
least_split : (n k a b : ℕ) → least_from n k (a + b) ≡ option_or (least_from n k a) (least_from n (k + a) b)
least_split n k zero b = rw (zero-add, add-zero, least_of_none) refl
least_split n k (suc a) b =
    let there : k + 1 + a ≡ k + suc a = omega arith in
    let later : least_from n (k + 1) (a + b) ≡ option_or (least_from n (k + 1) a) (least_from n (k + suc a) b) = least_split n (k + 1) a b ∙ ap (λ m. option_or (least_from n (k + 1) a) (least_from n m b)) there in
    least_next n k (suc a + b) (a + b) (omega arith)
    ∙ chosen (is_constant n (imm_of k false)) k (least_from n (k + 1) (a + b)) (least_from n (k + 1) a) (least_from n (k + suc a) b) later
    ∙ sym (ap (λ o. option_or o (least_from n (k + suc a) b)) (least_next n k (suc a) a refl))

-- ---- what a number stands for

constant_of : (n j : ℕ) → imm_is_bad j ≡ false → imm_value j ≡ n → is_constant n (imm_of j false) ≡ true
constant_of n j good is = rw good (eq-eqb (imm_value j) n is)

no_constant : (n j : ℕ) (bad : Bool) → imm_is_bad j ≡ bad → (imm_value j ≡ n → ⊥) → is_constant n (imm_of j false) ≡ false
no_constant n j true is not = rw is refl
no_constant n j false is not = rw is (ne_eqb (imm_value j) n not)

other_value : (n j : ℕ) → (imm_value j ≡ n → ⊥) → is_constant n (imm_of j false) ≡ false
other_value n j not = no_constant n j (imm_is_bad j) refl not

-- ---- numbers below 256 stand for themselves

small_good : (j : ℕ) → j < 256 → imm_is_bad j ≡ false
small_good j h =
    let part : j / 256 ≡ 0 = omega arith in
    let few : nat_le 4096 j ≡ false = lt-leb 4096 j (omega arith) in
    rw (few, part) refl

small_value : (j : ℕ) → j < 256 → imm_value j ≡ j
small_value j h =
    let part : j / 256 ≡ 0 = omega arith in
    let same : j % 256 ≡ j = omega arith in
    rw part same

small_first : (n : ℕ) → n < 256 → least_from n 0 256 ≡ Some n
small_first n h =
    found_at n 0 256 n (omega arith) (omega arith) (constant_of n n (small_good n h) (small_value n h))
    (λ i a b. other_value n i (λ e. let v : imm_value i ≡ i = small_value i (omega arith) in omega arith))

small_none : (n : ℕ) → 256 ≤ n → least_from n 0 256 ≡ None
small_none n h = none_from n 0 256 (λ i a b. other_value n i (λ e. let v : imm_value i ≡ i = small_value i (omega arith) in omega arith))

-- ---- numbers from 256 to 1023 stand for copies of a byte

copy_good : (j h : ℕ) → j / 256 ≡ h → h < 4 → (j % 256 ≡ 0 → ⊥) → imm_is_bad j ≡ false
copy_good j h part few some =
    let below : nat_le 4096 j ≡ false = lt-leb 4096 j (omega arith) in
    let full : (j % 256 == 0) ≡ false = ne_eqb (j % 256) 0 some in
    rw (below, full) (and_right _ false refl)

low_value : (j : ℕ) → j / 256 ≡ 1 → imm_value j ≡ j % 256 * 65537
low_value j part = rw part refl

high_value : (j : ℕ) → j / 256 ≡ 2 → imm_value j ≡ j % 256 * 16777472
high_value j part = rw part refl

all_value : (j : ℕ) → j / 256 ≡ 3 → imm_value j ≡ j % 256 * 16843009
all_value j part = rw part refl

pub low_first : (n : ℕ) → 256 ≤ n → n ≡ n % 256 * 65537 → least_from n 256 256 ≡ Some (256 + n % 256)
low_first n some same =
    let j : ℕ = 256 + n % 256 in
    found_at n 256 256 (256 + n % 256) (omega arith) (omega arith)
    (constant_of n (256 + n % 256) (copy_good (256 + n % 256) 1 (omega arith) (omega arith) (λ e. omega arith)) (low_value (256 + n % 256) (omega arith) ∙ (omega arith)))
    (λ i a b. other_value n i (λ e. let v : imm_value i ≡ i % 256 * 65537 = low_value i (omega arith) in omega arith))

pub low_none : (n : ℕ) → (n ≡ n % 256 * 65537 → ⊥) → least_from n 256 256 ≡ None
low_none n h = none_from n 256 256 (λ i a b. other_value n i (λ e. let v : imm_value i ≡ i % 256 * 65537 = low_value i (omega arith) in h (omega arith)))

pub high_first : (n : ℕ) → 256 ≤ n → n ≡ n / 256 % 256 * 16777472 → least_from n 512 256 ≡ Some (512 + n / 256 % 256)
high_first n some same =
    found_at n 512 256 (512 + n / 256 % 256) (omega arith) (omega arith)
    (constant_of n (512 + n / 256 % 256) (copy_good (512 + n / 256 % 256) 2 (omega arith) (omega arith) (λ e. omega arith)) (high_value (512 + n / 256 % 256) (omega arith) ∙ (omega arith)))
    (λ i a b. other_value n i (λ e. let v : imm_value i ≡ i % 256 * 16777472 = high_value i (omega arith) in omega arith))

pub high_none : (n : ℕ) → (n ≡ n / 256 % 256 * 16777472 → ⊥) → least_from n 512 256 ≡ None
high_none n h = none_from n 512 256 (λ i a b. other_value n i (λ e. let v : imm_value i ≡ i % 256 * 16777472 = high_value i (omega arith) in h (omega arith)))

pub all_first : (n : ℕ) → 256 ≤ n → n ≡ n % 256 * 16843009 → least_from n 768 256 ≡ Some (768 + n % 256)
all_first n some same =
    found_at n 768 256 (768 + n % 256) (omega arith) (omega arith)
    (constant_of n (768 + n % 256) (copy_good (768 + n % 256) 3 (omega arith) (omega arith) (λ e. omega arith)) (all_value (768 + n % 256) (omega arith) ∙ (omega arith)))
    (λ i a b. other_value n i (λ e. let v : imm_value i ≡ i % 256 * 16843009 = all_value i (omega arith) in omega arith))

pub all_none : (n : ℕ) → (n ≡ n % 256 * 16843009 → ⊥) → least_from n 768 256 ≡ None
all_none n h = none_from n 768 256 (λ i a b. other_value n i (λ e. let v : imm_value i ≡ i % 256 * 16843009 = all_value i (omega arith) in h (omega arith)))

-- ---- the other numbers stand for a byte from 128 on, turned: 128 of them for each turn

turn_good : (j : ℕ) → 1024 ≤ j → j < 4096 → imm_is_bad j ≡ false
turn_good j h l =
    let few : nat_le 4096 j ≡ false = lt-leb 4096 j l in
    let one : (j / 256 == 1) ≡ false = ne_eqb (j / 256) 1 (λ e. omega arith) in
    let two : (j / 256 == 2) ≡ false = ne_eqb (j / 256) 2 (λ e. omega arith) in
    let three : (j / 256 == 3) ≡ false = ne_eqb (j / 256) 3 (λ e. omega arith) in
    rw (few, one, two, three) refl

turned_is : (v r : ℕ) → v < 256 → 8 ≤ r → r < 32 → rotated v r ≡ v * 2 ^ (32 - r)
turned_is v r h a b =
    let same : r % 32 ≡ r = omega arith in
    let power : 2 ^ 8 ≤ 2 ^ r = pow_mono a in
    let below : v < 2 ^ r = omega arith in
    let low : v / 2 ^ r ≡ 0 = div-eq_of_lt below in
    let high : v % 2 ^ r ≡ v = mod-eq_of_lt below in
    rw same (rw (low, high) (zero-add (v * 2 ^ (32 - r))))

turn_value : (j r : ℕ) → j / 128 ≡ r → 8 ≤ r → r < 32 → imm_value j ≡ (128 + j % 128) * 2 ^ (32 - r)
turn_value j r part a b =
    let zero_not : (j / 256 == 0) ≡ false = ne_eqb (j / 256) 0 (λ e. omega arith) in
    let one : (j / 256 == 1) ≡ false = ne_eqb (j / 256) 1 (λ e. omega arith) in
    let two : (j / 256 == 2) ≡ false = ne_eqb (j / 256) 2 (λ e. omega arith) in
    let three : (j / 256 == 3) ≡ false = ne_eqb (j / 256) 3 (λ e. omega arith) in
    let turned : imm_value j ≡ rotated (128 + j % 128) (j / 128) = rw (zero_not, one, two, three) refl in
    turned ∙ ap (rotated (128 + j % 128)) part ∙ turned_is (128 + j % 128) r (omega arith) a b

-- of the byte that a constant is made of, what it is
byte_of : (n v s : ℕ) → v * 2 ^ s ≡ n → n / 2 ^ s ≡ v
byte_of n v s e = ap (λ x. x / 2 ^ s) (sym e) ∙ shl-shr v s

whole_of_byte : (n v s : ℕ) → v * 2 ^ s ≡ n → n % 2 ^ s ≡ 0
whole_of_byte n v s e = ap (λ x. x % 2 ^ s) (sym e) ∙ mul-mod_left v (2 ^ s)

turn_none : (n r : ℕ) → 8 ≤ r → r < 32 → ((v : ℕ) → 128 ≤ v → v < 256 → v * 2 ^ (32 - r) ≡ n → ⊥) → least_from n (128 * r) 128 ≡ None
turn_none n r a b h =
    none_from n (128 * r) 128 (λ i l m. other_value n i (λ e. h (128 + i % 128) (omega arith) (omega arith) (sym (turn_value i r (omega arith) a b) ∙ e)))

pub turn_below : (n r top : ℕ) → 8 ≤ r → r < 32 → top ≡ n / 2 ^ (32 - r) → top < 128 → least_from n (128 * r) 128 ≡ None
turn_below n r top a b h l = turn_none n r a b (λ v low high e. let is : n / 2 ^ (32 - r) ≡ v = byte_of n v (32 - r) e in omega arith)

pub turn_above : (n r top : ℕ) → 8 ≤ r → r < 32 → top ≡ n / 2 ^ (32 - r) → 255 < top → least_from n (128 * r) 128 ≡ None
turn_above n r top a b h l = turn_none n r a b (λ v low high e. let is : n / 2 ^ (32 - r) ≡ v = byte_of n v (32 - r) e in omega arith)

pub turn_rest : (n r : ℕ) → 8 ≤ r → r < 32 → (n % 2 ^ (32 - r) ≡ 0 → ⊥) → least_from n (128 * r) 128 ≡ None
turn_rest n r a b h = turn_none n r a b (λ v low high e. h (whole_of_byte n v (32 - r) e))

pub turn_first : (n r top : ℕ) → 8 ≤ r → r < 32 → top ≡ n / 2 ^ (32 - r) → 128 ≤ top → top ≤ 255 → n % 2 ^ (32 - r) ≡ 0 → least_from n (128 * r) 128 ≡ Some (128 * r + (top - 128))
turn_first n r top a b h low high whole =
    let j : ℕ = 128 * r + (top - 128) in
    let made : top * 2 ^ (32 - r) ≡ n = ap (λ x. x * 2 ^ (32 - r)) h ∙ sym (add-zero (n / 2 ^ (32 - r) * 2 ^ (32 - r))) ∙ ap (λ x. n / 2 ^ (32 - r) * 2 ^ (32 - r) + x) (sym whole) ∙ div-add-mod' n (2 ^ (32 - r)) in
    let is : 128 + (128 * r + (top - 128)) % 128 ≡ top = omega arith in
    found_at n (128 * r) 128 (128 * r + (top - 128)) (omega arith) (omega arith)
    (constant_of n (128 * r + (top - 128)) (turn_good (128 * r + (top - 128)) (omega arith) (omega arith))
    (turn_value (128 * r + (top - 128)) r (omega arith) a b ∙ ap (λ x. x * 2 ^ (32 - r)) is ∙ made))
    (λ i l m. other_value n i (λ e.
    let other : n / 2 ^ (32 - r) ≡ 128 + i % 128 = byte_of n (128 + i % 128) (32 - r) (sym (turn_value i r (omega arith) a b) ∙ e) in
    omega arith))

-- ---- all of them

half_of_power : (s : ℕ) → 2 ^ suc s / 2 ≡ 2 ^ s
half_of_power s = ap (λ x. x / 2) (pow-succ' 2 s) ∙ mul-div_right (2 ^ s) {m = 2} (omega arith)

pub scale_halved : (scale turn : ℕ) → turn < 32 → scale ≡ 2 ^ (32 - turn) → scale / 2 ≡ 2 ^ (32 - (turn + 1))
scale_halved scale turn l h =
    let one : 32 - turn ≡ suc (32 - (turn + 1)) = omega arith in
    ap (λ x. x / 2) (h ∙ ap (λ s. 2 ^ s) one) ∙ half_of_power (32 - (turn + 1))

-- what the turns from one on give
pub turns_next : (n turn : ℕ) → turn < 32 → least_from n (128 * turn) 128 ≡ None → least_from n (128 * turn) (128 * (32 - turn)) ≡ least_from n (128 * (turn + 1)) (128 * (32 - (turn + 1)))
turns_next n turn l h =
    let many : 128 * (32 - turn) ≡ 128 + 128 * (32 - (turn + 1)) = omega arith in
    let there : 128 * turn + 128 ≡ 128 * (turn + 1) = omega arith in
    ap (least_from n (128 * turn)) many ∙ least_split n (128 * turn) 128 (128 * (32 - (turn + 1)))
    ∙ ap (λ o. option_or o (least_from n (128 * turn + 128) (128 * (32 - (turn + 1))))) h
    ∙ ap (λ k. least_from n k (128 * (32 - (turn + 1)))) there

pub turns_found : (n turn bits : ℕ) → turn < 32 → Some bits ≡ least_from n (128 * turn) 128 → least_from n (128 * turn) (128 * (32 - turn)) ≡ Some bits
turns_found n turn bits l h =
    let many : 128 * (32 - turn) ≡ 128 + 128 * (32 - (turn + 1)) = omega arith in
    ap (least_from n (128 * turn)) many ∙ least_split n (128 * turn) 128 (128 * (32 - (turn + 1)))
    ∙ ap (λ o. option_or o (least_from n (128 * turn + 128) (128 * (32 - (turn + 1))))) (sym h)

pub turns_end : (n turn : ℕ) → 32 ≤ turn → least_from n (128 * turn) (128 * (32 - turn)) ≡ None
turns_end n turn h =
    let no : 128 * (32 - turn) ≡ 0 = omega arith in
    ap (least_from n (128 * turn)) no ∙ least_of_none n (128 * turn)

-- the parts of all twelve bits, one behind another
abbrev pub parts_of : Option ℕ → Option ℕ → Option ℕ → Option ℕ → Option ℕ → Option ℕ
parts_of a b c d e = option_or a (option_or b (option_or c (option_or d e)))

least_parts : (n : ℕ) → least_bits n ≡ parts_of (least_from n 0 256) (least_from n 256 256) (least_from n 512 256) (least_from n 768 256) (least_from n 1024 3072)
unfolding least_bits
least_parts n =
    least_split n 0 256 3840
    ∙ ap (option_or (least_from n 0 256)) (least_split n 256 256 3584
    ∙ ap (option_or (least_from n 256 256)) (least_split n 512 256 3328
    ∙ ap (option_or (least_from n 512 256)) (least_split n 768 256 3072)))

pub least_small : (n : ℕ) → n < 256 → least_bits n ≡ Some n
least_small n h = least_parts n ∙ ap (λ a. parts_of a (least_from n 256 256) (least_from n 512 256) (least_from n 768 256) (least_from n 1024 3072)) (small_first n h)

pub least_other : (n : ℕ) (b c d e : Option ℕ) → 256 ≤ n → b ≡ least_from n 256 256 → c ≡ least_from n 512 256 → d ≡ least_from n 768 256 → e ≡ least_from n 1024 3072 → option_or b (option_or c (option_or d e)) ≡ least_bits n
least_other n b c d e l p q r t =
    let whole : least_bits n ≡ parts_of None (least_from n 256 256) (least_from n 512 256) (least_from n 768 256) (least_from n 1024 3072) =
    least_parts n ∙ ap (λ a. parts_of a (least_from n 256 256) (least_from n 512 256) (least_from n 768 256) (least_from n 1024 3072)) (small_none n l) in
    rw (p, q, r, t) (sym whole)
