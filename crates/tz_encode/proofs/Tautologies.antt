-- Two tests of some Bools agree where they do so for all values, which computes.
use Rattle.std.proofs.Common.{◌≡◌, Bool, true, false, ◌&&◌, refl}
use Rattle.std.proofs.lemmas.Bool.{and_parts}
use mathlib.Core.Bool.{beq}

beq_true : (a b : Bool) → beq a b ≡ true → a ≡ b
beq_true true true h = refl
beq_true true false h = cc
beq_true false true h = cc
beq_true false false h = refl

abbrev pub agree_1 : (p q : Bool → Bool) → Bool
agree_1 p q = beq (p true) (q true) && beq (p false) (q false)

abbrev pub agree_2 : (p q : Bool → Bool → Bool) → Bool
agree_2 p q = agree_1 (p true) (q true) && agree_1 (p false) (q false)

abbrev pub agree_3 : (p q : Bool → Bool → Bool → Bool) → Bool
agree_3 p q = agree_2 (p true) (q true) && agree_2 (p false) (q false)

abbrev pub agree_4 : (p q : Bool → Bool → Bool → Bool → Bool) → Bool
agree_4 p q = agree_3 (p true) (q true) && agree_3 (p false) (q false)

abbrev pub agree_5 : (p q : Bool → Bool → Bool → Bool → Bool → Bool) → Bool
agree_5 p q = agree_4 (p true) (q true) && agree_4 (p false) (q false)

abbrev pub agree_6 : (p q : Bool → Bool → Bool → Bool → Bool → Bool → Bool) → Bool
agree_6 p q = agree_5 (p true) (q true) && agree_5 (p false) (q false)

abbrev pub agree_7 : (p q : Bool → Bool → Bool → Bool → Bool → Bool → Bool → Bool) → Bool
agree_7 p q = agree_6 (p true) (q true) && agree_6 (p false) (q false)

pub always_1 : (p q : Bool → Bool) → agree_1 p q ≡ true → (a : Bool) → p a ≡ q a
always_1 p q h true = beq_true _ _ (and_parts (beq (p true) (q true)) (beq (p false) (q false)) h).0
always_1 p q h false = beq_true _ _ (and_parts (beq (p true) (q true)) (beq (p false) (q false)) h).1

pub always_2 : (p q : Bool → Bool → Bool) → agree_2 p q ≡ true → (a b : Bool) → p a b ≡ q a b
always_2 p q h true b = always_1 (p true) (q true) (and_parts (agree_1 (p true) (q true)) (agree_1 (p false) (q false)) h).0 b
always_2 p q h false b = always_1 (p false) (q false) (and_parts (agree_1 (p true) (q true)) (agree_1 (p false) (q false)) h).1 b

pub always_3 : (p q : Bool → Bool → Bool → Bool) → agree_3 p q ≡ true → (a b c : Bool) → p a b c ≡ q a b c
always_3 p q h true b c = always_2 (p true) (q true) (and_parts (agree_2 (p true) (q true)) (agree_2 (p false) (q false)) h).0 b c
always_3 p q h false b c = always_2 (p false) (q false) (and_parts (agree_2 (p true) (q true)) (agree_2 (p false) (q false)) h).1 b c

pub always_4 : (p q : Bool → Bool → Bool → Bool → Bool) → agree_4 p q ≡ true → (a b c d : Bool) → p a b c d ≡ q a b c d
always_4 p q h true b c d = always_3 (p true) (q true) (and_parts (agree_3 (p true) (q true)) (agree_3 (p false) (q false)) h).0 b c d
always_4 p q h false b c d = always_3 (p false) (q false) (and_parts (agree_3 (p true) (q true)) (agree_3 (p false) (q false)) h).1 b c d

pub always_5 : (p q : Bool → Bool → Bool → Bool → Bool → Bool) → agree_5 p q ≡ true → (a b c d e : Bool) → p a b c d e ≡ q a b c d e
always_5 p q h true b c d e = always_4 (p true) (q true) (and_parts (agree_4 (p true) (q true)) (agree_4 (p false) (q false)) h).0 b c d e
always_5 p q h false b c d e = always_4 (p false) (q false) (and_parts (agree_4 (p true) (q true)) (agree_4 (p false) (q false)) h).1 b c d e

pub always_6 : (p q : Bool → Bool → Bool → Bool → Bool → Bool → Bool) → agree_6 p q ≡ true → (a b c d e f : Bool) → p a b c d e f ≡ q a b c d e f
always_6 p q h true b c d e f = always_5 (p true) (q true) (and_parts (agree_5 (p true) (q true)) (agree_5 (p false) (q false)) h).0 b c d e f
always_6 p q h false b c d e f = always_5 (p false) (q false) (and_parts (agree_5 (p true) (q true)) (agree_5 (p false) (q false)) h).1 b c d e f

pub always_7 : (p q : Bool → Bool → Bool → Bool → Bool → Bool → Bool → Bool) → agree_7 p q ≡ true → (a b c d e f g : Bool) → p a b c d e f g ≡ q a b c d e f g
always_7 p q h true b c d e f g = always_6 (p true) (q true) (and_parts (agree_6 (p true) (q true)) (agree_6 (p false) (q false)) h).0 b c d e f g
always_7 p q h false b c d e f g = always_6 (p false) (q false) (and_parts (agree_6 (p true) (q true)) (agree_6 (p false) (q false)) h).1 b c d e f g
