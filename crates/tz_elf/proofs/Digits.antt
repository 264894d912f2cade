-- Bytes in hexadecimal digits: what the decoder answers is what the definition says.
use Rattle.std.proofs.Common.{◌≡◌, ◌∙◌, ◌≤◌, ◌+◌, ◌-◌, ◌*◌, ◌%◌, ◌==◌, ◌&&◌, Bool, true, false, if◌then◌else◌, length-take, length-drop, ℕ, zero, suc, refl, sym, ap, arith, List, [], ◌∷◌, length, take, drop, slice_index, Option, Some, None, Result, Ok, Err, inl, inr}
use Rattle.std.specs.Result.{MatchResult, is_err}
use Rattle.std.proofs.lemmas.Bool.{cases_eq, le-leb}
use Rattle.tz_model.specs.Board.{within}
use Rattle.hex.specs.Hex.{decode_of, decode_pairs, decode_sized, hex_digit_value}
use Rattle.hex.specs.declared.error.FromHexError.{FromHexError}
use Rattle.hex.proofs.HexLemmas.{decode_of-even, decode_of-odd, decode_sized-twice}
use Rattle.tz_elf.specs.PlainImage.{byte_of, bytes_of, digit_of, segment_of, segment_with}

-- what a decoder's answer is to the definition, which gives no causes
abbrev pub decoded : Result (List ℕ) FromHexError → Option (List ℕ)
decoded (Ok bytes) = Some bytes
decoded (Err e) = None

pub bytes_of-pairs : (i : ℕ) (text : List ℕ) → bytes_of text ≡ decoded (decode_pairs i text)
unfolding bytes_of decode_pairs
bytes_of-pairs i [] = refl
bytes_of-pairs i (digit ∷ []) = refl
bytes_of-pairs i (high ∷ low ∷ rest) = by_cases (hex_digit_value high) refl (hex_digit_value low) refl (decode_pairs (i + 2) rest) refl (bytes_of-pairs (i + 2) rest)
  where
    by_cases : (h : Option ℕ) → hex_digit_value high ≡ h → (l : Option ℕ) → hex_digit_value low ≡ l → (r : Result (List ℕ) FromHexError) → decode_pairs (i + 2) rest ≡ r
        → bytes_of rest ≡ decoded (decode_pairs (i + 2) rest)
        → bytes_of (high ∷ low ∷ rest) ≡ decoded (decode_pairs i (high ∷ low ∷ rest))
    by_cases (Some h) eh (Some l) el (Ok bytes) er ih = rw (eh, el, ih, er) refl
    by_cases (Some h) eh (Some l) el (Err e) er ih = rw (eh, el, ih, er) refl
    by_cases (Some h) eh None el r er ih = rw (eh, el) refl
    by_cases None eh l el r er ih = rw eh refl

-- the bytes are half as many as the digits
pub length-bytes_of : (text bytes : List ℕ) → bytes_of text ≡ Some bytes → length text ≡ 2 * length bytes
unfolding bytes_of
length-bytes_of [] bytes e =
    let none : [] ≡ bytes = cc in
    rw (← none) refl
length-bytes_of (digit ∷ []) bytes e = cc
length-bytes_of (high ∷ low ∷ rest) bytes e = by_cases (byte_of (digit_of high) (digit_of low)) refl (bytes_of rest) refl (length-bytes_of rest)
  where
    by_cases : (b : Option ℕ) → byte_of (digit_of high) (digit_of low) ≡ b → (r : Option (List ℕ)) → bytes_of rest ≡ r
        → ((more : List ℕ) → bytes_of rest ≡ Some more → length rest ≡ 2 * length more)
        → length (high ∷ low ∷ rest) ≡ 2 * length bytes
    by_cases (Some b) eb (Some more) er ih =
        let whole : Some (b ∷ more) ≡ Some bytes = rw (eb, er) at e in
        let front : b ∷ more ≡ bytes = cc whole in
        let half : length rest ≡ 2 * length more = ih more er in
        rw (← front) (omega (arith, half))
    by_cases (Some b) eb None er ih =
        let none = rw (eb, er) at e in
        cc none
    by_cases None eb r er ih =
        let none = rw eb at e in
        cc none

-- digits of an odd number are no bytes
odd_bytes : (text : List ℕ) → length text % 2 ≡ 1 → bytes_of text ≡ None
odd_bytes text odd = by_cases (bytes_of text) refl
  where
    by_cases : (b : Option (List ℕ)) → bytes_of text ≡ b → bytes_of text ≡ None
    by_cases None e = e
    by_cases (Some bytes) e =
        let half = length-bytes_of text bytes e in
        absurd (omega (arith, half))

pub bytes_of-decode : (text : List ℕ) → bytes_of text ≡ decoded (decode_of text)
bytes_of-decode text =
    elim (cases_eq (length text % 2) 1) [
      | inl odd ↦ rw (decode_of-odd text odd) (odd_bytes text odd)
      | inr even ↦ rw (decode_of-even text (omega arith)) (bytes_of-pairs 0 text)
    ]

-- what a sized decoder's answer is told by: its result, and what it wrote
abbrev pub Told : Result (List ℕ) FromHexError → Result Unit FromHexError → List ℕ → Type 0
Told answer r out = MatchResult answer (λ bytes. (r ≡ Ok tt) × (out ≡ bytes)) (λ e. r ≡ Err e)

-- a decoder into 4 bytes that failed, and one that did not
four_bytes : (answer : Result (List ℕ) FromHexError) (r : Result Unit FromHexError) (out : List ℕ) → Told answer r out
    → ((is_err r ≡ true → decoded answer ≡ None) × (is_err r ≡ false → decoded answer ≡ Some out))
four_bytes (Ok bytes) r out told = (λ e. let no : false ≡ true = rw told.0 at e in cc no, λ e. ap Some (sym told.1))
four_bytes (Err cause) r out told = (λ e. refl, λ e. let no : true ≡ false = rw told at e in cc no)

-- the bytes of the first 8 digits
address_bytes : (line : List ℕ) → 11 ≤ length line → decoded (decode_sized (take 8 line) 4) ≡ bytes_of (take 8 line)
address_bytes line long =
    let eight : length (take 8 line) ≡ 8 = simp length-take (omega arith) in
    ap decoded (decode_sized-twice (take 8 line) 4 eight) ∙ sym (bytes_of-decode (take 8 line))

segment_of-no_address : (line : List ℕ) → bytes_of (take 8 line) ≡ None → segment_of line ≡ None
segment_of-no_address line none = by_test (within 11 137 (length line) && slice_index line 8 == 32)
  where
    by_test : (t : Bool) → (if t then segment_with (bytes_of (take 8 line)) (bytes_of (drop 9 line)) else None) ≡ None
    by_test true = rw none refl
    by_test false = refl

-- a line whose address was refused
pub segment_of-refused : (line out : List ℕ) (r : Result Unit FromHexError) → 11 ≤ length line → Told (decode_sized (take 8 line) 4) r out → is_err r ≡ true
    → segment_of line ≡ None
segment_of-refused line out r long told failed =
    segment_of-no_address line (sym (address_bytes line long) ∙ (four_bytes (decode_sized (take 8 line) 4) r out told).0 failed)

-- all of a short list
pub take_whole : (n : ℕ) (xs : List ℕ) → length xs ≤ n → take n xs ≡ xs
take_whole zero [] h = refl
take_whole zero (x ∷ xs) h = absurd (omega arith)
take_whole (suc n) [] h = refl
take_whole (suc n) (x ∷ xs) h = ap (λ (ys : List ℕ). x ∷ ys) (take_whole n xs (omega arith))

-- a slice to the end
pub take-rest : (n : ℕ) (xs : List ℕ) → take (length xs - n) (drop n xs) ≡ drop n xs
take-rest n xs = take_whole (length xs - n) (drop n xs) (omega (arith, length-drop n xs))

-- a line whose parts stand where they should
pub segment_of-parts : (line : List ℕ) → 11 ≤ length line → length line ≤ 137 → slice_index line 8 ≡ 32
    → segment_of line ≡ segment_with (bytes_of (take 8 line)) (bytes_of (drop 9 line))
segment_of-parts line long short space = rw (le-leb 11 (length line) long, le-leb (length line) 137 short, space) refl

-- a line whose address was read, and whose bytes were read or refused
pub segment_of-read : (line out : List ℕ) (r : Result Unit FromHexError) (answer : Result (List ℕ) FromHexError)
    → 11 ≤ length line → length line ≤ 137 → slice_index line 8 ≡ 32 → Told (decode_sized (take 8 line) 4) r out → is_err r ≡ false
    → decode_of (take (length line - 9) (drop 9 line)) ≡ answer → segment_of line ≡ segment_with (Some out) (decoded answer)
segment_of-read line out r answer long short space told went e =
    let address : bytes_of (take 8 line) ≡ Some out = sym (address_bytes line long) ∙ (four_bytes (decode_sized (take 8 line) 4) r out told).1 went in
    let bytes : bytes_of (drop 9 line) ≡ decoded answer = bytes_of-decode (drop 9 line) ∙ ap (λ (text : List ℕ). decoded (decode_of text)) (sym (take-rest 9 line)) ∙ ap decoded e in
    segment_of-parts line long short space ∙ rw (address, bytes) refl
