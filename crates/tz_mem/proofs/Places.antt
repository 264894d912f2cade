-- Where bytes stand among blocks.
use Rattle.std.proofs.Common.{◌≡◌, ◌⊎◌, ℕ, zero, suc, ◌+◌, ◌-◌, ◌^◌, ◌<◌, ◌≤◌, Bool, true, false, List, [], ◌∷◌, length, get_or, Option, Some, None, slice_get, refl, sym, ap, ◌∙◌, subst, arith}
use Rattle.std.specs.Prelude.{◌&&◌, map}
use Rattle.std.specs.Option.{is_some, IfSome}
use Rattle.std.proofs.lemmas.Bool.Decides.{nat_tests}
use Rattle.tz_table.specs.declared.units.Size.{Size}
use Rattle.tz_table.specs.declared.units.Size.TheVariants.{Byte, Half, Word}
use Rattle.tz_model.specs.declared.board.Region.{Region}
use Rattle.tz_model.specs.Board.{in_region}
use Rattle.tz_model.specs.Words.{wrap}
use Rattle.tz_state.specs.Memory.{every}
use Rattle.tz_state.specs.Access.{is_mapped, is_writable, takes_writes}
use Rattle.tz_mem.specs.Blocks.{BlockValue, region_of, holds, byte_in, place_in, IsPlace, is_apart, holds_all, run_in, IsRun}

pub in_of : (k : BlockValue) (a : ℕ) → holds k a ≡ true → (k.base + (a - k.base) ≡ a) × (a - k.base < length k.bytes)
in_of k a is = grind (arith, nat_tests)

pub out_of : (k : BlockValue) (a : ℕ) → holds k a ≡ false → (a < k.base) ⊎ (k.base + length k.bytes ≤ a)
out_of k a not = grind (arith, nat_tests)

pub holds_at : (k : BlockValue) (a j : ℕ) → k.base + j ≡ a → j < length k.bytes → (holds k a ≡ true) × (a - k.base ≡ j)
holds_at k a j e l = grind (arith, nat_tests)

pub all_of : (k : BlockValue) (a last : ℕ) → a ≤ last → holds_all k a last ≡ true → (k.base + (a - k.base) ≡ a) × (a - k.base + (last - a) < length k.bytes)
all_of k a last l is = grind (arith, nat_tests)

apart_at : (k : BlockValue) (a last b : ℕ) → is_apart k a last ≡ true → a ≤ b → b ≤ last → holds k b ≡ false
apart_at k a last b is l h = grind (arith, nat_tests)

pub slice_get_some : (xs : List ℕ) (j : ℕ) → j < length xs → is_some (slice_get xs j) ≡ true
slice_get_some [] j l = absurd (omega arith)
slice_get_some (x ∷ xs) zero l = refl
slice_get_some (x ∷ xs) (suc j) l = slice_get_some xs j (omega arith)

-- ---- what a walk over the blocks finds

pub place_found : (n : ℕ) (ks : List BlockValue) (a : ℕ) (p : ℕ × ℕ) → place_in n ks a ≡ Some p → (m : ℕ) × ((p.0 ≡ n + m) × IsPlace ks a m p.1)
unfolding place_in
place_found n [] a p e = absurd cc
place_found n (k ∷ ks) a p e =
    elim (holds k a) as (λ b. holds k a ≡ b → (m : ℕ) × ((p.0 ≡ n + m) × IsPlace (k ∷ ks) a m p.1)) [
      | true ↦ λ is.
          let e' : Some (n, a - k.base) ≡ Some p = rw is at e in
          let same : (n, a - k.base) ≡ p = cc in
          let h = in_of k a is in
          let at : p.0 ≡ n = ap (λ (x : ℕ × ℕ). x.0) (sym same) in
          (zero, (omega arith, subst (λ (x : ℕ × ℕ). (k.base + x.1 ≡ a) × (x.1 < length k.bytes)) same h))
      | false ↦ λ is.
          let e' : place_in (n + 1) ks a ≡ Some p = rw is at e in
          let h = place_found (n + 1) ks a p e' in
          let at : p.0 ≡ n + 1 + h.0 = h.1.0 in
          (suc h.0, (omega arith, (is, h.1.1)))
    ] refl

pub place_at : (ks : List BlockValue) (a : ℕ) (p : ℕ × ℕ) → place_in 0 ks a ≡ Some p → IsPlace ks a p.0 p.1
place_at ks a p e =
    let h = place_found 0 ks a p e in
    let same : h.0 ≡ p.0 = omega (arith, h.1.0) in
    subst (λ m. IsPlace ks a m p.1) same h.1.1

pub place_none : (n : ℕ) (ks : List BlockValue) (a : ℕ) → place_in n ks a ≡ None → byte_in ks a ≡ None
unfolding place_in
place_none n [] a e = refl
place_none n (k ∷ ks) a e =
    elim (holds k a) as (λ b. holds k a ≡ b → byte_in (k ∷ ks) a ≡ None) [
      | true ↦ λ is. let e' : Some (n, a - k.base) ≡ None = rw is at e in absurd cc
      | false ↦ λ is. let e' : place_in (n + 1) ks a ≡ None = rw is at e in rw is (place_none (n + 1) ks a e')
    ] refl

pub run_found : (n : ℕ) (ks : List BlockValue) (a last : ℕ) (p : ℕ × ℕ) → a ≤ last → run_in n ks a last ≡ Some p → (m : ℕ) × ((p.0 ≡ n + m) × IsRun ks a last m p.1)
unfolding run_in
run_found n [] a last p l e = absurd cc
run_found n (k ∷ ks) a last p l e =
    elim (is_apart k a last) as (λ b. is_apart k a last ≡ b → (m : ℕ) × ((p.0 ≡ n + m) × IsRun (k ∷ ks) a last m p.1)) [
      | true ↦ λ is.
          let e' : run_in (n + 1) ks a last ≡ Some p = rw is at e in
          let h = run_found (n + 1) ks a last p l e' in
          let at : p.0 ≡ n + 1 + h.0 = h.1.0 in
          (suc h.0, (omega arith, (is, h.1.1)))
      | false ↦ λ not.
          elim (holds_all k a last) as (λ b. holds_all k a last ≡ b → (m : ℕ) × ((p.0 ≡ n + m) × IsRun (k ∷ ks) a last m p.1)) [
            | true ↦ λ is.
                let e' : Some (n, a - k.base) ≡ Some p = rw (not, is) at e in
                let same : (n, a - k.base) ≡ p = cc in
                let h = all_of k a last l is in
                let at : p.0 ≡ n = ap (λ (x : ℕ × ℕ). x.0) (sym same) in
                (zero, (omega arith, subst (λ (x : ℕ × ℕ). (k.base + x.1 ≡ a) × (x.1 + (last - a) < length k.bytes)) same h))
            | false ↦ λ is. let e' : None ≡ Some p = rw (not, is) at e in absurd cc
          ] refl
    ] refl

pub run_at : (ks : List BlockValue) (a last : ℕ) (p : ℕ × ℕ) → a ≤ last → run_in 0 ks a last ≡ Some p → IsRun ks a last p.0 p.1
run_at ks a last p l e =
    let h = run_found 0 ks a last p l e in
    let same : h.0 ≡ p.0 = omega (arith, h.1.0) in
    subst (λ m. IsRun ks a last m p.1) same h.1.1

pub whole_if : (ks : List BlockValue) (a more last : ℕ) (o : Option (ℕ × ℕ)) → a + more < 2 ^ 32 → last ≡ a + more → o ≡ run_in 0 ks a last
    → IfSome o (λ p. (a + more < 2 ^ 32) × IsRun ks a (a + more) p.0 p.1)
whole_if ks a more last None l e is = tt
whole_if ks a more last (Some p) l e is =
    (l, subst (λ x. IsRun ks a x p.0 p.1) e (run_at ks a last p (omega arith) (sym is)))

-- ---- what a place tells

pub index_of_place : (ks : List BlockValue) (a i j : ℕ) → IsPlace ks a i j → i < length ks
index_of_place [] a i j h = absurd h
index_of_place (k ∷ ks) a zero j h = omega arith
index_of_place (k ∷ ks) a (suc i) j h = let l = index_of_place ks a i j h.1 in omega (arith, l)

pub offset_of_place : (ks : List BlockValue) (a i j : ℕ) (k : BlockValue) → IsPlace ks a i j → k ≡ get_or ks i k → j < length k.bytes
offset_of_place [] a i j k h is = absurd h
offset_of_place (r ∷ ks) a zero j k h is = subst (λ (x : BlockValue). j < length x.bytes) (sym is) h.1
offset_of_place (r ∷ ks) a (suc i) j k h is = offset_of_place ks a i j k h.1 is

pub byte_of_place : (ks : List BlockValue) (a i j : ℕ) (k : BlockValue) → IsPlace ks a i j → k ≡ get_or ks i k → byte_in ks a ≡ slice_get k.bytes j
byte_of_place [] a i j k h is = absurd h
byte_of_place (r ∷ ks) a zero j k h is = let e = holds_at r a j h.0 h.1 in rw (e.0, e.1) (ap (λ (x : BlockValue). slice_get x.bytes j) (sym is))
byte_of_place (r ∷ ks) a (suc i) j k h is = rw h.0 (byte_of_place ks a i j k h.1 is)

pub mapped_of_place : (ks : List BlockValue) (a i j : ℕ) → IsPlace ks a i j → is_mapped (map region_of ks) a ≡ true
unfolding is_mapped
mapped_of_place [] a i j h = absurd h
mapped_of_place (r ∷ ks) a zero j h = let e = holds_at r a j h.0 h.1 in rw e.0 refl
mapped_of_place (r ∷ ks) a (suc i) j h = rw h.0 (mapped_of_place ks a i j h.1)

pub writable_of_place : (ks : List BlockValue) (a i j : ℕ) (k : BlockValue) → IsPlace ks a i j → k ≡ get_or ks i k → is_writable (map region_of ks) a ≡ takes_writes k.kind
unfolding is_writable
writable_of_place [] a i j k h is = absurd h
writable_of_place (r ∷ ks) a zero j k h is = let e = holds_at r a j h.0 h.1 in rw e.0 (ap (λ (x : BlockValue). takes_writes x.kind) (sym is))
writable_of_place (r ∷ ks) a (suc i) j k h is = rw h.0 (writable_of_place ks a i j k h.1 is)

-- ---- and none

pub mapped_at : (ks : List BlockValue) (a : ℕ) → is_mapped (map region_of ks) a ≡ is_some (byte_in ks a)
unfolding is_mapped
mapped_at [] a = refl
mapped_at (k ∷ ks) a =
    elim (holds k a) as (λ b. holds k a ≡ b → is_mapped (map region_of (k ∷ ks)) a ≡ is_some (byte_in (k ∷ ks) a)) [
      | true ↦ λ is. rw (is, slice_get_some k.bytes (a - k.base) (in_of k a is).1) refl
      | false ↦ λ is. rw is (mapped_at ks a)
    ] refl

pub mapped_none : (ks : List BlockValue) (a : ℕ) → byte_in ks a ≡ None → is_mapped (map region_of ks) a ≡ false
mapped_none ks a e = mapped_at ks a ∙ ap (is_some {T = ℕ}) e

-- what isn't mapped takes no writes
pub writable_none : (rs : List Region) (a : ℕ) → is_mapped rs a ≡ false → is_writable rs a ≡ false
unfolding is_mapped is_writable
writable_none [] a e = refl
writable_none (r ∷ rs) a e =
    elim (in_region r a) as (λ b. in_region r a ≡ b → is_writable (r ∷ rs) a ≡ false) [
      | true ↦ λ is. let e' : true ≡ false = rw is at e in absurd cc
      | false ↦ λ is. let e' : is_mapped rs a ≡ false = rw is at e in rw is (writable_none rs a e')
    ] refl

and_none : (p p' q q' : Bool) → (p ≡ false → q ≡ false) → (p' ≡ false → q' ≡ false) → (p && p') ≡ false → (q && q') ≡ false
and_none false p' q q' one two e = rw (one refl) refl
and_none true p' true q' one two e = two e
and_none true p' false q' one two e = refl

pub every_none : (rs : List Region) (a : ℕ) (size : Size) → every (is_mapped rs) a size ≡ false → every (is_writable rs) a size ≡ false
every_none rs a Byte e = writable_none rs a e
every_none rs a Half e = and_none _ _ _ _ (writable_none rs a) (writable_none rs (wrap (a + 1))) e
every_none rs a Word e =
    and_none _ _ _ _ (writable_none rs a)
    (and_none _ _ _ _ (writable_none rs (wrap (a + 1))) (and_none _ _ _ _ (writable_none rs (wrap (a + 2))) (writable_none rs (wrap (a + 3)))))
    e

-- ---- a run is a place of each of its bytes

pub place_of_run : (ks : List BlockValue) (a last i j t : ℕ) → IsRun ks a last i j → a + t ≤ last → IsPlace ks (a + t) i (j + t)
place_of_run [] a last i j t h l = absurd h
place_of_run (k ∷ ks) a last zero j t h l = (omega (arith, h.0), omega (arith, h.1))
place_of_run (k ∷ ks) a last (suc i) j t h l = (apart_at k a last (a + t) h.0 (omega arith) l, place_of_run ks a last i j t h.1 l)

pub end_of_run : (ks : List BlockValue) (a last i j : ℕ) (k : BlockValue) → IsRun ks a last i j → k ≡ get_or ks i k → j + (last - a) < length k.bytes
end_of_run [] a last i j k h is = absurd h
end_of_run (r ∷ ks) a last zero j k h is = subst (λ (x : BlockValue). j + (last - a) < length x.bytes) (sym is) h.1
end_of_run (r ∷ ks) a last (suc i) j k h is = end_of_run ks a last i j k h.1 is

pub index_of_run : (ks : List BlockValue) (a last i j : ℕ) → IsRun ks a last i j → i < length ks
index_of_run [] a last i j h = absurd h
index_of_run (k ∷ ks) a last zero j h = omega arith
index_of_run (k ∷ ks) a last (suc i) j h = let l = index_of_run ks a last i j h.1 in omega (arith, l)
