-- Blocks of zeros, one a region.
use Rattle.std.proofs.Common.{◌≡◌, ℕ, zero, suc, ◌+◌, ◌<◌, List, [], ◌∷◌, ◌++◌, length, get_or, take, drop, map, refl, sym, ap, ◌∙◌, arith, add-one, append_assoc, append-nil}
use Rattle.std.specs.Prelude.{replicate}
use Rattle.std.proofs.lemmas.List.{length-replicate}
use Rattle.tz_model.specs.declared.board.Region.{Region}
use Rattle.tz_model.specs.Image.{entries_from}
use Rattle.tz_state.specs.Zeros.{zero_entries}
use Rattle.tz_mem.specs.Blocks.{BlockValue, region_of, entries_of}

entries_of-push : (ks : List BlockValue) (k : BlockValue) → entries_of (ks ++ k ∷ []) ≡ entries_of ks ++ entries_from k.base k.bytes
entries_of-push [] k = append-nil (entries_from k.base k.bytes)
entries_of-push (x ∷ ks) k =
    ap (λ es. entries_from x.base x.bytes ++ es) (entries_of-push ks k)
    ∙ sym (append_assoc (entries_from x.base x.bytes) (entries_of ks) (entries_from k.base k.bytes))

zeros_at : (rs : List Region) (i : ℕ) (r : Region) → i < length rs → zero_entries (drop i rs) ≡ entries_from (get_or rs i r).base (replicate (get_or rs i r).size 0) ++ zero_entries (drop (suc i) rs)
zeros_at [] i r l = absurd (omega arith)
zeros_at (q ∷ rs) zero r l = refl
zeros_at (q ∷ rs) (suc i) r l = zeros_at rs i r (omega arith)

-- one more block of zeros
pub zeros_more : (new ks : List BlockValue) (k : BlockValue) (rs : List Region) (i : ℕ) (r : Region) → new ≡ ks ++ k ∷ [] → i < length rs → k.base ≡ (get_or rs i r).base → k.bytes ≡ replicate (get_or rs i r).size 0
    → entries_of new ++ zero_entries (drop (i + 1) rs) ≡ entries_of ks ++ zero_entries (drop i rs)
zeros_more new ks k rs i r e l base bytes =
    rw (e, entries_of-push ks k, zeros_at rs i r l, base, bytes, add-one)
    (append_assoc (entries_of ks) (entries_from (get_or rs i r).base (replicate (get_or rs i r).size 0)) (zero_entries (drop (suc i) rs)))

regions_push : (ks : List BlockValue) (k : BlockValue) → map region_of (ks ++ k ∷ []) ≡ map region_of ks ++ region_of k ∷ []
regions_push [] k = refl
regions_push (x ∷ ks) k = ap (λ rs. region_of x ∷ rs) (regions_push ks k)

take_next : (rs : List Region) (i : ℕ) (r : Region) → i < length rs → take (suc i) rs ≡ take i rs ++ get_or rs i r ∷ []
take_next [] i r l = absurd (omega arith)
take_next (q ∷ rs) zero r l = refl
take_next (q ∷ rs) (suc i) r l = ap (λ xs. q ∷ xs) (take_next rs i r (omega arith))

-- and its region
region_at : (k : BlockValue) (r : Region) → k.base ≡ r.base → k.kind ≡ r.kind → k.side ≡ r.side → k.bytes ≡ replicate r.size 0 → region_of k ≡ r
region_at k r base kind side bytes = rw (base, kind, side, bytes, length-replicate {A = ℕ} r.size 0) refl

pub regions_more : (new ks : List BlockValue) (k : BlockValue) (rs : List Region) (i : ℕ) (r : Region) → new ≡ ks ++ k ∷ [] → i < length rs → k.base ≡ (get_or rs i r).base → k.kind ≡ (get_or rs i r).kind → k.side ≡ (get_or rs i r).side
    → k.bytes ≡ replicate (get_or rs i r).size 0 → map region_of ks ≡ take i rs → map region_of new ≡ take (i + 1) rs
regions_more new ks k rs i r e l base kind side bytes before =
    rw (e, regions_push ks k, before, region_at k (get_or rs i r) base kind side bytes, add-one) (sym (take_next rs i r l))
