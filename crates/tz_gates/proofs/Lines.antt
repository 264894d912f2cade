-- The lines of gates that are left to write.
use Rattle.std.proofs.Common.{◌≡◌, ℕ, zero, suc, ◌+◌, ◌<◌, ◌≤◌, ◌⊎◌, inl, inr, List, [], ◌∷◌, ◌++◌, length, get_or, drop, Option, Result, refl, sym, ap, ◌∙◌, subst, arith, append_assoc}
use Rattle.std.proofs.lemmas.List.{drop_all}
use Rattle.tz_model.specs.declared.outside.SinkError.{SinkError}
use Rattle.tz_model.specs.Outside.{Put}
use Rattle.tz_model.proofs.Puts.{put_then}
use Rattle.tz_text.proofs.Sending.{Sent}
use Rattle.tz_gates.specs.GatesText.{gate_line, gate_lines, unlisted_line}

-- the text from the gate of a number on
abbrev pub lines_left : List ℕ → List ℕ → ℕ → ℕ → List ℕ
lines_left gates hits unlisted i = gate_lines (drop i gates) (drop i hits) ++ unlisted_line unlisted

gates_more : (gates hits : List ℕ) (i : ℕ) → i < length gates → i < length hits → gate_lines (drop i gates) (drop i hits) ≡ gate_line (get_or gates i 0) (get_or hits i 0) ++ gate_lines (drop (suc i) gates) (drop (suc i) hits)
unfolding gate_lines
gates_more [] hits i l m = absurd (omega arith)
gates_more (g ∷ gs) [] i l m = absurd (omega arith)
gates_more (g ∷ gs) (h ∷ hs) zero l m = refl
gates_more (g ∷ gs) (h ∷ hs) (suc i) l m = gates_more gs hs i (omega arith) (omega arith)

pub line_more : (gates hits : List ℕ) (unlisted i : ℕ) → i < length gates → i < length hits → gate_line (get_or gates i 0) (get_or hits i 0) ++ lines_left gates hits unlisted (i + 1) ≡ lines_left gates hits unlisted i
line_more gates hits unlisted i l m =
    let e : i + 1 ≡ suc i = omega arith in
    ap (λ (k : ℕ). gate_line (get_or gates i 0) (get_or hits i 0) ++ lines_left gates hits unlisted k) e
    ∙ sym (append_assoc (gate_line (get_or gates i 0) (get_or hits i 0)) (gate_lines (drop (suc i) gates) (drop (suc i) hits)) (unlisted_line unlisted))
    ∙ ap (λ (xs : List ℕ). xs ++ unlisted_line unlisted) (sym (gates_more gates hits i l m))

no_gates : (hits : List ℕ) → gate_lines [] hits ≡ []
unfolding gate_lines
no_gates hits = refl

no_hits : (gates : List ℕ) → gate_lines gates [] ≡ []
unfolding gate_lines
no_hits [] = refl
no_hits (g ∷ gs) = refl

none_left : (gates hits : List ℕ) (i : ℕ) → (length gates ≤ i) ⊎ (length hits ≤ i) → gate_lines (drop i gates) (drop i hits) ≡ []
none_left gates hits i (inl l) = ap (λ (xs : List ℕ). gate_lines xs (drop i hits)) (drop_all i gates l) ∙ no_gates (drop i hits)
none_left gates hits i (inr l) = ap (gate_lines (drop i gates)) (drop_all i hits l) ∙ no_hits (drop i gates)

pub last_line : (gates hits : List ℕ) (unlisted i : ℕ) → (length gates ≤ i) ⊎ (length hits ≤ i) → lines_left gates hits unlisted i ≡ unlisted_line unlisted
last_line gates hits unlisted i past = ap (λ (xs : List ℕ). xs ++ unlisted_line unlisted) (none_left gates hits i past)

-- the last put, whether it goes well or not
pub sent_last : (whole : List ℕ) (w0 w w' : Option (List ℕ)) (r0 r r' : Option ℕ) (left line : List ℕ) (result : Result (Unit {0}) SinkError) → Sent whole w0 w r0 r left → left ≡ line → Put w w' r r' line result → Put w0 w' r0 r' whole result
sent_last whole w0 w w' r0 r r' left line result h e p =
    subst (λ (x : List ℕ). Put w0 w' r0 r' x result) (ap (λ (x : List ℕ). h.done ++ x) (sym e) ∙ h.text) (put_then w0 w w' r0 r r' h.done line result h.put p)
