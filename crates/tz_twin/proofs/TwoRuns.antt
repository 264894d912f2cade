-- Two runs that are seen alike and cross out of Secure state alike print the same.
use Rattle.std.proofs.Common.{◌≡◌, ℕ, zero, suc, ◌+◌, Bool, true, false, ◌||◌, not, List, ◌++◌, refl, sym, ap, ◌∙◌, cond}
use Rattle.std.specs.Prelude.{codes, decimal}
use Rattle.tz_table.specs.declared.units.Side.{Side}
use Rattle.tz_table.specs.declared.units.Side.TheVariants.{Secure}
use Rattle.tz_model.specs.declared.report.Report.{Report}
use Rattle.tz_model.specs.declared.report.ScriptEvent.{ScriptEvent}
use Rattle.tz_model.specs.declared.report.View.TheVariants.{Ns}
use Rattle.tz_model.specs.Board.{BoardValue}
use Rattle.tz_model.specs.Image.{ImageValue}
use Rattle.tz_model.specs.Words.{wrap, is_nonsecure_side}
use Rattle.tz_regs.specs.declared.parts.Before.{Before}
use Rattle.tz_state.specs.Memory.{Memory, word_at}
use Rattle.tz_regs.specs.Registers.{before_in}
use Rattle.tz_state.specs.State.{State, side_of}
use Rattle.tz_sem.specs.Boot.{boot_memory, has_vectors, reset, boot}
use Rattle.tz_sem.specs.Ended.{Ended, report_of}
use Rattle.tz_sem.specs.Run.{Events}
use Rattle.tz_sem.specs.Step.{Stepped, stepped, ended, started}
use Rattle.tz_text.specs.Line.{is_hidden, line}
use Rattle.tz_twin.specs.Seen.{crossing, Agree, Seen, Hidden, seen}
use Rattle.tz_twin.specs.Trace.{text_from}
use Rattle.tz_twin.proofs.Split.{Open, Twins, by_join, board_seen-seen, sides_alike, twins_of_seen, seen_of_twins}
use Rattle.tz_twin.proofs.After.{after}
use Rattle.tz_twin.proofs.Both.{Touching, Goes, Stops, Both, Go, Stop, Touch}
use Rattle.tz_twin.proofs.Halting.{locked_seen}
use Rattle.tz_twin.proofs.Secured.{touching_step}
use Rattle.tz_twin.proofs.Stepping.{twin_ended, twin_started}

-- two steps of which each leaves the same to be seen, and prints the same line
pub record Linked (k : ℕ) (r r' : Stepped) : Type 0 where
  pub seen : seen r.state ≡ seen r'.state
  pub line : line Ns k r.report ≡ line Ns k r'.report

hidden_line : (k : ℕ) (r : Report) → is_hidden r ≡ true → line Ns k r ≡ decimal k ++ codes " " ++ codes "S" ++ codes "\n"
unfolding line
hidden_line k r h = rw h refl

or_first : (p q : Bool) → p ≡ true → (p || q) ≡ true
or_first true q e = refl
or_first false q e = cc

or_second : (p q : Bool) → q ≡ true → (p || q) ≡ true
or_second true q e = refl
or_second false q e = e

-- ---- steps that go on as twins

-- twins have the same behind them, and tell the same when their steps end as twins
before_same : (s s' : State) → Twins s s' → before_in s.core ≡ before_in s'.core
before_same s s' t = by_join (λ r r'. before_in r.core ≡ before_in r'.core) (λ o x x' same. refl) s s' t

report_same : (b : Before) (e e' : Ended) → Twins e.state e'.state → e.ending ≡ e'.ending → e.stores ≡ e'.stores → report_of b e ≡ report_of b e'
report_same b e e' t ending stores =
    by_join (λ r r'. report_of b (record { state = r; stores = e.stores; ending = e.ending }) ≡ report_of b (record { state = r'; stores = e.stores; ending = e.ending }))
    (λ o x x' same. refl) e.state e'.state t
    ∙ (λ i. report_of b (record { state = e'.state; stores = stores i; ending = ending i }))

linked_goes : (k : ℕ) (s s' : State) (e e' : Ended) → Twins s s' → Goes s s' e e' → Linked k (stepped (before_in s.core) e) (stepped (before_in s'.core) e')
linked_goes k s s' e e' t h = record {
  seen = seen_of_twins e.state e'.state h.twins;
  line = ap (line Ns k) (report_same (before_in s.core) e e' h.twins h.ending h.stores ∙ ap (λ (b : Before). report_of b e') (before_same s s' t));
}

-- ---- steps that stop

locked_side : (s : State) → s.core.run.locked ≡ true → side_of s ≡ Secure
locked_side s e = go s.core.run.locked e where
  go : (t : Bool) → t ≡ true → cond t Secure s.core.run.side ≡ Secure
  go true h = refl
  go false h = cc

locked_line : (k : ℕ) (b : Before) (e : Ended) → e.state.core.run.locked ≡ true → line Ns k (report_of b e) ≡ decimal k ++ codes " " ++ codes "S" ++ codes "\n"
locked_line k b e h =
    hidden_line k (report_of b e)
    (or_second e.ending.touched (not (is_nonsecure_side (side_of e.state))) (ap (λ (side : Side). not (is_nonsecure_side side)) (locked_side e.state h)))

linked_stops : (k : ℕ) (s s' : State) (e e' : Ended) → Twins s s' → Stops s e → Stops s' e' → Linked k (stepped (before_in s.core) e) (stepped (before_in s'.core) e')
linked_stops k s s' e e' t h h' = record {
  seen = locked_seen e.state h.locked ∙ ap Hidden (h.board ∙ ap (λ (o : Open). o.board) t.opens ∙ sym h'.board) ∙ sym (locked_seen e'.state h'.locked);
  line = locked_line k (before_in s.core) e h.locked ∙ sym (locked_line k (before_in s'.core) e' h'.locked);
}

-- ---- steps that looked at Secure state

-- they are linked where they cross alike
linked_touching : (k : ℕ) (s s' : State) (before before' : Seen) (e e' : Ended) → before ≡ before' → crossing (stepped (before_in s.core) e) ≡ crossing (stepped (before_in s'.core) e')
    → Touching s before e → Touching s' before' e' → Linked k (stepped (before_in s.core) e) (stepped (before_in s'.core) e')
linked_touching k s s' before before' e e' alike same t t' = record {
  seen = t.seen ∙ ap (λ b. after b (crossing (stepped (before_in s.core) e))) alike ∙ ap (after before') same ∙ sym t'.seen;
  line = hidden_line k (report_of (before_in s.core) e) (or_first e.ending.touched _ t.touched)
      ∙ sym (hidden_line k (report_of (before_in s'.core) e') (or_first e'.ending.touched _ t'.touched));
}

linked_both : (k : ℕ) (s s' : State) (e e' : Ended) → Twins s s' → crossing (stepped (before_in s.core) e) ≡ crossing (stepped (before_in s'.core) e') → Both s s' e e'
    → Linked k (stepped (before_in s.core) e) (stepped (before_in s'.core) e')
linked_both k s s' e e' t same (Go h) = linked_goes k s s' e e' t h
linked_both k s s' e e' t same (Stop h h') = linked_stops k s s' e e' t h h'
linked_both k s s' e e' t same (Touch before before' alike h h' a a') = linked_touching k s s' before before' e e' alike same h h'

-- from states that are seen alike, steps that cross alike
pub linked_step : (k : ℕ) (s s' : State) → seen s ≡ seen s' → crossing (stepped (before_in s.core) (ended s)) ≡ crossing (stepped (before_in s'.core) (ended s'))
    → Linked k (stepped (before_in s.core) (ended s)) (stepped (before_in s'.core) (ended s'))
linked_step k s s' alike same = go (is_nonsecure_side (side_of s)) refl where
  go : (t : Bool) → is_nonsecure_side (side_of s) ≡ t → Linked k (stepped (before_in s.core) (ended s)) (stepped (before_in s'.core) (ended s'))
  go true is =
      let t = twins_of_seen s s' alike is in
      linked_both k s s' (ended s) (ended s') t same (twin_ended s s' t)
  go false is =
      linked_touching k s s' (seen s) (seen s') (ended s) (ended s') alike same
      (touching_step s (seen s) is (board_seen-seen s)) (touching_step s' (seen s') (sym (sides_alike s s' alike) ∙ is) (board_seen-seen s'))

-- ---- runs

-- what a step begins with is seen alike
hidden_seen : (s : State) → is_nonsecure_side (side_of s) ≡ false → seen s ≡ Hidden s.bus.board
hidden_seen s is = rw is refl

hidden_started : (s : State) (events : List ScriptEvent) → is_nonsecure_side (side_of s) ≡ false → seen (started s events) ≡ Hidden s.bus.board
hidden_started s events is = hidden_seen (started s events) is

pub seen_started : (s s' : State) (events : List ScriptEvent) → seen s ≡ seen s' → seen (started s events) ≡ seen (started s' events)
seen_started s s' events e = go (is_nonsecure_side (side_of s)) refl where
  go : (t : Bool) → is_nonsecure_side (side_of s) ≡ t → seen (started s events) ≡ seen (started s' events)
  go true is = seen_of_twins (started s events) (started s' events) (twin_started s s' events (twins_of_seen s s' e is))
  go false is =
      let is' : is_nonsecure_side (side_of s') ≡ false = sym (sides_alike s s' e) ∙ is in
      hidden_started s events is ∙ sym (hidden_seen s is) ∙ e ∙ hidden_seen s' is' ∙ sym (hidden_started s' events is')

-- n steps print the same
pub same_text : (events : Events) (n k : ℕ) (s s' : State) → seen s ≡ seen s' → Agree events k s s' n → text_from Ns events k s n ≡ text_from Ns events k s' n
same_text events zero k s s' e agree = refl
same_text events (suc n) k s s' e agree =
    let r = started s (events k) in
    let r' = started s' (events k) in
    let a = linked_step k r r' (seen_started s s' (events k) e) agree.0 in
    rw (a.line, same_text events n (k + 1) (ended r).state (ended r').state a.seen agree.1) refl

-- nothing of a start is seen but the board
pub boot_seen : (b : BoardValue) (secure nonsecure : ImageValue) → seen (boot b secure nonsecure) ≡ Hidden b
unfolding boot
boot_seen b secure nonsecure = go (has_vectors b) where
  m : Memory
  m = boot_memory b secure nonsecure

  go : (t : Bool) → seen (cond t (reset b m (word_at m b.secure_vtor) (word_at m (wrap (b.secure_vtor + 4))) false) (reset b m 0 0 true)) ≡ Hidden b
  go true = refl
  go false = refl

-- two starts with one Non-secure image, and any two Secure images
pub isolated : (b : BoardValue) (secure other nonsecure : ImageValue) (events : Events) (n : ℕ) → Agree events 0 (boot b secure nonsecure) (boot b other nonsecure) n
    → text_from Ns events 0 (boot b secure nonsecure) n ≡ text_from Ns events 0 (boot b other nonsecure) n
isolated b secure other nonsecure events n agree =
    same_text events n 0 (boot b secure nonsecure) (boot b other nonsecure) (boot_seen b secure nonsecure ∙ sym (boot_seen b other nonsecure)) agree
