use Rattle.std.proofs.Common.{◌≡◌, ◌+◌, ◌-◌, ◌∙◌, Option, Some, ap, arith, drop, length, length-drop, option_map, pos, sym, ℤ, ℕ}
use Rattle.tz_asm.specs.Front.{views}
use Rattle.tz_asm.specs.CodedOperands.{list_behind}
use Rattle.tz_asm.proofs.Lists.{breaks_at, ends_at, goes_on_at, stops_at}
use Rattle.tz_asm.proofs.code.operands.list_behind.Goals as goal

pub returns-then-mark-eq125 : goal.returns-then-mark-eq125
returns-then-mark-eq125 c =
    let rest = c.from_place-then-mark-eq125 in
    ap (λ (value : Option ℤ). Some (value, views rest.result.now)) (c.list_value.ensures ∙ ap (option_map pos) c.with_register-longer.ensures.list)
    ∙ sym (ends_at c.loop-register.list c.args.tokens.now c.from_place.result.now rest.result.now c.loop-register.place c.in-Some.register c.in-Some.mark c.from_place.ensures c.in-Some.ensures.read c.if-mark-eq125.true rest.ensures)
    ∙ c.loop-register.invariant.read

pub returns-then-mark-ne44 : goal.returns-then-mark-ne44
returns-then-mark-ne44 c = sym (breaks_at c.loop-register.list c.args.tokens.now c.from_place.result.now c.loop-register.place c.in-Some.register c.in-Some.mark c.from_place.ensures c.in-Some.ensures.read c.if-mark-eq125.false c.if-mark-ne44.true) ∙ c.loop-register.invariant.read

pub loop-register-preserved : goal.loop-register-preserved
loop-register-preserved c =
    let tokens = c.args.tokens.now in
    let place = c.loop-register.place in
    let left : length c.from_place.result.now ≡ length tokens - place = simp length-drop at (ap length c.from_place.ensures) in
    record {
      read = ap (λ (list : Option ℕ). list_behind list (views (drop (place + 2) tokens))) c.with_register-longer.ensures.list ∙ sym (goes_on_at c.loop-register.list tokens c.from_place.result.now place c.in-Some.register c.in-Some.mark c.from_place.ensures c.in-Some.ensures.read c.if-mark-ne44.false) ∙ c.loop-register.invariant.read;
      below = c.with_register-longer.ensures.below;
      within = omega (arith, c.in-Some.ensures.within, left);
    }

pub returns : goal.returns
returns c = sym (stops_at c.loop-register.list c.args.tokens.now c.from_place.result.now c.loop-register.place c.from_place.ensures c.in_default.ensures.read) ∙ c.loop-register.invariant.read
