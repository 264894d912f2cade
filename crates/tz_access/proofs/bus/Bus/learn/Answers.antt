use Rattle.std.proofs.Common.{◌≡◌, ◌/◌, ◌∙◌, ap, refl, sym, subst, arith}
use Rattle.std.proofs.lemmas.Grind.{common_steps}
use Rattle.tz_model.specs.Board.{are_regions}
use Rattle.tz_access.specs.Seen.{BusValue}
use Rattle.tz_access.specs.declared.look_up.LookUp.{LookUp}
use Rattle.tz_access.specs.declared.look_up.Who.{Who}
use Rattle.tz_access.specs.Keys.{who_of}
use Rattle.tz_access.specs.LookUps.{Guards, Tells, IsSeen, guards_by, guards_of}
use Rattle.tz_access.proofs.LookUps.{who_by_key, seen_block, more_seen}
use Rattle.tz_access.proofs.bus.Bus.learn.Goals as goal

-- The places stay right with one more look-up, of whose byte the units were asked.
pub invariant_of-self : goal.invariant_of-self
invariant_of-self c =
    let k : LookUp = record { block = c.args.addr / 32; key = c.key_of-key.result; admitted = c.args.admitted; permitted = c.permitted-permitted.result } in
    let tells : Tells (guards_of c.args.self.now.state) c.args.who c.args.addr k = (
      c.requires,
      grind (arith, common_steps),
      grind (arith, common_steps),
      grind (arith, common_steps),
    ) in
    let asks : who_of k.key ≡ c.args.who = who_by_key _ _ c.key_of-key.ensures in
    let told : Tells (guards_of c.args.self.now.state) (who_of k.key) c.args.addr k = subst (λ (w : Who). Tells (guards_of c.args.self.now.state) w c.args.addr k) (sym asks) tells in
    let i = c.self.inside in
    let g : Guards = guards_by i.board i.sau.sau i.mpu_s.mpu i.mpu_ns.mpu in
    let seen : IsSeen g k =
    seen_block g k c.args.addr (ap (λ (b : BusValue). are_regions b.state.board.regions) c.self.view_is ∙ c.know_regions.ensures) c.ranges.addr.fits refl
    (subst (λ (b : BusValue). Tells (guards_of b.state) (who_of k.key) c.args.addr k) (sym c.self.view_is) told) in
    let both = more_seen g c.args.who.fetch i.kept _ k c.keep.ensures.places c.self.invariant.4 c.self.invariant.5 seen in (
      c.self.invariant.0,
      c.self.invariant.1,
      c.self.invariant.2,
      c.self.invariant.3,
      both.0,
      both.1,
    )

pub returns-clause-held : goal.returns-clause-held
returns-clause-held c = (c.keep.ensures.held, refl, who_by_key _ _ c.key_of-key.ensures)
