use Rattle.std.proofs.Common.{◌∙◌, ap}
use Rattle.tz_state.specs.Attribution.{SauState}
use Rattle.tz_state.specs.Protection.{MpuState}
use Rattle.tz_state.specs.UnitRegisters.{sau_register, mpu_register}
use Rattle.tz_access.specs.LookUps.{guards_by}
use Rattle.tz_access.proofs.LookUps.{changed_seen, sau_left, mpu_left, regions_left, profile_left}
use Rattle.tz_access.proofs.bus.Bus.set_register.Goals as goal

-- Where a register is written, nothing is kept any more; where there is none at the address, nothing changes.
pub invariant_of-self : goal.invariant_of-self
invariant_of-self c =
    let i = c.self.inside in
    let both =
    changed_seen (guards_by i.board i.sau.sau i.mpu_s.mpu i.mpu_ns.mpu) _ c.take_changed.result i.kept _
    (λ e. ap (λ (u : SauState). guards_by i.board u i.mpu_s.mpu i.mpu_ns.mpu) (sau_left i.sau _ _ (sau_register c.args.addr) c.args.value _ c.write.ensures c.take_changed.ensures.told c.take_changed.ensures.taken e))
    c.empty_where.ensures.emptied c.empty_where.ensures.left c.self.invariant.4 c.self.invariant.5 in (
      c.self.invariant.0,
      regions_left i.sau _ _ (sau_register c.args.addr) c.args.value c.write.ensures c.take_changed.ensures.taken ∙ c.self.invariant.1,
      c.self.invariant.2,
      c.self.invariant.3,
      both.0,
      both.1,
    )

pub invariant_of-self-in-Secure : goal.invariant_of-self-in-Secure
invariant_of-self-in-Secure c =
    let i = c.self.inside in
    let both =
    changed_seen (guards_by i.board i.sau.sau i.mpu_s.mpu i.mpu_ns.mpu) _ c.take_changed-in-Secure.result i.kept _
    (λ e. ap (λ (u : MpuState). guards_by i.board i.sau.sau u i.mpu_ns.mpu) (mpu_left i.mpu_s _ _ (mpu_register c.args.addr) c.args.value _ c.write-in-Secure.ensures c.take_changed-in-Secure.ensures.told c.take_changed-in-Secure.ensures.taken e))
    c.empty_where-in-Secure.ensures.emptied c.empty_where-in-Secure.ensures.left c.self.invariant.4 c.self.invariant.5 in (
      c.self.invariant.0,
      c.self.invariant.1,
      profile_left i.mpu_s _ _ (mpu_register c.args.addr) c.args.value c.write-in-Secure.ensures c.take_changed-in-Secure.ensures.taken ∙ c.self.invariant.2,
      c.self.invariant.3,
      both.0,
      both.1,
    )

pub invariant_of-self-in-NonSecure : goal.invariant_of-self-in-NonSecure
invariant_of-self-in-NonSecure c =
    let i = c.self.inside in
    let both =
    changed_seen (guards_by i.board i.sau.sau i.mpu_s.mpu i.mpu_ns.mpu) _ c.take_changed-in-NonSecure.result i.kept _
    (λ e. ap (λ (u : MpuState). guards_by i.board i.sau.sau i.mpu_s.mpu u) (mpu_left i.mpu_ns _ _ (mpu_register c.args.addr) c.args.value _ c.write-in-NonSecure.ensures c.take_changed-in-NonSecure.ensures.told c.take_changed-in-NonSecure.ensures.taken e))
    c.empty_where-in-NonSecure.ensures.emptied c.empty_where-in-NonSecure.ensures.left c.self.invariant.4 c.self.invariant.5 in (
      c.self.invariant.0,
      c.self.invariant.1,
      c.self.invariant.2,
      profile_left i.mpu_ns _ _ (mpu_register c.args.addr) c.args.value c.write-in-NonSecure.ensures c.take_changed-in-NonSecure.ensures.taken ∙ c.self.invariant.3,
      both.0,
      both.1,
    )
