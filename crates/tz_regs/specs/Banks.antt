-- Things that stand once a side, and the choice among them.
use Rattle.tz_table.specs.declared.units.Side.{Side}
use Rattle.tz_table.specs.declared.units.Side.TheVariants.{Secure, NonSecure}
use Rattle.tz_model.specs.declared.channel.Channels.{Channels}
use Rattle.tz_regs.specs.declared.parts.Core.{Core}
use Rattle.tz_regs.specs.declared.parts.Stacks.{Stacks}
use Rattle.tz_regs.specs.declared.parts.Masks.{Masks}
use Rattle.tz_regs.specs.declared.parts.SideMasks.{SideMasks}
use Rattle.tz_regs.specs.declared.parts.SideStatus.{SideStatus}

-- that of a side, of the Secure and the Non-secure one
abbrev pub of_side : {A : Type 0} → Side → A → A → A
of_side Secure s ns = s
of_side NonSecure s ns = ns

-- the Secure one after that of a side became `own`
abbrev pub secure_after : {A : Type 0} → Side → A → A → A
secure_after Secure own before = own
secure_after NonSecure own before = before

-- the Non-secure one after it
abbrev pub nonsecure_after : {A : Type 0} → Side → A → A → A
nonsecure_after Secure own before = before
nonsecure_after NonSecure own before = own

abbrev pub stacks_of : Side → Core → Stacks
stacks_of side c = of_side side c.stacks_s c.stacks_ns

abbrev pub with_stacks : Side → Core → Stacks → Core
with_stacks side c own = record c { stacks_s = secure_after side own c.stacks_s; stacks_ns = nonsecure_after side own c.stacks_ns }

abbrev pub masks_of : Side → Masks → SideMasks
masks_of side m = of_side side m.s m.ns

abbrev pub with_masks : Side → Masks → SideMasks → Masks
with_masks side m own = record m { s = secure_after side own m.s; ns = nonsecure_after side own m.ns }

abbrev pub status_of : Side → Core → SideStatus
status_of side c = of_side side c.status.s c.status.ns

abbrev pub with_status : Side → Core → SideStatus → Core
with_status side c own =
    record c { status = record c.status { s = secure_after side own c.status.s; ns = nonsecure_after side own c.status.ns } }

-- the channels of the mover
abbrev pub channels_of : Core → Channels
channels_of c = record { secure = c.status.s.channel; nonsecure = c.status.ns.channel }

abbrev pub with_channels : Core → Channels → Core
with_channels c channels =
    record c {
      status = record c.status {
        s = record c.status.s { channel = channels.secure };
        ns = record c.status.ns { channel = channels.nonsecure };
      };
    }
