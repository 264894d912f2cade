-- The built-in board (own), `@demo`.
use Rattle.std.specs.Prelude.{true, false, List, [], ◌∷◌}
use Rattle.tz_model.specs.Board.{BoardValue}
use Rattle.tz_model.specs.declared.board.Region.{Region}
use Rattle.tz_model.specs.declared.board.SauRegion.{SauRegion}
use Rattle.tz_model.specs.declared.board.RegionKind.TheVariants.{Rom, Ram}
use Rattle.tz_model.specs.declared.board.RegionSide.TheVariants.{Secure, Nsc, NonSecure}
use Rattle.tz_model.specs.declared.board.Profile.TheVariants.{V80}

-- 32 KiB of Secure code, 32 KiB of code with gateways, 64 KiB of Non-secure code, and 32 KiB of data on each side
abbrev pub demo_regions : List Region
demo_regions =
    record { base = 0x10000000; size = 0x8000; kind = Rom; side = Secure }
    ∷ record { base = 0x10008000; size = 0x8000; kind = Rom; side = Nsc }
    ∷ record { base = 0x00200000; size = 0x10000; kind = Rom; side = NonSecure }
    ∷ record { base = 0x30000000; size = 0x8000; kind = Ram; side = Secure }
    ∷ record { base = 0x20000000; size = 0x8000; kind = Ram; side = NonSecure }
    ∷ []

-- at boot Non-secure code has its code and its data, and may call into the code with gateways
abbrev pub demo_sau : List SauRegion
demo_sau =
    record { base = 0x00200000; limit = 0x0020FFFF; nsc = false }
    ∷ record { base = 0x20000000; limit = 0x20007FFF; nsc = false }
    ∷ record { base = 0x10008000; limit = 0x1000FFFF; nsc = true }
    ∷ []

-- eight interrupts, and eight regions of the SAU and of each MPU
unfoldable pub demo : BoardValue
demo = record {
  secure_vtor = 0x10000000;
  nonsecure_vtor = 0x00200000;
  interrupts = 8;
  sau_regions = 8;
  mpu_secure = 8;
  mpu_nonsecure = 8;
  profile = V80;
  mover = false;
  regions = demo_regions;
  sau = demo_sau;
}
