-- TT (DDI0553, `TTResp`): what the units tell of an address.
use Rattle.std.specs.Prelude.{ℕ, ◌+◌, ◌*◌, ◌^◌, Bool, false, not, ◌&&◌, ◌||◌, if◌then◌else◌, Option, Some, None}
use Rattle.tz_table.specs.declared.units.Side.{Side}
use Rattle.tz_table.specs.declared.units.Side.TheVariants.{Secure, NonSecure}
use Rattle.tz_regs.specs.Special.{number_of}
use Rattle.tz_state.specs.declared.probe.Probe.{Probe}
use Rattle.tz_state.specs.declared.request.Kind.{Kind}
use Rattle.tz_state.specs.declared.request.Kind.TheVariants.{Read, Write}
use Rattle.tz_state.specs.Attribution.{sau_region, has_fixed_attribution, idau_region, data_attribution}
use Rattle.tz_model.specs.Board.{is_nonsecure}
use Rattle.tz_state.specs.Protection.{permits, mpu_region}
use Rattle.tz_state.specs.TargetBits.{tt_mregion, tt_sregion, tt_mrvalid, tt_srvalid, tt_r, tt_rw, tt_nsr, tt_nsrw, tt_s, tt_irvalid, tt_iregion}
use Rattle.tz_state.specs.State.{Bus, map_in, mpu_of}

-- the state whose MPU is asked: Secure code may ask for the Non-secure one
abbrev pub examined : Side → Bool → Side
examined NonSecure alternate = NonSecure
examined Secure alternate = if alternate then NonSecure else Secure

-- code without privilege learns nothing of its MPU, but what it may do by the alternate form
abbrev pub learns : Probe → Bool
learns p = p.privileged || p.alternate

-- an access of this kind is permitted, with the privilege in the state whose MPU is asked, or without it
abbrev pub may : Bus → Probe → Kind → Bool
may b p kind =
    learns p
    && permits b.board.profile (mpu_of (examined p.side p.alternate) b) p.addr kind (p.privileged && not p.user) p.negative

abbrev pub flag_at : ℕ → Bool → ℕ
flag_at place flag = 2 ^ place * number_of flag

-- the number of a region in eight bits, with a bit that tells whether there is one
abbrev pub told_at : ℕ → ℕ → Option ℕ → ℕ
told_at place valid None = 0
told_at place valid (Some k) = 2 ^ place * k + 2 ^ valid

-- the region of the MPU
abbrev pub mregion : Bus → Probe → Option ℕ
mregion b p = if learns p then mpu_region (mpu_of (examined p.side p.alternate) b) p.addr p.negative else None

-- what every state learns: MREGION and its bit, R, RW
abbrev pub common_part : Bus → Probe → ℕ
common_part b p = told_at tt_mregion tt_mrvalid (mregion b p) + flag_at tt_r (may b p Read) + flag_at tt_rw (may b p Write)

-- the region of the SAU, which isn't told where neither it nor the board attributes the address
abbrev pub sregion : Bus → Probe → Option ℕ
sregion b p = if has_fixed_attribution false p.addr then None else sau_region b.sau p.addr

abbrev pub is_open_to : Bus → Probe → Bool
is_open_to b p = is_nonsecure (data_attribution (map_in b) p.side p.addr)

-- what Secure state learns beside it: SREGION and its bit, NSR, NSRW, S, IREGION and its bit
abbrev pub secure_part : Bus → Probe → ℕ
secure_part b p =
    told_at tt_sregion tt_srvalid (sregion b p) + flag_at tt_nsr (may b p Read && is_open_to b p) + flag_at tt_nsrw (may b p Write && is_open_to b p)
    + flag_at tt_s (not (is_open_to b p)) + told_at tt_iregion tt_irvalid (idau_region 0 b.board.regions p.addr)

-- the word for a state
abbrev pub word_for : Side → Bus → Probe → ℕ
word_for NonSecure b p = common_part b p
word_for Secure b p = common_part b p + secure_part b p

unfoldable pub target_word : Bus → Probe → ℕ
target_word b p = word_for p.side b p
