-- The bits of the fault status registers, by the manual's names (DDI0553, chapter D1.2: CFSR, HFSR, SFSR). Those of
-- CFSR count within their part: MMFSR, BFSR or UFSR.
use Rattle.std.specs.Prelude.{ℕ, ◌+◌, ◌^◌}

-- ---- MMFSR, CFSR from bit 0 on

-- an MPU refuses a fetch
abbrev pub iaccviol : ℕ
iaccviol = 2 ^ 0

-- an MPU refuses an access
abbrev pub daccviol : ℕ
daccviol = 2 ^ 1

-- an MPU refuses to read a word of a frame
abbrev pub munstkerr : ℕ
munstkerr = 2 ^ 3

-- an MPU refuses to write a word of a frame
abbrev pub mstkerr : ℕ
mstkerr = 2 ^ 4

-- MMFAR has the address
abbrev pub mmarvalid : ℕ
mmarvalid = 2 ^ 7

-- all its bits
abbrev pub mmfsr_bits : ℕ
mmfsr_bits = iaccviol + daccviol + munstkerr + mstkerr + mmarvalid

-- ---- BFSR, CFSR from bit 8 on

-- a fetch fails on the bus
abbrev pub ibuserr : ℕ
ibuserr = 2 ^ 0

-- an access fails on the bus
abbrev pub preciserr : ℕ
preciserr = 2 ^ 1

-- a word of a frame can't be read on the bus
abbrev pub unstkerr : ℕ
unstkerr = 2 ^ 3

-- a word of a frame can't be written on the bus
abbrev pub stkerr : ℕ
stkerr = 2 ^ 4

-- BFAR has the address
abbrev pub bfarvalid : ℕ
bfarvalid = 2 ^ 7

-- all its bits
abbrev pub bfsr_bits : ℕ
bfsr_bits = ibuserr + preciserr + unstkerr + stkerr + bfarvalid

-- ---- UFSR, CFSR from bit 16 on

-- a code is no instruction
abbrev pub undefinstr : ℕ
undefinstr = 2 ^ 0

-- code runs with T of 0
abbrev pub invstate : ℕ
invstate = 2 ^ 1

-- a value to return by, or a word that it leads to, isn't valid
abbrev pub invpc : ℕ
invpc = 2 ^ 2

-- a code is that of a coprocessor that isn't there
abbrev pub nocp : ℕ
nocp = 2 ^ 3

-- a stack pointer goes below its limit
abbrev pub stkof : ℕ
stkof = 2 ^ 4

-- an access isn't aligned
abbrev pub unaligned : ℕ
unaligned = 2 ^ 8

-- a number is divided by 0
abbrev pub divbyzero : ℕ
divbyzero = 2 ^ 9

-- all its bits
abbrev pub ufsr_bits : ℕ
ufsr_bits = undefinstr + invstate + invpc + nocp + stkof + unaligned + divbyzero

-- ---- HFSR

-- a vector can't be read
abbrev pub vecttbl : ℕ
vecttbl = 2 ^ 1

-- an exception becomes HardFault, since it can't be taken itself
abbrev pub forced : ℕ
forced = 2 ^ 30

-- BKPT runs where no debugger is
abbrev pub debugevt : ℕ
debugevt = 2 ^ 31

-- all its bits
abbrev pub hfsr_bits : ℕ
hfsr_bits = vecttbl + forced + debugevt

-- ---- SFSR

-- Non-secure code goes on at a Secure address that is no entry point
abbrev pub invep : ℕ
invep = 2 ^ 0

-- an additional frame doesn't begin with the integrity signature
abbrev pub invis : ℕ
invis = 2 ^ 1

-- Non-secure code returns by a value that it may not return by
abbrev pub inver : ℕ
inver = 2 ^ 2

-- attribution refuses an access
abbrev pub auviol : ℕ
auviol = 2 ^ 3

-- Secure code goes on at a Non-secure address
abbrev pub invtran : ℕ
invtran = 2 ^ 4

-- SFAR has the address
abbrev pub sfarvalid : ℕ
sfarvalid = 2 ^ 6

-- all its bits
abbrev pub sfsr_bits : ℕ
sfsr_bits = invep + invis + inver + auviol + invtran + sfarvalid
