-- Ranges of addresses, by their first and last addresses (DDI0553, the system address map, `SecurityCheck`).
use Rattle.std.specs.Prelude.{ℕ}

-- ---- where the default map lets no code run

abbrev pub peripheral_first : ℕ
peripheral_first = 0x40000000

abbrev pub peripheral_last : ℕ
peripheral_last = 0x5FFFFFFF

-- devices, and above them what is the system's
abbrev pub device_first : ℕ
device_first = 0xA0000000

-- ---- the private peripheral space

abbrev pub private_first : ℕ
private_first = 0xE0000000

abbrev pub private_last : ℕ
private_last = 0xE00FFFFF

-- ITM, DWT and FPB
abbrev pub itm_first : ℕ
itm_first = 0xE0000000

abbrev pub fpb_last : ℕ
fpb_last = 0xE0002FFF

-- the system control space
abbrev pub scs_first : ℕ
scs_first = 0xE000E000

abbrev pub scs_last : ℕ
scs_last = 0xE000EFFF

-- the registers of the SAU in it, SAU_CTRL to SAU_RLAR
abbrev pub sau_first : ℕ
sau_first = 0xE000EDD0

abbrev pub sau_last : ℕ
sau_last = 0xE000EDE0

-- the alias of the system control space, the Non-secure view
abbrev pub scs_ns_first : ℕ
scs_ns_first = 0xE002E000

abbrev pub scs_ns_last : ℕ
scs_ns_last = 0xE002EFFF

-- TPIU and ETM
abbrev pub tpiu_first : ℕ
tpiu_first = 0xE0040000

abbrev pub etm_last : ℕ
etm_last = 0xE0041FFF

abbrev pub rom_table_first : ℕ
rom_table_first = 0xE00FF000

abbrev pub rom_table_last : ℕ
rom_table_last = 0xE00FFFFF

-- ---- above it

-- code from here on is Secure, whoever fetches it
abbrev pub secure_code_first : ℕ
secure_code_first = 0xF0000000
