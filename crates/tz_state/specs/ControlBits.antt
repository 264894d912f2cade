-- The bits of ICSR, AIRCR and SHCSR by their places; a field has the place of its lowest bit (DDI0553, chapter D1.2).
use Rattle.std.specs.Prelude.{ℕ}

-- ---- ICSR

abbrev pub icsr_rettobase : ℕ
icsr_rettobase = 11

abbrev pub icsr_vectpending : ℕ
icsr_vectpending = 12

abbrev pub icsr_isrpending : ℕ
icsr_isrpending = 22

abbrev pub icsr_pendstclr : ℕ
icsr_pendstclr = 25

abbrev pub icsr_pendstset : ℕ
icsr_pendstset = 26

abbrev pub icsr_pendsvclr : ℕ
icsr_pendsvclr = 27

abbrev pub icsr_pendsvset : ℕ
icsr_pendsvset = 28

abbrev pub icsr_pendnmiclr : ℕ
icsr_pendnmiclr = 30

abbrev pub icsr_pendnmiset : ℕ
icsr_pendnmiset = 31

-- ---- AIRCR

abbrev pub aircr_prigroup : ℕ
aircr_prigroup = 8

abbrev pub aircr_bfhfnmins : ℕ
aircr_bfhfnmins = 13

abbrev pub aircr_pris : ℕ
aircr_pris = 14

abbrev pub aircr_vectkey : ℕ
aircr_vectkey = 16

-- the key that a write has to have
abbrev pub vectkey : ℕ
vectkey = 0x05FA

-- what is read in its place
abbrev pub vectkeystat : ℕ
vectkeystat = 0xFA05

-- ---- SHCSR

abbrev pub shcsr_memfaultact : ℕ
shcsr_memfaultact = 0

abbrev pub shcsr_busfaultact : ℕ
shcsr_busfaultact = 1

abbrev pub shcsr_hardfaultact : ℕ
shcsr_hardfaultact = 2

abbrev pub shcsr_usgfaultact : ℕ
shcsr_usgfaultact = 3

abbrev pub shcsr_securefaultact : ℕ
shcsr_securefaultact = 4

abbrev pub shcsr_nmiact : ℕ
shcsr_nmiact = 5

abbrev pub shcsr_svcallact : ℕ
shcsr_svcallact = 7

abbrev pub shcsr_pendsvact : ℕ
shcsr_pendsvact = 10

abbrev pub shcsr_systickact : ℕ
shcsr_systickact = 11

abbrev pub shcsr_usgfaultpended : ℕ
shcsr_usgfaultpended = 12

abbrev pub shcsr_memfaultpended : ℕ
shcsr_memfaultpended = 13

abbrev pub shcsr_busfaultpended : ℕ
shcsr_busfaultpended = 14

abbrev pub shcsr_svcallpended : ℕ
shcsr_svcallpended = 15

abbrev pub shcsr_memfaultena : ℕ
shcsr_memfaultena = 16

abbrev pub shcsr_busfaultena : ℕ
shcsr_busfaultena = 17

abbrev pub shcsr_usgfaultena : ℕ
shcsr_usgfaultena = 18

abbrev pub shcsr_securefaultena : ℕ
shcsr_securefaultena = 19

abbrev pub shcsr_securefaultpended : ℕ
shcsr_securefaultpended = 20

abbrev pub shcsr_hardfaultpended : ℕ
shcsr_hardfaultpended = 21
