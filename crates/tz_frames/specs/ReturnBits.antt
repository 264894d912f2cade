-- The bits of EXC_RETURN and RETPSR by their places; a field has the place of its lowest bit (DDI0553, EXC_RETURN, RETPSR).
use Rattle.std.specs.Prelude.{ℕ}

-- ---- EXC_RETURN

abbrev pub exc_return_es : ℕ
exc_return_es = 0

abbrev pub exc_return_spsel : ℕ
exc_return_spsel = 2

abbrev pub exc_return_mode : ℕ
exc_return_mode = 3

abbrev pub exc_return_ftype : ℕ
exc_return_ftype = 4

abbrev pub exc_return_dcrs : ℕ
exc_return_dcrs = 5

abbrev pub exc_return_s : ℕ
exc_return_s = 6

-- eight ones
abbrev pub exc_return_prefix : ℕ
exc_return_prefix = 24

-- PREFIX and the bits 23:7, which are ones
abbrev pub exc_return_ones : ℕ
exc_return_ones = 0xFFFFFF80

-- ---- RETPSR

-- bit 2 of the stack pointer below which the frame was written
abbrev pub retpsr_sprealign : ℕ
retpsr_sprealign = 9

-- IT 7:2
abbrev pub retpsr_it_high : ℕ
retpsr_it_high = 10

abbrev pub retpsr_t : ℕ
retpsr_t = 24

-- IT 1:0
abbrev pub retpsr_it_low : ℕ
retpsr_it_low = 25
