-- The bits of CCR, CONTROL and APSR by their places (DDI0553, CCR, CONTROL, APSR).
use Rattle.std.specs.Prelude.{ℕ, ◌+◌, ◌^◌}

-- ---- CCR

abbrev pub ccr_unalign_trp : ℕ
ccr_unalign_trp = 3

abbrev pub ccr_div_0_trp : ℕ
ccr_div_0_trp = 4

-- reserved, and read as 1
abbrev pub ccr_res1 : ℕ
ccr_res1 = 9

-- those that a write keeps
abbrev pub ccr_bits : ℕ
ccr_bits = 2 ^ ccr_unalign_trp + 2 ^ ccr_div_0_trp

-- ---- CONTROL

abbrev pub control_spsel : ℕ
control_spsel = 1

-- ---- APSR

abbrev pub apsr_q : ℕ
apsr_q = 27

abbrev pub apsr_v : ℕ
apsr_v = 28

abbrev pub apsr_c : ℕ
apsr_c = 29

abbrev pub apsr_z : ℕ
apsr_z = 30

abbrev pub apsr_n : ℕ
apsr_n = 31
