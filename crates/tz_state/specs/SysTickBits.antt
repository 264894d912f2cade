-- The bits of SYST_CSR by their places (DDI0553, SYST_CSR).
use Rattle.std.specs.Prelude.{ℕ, ◌+◌, ◌^◌}

abbrev pub syst_csr_enable : ℕ
syst_csr_enable = 0

abbrev pub syst_csr_tickint : ℕ
syst_csr_tickint = 1

abbrev pub syst_csr_clksource : ℕ
syst_csr_clksource = 2

abbrev pub syst_csr_countflag : ℕ
syst_csr_countflag = 16

-- all of them
abbrev pub syst_csr_bits : ℕ
syst_csr_bits = 2 ^ syst_csr_enable + 2 ^ syst_csr_tickint + 2 ^ syst_csr_clksource + 2 ^ syst_csr_countflag
