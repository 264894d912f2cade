-- The numbers of exceptions, as IPSR and the vector table have them (DDI0553, chapter B3).
use Rattle.std.specs.Prelude.{ℕ}

-- ---- those of the system

abbrev pub nmi : ℕ
nmi = 2

abbrev pub hard_fault : ℕ
hard_fault = 3

abbrev pub mem_manage : ℕ
mem_manage = 4

abbrev pub bus_fault : ℕ
bus_fault = 5

abbrev pub usage_fault : ℕ
usage_fault = 6

abbrev pub secure_fault : ℕ
secure_fault = 7

abbrev pub sv_call : ℕ
sv_call = 11

abbrev pub pend_sv : ℕ
pend_sv = 14

abbrev pub sys_tick : ℕ
sys_tick = 15

-- ---- interrupts

-- the number of the first external interrupt; those of the system are below it
abbrev pub first_interrupt : ℕ
first_interrupt = 16
