-- The manual's names of exceptions.
use Rattle.std.specs.Prelude.{ℕ, ◌==◌, if◌then◌else◌, List, codes}
use Rattle.tz_state.specs.ExceptionNumbers.{nmi, hard_fault, mem_manage, bus_fault, usage_fault, secure_fault, sv_call, pend_sv, sys_tick}

-- the name of a number of the system; one that no exception has is reserved
unfoldable pub system_name : ℕ → List ℕ
system_name n =
    if n == nmi then codes "NMI"
    else if n == hard_fault then codes "HardFault"
    else if n == mem_manage then codes "MemManage"
    else if n == bus_fault then codes "BusFault"
    else if n == usage_fault then codes "UsageFault"
    else if n == secure_fault then codes "SecureFault"
    else if n == sv_call then codes "SVCall"
    else if n == pend_sv then codes "PendSV"
    else if n == sys_tick then codes "SysTick"
    else codes "reserved"
