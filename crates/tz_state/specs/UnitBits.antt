-- The bits of CTRL, RBAR and RLAR of the SAU and of the MPUs by their places (DDI0553, SAU_CTRL, SAU_RLAR, MPU_CTRL,
-- MPU_RBAR, MPU_RLAR).
use Rattle.std.specs.Prelude.{ℕ}

-- ---- SAU_CTRL

abbrev pub sau_ctrl_allns : ℕ
sau_ctrl_allns = 1

-- ---- SAU_RLAR

abbrev pub sau_rlar_enable : ℕ
sau_rlar_enable = 0

abbrev pub sau_rlar_nsc : ℕ
sau_rlar_nsc = 1

-- ---- MPU_CTRL

abbrev pub mpu_ctrl_hfnmiena : ℕ
mpu_ctrl_hfnmiena = 1

abbrev pub mpu_ctrl_privdefena : ℕ
mpu_ctrl_privdefena = 2

-- ---- MPU_RBAR

-- AP, bit 0: unprivileged code too
abbrev pub mpu_rbar_ap_0 : ℕ
mpu_rbar_ap_0 = 1

-- AP, bit 1: reads alone
abbrev pub mpu_rbar_ap_1 : ℕ
mpu_rbar_ap_1 = 2

-- ---- MPU_RLAR

abbrev pub mpu_rlar_pxn : ℕ
mpu_rlar_pxn = 4
