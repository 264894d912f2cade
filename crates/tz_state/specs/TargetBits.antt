-- The word that TT gives, by the places of its bits; a field has the place of its lowest bit (DDI0553, `TTResp`).
use Rattle.std.specs.Prelude.{ℕ}

abbrev pub tt_mregion : ℕ
tt_mregion = 0

abbrev pub tt_sregion : ℕ
tt_sregion = 8

abbrev pub tt_mrvalid : ℕ
tt_mrvalid = 16

abbrev pub tt_srvalid : ℕ
tt_srvalid = 17

abbrev pub tt_r : ℕ
tt_r = 18

abbrev pub tt_rw : ℕ
tt_rw = 19

abbrev pub tt_nsr : ℕ
tt_nsr = 20

abbrev pub tt_nsrw : ℕ
tt_nsrw = 21

abbrev pub tt_s : ℕ
tt_s = 22

abbrev pub tt_irvalid : ℕ
tt_irvalid = 23

abbrev pub tt_iregion : ℕ
tt_iregion = 24
