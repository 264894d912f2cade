-- Tests of sameness: where they pass both are the same, and the same passes them.
use Rattle.std.proofs.Common.{◌≡◌, ℕ, ◌==◌, Bool, true, false, ◌&&◌, if◌then◌else◌, Option, Some, None, refl, sym, ap, ◌∙◌, subst, eqb-true, eq-eqb}
use Rattle.std.specs.Option.{option_or}
use Rattle.tz_table.specs.declared.units.Size.{Size}
use Rattle.tz_table.specs.declared.units.Size.TheVariants.{Byte, Half, Word}
use Rattle.tz_model.specs.declared.report.Sleep.{Sleep}
use Rattle.tz_model.specs.declared.report.Sleep.TheVariants.{Awake, Wfi, Wfe}
use Rattle.tz_model.specs.declared.report.CrossKind.{CrossKind}
use Rattle.tz_model.specs.declared.report.CrossKind.TheVariants.{Return, Call, ExcReturn, Chain, Preempt, Refused}
use Rattle.tz_model.specs.declared.report.Way.{Way}
use Rattle.tz_regs.specs.declared.parts.Apsr.{Apsr}
use Rattle.tz_regs.specs.declared.parts.Stacks.{Stacks}
use Rattle.tz_regs.specs.declared.parts.SideMasks.{SideMasks}
use Rattle.tz_regs.specs.declared.parts.Masks.{Masks}
use Rattle.tz_regs.specs.declared.parts.SideStatus.{SideStatus}
use Rattle.tz_model.specs.declared.channel.Channel.{Channel}
use Rattle.tz_regs.specs.declared.parts.BusStatus.{BusStatus}
use Rattle.tz_state.specs.declared.request.Exclusive.{Exclusive}
use Rattle.tz_state.specs.declared.slot.Timer.{Timer}
use Rattle.tz_state.specs.Difference.{is_same_flag}
use Rattle.tz_state.specs.State.{is_same_size}
use Rattle.tz_twin.proofs.Bytes.{and_first, and_second}
use Rattle.tz_iso.specs.declared.answer.What.{What}
use Rattle.tz_iso.specs.Parts.{kind_number, is_same_lr, is_same_way, is_same_flags, is_same_sp, is_same_limits, is_same_control, is_same_side_masks, is_same_masks, is_same_side_faults, is_same_bus_faults, is_same_timer, is_same_monitor, is_same_sleep, is_same_channel}

pub and_both : (p q : Bool) → p ≡ true → q ≡ true → (p && q) ≡ true
and_both true q e h = h
and_both false q e h = e

-- a test that each passes beside itself is passed by the same
pub passed_by_same : {A : Type 0} (test : A → A → Bool) → ((x : A) → test x x ≡ true) → (x y : A) → x ≡ y → test x y ≡ true
passed_by_same test itself x y e = subst (λ z. test x z ≡ true) e (itself x)

-- ---- numbers and flags

pub number_itself : (n : ℕ) → (n == n) ≡ true
number_itself n = eq-eqb n n refl

pub number_alike : (m n : ℕ) → m ≡ n → (m == n) ≡ true
number_alike m n e = eq-eqb m n e

pub same_flag : (p q : Bool) → is_same_flag p q ≡ true → p ≡ q
same_flag true q e = sym e
same_flag false true e = e
same_flag false false e = refl

pub flag_itself : (p : Bool) → is_same_flag p p ≡ true
flag_itself true = refl
flag_itself false = refl

-- ---- the way

kind_at : ℕ → CrossKind
kind_at n = if n == 0 then Return else if n == 1 then Call else if n == 2 then ExcReturn else if n == 3 then Chain else if n == 4 then Preempt else Refused

kind_back : (k : CrossKind) → kind_at (kind_number k) ≡ k
unfolding kind_at
kind_back Return = refl
kind_back Call = refl
kind_back ExcReturn = refl
kind_back Chain = refl
kind_back Preempt = refl
kind_back Refused = refl

same_kind : (k j : CrossKind) → (kind_number k == kind_number j) ≡ true → k ≡ j
same_kind k j e = sym (kind_back k) ∙ ap kind_at (eqb-true (kind_number k) (kind_number j) e) ∙ kind_back j

same_lr : (a b : Option ℕ) → is_same_lr a b ≡ true → a ≡ b
same_lr None None e = refl
same_lr None (Some y) e = cc
same_lr (Some x) None e = cc
same_lr (Some x) (Some y) e = ap Some (eqb-true x y e)

lr_itself : (a : Option ℕ) → is_same_lr a a ≡ true
lr_itself None = refl
lr_itself (Some x) = number_itself x

pub same_way : (w v : Way) → is_same_way w v ≡ true → w ≡ v
same_way w v e =
    let rest = and_second _ _ e in
    let kind = same_kind w.kind v.kind (and_first _ _ e) in
    let number = eqb-true w.number v.number (and_first _ _ rest) in
    let lr = same_lr w.lr v.lr (and_second _ _ rest) in
    λ i. record { kind = kind i; number = number i; lr = lr i }

pub way_itself : (w : Way) → is_same_way w w ≡ true
way_itself w = and_both _ _ (number_itself (kind_number w.kind)) (and_both _ _ (number_itself w.number) (lr_itself w.lr))

-- ---- the flags

pub same_flags : (a b : Apsr) → is_same_flags a b ≡ true → a ≡ b
same_flags a b e =
    let r1 = and_second _ _ e in
    let r2 = and_second _ _ r1 in
    let r3 = and_second _ _ r2 in
    let n = same_flag a.n b.n (and_first _ _ e) in
    let z = same_flag a.z b.z (and_first _ _ r1) in
    let c = same_flag a.c b.c (and_first _ _ r2) in
    let v = same_flag a.v b.v (and_first _ _ r3) in
    let q = same_flag a.q b.q (and_second _ _ r3) in
    λ i. record { n = n i; z = z i; c = c i; v = v i; q = q i }

pub flags_itself : (a : Apsr) → is_same_flags a a ≡ true
flags_itself a =
    and_both _ _ (flag_itself a.n) (and_both _ _ (flag_itself a.z) (and_both _ _ (flag_itself a.c) (and_both _ _ (flag_itself a.v) (flag_itself a.q))))

-- ---- the public state

pub same_stacks : (a b : Stacks) → is_same_sp a b ≡ true → is_same_limits a b ≡ true → is_same_control a b ≡ true → a ≡ b
same_stacks a b sp limits control =
    let msp = eqb-true a.msp b.msp (and_first _ _ sp) in
    let psp = eqb-true a.psp b.psp (and_second _ _ sp) in
    let msplim = eqb-true a.msplim b.msplim (and_first _ _ limits) in
    let psplim = eqb-true a.psplim b.psplim (and_second _ _ limits) in
    let npriv = same_flag a.npriv b.npriv (and_first _ _ control) in
    let spsel = same_flag a.spsel b.spsel (and_second _ _ control) in
    λ i. record { msp = msp i; psp = psp i; msplim = msplim i; psplim = psplim i; npriv = npriv i; spsel = spsel i }

pub sp_itself : (a : Stacks) → is_same_sp a a ≡ true
sp_itself a = and_both _ _ (number_itself a.msp) (number_itself a.psp)

pub limits_itself : (a : Stacks) → is_same_limits a a ≡ true
limits_itself a = and_both _ _ (number_itself a.msplim) (number_itself a.psplim)

pub control_itself : (a : Stacks) → is_same_control a a ≡ true
control_itself a = and_both _ _ (flag_itself a.npriv) (flag_itself a.spsel)

same_side_masks : (a b : SideMasks) → is_same_side_masks a b ≡ true → a ≡ b
same_side_masks a b e =
    let rest = and_second _ _ e in
    let primask = same_flag a.primask b.primask (and_first _ _ e) in
    let basepri = eqb-true a.basepri b.basepri (and_first _ _ rest) in
    let faultmask = same_flag a.faultmask b.faultmask (and_second _ _ rest) in
    λ i. record { primask = primask i; basepri = basepri i; faultmask = faultmask i }

side_masks_itself : (a : SideMasks) → is_same_side_masks a a ≡ true
side_masks_itself a = and_both _ _ (flag_itself a.primask) (and_both _ _ (number_itself a.basepri) (flag_itself a.faultmask))

pub same_masks : (a b : Masks) → is_same_masks a b ≡ true → a ≡ b
same_masks a b e =
    let s = same_side_masks a.s b.s (and_first _ _ e) in
    let ns = same_side_masks a.ns b.ns (and_second _ _ e) in
    λ i. record { s = s i; ns = ns i }

pub masks_itself : (a : Masks) → is_same_masks a a ≡ true
masks_itself a = and_both _ _ (side_masks_itself a.s) (side_masks_itself a.ns)

same_channel : (a b : Channel) → is_same_channel a b ≡ true → a ≡ b
same_channel a b e =
    let rest = and_second _ _ e in
    let last = and_second _ _ rest in
    let src = eqb-true a.src b.src (and_first _ _ e) in
    let dst = eqb-true a.dst b.dst (and_first _ _ rest) in
    let count = eqb-true a.count b.count (and_first _ _ last) in
    let ctrl = eqb-true a.ctrl b.ctrl (and_second _ _ last) in
    λ i. record { src = src i; dst = dst i; count = count i; ctrl = ctrl i }

pub channel_itself : (a : Channel) → is_same_channel a a ≡ true
channel_itself a = and_both _ _ (number_itself a.src) (and_both _ _ (number_itself a.dst) (and_both _ _ (number_itself a.count) (number_itself a.ctrl)))

pub same_side_status : (a b : SideStatus) → (a.vtor == b.vtor) ≡ true → (a.ccr == b.ccr) ≡ true → is_same_side_faults a b ≡ true → is_same_channel a.channel b.channel ≡ true → a ≡ b
same_side_status a b v c e m =
    let rest = and_second _ _ e in
    let vtor = eqb-true a.vtor b.vtor v in
    let ccr = eqb-true a.ccr b.ccr c in
    let ufsr = eqb-true a.ufsr b.ufsr (and_first _ _ e) in
    let mmfsr = eqb-true a.mmfsr b.mmfsr (and_first _ _ rest) in
    let mmfar = eqb-true a.mmfar b.mmfar (and_second _ _ rest) in
    let channel = same_channel a.channel b.channel m in
    λ i. record { vtor = vtor i; ccr = ccr i; ufsr = ufsr i; mmfsr = mmfsr i; mmfar = mmfar i; channel = channel i }

pub side_faults_itself : (a : SideStatus) → is_same_side_faults a a ≡ true
side_faults_itself a = and_both _ _ (number_itself a.ufsr) (and_both _ _ (number_itself a.mmfsr) (number_itself a.mmfar))

pub same_bus_status : (a b : BusStatus) → is_same_bus_faults a b ≡ true → a ≡ b
same_bus_status a b e =
    let rest = and_second _ _ e in
    let bfsr = eqb-true a.bfsr b.bfsr (and_first _ _ e) in
    let bfar = eqb-true a.bfar b.bfar (and_first _ _ rest) in
    let hfsr = eqb-true a.hfsr b.hfsr (and_second _ _ rest) in
    λ i. record { bfsr = bfsr i; bfar = bfar i; hfsr = hfsr i }

pub bus_faults_itself : (a : BusStatus) → is_same_bus_faults a a ≡ true
bus_faults_itself a = and_both _ _ (number_itself a.bfsr) (and_both _ _ (number_itself a.bfar) (number_itself a.hfsr))

pub same_timer : (a b : Timer) → is_same_timer a b ≡ true → a ≡ b
same_timer a b e =
    let rest = and_second _ _ e in
    let csr = eqb-true a.csr b.csr (and_first _ _ e) in
    let rvr = eqb-true a.rvr b.rvr (and_first _ _ rest) in
    let cvr = eqb-true a.cvr b.cvr (and_second _ _ rest) in
    λ i. record { csr = csr i; rvr = rvr i; cvr = cvr i }

pub timer_itself : (a : Timer) → is_same_timer a a ≡ true
timer_itself a = and_both _ _ (number_itself a.csr) (and_both _ _ (number_itself a.rvr) (number_itself a.cvr))

same_size : (a b : Size) → is_same_size a b ≡ true → a ≡ b
same_size Byte Byte e = refl
same_size Byte Half e = cc
same_size Byte Word e = cc
same_size Half Byte e = cc
same_size Half Half e = refl
same_size Half Word e = cc
same_size Word Byte e = cc
same_size Word Half e = cc
same_size Word Word e = refl

size_itself : (a : Size) → is_same_size a a ≡ true
size_itself Byte = refl
size_itself Half = refl
size_itself Word = refl

same_exclusive : (a b : Exclusive) → (a.addr == b.addr) ≡ true → is_same_size a.size b.size ≡ true → a ≡ b
same_exclusive a b h k =
    let addr = eqb-true a.addr b.addr h in
    let size = same_size a.size b.size k in
    λ i. record { addr = addr i; size = size i }

pub same_monitor : (a b : Option Exclusive) → is_same_monitor a b ≡ true → a ≡ b
same_monitor None None e = refl
same_monitor None (Some y) e = cc
same_monitor (Some x) None e = cc
same_monitor (Some x) (Some y) e = ap Some (same_exclusive x y (and_first _ _ e) (and_second _ _ e))

pub monitor_itself : (a : Option Exclusive) → is_same_monitor a a ≡ true
monitor_itself None = refl
monitor_itself (Some x) = and_both _ _ (number_itself x.addr) (size_itself x.size)

pub same_sleep : (a b : Sleep) → is_same_sleep a b ≡ true → a ≡ b
same_sleep Awake Awake e = refl
same_sleep Awake Wfi e = cc
same_sleep Awake Wfe e = cc
same_sleep Wfi Awake e = cc
same_sleep Wfi Wfi e = refl
same_sleep Wfi Wfe e = cc
same_sleep Wfe Awake e = cc
same_sleep Wfe Wfi e = cc
same_sleep Wfe Wfe e = refl

pub sleep_itself : (a : Sleep) → is_same_sleep a a ≡ true
sleep_itself Awake = refl
sleep_itself Wfi = refl
sleep_itself Wfe = refl

-- ---- parts in a row

-- the first of them is the same, and nothing differs in the others
pub first_same : (same : Bool) (what : What) (later : Option What) → (if same then later else Some what) ≡ None → (same ≡ true) × (later ≡ None)
first_same true what later e = (refl, e)
first_same false what later e = cc

pub also_same : (same : Bool) (what : What) (later : Option What) → same ≡ true → later ≡ None → (if same then later else Some what) ≡ None
also_same true what later e h = h
also_same false what later e h = cc

pub neither : (a b : Option What) → option_or a b ≡ None → (a ≡ None) × (b ≡ None)
neither None b e = (refl, e)
neither (Some x) b e = cc

pub or_none : (a b : Option What) → a ≡ None → b ≡ None → option_or a b ≡ None
or_none None b e h = h
or_none (Some x) b e h = e
