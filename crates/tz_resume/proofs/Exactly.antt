-- An entry and a later return.
use Rattle.std.proofs.Common.{◌≡◌, ℕ, sym, ap, ◌∙◌, subst}
use Rattle.tz_model.specs.declared.board.Profile.{Profile}
use Rattle.tz_regs.specs.declared.parts.Core.{Core}
use Rattle.tz_regs.specs.declared.parts.Stacks.{Stacks}
use Rattle.tz_regs.specs.Registers.{sp_of}
use Rattle.tz_state.specs.Slots.{ExceptionsValue}
use Rattle.tz_frames.specs.Machine.{Framed, framed}
use Rattle.tz_frames.specs.Enter.{enters}
use Rattle.tz_frames.specs.Leave.{leaves}
use Rattle.tz_resume.specs.Words.{SameBytes}
use Rattle.tz_resume.specs.Resumption.{process_of, frames_at, both_pushed, Takes, GoesOn}
use Rattle.tz_resume.specs.Entries.{IsPreempted, IsTakenBack, returning, leaver, left_at}
use Rattle.tz_resume.proofs.Resuming.{frames_give_back}
use Rattle.tz_resume.proofs.Entry.{entry_leaves}
use Rattle.tz_resume.proofs.Return.{leaves_went}

pub entries_resume : (profile : Profile) (c : Core) (e : ExceptionsValue) (f : Framed) (back : ℕ) → IsPreempted c f back (enters framed profile c e f back)
    → (profile' : Profile) (later : Core) (e' : ExceptionsValue) (g : Framed) (value : ℕ)
    → IsTakenBack c (enters framed profile c e f back) later e' g value (leaves framed profile' later e' g value)
    → GoesOn c back (leaves framed profile' later e' g value).core
entries_resume profile c e f back p profile' later e' g value t =
    let d = enters framed profile c e f back in
    let s = p.stacked in
    let ends = entry_leaves profile c e f back s.secure s.basic s.additional p.given p.entering p.taken p.nonsecure in
    let at : left_at c d ≡ frames_at c f back = ap (λ (own : Stacks). sp_of (process_of c) own) ends.0 in
    let went = leaves_went profile' later e' g value t.touched t.resumed in
    let bytes : SameBytes (frames_at c f back) 72 (both_pushed c f back).held.bus.memory g.bus.memory =
    subst (λ (held : Framed). SameBytes (frames_at c f back) 72 held.bus.memory g.bus.memory) ends.1
    (subst (λ (top : ℕ). SameBytes top 72 d.held.bus.memory g.bus.memory) at t.bytes) in
    let takes : Takes c f back (leaver later e' value) g (returning later value) went.frames =
    record { secure = t.secure; callee = t.callee; stack = t.stack; pointer = t.pointer ∙ at; bytes = bytes; taken = went.taken; modes = went.modes } in
    subst (λ (after : Core). GoesOn c back after) (sym went.core)
    (frames_give_back c f back s (leaver later e' value) g (returning later value) went.frames takes)
