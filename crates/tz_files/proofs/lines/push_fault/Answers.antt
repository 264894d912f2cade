-- Each arm by what its calls append.
use Rattle.std.proofs.Common.{ap, refl, arith}
use Rattle.std.proofs.lemmas.Result.{on_ok_weaker}
use Rattle.std.specs.Prelude.{codes}
use Rattle.tz_board.specs.BoardErrors.{refusal_of}
use Rattle.tz_board.specs.ScriptErrors.{script_refusal_of}
use Rattle.tz_files.specs.declared.stops.LoadError.{LoadError}
use Rattle.tz_files.specs.Told.{BadBoard, BadImage, BadState, BadScript, BadSource}
use Rattle.tz_files.specs.Lines.{board_code, image_code, script_code, source_code, state_code}
use Rattle.tz_files.specs.Faults.{image_refusal, line_with, name_told, source_refusal, state_refusal, stop_of}
use Rattle.tz_files.proofs.FaultLines.{file_told, on_ok_both, refused_told, some_stop}
use Rattle.tz_files.proofs.lines.push_fault.Goals as goal

pub returns-in_ok-push_text-in-Unread-clause-bytes : goal.returns-in_ok-push_text-in-Unread-clause-bytes
returns-in_ok-push_text-in-Unread-clause-bytes c =
    on_ok_weaker c.push_text-in-Unread.result
    (file_told c.args.fault c.args.line.now.items (codes "cannot read ") c.in-Unread.name.now c.push_text.new.line.items c.push_text-in-Unread.new.line.items
    (ap (λ (fault : LoadError). line_with (stop_of fault)) c.in-Unread.is) c.in_ok-push_text-in-Unread.ensures.bytes)
    c.push_text-in-Unread.ensures.bytes

pub returns-in_ok-push_text-in-Unread-clause-len : goal.returns-in_ok-push_text-in-Unread-clause-len
returns-in_ok-push_text-in-Unread-clause-len c =
    let name = ap name_told c.in-Unread.is in
    let front = c.in_ok-push_text-in-Unread.ensures.len in
    on_ok_weaker c.push_text-in-Unread.result (λ l. rw name (omega (arith, front, l))) c.push_text-in-Unread.ensures.len

pub returns-in_ok-push_text-in-Unread-clause-told : goal.returns-in_ok-push_text-in-Unread-clause-told
returns-in_ok-push_text-in-Unread-clause-told c =
    on_ok_weaker c.push_text-in-Unread.result (λ l. rw c.in-Unread.is refl) c.push_text-in-Unread.ensures.len

pub returns-in_ok-push_text-in-Long-clause-bytes : goal.returns-in_ok-push_text-in-Long-clause-bytes
returns-in_ok-push_text-in-Long-clause-bytes c =
    on_ok_weaker c.push_text-in-Long-2.result
    (file_told c.args.fault c.args.line.now.items (codes "limit ") c.in-Long.name.now c.push_text-in-Long.new.line.items c.push_text-in-Long-2.new.line.items
    (ap (λ (fault : LoadError). line_with (stop_of fault)) c.in-Long.is) c.in_ok-push_text-in-Long.ensures.bytes)
    c.push_text-in-Long-2.ensures.bytes

pub returns-in_ok-push_text-in-Long-clause-len : goal.returns-in_ok-push_text-in-Long-clause-len
returns-in_ok-push_text-in-Long-clause-len c =
    let name = ap name_told c.in-Long.is in
    let front = c.in_ok-push_text-in-Long.ensures.len in
    on_ok_weaker c.push_text-in-Long-2.result (λ l. rw name (omega (arith, front, l))) c.push_text-in-Long-2.ensures.len

pub returns-in_ok-push_text-in-Long-clause-told : goal.returns-in_ok-push_text-in-Long-clause-told
returns-in_ok-push_text-in-Long-clause-told c =
    on_ok_weaker c.push_text-in-Long-2.result (λ l. rw c.in-Long.is refl) c.push_text-in-Long-2.ensures.len

pub returns-in_ok-push_name-in-Board-clause-bytes : goal.returns-in_ok-push_name-in-Board-clause-bytes
returns-in_ok-push_name-in-Board-clause-bytes c =
    on_ok_both c.push_board_error.result
    (λ behind some. refused_told c.args.fault c.args.line.now.items c.in-Board.name.now c.push_name.new.line.items c.push_board_error.new.line.items board_code (BadBoard c.in-Board.name.now) (refusal_of c.in-Board.error)
    (ap stop_of c.in-Board.is) (λ e. refl) c.in_ok-push_name-in-Board.ensures.bytes behind some)
    c.push_board_error.ensures.bytes c.push_board_error.ensures.told

pub returns-in_ok-push_name-in-Board-clause-len : goal.returns-in_ok-push_name-in-Board-clause-len
returns-in_ok-push_name-in-Board-clause-len c =
    let name = ap name_told c.in-Board.is in
    let front = c.in_ok-push_name-in-Board.ensures.len in
    on_ok_weaker c.push_board_error.result (λ l. rw name (omega (arith, front, l))) c.push_board_error.ensures.len

pub returns-in_ok-push_name-in-Board-clause-told : goal.returns-in_ok-push_name-in-Board-clause-told
returns-in_ok-push_name-in-Board-clause-told c =
    on_ok_weaker c.push_board_error.result (some_stop c.args.fault (BadBoard c.in-Board.name.now) (refusal_of c.in-Board.error) (ap stop_of c.in-Board.is)) c.push_board_error.ensures.told

pub returns-in_ok-push_name-in-Image-clause-bytes : goal.returns-in_ok-push_name-in-Image-clause-bytes
returns-in_ok-push_name-in-Image-clause-bytes c =
    on_ok_both c.push_image_error.result
    (λ behind some. refused_told c.args.fault c.args.line.now.items c.in-Image.name.now c.push_name-in-Image.new.line.items c.push_image_error.new.line.items image_code (BadImage c.in-Image.name.now) (image_refusal c.in-Image.error)
    (ap stop_of c.in-Image.is) (λ e. refl) c.in_ok-push_name-in-Image.ensures.bytes behind some)
    c.push_image_error.ensures.bytes c.push_image_error.ensures.told

pub returns-in_ok-push_name-in-Image-clause-len : goal.returns-in_ok-push_name-in-Image-clause-len
returns-in_ok-push_name-in-Image-clause-len c =
    let name = ap name_told c.in-Image.is in
    let front = c.in_ok-push_name-in-Image.ensures.len in
    on_ok_weaker c.push_image_error.result (λ l. rw name (omega (arith, front, l))) c.push_image_error.ensures.len

pub returns-in_ok-push_name-in-Image-clause-told : goal.returns-in_ok-push_name-in-Image-clause-told
returns-in_ok-push_name-in-Image-clause-told c =
    on_ok_weaker c.push_image_error.result (some_stop c.args.fault (BadImage c.in-Image.name.now) (image_refusal c.in-Image.error) (ap stop_of c.in-Image.is)) c.push_image_error.ensures.told

pub returns-in_ok-push_name-in-State-clause-bytes : goal.returns-in_ok-push_name-in-State-clause-bytes
returns-in_ok-push_name-in-State-clause-bytes c =
    on_ok_both c.push_state_error.result
    (λ behind some. refused_told c.args.fault c.args.line.now.items c.in-State.name.now c.push_name-in-State.new.line.items c.push_state_error.new.line.items state_code (BadState c.in-State.name.now) (state_refusal c.in-State.error)
    (ap stop_of c.in-State.is) (λ e. refl) c.in_ok-push_name-in-State.ensures.bytes behind some)
    c.push_state_error.ensures.bytes c.push_state_error.ensures.told

pub returns-in_ok-push_name-in-State-clause-len : goal.returns-in_ok-push_name-in-State-clause-len
returns-in_ok-push_name-in-State-clause-len c =
    let name = ap name_told c.in-State.is in
    let front = c.in_ok-push_name-in-State.ensures.len in
    on_ok_weaker c.push_state_error.result (λ l. rw name (omega (arith, front, l))) c.push_state_error.ensures.len

pub returns-in_ok-push_name-in-State-clause-told : goal.returns-in_ok-push_name-in-State-clause-told
returns-in_ok-push_name-in-State-clause-told c =
    on_ok_weaker c.push_state_error.result (some_stop c.args.fault (BadState c.in-State.name.now) (state_refusal c.in-State.error) (ap stop_of c.in-State.is)) c.push_state_error.ensures.told

pub returns-in_ok-push_name-in-Script-clause-bytes : goal.returns-in_ok-push_name-in-Script-clause-bytes
returns-in_ok-push_name-in-Script-clause-bytes c =
    on_ok_both c.push_script_error.result
    (λ behind some. refused_told c.args.fault c.args.line.now.items c.in-Script.name.now c.push_name-in-Script.new.line.items c.push_script_error.new.line.items script_code (BadScript c.in-Script.name.now) (script_refusal_of c.in-Script.error)
    (ap stop_of c.in-Script.is) (λ e. refl) c.in_ok-push_name-in-Script.ensures.bytes behind some)
    c.push_script_error.ensures.bytes c.push_script_error.ensures.told

pub returns-in_ok-push_name-in-Script-clause-len : goal.returns-in_ok-push_name-in-Script-clause-len
returns-in_ok-push_name-in-Script-clause-len c =
    let name = ap name_told c.in-Script.is in
    let front = c.in_ok-push_name-in-Script.ensures.len in
    on_ok_weaker c.push_script_error.result (λ l. rw name (omega (arith, front, l))) c.push_script_error.ensures.len

pub returns-in_ok-push_name-in-Script-clause-told : goal.returns-in_ok-push_name-in-Script-clause-told
returns-in_ok-push_name-in-Script-clause-told c =
    on_ok_weaker c.push_script_error.result (some_stop c.args.fault (BadScript c.in-Script.name.now) (script_refusal_of c.in-Script.error) (ap stop_of c.in-Script.is)) c.push_script_error.ensures.told

pub returns-in_ok-push_name-in-Source-clause-bytes : goal.returns-in_ok-push_name-in-Source-clause-bytes
returns-in_ok-push_name-in-Source-clause-bytes c =
    on_ok_both c.push_source_error.result
    (λ behind some. refused_told c.args.fault c.args.line.now.items c.in-Source.name.now c.push_name-in-Source.new.line.items c.push_source_error.new.line.items source_code (BadSource c.in-Source.name.now) (source_refusal c.in-Source.error)
    (ap stop_of c.in-Source.is) (λ e. refl) c.in_ok-push_name-in-Source.ensures.bytes behind some)
    c.push_source_error.ensures.bytes c.push_source_error.ensures.told

pub returns-in_ok-push_name-in-Source-clause-len : goal.returns-in_ok-push_name-in-Source-clause-len
returns-in_ok-push_name-in-Source-clause-len c =
    let name = ap name_told c.in-Source.is in
    let front = c.in_ok-push_name-in-Source.ensures.len in
    on_ok_weaker c.push_source_error.result (λ l. rw name (omega (arith, front, l))) c.push_source_error.ensures.len

pub returns-in_ok-push_name-in-Source-clause-told : goal.returns-in_ok-push_name-in-Source-clause-told
returns-in_ok-push_name-in-Source-clause-told c =
    on_ok_weaker c.push_source_error.result (some_stop c.args.fault (BadSource c.in-Source.name.now) (source_refusal c.in-Source.error) (ap stop_of c.in-Source.is)) c.push_source_error.ensures.told
