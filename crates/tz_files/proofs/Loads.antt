-- The files of commands, each behind those before it.
use Rattle.std.proofs.Common.{◌≡◌, not, ℕ, true, List, [], Result, Ok, Err, subst}
use Rattle.tz_table.specs.declared.units.Side.TheVariants as sides
use Rattle.tz_model.specs.Board.{BoardValue}
use Rattle.tz_model.specs.Image.{ImageValue}
use Rattle.tz_board.specs.Scripts.{Timed}
use Rattle.tz_snap.specs.StateFile.{SavedState}
use Rattle.tz_words.specs.StartWords.{StartWords}
use Rattle.tz_words.specs.Pair.{PairWords}
use Rattle.tz_words.specs.Dis.{DisWords}
use Rattle.tz_words.specs.ShowWords.{SavedWords}
use Rattle.tz_words.specs.Resume.{ResumeWords}
use Rattle.tz_files.specs.declared.stops.LoadError.{LoadError}
use Rattle.tz_files.specs.Told.{is_none_script, image_told, state_told, script_told}
use Rattle.tz_files.specs.Reads.{AsImage, AsState, AsScript}
use Rattle.tz_files.specs.Starts.{Start, PairStart, SavedStart, no_image, board_files, image_files, state_files, script_files, secure_files, nonsecure_files, start_files, kept_files, saved_files, shown_files, first_files, second_files, third_files, pair_start_files, listed_files}
use Rattle.tz_files.specs.Faults.{Standing, IsRead}
use Rattle.tz_files.proofs.Stages.{first_failed, next_failed, both_read}

-- a script is read for the interrupts of the board that was read
script_for : (a b : Standing) (n m : ℕ) (name : List ℕ) (r : Result (List Timed) LoadError) → n ≡ m → IsRead a b (λ held. script_files held n name) r → IsRead a b (λ held. script_files held m name) r
script_for a b n m name r e h = subst (λ (k : ℕ). IsRead a b (λ held. script_files held k name) r) e h

-- ---- a run

module _ (a b : Standing) (w : StartWords) where
  pub secure_before : (e : LoadError) → IsRead a b (λ held. board_files held w.board) (Err e) → IsRead a b (λ held. secure_files held w) (Err e)
  secure_before e h = first_failed a b (λ held. board_files held w.board) true (record { name = w.secure; form = AsImage }) (λ held x. image_told held x sides.Secure w.secure) (λ x y. record { board = x; secure = y; nonsecure = no_image; script = [] }) e h

  pub nonsecure_before : (e : LoadError) → IsRead a b (λ held. secure_files held w) (Err e) → IsRead a b (λ held. nonsecure_files held w) (Err e)
  nonsecure_before e h = first_failed a b (λ held. secure_files held w) true (record { name = w.nonsecure; form = AsImage }) (λ held x. image_told held x.board sides.NonSecure w.nonsecure) (λ x y. record x { nonsecure = y }) e h

  pub script_before : (e : LoadError) → IsRead a b (λ held. nonsecure_files held w) (Err e) → IsRead a b (λ held. start_files held w) (Err e)
  script_before e h = first_failed a b (λ held. nonsecure_files held w) (not (is_none_script w.script)) (record { name = w.script; form = AsScript }) (λ held x. script_told held x.board.interrupts w.script) (λ x y. record x { script = y }) e h

module _ (a b c : Standing) (w : StartWords) where
  pub secure_fault : (x : BoardValue) (e : LoadError) → IsRead a b (λ held. board_files held w.board) (Ok x) → IsRead b c (λ held. image_files held x sides.Secure w.secure) (Err e) → IsRead a c (λ held. secure_files held w) (Err e)
  secure_fault x e h k = next_failed a b (λ held. board_files held w.board) true (record { name = w.secure; form = AsImage }) (λ held x. image_told held x sides.Secure w.secure) (λ x y. record { board = x; secure = y; nonsecure = no_image; script = [] }) c x h e k

  pub secure_with : (x : BoardValue) (y : ImageValue) → IsRead a b (λ held. board_files held w.board) (Ok x) → IsRead b c (λ held. image_files held x sides.Secure w.secure) (Ok y) → IsRead a c (λ held. secure_files held w) (Ok (record { board = x; secure = y; nonsecure = no_image; script = [] }))
  secure_with x y h k = both_read a b (λ held. board_files held w.board) true (record { name = w.secure; form = AsImage }) (λ held x. image_told held x sides.Secure w.secure) (λ x y. record { board = x; secure = y; nonsecure = no_image; script = [] }) c x h y k

  pub nonsecure_fault : (x : Start) (e : LoadError) → IsRead a b (λ held. secure_files held w) (Ok x) → IsRead b c (λ held. image_files held x.board sides.NonSecure w.nonsecure) (Err e) → IsRead a c (λ held. nonsecure_files held w) (Err e)
  nonsecure_fault x e h k = next_failed a b (λ held. secure_files held w) true (record { name = w.nonsecure; form = AsImage }) (λ held x. image_told held x.board sides.NonSecure w.nonsecure) (λ x y. record x { nonsecure = y }) c x h e k

  pub nonsecure_with : (x : Start) (y : ImageValue) → IsRead a b (λ held. secure_files held w) (Ok x) → IsRead b c (λ held. image_files held x.board sides.NonSecure w.nonsecure) (Ok y) → IsRead a c (λ held. nonsecure_files held w) (Ok (record x { nonsecure = y }))
  nonsecure_with x y h k = both_read a b (λ held. secure_files held w) true (record { name = w.nonsecure; form = AsImage }) (λ held x. image_told held x.board sides.NonSecure w.nonsecure) (λ x y. record x { nonsecure = y }) c x h y k

  pub script_fault : (x : Start) (n : ℕ) (e : LoadError) → n ≡ x.board.interrupts → IsRead a b (λ held. nonsecure_files held w) (Ok x) → IsRead b c (λ held. script_files held n w.script) (Err e) → IsRead a c (λ held. start_files held w) (Err e)
  script_fault x n e many h k = next_failed a b (λ held. nonsecure_files held w) (not (is_none_script w.script)) (record { name = w.script; form = AsScript }) (λ held x. script_told held x.board.interrupts w.script) (λ x y. record x { script = y }) c x h e (script_for b c n x.board.interrupts w.script (Err e) many k)

  pub script_with : (x : Start) (n : ℕ) (y : List Timed) → n ≡ x.board.interrupts → IsRead a b (λ held. nonsecure_files held w) (Ok x) → IsRead b c (λ held. script_files held n w.script) (Ok y) → IsRead a c (λ held. start_files held w) (Ok (record x { script = y }))
  script_with x n y many h k = both_read a b (λ held. nonsecure_files held w) (not (is_none_script w.script)) (record { name = w.script; form = AsScript }) (λ held x. script_told held x.board.interrupts w.script) (λ x y. record x { script = y }) c x h y (script_for b c n x.board.interrupts w.script (Ok y) many k)

-- ---- a pair

module _ (a b : Standing) (p : PairWords) where
  pub first_before : (e : LoadError) → IsRead a b (λ held. board_files held p.board) (Err e) → IsRead a b (λ held. first_files held p) (Err e)
  first_before e h = first_failed a b (λ held. board_files held p.board) true (record { name = p.first; form = AsImage }) (λ held x. image_told held x sides.Secure p.first) (λ x y. record { board = x; first = y; second = no_image; nonsecure = no_image; script = [] }) e h

  pub second_before : (e : LoadError) → IsRead a b (λ held. first_files held p) (Err e) → IsRead a b (λ held. second_files held p) (Err e)
  second_before e h = first_failed a b (λ held. first_files held p) true (record { name = p.second; form = AsImage }) (λ held x. image_told held x.board sides.Secure p.second) (λ x y. record x { second = y }) e h

  pub third_before : (e : LoadError) → IsRead a b (λ held. second_files held p) (Err e) → IsRead a b (λ held. third_files held p) (Err e)
  third_before e h = first_failed a b (λ held. second_files held p) true (record { name = p.nonsecure; form = AsImage }) (λ held x. image_told held x.board sides.NonSecure p.nonsecure) (λ x y. record x { nonsecure = y }) e h

  pub events_before : (e : LoadError) → IsRead a b (λ held. third_files held p) (Err e) → IsRead a b (λ held. pair_start_files held p) (Err e)
  events_before e h = first_failed a b (λ held. third_files held p) (not (is_none_script p.script)) (record { name = p.script; form = AsScript }) (λ held x. script_told held x.board.interrupts p.script) (λ x y. record x { script = y }) e h

module _ (a b c : Standing) (p : PairWords) where
  pub first_fault : (x : BoardValue) (e : LoadError) → IsRead a b (λ held. board_files held p.board) (Ok x) → IsRead b c (λ held. image_files held x sides.Secure p.first) (Err e) → IsRead a c (λ held. first_files held p) (Err e)
  first_fault x e h k = next_failed a b (λ held. board_files held p.board) true (record { name = p.first; form = AsImage }) (λ held x. image_told held x sides.Secure p.first) (λ x y. record { board = x; first = y; second = no_image; nonsecure = no_image; script = [] }) c x h e k

  pub first_with : (x : BoardValue) (y : ImageValue) → IsRead a b (λ held. board_files held p.board) (Ok x) → IsRead b c (λ held. image_files held x sides.Secure p.first) (Ok y) → IsRead a c (λ held. first_files held p) (Ok (record { board = x; first = y; second = no_image; nonsecure = no_image; script = [] }))
  first_with x y h k = both_read a b (λ held. board_files held p.board) true (record { name = p.first; form = AsImage }) (λ held x. image_told held x sides.Secure p.first) (λ x y. record { board = x; first = y; second = no_image; nonsecure = no_image; script = [] }) c x h y k

  pub second_fault : (x : PairStart) (e : LoadError) → IsRead a b (λ held. first_files held p) (Ok x) → IsRead b c (λ held. image_files held x.board sides.Secure p.second) (Err e) → IsRead a c (λ held. second_files held p) (Err e)
  second_fault x e h k = next_failed a b (λ held. first_files held p) true (record { name = p.second; form = AsImage }) (λ held x. image_told held x.board sides.Secure p.second) (λ x y. record x { second = y }) c x h e k

  pub second_with : (x : PairStart) (y : ImageValue) → IsRead a b (λ held. first_files held p) (Ok x) → IsRead b c (λ held. image_files held x.board sides.Secure p.second) (Ok y) → IsRead a c (λ held. second_files held p) (Ok (record x { second = y }))
  second_with x y h k = both_read a b (λ held. first_files held p) true (record { name = p.second; form = AsImage }) (λ held x. image_told held x.board sides.Secure p.second) (λ x y. record x { second = y }) c x h y k

  pub third_fault : (x : PairStart) (e : LoadError) → IsRead a b (λ held. second_files held p) (Ok x) → IsRead b c (λ held. image_files held x.board sides.NonSecure p.nonsecure) (Err e) → IsRead a c (λ held. third_files held p) (Err e)
  third_fault x e h k = next_failed a b (λ held. second_files held p) true (record { name = p.nonsecure; form = AsImage }) (λ held x. image_told held x.board sides.NonSecure p.nonsecure) (λ x y. record x { nonsecure = y }) c x h e k

  pub third_with : (x : PairStart) (y : ImageValue) → IsRead a b (λ held. second_files held p) (Ok x) → IsRead b c (λ held. image_files held x.board sides.NonSecure p.nonsecure) (Ok y) → IsRead a c (λ held. third_files held p) (Ok (record x { nonsecure = y }))
  third_with x y h k = both_read a b (λ held. second_files held p) true (record { name = p.nonsecure; form = AsImage }) (λ held x. image_told held x.board sides.NonSecure p.nonsecure) (λ x y. record x { nonsecure = y }) c x h y k

  pub events_fault : (x : PairStart) (n : ℕ) (e : LoadError) → n ≡ x.board.interrupts → IsRead a b (λ held. third_files held p) (Ok x) → IsRead b c (λ held. script_files held n p.script) (Err e) → IsRead a c (λ held. pair_start_files held p) (Err e)
  events_fault x n e many h k = next_failed a b (λ held. third_files held p) (not (is_none_script p.script)) (record { name = p.script; form = AsScript }) (λ held x. script_told held x.board.interrupts p.script) (λ x y. record x { script = y }) c x h e (script_for b c n x.board.interrupts p.script (Err e) many k)

  pub events_with : (x : PairStart) (n : ℕ) (y : List Timed) → n ≡ x.board.interrupts → IsRead a b (λ held. third_files held p) (Ok x) → IsRead b c (λ held. script_files held n p.script) (Ok y) → IsRead a c (λ held. pair_start_files held p) (Ok (record x { script = y }))
  events_with x n y many h k = both_read a b (λ held. third_files held p) (not (is_none_script p.script)) (record { name = p.script; form = AsScript }) (λ held x. script_told held x.board.interrupts p.script) (λ x y. record x { script = y }) c x h y (script_for b c n x.board.interrupts p.script (Ok y) many k)

-- ---- a run that goes on

module _ (a b : Standing) (w : ResumeWords) where
  pub kept_before : (e : LoadError) → IsRead a b (λ held. board_files held w.board) (Err e) → IsRead a b (λ held. kept_files held w) (Err e)
  kept_before e h = first_failed a b (λ held. board_files held w.board) true (record { name = w.state; form = AsState }) (λ held x. state_told held x w.state) (λ x y. record { board = x; state = y.state; step = y.step; script = [] }) e h

  pub saved_before : (e : LoadError) → IsRead a b (λ held. kept_files held w) (Err e) → IsRead a b (λ held. saved_files held w) (Err e)
  saved_before e h = first_failed a b (λ held. kept_files held w) (not (is_none_script w.script)) (record { name = w.script; form = AsScript }) (λ held x. script_told held x.board.interrupts w.script) (λ x y. record x { script = y }) e h

module _ (a b c : Standing) (w : ResumeWords) where
  pub kept_fault : (x : BoardValue) (e : LoadError) → IsRead a b (λ held. board_files held w.board) (Ok x) → IsRead b c (λ held. state_files held x w.state) (Err e) → IsRead a c (λ held. kept_files held w) (Err e)
  kept_fault x e h k = next_failed a b (λ held. board_files held w.board) true (record { name = w.state; form = AsState }) (λ held x. state_told held x w.state) (λ x y. record { board = x; state = y.state; step = y.step; script = [] }) c x h e k

  pub kept_with : (x : BoardValue) (y : SavedState) → IsRead a b (λ held. board_files held w.board) (Ok x) → IsRead b c (λ held. state_files held x w.state) (Ok y) → IsRead a c (λ held. kept_files held w) (Ok (record { board = x; state = y.state; step = y.step; script = [] }))
  kept_with x y h k = both_read a b (λ held. board_files held w.board) true (record { name = w.state; form = AsState }) (λ held x. state_told held x w.state) (λ x y. record { board = x; state = y.state; step = y.step; script = [] }) c x h y k

  pub saved_fault : (x : SavedStart) (n : ℕ) (e : LoadError) → n ≡ x.board.interrupts → IsRead a b (λ held. kept_files held w) (Ok x) → IsRead b c (λ held. script_files held n w.script) (Err e) → IsRead a c (λ held. saved_files held w) (Err e)
  saved_fault x n e many h k = next_failed a b (λ held. kept_files held w) (not (is_none_script w.script)) (record { name = w.script; form = AsScript }) (λ held x. script_told held x.board.interrupts w.script) (λ x y. record x { script = y }) c x h e (script_for b c n x.board.interrupts w.script (Err e) many k)

  pub saved_with : (x : SavedStart) (n : ℕ) (y : List Timed) → n ≡ x.board.interrupts → IsRead a b (λ held. kept_files held w) (Ok x) → IsRead b c (λ held. script_files held n w.script) (Ok y) → IsRead a c (λ held. saved_files held w) (Ok (record x { script = y }))
  saved_with x n y many h k = both_read a b (λ held. kept_files held w) (not (is_none_script w.script)) (record { name = w.script; form = AsScript }) (λ held x. script_told held x.board.interrupts w.script) (λ x y. record x { script = y }) c x h y (script_for b c n x.board.interrupts w.script (Ok y) many k)

-- ---- the page of a state's file

module _ (a b : Standing) (w : SavedWords) where
  pub shown_before : (e : LoadError) → IsRead a b (λ held. board_files held w.board) (Err e) → IsRead a b (λ held. shown_files held w) (Err e)
  shown_before e h = first_failed a b (λ held. board_files held w.board) true (record { name = w.state; form = AsState }) (λ held x. state_told held x w.state) (λ x y. y) e h

module _ (a b c : Standing) (w : SavedWords) where
  pub shown_fault : (x : BoardValue) (e : LoadError) → IsRead a b (λ held. board_files held w.board) (Ok x) → IsRead b c (λ held. state_files held x w.state) (Err e) → IsRead a c (λ held. shown_files held w) (Err e)
  shown_fault x e h k = next_failed a b (λ held. board_files held w.board) true (record { name = w.state; form = AsState }) (λ held x. state_told held x w.state) (λ x y. y) c x h e k

  pub shown_with : (x : BoardValue) (y : SavedState) → IsRead a b (λ held. board_files held w.board) (Ok x) → IsRead b c (λ held. state_files held x w.state) (Ok y) → IsRead a c (λ held. shown_files held w) (Ok y)
  shown_with x y h k = both_read a b (λ held. board_files held w.board) true (record { name = w.state; form = AsState }) (λ held x. state_told held x w.state) (λ x y. y) c x h y k

-- ---- a disassembly

module _ (a b : Standing) (d : DisWords) where
  pub listed_before : (e : LoadError) → IsRead a b (λ held. board_files held d.board) (Err e) → IsRead a b (λ held. listed_files held d) (Err e)
  listed_before e h = first_failed a b (λ held. board_files held d.board) true (record { name = d.image; form = AsImage }) (λ held x. image_told held x d.side d.image) (λ x y. y) e h

module _ (a b c : Standing) (d : DisWords) where
  pub listed_fault : (x : BoardValue) (e : LoadError) → IsRead a b (λ held. board_files held d.board) (Ok x) → IsRead b c (λ held. image_files held x d.side d.image) (Err e) → IsRead a c (λ held. listed_files held d) (Err e)
  listed_fault x e h k = next_failed a b (λ held. board_files held d.board) true (record { name = d.image; form = AsImage }) (λ held x. image_told held x d.side d.image) (λ x y. y) c x h e k

  pub listed_with : (x : BoardValue) (y : ImageValue) → IsRead a b (λ held. board_files held d.board) (Ok x) → IsRead b c (λ held. image_files held x d.side d.image) (Ok y) → IsRead a c (λ held. listed_files held d) (Ok (y))
  listed_with x y h k = both_read a b (λ held. board_files held d.board) true (record { name = d.image; form = AsImage }) (λ held x. image_told held x d.side d.image) (λ x y. y) c x h y k
