-- What a source gives is what is told of it.
use Rattle.std.proofs.Common.{◌≡◌, ℕ, ◌+◌, List, [], ◌∷◌, Result, Ok, Err, sym, ap, ◌∙◌}
use Rattle.tz_asm.specs.Assembled.{Assembled}
use Rattle.tz_asm.specs.FirstPass.{first_pass}
use Rattle.tz_asm.specs.Growing.{GrowingValue, grown, nothing}
use Rattle.tz_asm.specs.Layouts.{advance, start}
use Rattle.tz_asm.specs.Places.{Places}
use Rattle.tz_asm.specs.Reading.{said}
use Rattle.tz_asm.specs.Refusals.{◌>>=◌, After, Refusal}
use Rattle.tz_asm.specs.SecondPass.{SecondFrom, SecondPass, SecondTurn}
use Rattle.tz_asm.specs.Told.{assembled, second_from, second_turn, written_by}
use Rattle.tz_asm.specs.Written.{Writes, InstructionWrites, as_address, coded_bytes, label_value}
use Rattle.tz_asm.specs.declared.layout.Layout.{Layout}
use Rattle.tz_syntax.specs.Lines.{lines_of}
use Rattle.tz_model.specs.Image.{SegmentValue}
use Rattle.tz_asm.specs.Statements.{StatementValue, Nothing, Org, Align, Data, Equ, Space, Text, Instruction}
use Rattle.tz_asm.proofs.CodeTold as codes

-- what follows an answer is told where each answer that may follow is
after_told : {A B : Type 0} (r : Result A Refusal) (Follows : A → Result B Refusal → Type 0) (f : A → Result B Refusal) (answer : Result B Refusal)
    → ((x : A) → Follows x answer → f x ≡ answer) → After r Follows answer → (r >>= f) ≡ answer
after_told (Ok x) Follows f answer h a = h x a
after_told (Err e) Follows f answer h a = sym a

pub written_told : (line : ℕ) (places : Places) (place : ℕ) (statement : StatementValue) (answer : Result (List ℕ) Refusal) → Writes line places place statement answer
    → written_by line places place statement ≡ answer
unfolding Writes InstructionWrites written_by
written_told line places place Nothing answer h = sym h
written_told line places place (Org number) answer h = sym h
written_told line places place (Align multiple) answer h = sym h
written_told line places place (Data size expression) answer h = sym h
written_told line places place (Equ name value) answer h = sym h
written_told line places place (Space count) answer h = sym h
written_told line places place (Text bytes ends) answer h = sym h
written_told line places place (Instruction width mnemonic operands) answer h =
    ap (coded_bytes line (label_value places operands) width) (codes.is_told mnemonic operands place (as_address (label_value places operands)) h.0 h.1.0) ∙ sym h.1.1

turn_told : (line : ℕ) (places : Places) (layout : Layout) (g : GrowingValue) (text : List ℕ) (answer : Result (Layout × GrowingValue) Refusal) → SecondTurn line places layout g text answer
    → second_turn line places layout g text ≡ answer
unfolding SecondTurn second_turn
turn_told line places layout g text answer h =
    after_told (said line text) _ _ answer (λ value. after_told (advance line value.statement layout) _ _ answer (λ next x.
    ap (λ (r : Result (List ℕ) Refusal). r >>= (λ bytes. Ok (next, grown layout.inside layout.place bytes g))) (written_told line places layout.place value.statement x.0 x.1.0)
    ∙ after_told x.0 _ _ answer (λ bytes e. sym e) x.1.1)) h

from_told : (line : ℕ) (places : Places) (layout : Layout) (g : GrowingValue) (texts : List (List ℕ)) (answer : Result (List SegmentValue) Refusal)
    → SecondFrom line places layout g texts answer → second_from line places layout g texts ≡ answer
unfolding SecondFrom second_from
from_told line places layout g [] answer h = sym h
from_told line places layout g (text ∷ texts) answer h =
    ap (λ (r : Result (Layout × GrowingValue) Refusal). r >>= (λ state. second_from (line + 1) places state.0 state.1 texts)) (turn_told line places layout g text h.0 h.1.0)
    ∙ after_told h.0 _ _ answer (λ state x. from_told (line + 1) places state.0 state.1 texts answer x) h.1.1

-- what a source gives is told
pub is_told : (source : List ℕ) (answer : Result (List SegmentValue) Refusal) → Assembled source answer → assembled source ≡ answer
unfolding Assembled SecondPass assembled
is_told source answer h = after_told (first_pass source) _ _ answer (λ places x. from_told 1 places start nothing (lines_of source) answer x) h
