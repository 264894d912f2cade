-- A job that is made from a number (own): two Secure images with a key each, a Non-secure image, and a script.
use Rattle.std.specs.Prelude.{ℕ, zero, suc, ◌+◌, ◌*◌, ◌/◌, ◌%◌, nat_lt, if◌then◌else◌, List, [], ◌∷◌, ◌++◌}
use Rattle.tz_model.specs.declared.report.ScriptEvent.TheVariants.{Irq}
use Rattle.tz_model.specs.Image.{ImageValue, SegmentValue}
use Rattle.tz_model.specs.Words.{wrap}
use Rattle.tz_board.specs.Scripts.{Timed, most_events}

-- ---- draws

-- the number that a draw makes of another
abbrev pub stirred : ℕ → ℕ
stirred x = wrap (x * 1664525 + 1013904223)

-- what a draw gives: the upper 16 bits of that number
abbrev pub drawn : ℕ → ℕ
drawn x = stirred x / 65536

-- ---- events

-- how many steps are between an event and the one before
abbrev pub gap : ℕ → ℕ
gap x = 50 + drawn x % 64

-- interrupt 0 at each of these steps: behind an event, and before a step; so many at most
unfoldable pub irqs_from : ℕ → ℕ → ℕ → ℕ → List Timed
irqs_from zero x last steps = []
irqs_from (suc room) x last steps =
    if nat_lt (last + gap x) steps then (last + gap x, Irq 0) ∷ irqs_from room (stirred x) (last + gap x) steps else []

-- the events of a job: the first two draws are its keys
unfoldable pub generated_events : ℕ → ℕ → List Timed
generated_events seed steps = irqs_from most_events (stirred (stirred seed)) 0 steps

-- ---- images

-- a halfword, low byte first
abbrev pub half_bytes : ℕ → List ℕ
half_bytes half = half % 256 ∷ half / 256 ∷ []

-- MSP and where code begins
abbrev pub secure_vectors : List ℕ
secure_vectors = 0x00 ∷ 0x10 ∷ 0x00 ∷ 0x30 ∷ 0x41 ∷ 0x00 ∷ 0x00 ∷ 0x10 ∷ []

-- code that hands interrupt 0 to Non-secure state, keeps the key and goes there; then the function up to its operation
abbrev pub secure_front : List ℕ
secure_front =
    0x09 ∷ 0x48 ∷ 0x80 ∷ 0xF3 ∷ 0x88 ∷ 0x88 ∷ 0x09 ∷ 0x48 ∷ 0x01 ∷ 0x21 ∷ 0x01 ∷ 0x60 ∷ 0x08 ∷ 0x48 ∷ 0x09 ∷ 0x49
    ∷ 0x08 ∷ 0x60 ∷ 0x00 ∷ 0x21 ∷ 0x08 ∷ 0x48 ∷ 0x04 ∷ 0x47 ∷ 0x06 ∷ 0x49 ∷ 0x0A ∷ 0x68 ∷ []

-- the function behind its operation, and two constants
abbrev pub secure_middle : List ℕ
secure_middle =
    0x0A ∷ 0x60 ∷ 0x00 ∷ 0x20 ∷ 0x00 ∷ 0x21 ∷ 0x00 ∷ 0x22 ∷ 0x74 ∷ 0x47 ∷ 0x00 ∷ 0x10 ∷ 0x00 ∷ 0x20 ∷ 0x80 ∷ 0xE3
    ∷ 0x00 ∷ 0xE0 ∷ []

-- the upper half of the key, and two more constants
abbrev pub secure_back : List ℕ
secure_back = 0x00 ∷ 0x00 ∷ 0x00 ∷ 0x00 ∷ 0x00 ∷ 0x30 ∷ 0x80 ∷ 0x00 ∷ 0x20 ∷ 0x00 ∷ []

-- the code of a Secure image with an operation and a key
abbrev pub secure_code : ℕ → ℕ → List ℕ
secure_code operation key = secure_front ++ half_bytes operation ++ secure_middle ++ half_bytes key ++ secure_back

-- SG, and a branch to the function
abbrev pub secure_gateway : List ℕ
secure_gateway = 0x7F ∷ 0xE9 ∷ 0x7F ∷ 0xE9 ∷ 0xF8 ∷ 0xF7 ∷ 0x28 ∷ 0xB8 ∷ []

abbrev pub segment_of : ℕ → List ℕ → SegmentValue
segment_of base bytes = record { base = base; bytes = bytes }

unfoldable pub secure_image : ℕ → ℕ → ImageValue
secure_image operation key = record {
  segments = segment_of 0x10000000 secure_vectors ∷ segment_of 0x10000040 (secure_code operation key) ∷ segment_of 0x10008000 secure_gateway ∷ [];
}

-- EORS R2, R2, R0 and ORRS R2, R2, R0
abbrev pub eors_half : ℕ
eors_half = 0x4042

abbrev pub orrs_half : ℕ
orrs_half = 0x4302

-- the first image has the first draw for its key, the second one the second
abbrev pub first_image : ℕ → ImageValue
first_image seed = secure_image eors_half (drawn seed)

abbrev pub second_image : ℕ → ImageValue
second_image seed = secure_image orrs_half (drawn (stirred seed))

abbrev pub nonsecure_vectors : List ℕ
nonsecure_vectors = 0x00 ∷ 0x10 ∷ 0x00 ∷ 0x20 ∷ 0x81 ∷ 0x00 ∷ 0x20 ∷ 0x00 ∷ []

-- the vector of interrupt 0
abbrev pub nonsecure_tick : List ℕ
nonsecure_tick = 0x8F ∷ 0x00 ∷ 0x20 ∷ 0x00 ∷ []

-- code that enables interrupt 0, then calls the gateway and counts in R4, again and again; its handler counts in R5
abbrev pub nonsecure_code : List ℕ
nonsecure_code =
    0x04 ∷ 0x48 ∷ 0x01 ∷ 0x21 ∷ 0x01 ∷ 0x60 ∷ 0x04 ∷ 0x4B ∷ 0x98 ∷ 0x47 ∷ 0x64 ∷ 0x1C ∷ 0xFB ∷ 0xE7 ∷ 0x6D ∷ 0x1C
    ∷ 0x70 ∷ 0x47 ∷ 0x00 ∷ 0x00 ∷ 0x00 ∷ 0xE1 ∷ 0x00 ∷ 0xE0 ∷ 0x01 ∷ 0x80 ∷ 0x00 ∷ 0x10 ∷ []

unfoldable pub nonsecure_image : ImageValue
nonsecure_image = record {
  segments = segment_of 0x00200000 nonsecure_vectors ∷ segment_of 0x00200040 nonsecure_tick ∷ segment_of 0x00200080 nonsecure_code ∷ [];
}
