-- The numbers of forms, and of the values that they fix, by name.
use Rattle.std.specs.Prelude.{ℕ, ◌+◌}
use Rattle.tz_table.specs.Forms.{data_number, field_number, extend_number, reverse_number, multiply_number, long_number, barrier_number}
use Rattle.tz_table.specs.declared.instruction.DataOp.{DataOp}
use Rattle.tz_table.specs.declared.instruction.FieldOp.{FieldOp}
use Rattle.tz_table.specs.declared.instruction.ExtendOp.{ExtendOp}
use Rattle.tz_table.specs.declared.instruction.ReverseOp.{ReverseOp}
use Rattle.tz_table.specs.declared.instruction.MultiplyOp.{MultiplyOp}
use Rattle.tz_table.specs.declared.instruction.LongOp.{LongOp}
use Rattle.tz_table.specs.declared.instruction.BarrierOp.{BarrierOp}

-- data operations with a constant, and with a register
abbrev pub constant : DataOp → ℕ
constant op = data_number op

abbrev pub register : DataOp → ℕ
register op = 16 + data_number op

abbrev pub shift_register : ℕ
shift_register = 32

abbrev pub add_wide : ℕ
add_wide = 33

abbrev pub adr : ℕ
adr = 34

abbrev pub mov_wide : ℕ
mov_wide = 35

abbrev pub saturate : ℕ
saturate = 36

abbrev pub bit_field : FieldOp → ℕ
bit_field op = 37 + field_number op

abbrev pub extend : ExtendOp → ℕ
extend op = 41 + extend_number op

abbrev pub reverse : ReverseOp → ℕ
reverse op = 45 + reverse_number op

abbrev pub multiply : MultiplyOp → ℕ
multiply op = 50 + multiply_number op

abbrev pub multiply_long : LongOp → ℕ
multiply_long op = 53 + long_number op

abbrev pub divide : ℕ
divide = 57

abbrev pub load : ℕ
load = 58

abbrev pub store : ℕ
store = 59

abbrev pub load_pair : ℕ
load_pair = 60

abbrev pub store_pair : ℕ
store_pair = 61

abbrev pub load_many : ℕ
load_many = 62

abbrev pub store_many : ℕ
store_many = 63

abbrev pub preload : ℕ
preload = 64

abbrev pub load_exclusive : ℕ
load_exclusive = 65

abbrev pub store_exclusive : ℕ
store_exclusive = 66

abbrev pub load_acquire : ℕ
load_acquire = 67

abbrev pub store_release : ℕ
store_release = 68

abbrev pub branch : ℕ
branch = 69

abbrev pub branch_if : ℕ
branch_if = 70

abbrev pub branch_link : ℕ
branch_link = 71

abbrev pub branch_zero : ℕ
branch_zero = 72

abbrev pub table_branch : ℕ
table_branch = 73

abbrev pub branch_exchange : ℕ
branch_exchange = 74

abbrev pub call_exchange : ℕ
call_exchange = 75

abbrev pub if_then : ℕ
if_then = 76

abbrev pub hint : ℕ
hint = 77

abbrev pub barrier : BarrierOp → ℕ
barrier op = 78 + barrier_number op

abbrev pub change_state : ℕ
change_state = 82

abbrev pub read_special : ℕ
read_special = 83

abbrev pub write_special : ℕ
write_special = 84

abbrev pub test_target : ℕ
test_target = 85

abbrev pub secure_gateway : ℕ
secure_gateway = 86

abbrev pub lazy_state : ℕ
lazy_state = 87

abbrev pub supervisor : ℕ
supervisor = 88

abbrev pub breakpoint : ℕ
breakpoint = 89

abbrev pub undefined : ℕ
undefined = 90

-- ---- values of the words of forms

abbrev pub no : ℕ
no = 0

abbrev pub yes : ℕ
yes = 1

-- when the flags are set
abbrev pub never : ℕ
never = 0

abbrev pub always : ℕ
always = 1

abbrev pub outside : ℕ
outside = 2

-- shifts
abbrev pub lsl : ℕ
lsl = 0

abbrev pub lsr : ℕ
lsr = 1

abbrev pub asr : ℕ
asr = 2

abbrev pub ror : ℕ
ror = 3

-- sizes
abbrev pub byte : ℕ
byte = 0

abbrev pub half : ℕ
half = 1

abbrev pub word : ℕ
word = 2

-- kinds of address
abbrev pub index : ℕ
index = 0

abbrev pub offset : ℕ
offset = 1

abbrev pub post : ℕ
post = 2

abbrev pub pre : ℕ
pre = 3

abbrev pub literal : ℕ
literal = 4
