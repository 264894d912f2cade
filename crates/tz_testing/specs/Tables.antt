-- How the double of frames answers: as the table port does, whoever asks.
use Rattle.std.specs.Prelude.{ℕ, ◌+◌, ◌*◌, true, false, Result}
use Rattle.tz_table.specs.declared.units.Size.TheVariants.{Word}
use Rattle.tz_model.specs.declared.report.Fault.{Fault}
use Rattle.tz_model.specs.Ports.{Load, Store}
use Rattle.tz_testing.specs.TablePorts.{TableValue, table_answer}
use Rattle.tz_model.specs.Words.{wrap}
use Rattle.tz_regs.specs.Banks.{of_side}
use Rattle.tz_frames.specs.FrameAccess.{FrameAnswering, Vector, SecureLoad, FrameLoad, FrameStore}

-- a table, and the vector tables of both sides
pub record FramesValue : Type 0 where
  pub table : TableValue
  pub vtor_s : ℕ
  pub vtor_ns : ℕ

abbrev pub with_table : FramesValue → TableValue × Result ℕ Fault → FramesValue × Result ℕ Fault
with_table f a = (record f { table = a.0 }, a.1)

abbrev pub table_looks : FrameAnswering FramesValue
table_looks f (Vector number side) =
    with_table f (table_answer f.table (Load Word (wrap (of_side side f.vtor_s f.vtor_ns + 4 * number)) true false))
table_looks f (SecureLoad addr) = with_table f (table_answer f.table (Load Word addr true false))
table_looks f (FrameLoad addr side privileged) = with_table f (table_answer f.table (Load Word addr true false))
table_looks f (FrameStore addr side privileged value) = with_table f (table_answer f.table (Store Word addr value true false))
