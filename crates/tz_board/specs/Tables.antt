-- Tables that code borrows, as the members that they stand for.
use Rattle.std.specs.Prelude.{List, String, map}
use Rattle.std.specs.BTreeMap.{BTreeMap}
use Rattle.std.specs.Borrow.{Bor}
use Rattle.std.specs.declared.alloc.Global.{Global}
use Rattle.toml.specs.Data.{Members}
use Rattle.toml.specs.View.{table_view}
use Rattle.toml.specs.declared.value.Value.{Value}

-- the members of some tables
abbrev pub views : List (Bor (BTreeMap (String Global) Value)) → List Members
views tables = map (λ t. table_view t.now) tables
