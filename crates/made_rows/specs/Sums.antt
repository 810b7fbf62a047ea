-- The script that a made input is summed by.
use Rattle.std.specs.Prelude.{ℕ, List, [], ◌∷◌, None, codes}
use Rattle.combine_table.specs.declared.comb.Comb.TheVariants as comb
use Rattle.flume_grammar.specs.declared.tree.Body.{Body}
use Rattle.flume_grammar.specs.declared.tree.Body.TheVariants as body
use Rattle.flume_grammar.specs.declared.tree.Combiner.TheVariants as combiner
use Rattle.flume_grammar.specs.declared.tree.Expr.{Expr}
use Rattle.flume_grammar.specs.declared.tree.Expr.TheVariants as expr
use Rattle.flume_grammar.specs.declared.tree.Form.TheVariants as form
use Rattle.flume_grammar.specs.declared.tree.Operation.{Operation}
use Rattle.flume_grammar.specs.declared.tree.Operation.TheVariants as operation
use Rattle.flume_grammar.specs.declared.tree.Statement.{Statement}
use Rattle.flume_grammar.specs.declared.tree.Type as tree
use Rattle.flume_grammar.specs.declared.tree.Type.TheVariants as written
use Rattle.flume_types.specs.Tables.{table_of}
use Rattle.flume_types.specs.declared.column.Column.{Column}
use Rattle.flume_types.specs.declared.column.ColumnKind.TheVariants as kind
use Rattle.flume_types.specs.declared.types.Ty.{Ty}
use Rattle.flume_types.specs.declared.types.Ty.TheVariants as ty
use Rattle.script_program.specs.Script.{Function, Node, Script}
use Rattle.script_program.specs.declared.made.Made.TheVariants as made
use Rattle.script_program.specs.declared.made.Output.{Output}

-- ---- its tree

-- `type r = {k: int, v: int}`
abbrev pub type_statement : Statement
type_statement = record {
  line = 1;
  form = form.Type (codes "r")
      (written.Record (codes "k" ∷ codes "v" ∷ []) (written.Int ∷ written.Int ∷ []));
}

-- `input made: r from "made.csv"`
abbrev pub input_statement : Statement
input_statement = record {
  line = 2;
  form = form.Input (codes "made") (written.Named (codes "r")) (codes "made.csv");
}

-- `table<int, int>`
abbrev pub int_table : tree.Type
int_table = written.Table written.Int written.Int

-- a field of `x`
abbrev pub field_of_row : List ℕ → Expr
field_of_row name = expr.Field (expr.Name (codes "x")) name

-- `x.k` and `x.v`
abbrev pub both_fields : List Expr
both_fields = field_of_row (codes "k") ∷ field_of_row (codes "v") ∷ []

-- `emit {key: x.k, value: x.v}`
abbrev pub function_body : List Body
function_body = body.Emit 3 None (expr.Record (codes "key" ∷ codes "value" ∷ []) both_fields) ∷ []

-- `fn pair(x: r) -> table<int, int> { .. }`
abbrev pub function_statement : Statement
function_statement = record {
  line = 3;
  form = form.Function (record {
    name = codes "pair";
    argument = codes "x";
    takes = written.Named (codes "r");
    gives = int_table;
    more = [];
    scale = None;
    body = function_body;
  });
}

abbrev pub let_statement : ℕ → List ℕ → Operation → Statement
let_statement line name by = record { line = line; form = form.Let (name ∷ []) by }

-- `output s to "sums.csv"`
abbrev pub output_statement : Statement
output_statement = record { line = 7; form = form.Output (codes "s") (codes "sums.csv") }

-- the statements of the script
abbrev pub sums_statements : List Statement
sums_statements =
    type_statement ∷ input_statement ∷ function_statement
    ∷ let_statement 4 (codes "p") (operation.Do (codes "made") (codes "pair"))
    ∷ let_statement 5 (codes "g") (operation.Group (codes "p"))
    ∷ let_statement 6 (codes "s") (operation.Combine (codes "g") combiner.Sum)
    ∷ output_statement ∷ []

-- ---- the script that it is

-- the type of the rows
abbrev pub row_type : Ty
row_type =
    ty.Rec (record { name = codes "k"; ty = ty.Int }
    ∷ record { name = codes "v"; ty = ty.Int } ∷ [])

-- the columns of the rows, and those of the sums
abbrev pub column : List ℕ → Column
column name = record { name = name; kind = kind.Int }

abbrev pub row_columns : List Column
row_columns = column (codes "k") ∷ column (codes "v") ∷ []

abbrev pub sum_columns : List Column
sum_columns = column (codes "key") ∷ column (codes "value") ∷ []

-- the function, which pairs the key of a row with its number
abbrev pub pairing : Function
pairing = record {
  types = (codes "r", row_type) ∷ [];
  argument = codes "x";
  signature = record { takes = row_type; gives = table_of ty.Int ty.Int ∷ []; scale = 100 };
  body = function_body;
}

-- the collections: the rows, their pairs, the groups of these, and the sums, each with the number
-- of its statement
abbrev pub sums_nodes : List (List ℕ × Node)
sums_nodes = (
  codes "made",
  record {
    made = made.Input (codes "made.csv") row_columns;
    type = row_type;
    statement = 1;
  },
)
    ∷ (
      codes "p",
      record {
        made = made.Do 0 0 0;
        type = table_of ty.Int ty.Int;
        statement = 3;
      },
    )
    ∷ (
      codes "g",
      record {
        made = made.Group 1;
        type = table_of ty.Int (ty.List ty.Int);
        statement = 4;
      },
    )
    ∷ (
      codes "s",
      record {
        made = made.Combine 2 comb.Sum;
        type = table_of ty.Int ty.Int;
        statement = 5;
      },
    )
    ∷ []

-- the script
abbrev pub sums_script : Script
sums_script = record {
  functions = (codes "pair", pairing) ∷ [];
  nodes = sums_nodes;
  outputs =
      (codes "sums.csv", record { name = codes "s"; reads = 3; columns = sum_columns }) ∷ [];
}
