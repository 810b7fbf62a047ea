-- What the statements of a script are to keys.
use Rattle.std.specs.Prelude.{List, map}
use Rattle.flume_grammar.specs.declared.tree.Statement.{Statement}
use Rattle.script_keys.specs.Outlines.{outline_of}
use Rattle.script_keys.specs.declared.outline.Outline.{Outline}

abbrev pub outlines_of : List Statement → List Outline
outlines_of statements = map (λ statement. outline_of statement.form) statements
