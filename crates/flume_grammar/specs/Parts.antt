-- The parts of a record, as they are read.
use Rattle.std.specs.Prelude.{ℕ, max, List, [], ◌∷◌, ◌++◌}
use Rattle.flume_grammar.specs.declared.parts.Parts.{Parts}
use Rattle.flume_grammar.specs.declared.tree.Type as tree_type

-- a type as it is written
abbrev pub Tree : Type 0
Tree = tree_type.Type

-- no parts yet
abbrev pub none : {A : Type 0} → Parts A
none = record { names = []; parts = []; depth = 0 }

-- one more part, of this name and depth
abbrev pub with_named_part : {A : Type 0} → Parts A → List ℕ → A → ℕ → Parts A
with_named_part p name part d = record {
  names = p.names ++ name ∷ [];
  parts = p.parts ++ part ∷ [];
  depth = max p.depth d;
}
