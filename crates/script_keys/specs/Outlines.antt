-- What a statement is to keys, read off its tree: lines and the bodies of functions have no part in
-- it.
use Rattle.std.specs.Prelude.{ℕ, List, [], ◌∷◌, ◌++◌}
use Rattle.std.specs.List.{flat_map}
use Rattle.flume_grammar.specs.declared.tree.Form.{Form}
use Rattle.flume_grammar.specs.declared.tree.Form.TheVariants as form
use Rattle.flume_grammar.specs.declared.tree.Operation.{Operation}
use Rattle.flume_grammar.specs.declared.tree.Operation.TheVariants as operation
use Rattle.flume_grammar.specs.declared.tree.Repeat.{Repeat}
use Rattle.script_keys.specs.declared.outline.Outline.{Outline}
use Rattle.script_keys.specs.declared.outline.Outline.TheVariants as outline

-- the collections and objects that an operation reads, by their names
abbrev pub operand_names : Operation → List (List ℕ)
operand_names (operation.Do source function) = source ∷ []
operand_names (operation.Group source) = source ∷ []
operand_names (operation.Combine source by) = source ∷ []
operand_names (operation.Flatten sources) = sources
operand_names (operation.Count source) = source ∷ []
operand_names (operation.Join left right) = left ∷ right ∷ []
operand_names (operation.Top digits source) = source ∷ []
operand_names (operation.CombineAll source by) = source ∷ []
operand_names (operation.Operate objects function) = objects
operand_names (operation.DoWith source function object) = source ∷ object ∷ []

-- the function that it calls, if it calls one
abbrev pub callees : Operation → List (List ℕ)
callees (operation.Do source function) = function ∷ []
callees (operation.Operate objects function) = function ∷ []
callees (operation.DoWith source function object) = function ∷ []
callees _ = []

-- what a repeat reads: what enters its first turn, what its body names, and what it gives. No other
-- statement defines a name of its body.
abbrev pub read_in : Repeat → List (List ℕ)
read_in repeat = (repeat.from ++ flat_map (λ own. operand_names own.by) repeat.lets) ++ repeat.gives

-- what its body calls
abbrev pub called_in : Repeat → List (List ℕ)
called_in repeat = flat_map (λ own. callees own.by) repeat.lets

abbrev pub outline_of : Form → Outline
outline_of (form.Type name type) = outline.Type
outline_of (form.Input name type file) = outline.Input name file
outline_of (form.Function function) = outline.Function function.name
outline_of (form.Let names by) = outline.Let names (operand_names by) (callees by)
outline_of (form.Repeat names repeat) = outline.Let names (read_in repeat) (called_in repeat)
outline_of (form.Output name file) = outline.Output
