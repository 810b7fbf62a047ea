-- The graph nodes that make a collection of a script, of which the last gives it. Each has the
-- collection as its origin, and numbers one after another. A call is one node, with an output for
-- each of its names, and has the first of these as its origin.
use Rattle.std.specs.Prelude.{ℕ, ◌+◌, ◌-◌, Bool, true, false, List, [], ◌∷◌, ◌++◌, map, Option, Some, None, slice_index}
use Rattle.std.proofs.Common.{suc}
use Rattle.combine_table.specs.declared.comb.Comb.TheVariants as by
use Rattle.combine_table.specs.declared.comb.Comb.{Comb}
use Rattle.exec_graph.specs.declared.graph.Act.{Act}
use Rattle.exec_graph.specs.declared.graph.Act.TheVariants.{SideInput, Operate, Singleton}
use Rattle.exec_graph.specs.declared.graph.Entry.{Entry}
use Rattle.exec_graph.specs.declared.graph.Input.{Input}
use Rattle.exec_graph.specs.declared.graph.Node.{Node}
use Rattle.exec_graph.specs.declared.graph.Node.TheVariants.{Source, Flatten, Pdo, Gbk, Barrier}
use Rattle.exec_graph.specs.declared.graph.Place.{Place}
use Rattle.exec_graph.specs.declared.step.Does.{Does}
use Rattle.exec_graph.specs.declared.step.Does.TheVariants as does
use Rattle.exec_graph.specs.Forests.{Branch, Forest, Twig, Bare, Grow, limb}
use Rattle.exec_graph.specs.Meaning.{place}
use Rattle.script_program.specs.declared.made.Made.{Made}
use Rattle.script_program.specs.declared.made.Made.TheVariants as made
use Rattle.script_program.specs.Script.{Script}
use Rattle.script_program.specs.Sources.{source_numbers}
use Rattle.graph_build.specs.declared.nodes.Turn.{Turn}
use Rattle.graph_build.specs.declared.nodes.Turn.TheVariants.{Ahead, Last}
use Rattle.graph_build.specs.Calls.{emitted_at, needed_from, next_if, number_if, other_names, output_numbers}

-- ---- one node

abbrev pub entry : ℕ → Node → Entry
entry number node = record { number = number; node = node }

-- the source of that number, an object or not
abbrev pub read_source : ℕ → Bool → Input
read_source number is_object = record { number = number; is_object = is_object }

-- the input of that number, whose rows are read: it is no object
abbrev pub read_input : ℕ → Input
read_input number = read_source number false

-- the number of a source, by the order of the script
abbrev pub source_number : Script → ℕ → ℕ
source_number script source = slice_index (source_numbers script) source

-- one step, whose one output is number 0
abbrev pub one_step : ℕ → Bool → Does → Forest
one_step origin last does =
    Grow (record { origin = origin; last = last; does = does; at = 0; out = Some 0 }) Bare Bare

-- whether the step gives its collection
abbrev pub is_last : Turn → Bool
is_last Ahead = false
is_last Last = true

-- a step of a collection, ahead of the last or the last
abbrev pub step_node : Turn → ℕ → Does → Place → Node
step_node turn origin does input = Pdo input (one_step origin (is_last turn) does)

-- an output on which no step is
abbrev pub bud : Option ℕ → Twig
bud out = record { out = out; kids = Bare }

-- the call of a function, whose first name has the number `origin`. Each output has a number where
-- it is needed: whether the first is, and whether each of the others is.
abbrev pub call_branch : ℕ → ℕ → Bool → List Bool → Branch
call_branch origin function first others = record {
  origin = origin;
  last = true;
  does = does.Call function;
  first = bud (number_if first 0);
  more = map bud (output_numbers (next_if first 0) others);
}

abbrev pub call_step : ℕ → ℕ → Bool → List Bool → Forest
call_step origin function first others = limb (call_branch origin function first others) Bare

-- the call of a function in a script, on what is there
abbrev pub call_in : Script → ℕ → ℕ → Place → Node
call_in script origin function input =
    Pdo input
    (call_step origin function (emitted_at script origin)
    (needed_from script (suc origin) (other_names script function)))

-- the groups behind the last step of a collection
abbrev pub gbk_of : ℕ → Place → Node
gbk_of origin input = Gbk input origin false None

-- what the act makes of collections that it takes whole, which is what the collection is
abbrev pub barrier : ℕ → Act → List Place → Node
barrier origin act inputs = Barrier inputs origin true act

-- what node n gives
abbrev pub first_of : ℕ → Place
first_of n = place n 0

-- ---- the nodes of derived operations, from number n on

-- all members under one key, in one group, combined
abbrev pub combined_nodes : Comb → ℕ → ℕ → Place → List Entry
combined_nodes comb origin n input =
    entry n (step_node Ahead origin does.Solo input)
    ∷ entry (n + 1) (gbk_of origin (first_of n))
    ∷ entry (n + 2) (step_node Ahead origin (does.Combine comb) (first_of (n + 1))) ∷ []

-- each member with 1, in groups, with the sum of its ones
abbrev pub count_nodes : ℕ → ℕ → Place → List Entry
count_nodes origin n input =
    entry n (step_node Ahead origin does.Pair input)
    ∷ entry (n + 1) (gbk_of origin (first_of n))
    ∷ entry (n + 2) (step_node Last origin (does.Combine by.Sum) (first_of (n + 1))) ∷ []

-- the values of both sides told apart, together, in groups, with the sides of each group apart
abbrev pub join_nodes : ℕ → ℕ → Place → Place → List Entry
join_nodes origin n left right =
    entry n (step_node Ahead origin does.TagLeft left)
    ∷ entry (n + 1) (step_node Ahead origin does.TagRight right)
    ∷ entry (n + 2) (Flatten (first_of n ∷ first_of (n + 1) ∷ []))
    ∷ entry (n + 3) (gbk_of origin (first_of (n + 2)))
    ∷ entry (n + 4) (step_node Last origin does.Split (first_of (n + 3))) ∷ []

-- the greatest members in one list, and these alone
abbrev pub top_nodes : ℕ → ℕ → ℕ → Place → List Entry
top_nodes many origin n input =
    combined_nodes (by.Top many) origin n input
    ++ entry (n + 3) (step_node Last origin does.Spread (first_of (n + 2))) ∷ []

-- all members combined, and the value of the one pair that there is; where there is none, what the
-- combiner makes of nothing
abbrev pub whole_nodes : Comb → ℕ → ℕ → Place → List Entry
whole_nodes comb origin n input =
    combined_nodes comb origin n input
    ++ entry (n + 3) (barrier origin (Singleton comb) (first_of (n + 2) ∷ [])) ∷ []

-- ---- the nodes of any collection

-- how many nodes stand before the last of a collection
abbrev pub before_last : Made → ℕ
before_last (made.Count source) = 2
before_last (made.Join left right) = 4
before_last (made.Top number source) = 3
before_last (made.CombineAll source by) = 3
before_last _ = 0

-- how many sources a collection has
abbrev pub sources_made : Made → ℕ
sources_made (made.Input file columns) = 1
sources_made (made.Saved is_object call) = 1
sources_made _ = 0

-- the nodes of the collection `origin` of a script from number n on, where these places give the
-- script's collections, and `source` is the number of the next source in order of the script
abbrev pub made_nodes : Script → (ℕ → Place) → ℕ → ℕ → ℕ → Made → List Entry
made_nodes script gives origin source n (made.Input file columns) =
    entry n (Source (read_input (source_number script source))) ∷ []
made_nodes script gives origin source n (made.Do input function output) =
    entry n (call_in script (origin - output) function (gives input)) ∷ []
made_nodes script gives origin source n (made.Group input) =
    entry n (Gbk (gives input) origin true None) ∷ []
made_nodes script gives origin source n (made.Combine input by) =
    entry n (step_node Last origin (does.Combine by) (gives input)) ∷ []
made_nodes script gives origin source n (made.Flatten inputs) =
    entry n (Flatten (map gives inputs)) ∷ []
made_nodes script gives origin source n (made.Count input) = count_nodes origin n (gives input)
made_nodes script gives origin source n (made.Join left right) =
    join_nodes origin n (gives left) (gives right)
made_nodes script gives origin source n (made.Top many input) =
    top_nodes many origin n (gives input)
made_nodes script gives origin source n (made.CombineAll input by) =
    whole_nodes by origin n (gives input)
made_nodes script gives origin source n (made.Operate objects function) =
    entry n (barrier origin (Operate function) (map gives objects)) ∷ []
made_nodes script gives origin source n (made.DoWith input function object) =
    entry n (barrier origin (SideInput function) (gives input ∷ gives object ∷ [])) ∷ []
made_nodes script gives origin source n (made.Saved is_object call) =
    entry n (Source (read_source (source_number script source) is_object)) ∷ []
