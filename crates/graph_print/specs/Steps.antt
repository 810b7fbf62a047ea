-- How a step is printed, and what is made of collections that are taken whole.
use Rattle.std.specs.Prelude.{ℕ, List, ◌++◌, codes, decimal}
use Rattle.combine_table.specs.declared.comb.Comb.{Comb}
use Rattle.combine_table.specs.declared.comb.Comb.TheVariants as by
use Rattle.exec_graph.specs.declared.graph.Act.{Act}
use Rattle.exec_graph.specs.declared.graph.Act.TheVariants.{SideInput, Operate, Singleton}
use Rattle.exec_graph.specs.declared.step.Does.{Does}
use Rattle.exec_graph.specs.declared.step.Does.TheVariants as does
use Rattle.graph_build.specs.of_script_program.Script.{Script}
use Rattle.graph_print.specs.Names.{printed_name}

-- the name of a combiner
abbrev pub combiner_text : Comb → List ℕ
combiner_text by.Sum = codes "sum"
combiner_text by.Count = codes "count"
combiner_text by.Min = codes "min"
combiner_text by.Max = codes "max"
combiner_text by.All = codes "all"
combiner_text by.Any = codes "any"
combiner_text (by.Top n) = codes "top " ++ decimal n
combiner_text by.Mean = codes "mean"
combiner_text by.Distinct = codes "distinct"

-- what a step does: the name of the script's function, or that of a derived one behind `%`
abbrev pub does_text : Script → Does → List ℕ
does_text script (does.Call function) = printed_name script.functions function
does_text script (does.Combine combiner) = codes "%" ++ combiner_text combiner
does_text script does.Pair = codes "%pair"
does_text script does.TagLeft = codes "%tagleft"
does_text script does.TagRight = codes "%tagright"
does_text script does.Split = codes "%split"
does_text script does.Solo = codes "%solo"
does_text script does.Spread = codes "%spread"

-- a step of the collection `origin`
abbrev pub step_text : Script → ℕ → Does → List ℕ
step_text script origin does =
    printed_name script.nodes origin ++ (codes ":" ++ does_text script does)

-- what the collection `origin` is made by: the call of a function, or the value of one pair
abbrev pub act_text : Script → ℕ → Act → List ℕ
act_text script origin (SideInput function) = step_text script origin (does.Call function)
act_text script origin (Operate function) = step_text script origin (does.Call function)
act_text script origin (Singleton combiner) = printed_name script.nodes origin ++ codes ":%one"
