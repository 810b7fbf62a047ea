-- How it is printed what an object is made by.
use Rattle.std.specs.Prelude.{ℕ, List, ◌++◌, codes}
use Rattle.exec_graph.specs.declared.graph.Act.{Act}
use Rattle.exec_graph.specs.declared.graph.Act.TheVariants as act
use Rattle.exec_graph.specs.declared.step.Does.TheVariants.{Call}
use Rattle.plan_writing.specs.Naming.{Naming}

-- the call of a function for a script node, or the value of one pair
abbrev pub act_text : Naming → ℕ → Act → List ℕ
act_text names origin (act.SideInput function) = names.step origin (Call function)
act_text names origin (act.Operate function) = names.step origin (Call function)
act_text names origin (act.Singleton combiner) = names.node origin ++ codes ":%one"
