-- Which steps are derived functions.
use Rattle.exec_graph.specs.declared.step.Does.{Does}
use Rattle.exec_graph.specs.declared.step.Does.TheVariants as does

abbrev pub IsDerived : Does → Type 0
IsDerived (does.Call f) = ⊥
IsDerived (does.Combine c) = ⊥
IsDerived _ = Unit {0}
