-- The numbers of the mappers and of the reducers.
use Rattle.exec_graph.specs.declared.graph.Blocked.{Blocked}
use Rattle.plan_roles.specs.declared.roles.Kinds.{Kinds}
use Rattle.plan_roles.specs.Mappers.{is_mapper, is_reducer}
use Rattle.plan_roles.specs.inner.Tables.{HasNumbers}

pub record AreKinds (b : Blocked) (k : Kinds) : Type 0 where
  pub mappers : HasNumbers k.mappers (is_mapper b)
  pub reducers : HasNumbers k.reducers (is_reducer b)
