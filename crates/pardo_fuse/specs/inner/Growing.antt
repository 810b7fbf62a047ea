-- What grows of a Pdo: the outputs of its steps, each with what stands over it.
use Rattle.std.specs.Prelude.{ℕ, Option}
use Rattle.exec_graph.specs.Forests.{Forest}
use Rattle.pardo_fuse.specs.Readers.{cut_of}
use Rattle.pardo_fuse.specs.Fusing.{name_for}
use Rattle.pardo_fuse.specs.declared.trees.Growth.{Growth}
use Rattle.pardo_fuse.specs.inner.Naming.{over_at, steps_at, trees_at}

abbrev pub steps_of : Growth → Forest
steps_of g = steps_at (cut_of g.blocked.now) g.number

abbrev pub name_of : Growth → Option ℕ → Option ℕ
name_of g o = name_for (cut_of g.blocked.now) g.number o

abbrev pub over : Growth → Option ℕ → Forest
over g o = over_at (cut_of g.blocked.now) g.levels g.number o

abbrev pub trees : Growth → Forest → Forest
trees g f = trees_at (cut_of g.blocked.now) g.levels g.number f
