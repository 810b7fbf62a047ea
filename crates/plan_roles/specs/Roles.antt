-- What each node of a fused graph is for forming.
use Rattle.std.specs.Prelude.{ℕ, cond, List, [], ◌∷◌, map}
use Rattle.std.specs.List.{filter}
use Rattle.exec_graph.specs.Forests.{Forest}
use Rattle.exec_graph.specs.Meaning.{place}
use Rattle.exec_graph.specs.declared.graph.Act.{Act}
use Rattle.exec_graph.specs.declared.graph.Act.TheVariants.{SideInput, Operate, Singleton}
use Rattle.exec_graph.specs.declared.graph.Place.{Place}
use Rattle.exec_graph.specs.declared.graph.Node.{Node}
use Rattle.exec_graph.specs.declared.graph.Node.TheVariants.{Source, Flatten, Pdo, Gbk, Barrier}
use Rattle.exec_graph.specs.declared.graph.Entry.{Entry}
use Rattle.exec_graph.specs.declared.graph.Blocked.{Blocked}
use Rattle.plan_roles.specs.declared.roles.Part.{Part}
use Rattle.plan_roles.specs.declared.roles.Part.TheVariants as part
use Rattle.plan_roles.specs.declared.roles.Role.{Role}
use Rattle.plan_roles.specs.Levels.{level}
use Rattle.plan_roles.specs.Mappers.{is_mapper, is_reducer, is_stage, keys_in, places_given, passes, reducer_of}

-- the outputs of a mapper that pass through, in order
abbrev pub passes_of : Blocked → ℕ → Forest → List Place
passes_of b n f = filter (passes b) (places_given n f)

-- the part of the Pdo n with that forest
abbrev pub pdo_part : Blocked → ℕ → Forest → Part
pdo_part b n f =
    cond (is_mapper b n) (part.Mapper (passes_of b n f))
    (cond (is_reducer b n) part.Reducer (part.Trivial (places_given n f)))

-- a step beside an object is a stage by itself, as a Pdo that is no mapper; and so is what gives an
-- object
abbrev pub act_part : ℕ → Act → Part
act_part n (SideInput f) = part.Trivial (place n 0 ∷ [])
act_part n (Operate f) = part.Operate
act_part n (Singleton k) = part.Operate

-- the part of the node n
abbrev pub role_part : Blocked → ℕ → Node → Part
role_part b n (Source r) = part.Source
role_part b n (Flatten ins) = cond (is_stage b n) part.Stage part.Inlined
role_part b n (Pdo c f) = pdo_part b n f
role_part b n (Gbk c o l k) = part.Group (keys_in b n c) (reducer_of b n)
role_part b n (Barrier ins o l a) = act_part n a

abbrev pub role_of : Blocked → Entry → Role
role_of b e = record {
  number = e.number;
  level = level b.graph.nodes e.number;
  part = role_part b e.number e.node;
}

-- the roles of all nodes, in their order
abbrev pub roles : Blocked → List Role
roles b = map (role_of b) b.graph.nodes
