-- Mappers, reducers, the keys of what a Gbk takes, and what passes through.
use Rattle.std.specs.Prelude.{ℕ, ◌==◌, not, ◌&&◌, ◌||◌, Bool, false, cond, List, map, Option, Some, None}
use Rattle.std.proofs.Common.{suc}
use Rattle.std.specs.List.{list_any}
use Rattle.exec_graph.specs.Forests.{Forest}
use Rattle.exec_graph.specs.Meaning.{node_at, place}
use Rattle.exec_graph.specs.Readers.{among}
use Rattle.exec_graph.specs.Wellformed.{is_lifted}
use Rattle.exec_graph.specs.declared.graph.Place.{Place}
use Rattle.exec_graph.specs.declared.graph.Node.{Node}
use Rattle.exec_graph.specs.declared.graph.Node.TheVariants.{Source, Flatten, Pdo, Gbk, Barrier}
use Rattle.exec_graph.specs.declared.graph.Blocked.{Blocked}
use Rattle.fusion_blocks.specs.Feeding.{is_flatten_of}
use Rattle.exec_plan.specs.Channels.{outs_of}
use Rattle.plan_laws.specs.declared.operations.Key.{Key}
use Rattle.plan_laws.specs.declared.operations.Key.TheVariants.{Mapper, Whole}
use Rattle.plan_laws.specs.Operations.{read_through}
use Rattle.plan_roles.specs.Levels.{level}
use Rattle.plan_roles.specs.Reading.{feeds_next, feeds_other, goes_on, goes_past, only_reader}

-- the outputs of the Pdo n with that forest, in order
abbrev pub places_given : ℕ → Forest → List Place
places_given n f = map (place n) (outs_of f)

-- ---- mappers

-- whether c is unmarked and feeds a Gbk of the next level
abbrev pub feeds_unmarked : Blocked → Place → Bool
feeds_unmarked b c = not (among c b.marks) && feeds_next b.graph.nodes c

-- a Pdo that reads no lifted Gbk is a mapper where an unmarked output of it feeds a Gbk of the next
-- level, and each reader of each of its outputs is a Gbk, a script output, or a Flatten whose every
-- reader is a Gbk or a script output
abbrev pub maps : Blocked → ℕ → Node → Bool
maps b n (Source r) = false
maps b n (Flatten ins) = false
maps b n (Pdo c f) =
    not (is_lifted (node_at b.graph.nodes c.node))
    && (list_any (feeds_unmarked b) (places_given n f)
    && not (list_any (goes_past b.graph.nodes) (places_given n f)))
maps b n (Gbk c o l k) = false
maps b n (Barrier ins o l a) = false

abbrev pub maps_at : Blocked → ℕ → Option Node → Bool
maps_at b n None = false
maps_at b n (Some x) = maps b n x

-- whether the node n is a mapper
abbrev pub is_mapper : Blocked → ℕ → Bool
is_mapper b n = maps_at b n (node_at b.graph.nodes n)

-- ---- keys

-- what a Gbk of that level takes c by: the Pdo that gives it, where that is a mapper of the level
-- below, else c
abbrev pub read_key : Blocked → ℕ → Place → Key
read_key b gbk_level c =
    cond (is_mapper b c.node && (suc (level b.graph.nodes c.node) == gbk_level))
    (Mapper c.node) (Whole c)

-- the keys of what the Gbk n of c takes, in order
abbrev pub keys_in : Blocked → ℕ → Place → List Key
keys_in b n c = map (read_key b (level b.graph.nodes n)) (read_through b.graph.nodes c)

-- ---- reducers

abbrev pub unless_mapper : Blocked → Option ℕ → Option ℕ
unless_mapper b None = None
unless_mapper b (Some r) = cond (is_mapper b r) None (Some r)

-- the reducer of the Gbk n: the Pdo that is the only reader of its output, where that output is
-- unmarked and no script output and the Pdo is no mapper
abbrev pub reducer_of : Blocked → ℕ → Option ℕ
reducer_of b n =
    cond (among (place n 0) b.marks) None (unless_mapper b (only_reader b.graph (place n 0)))

abbrev pub is_just_number : Option ℕ → ℕ → Bool
is_just_number None n = false
is_just_number (Some m) n = m == n

abbrev pub reduces : Blocked → ℕ → Node → ℕ → Bool
reduces b gbk (Source r) n = false
reduces b gbk (Flatten ins) n = false
reduces b gbk (Pdo c f) n = false
reduces b gbk (Gbk c o l k) n = is_just_number (reducer_of b gbk) n
reduces b gbk (Barrier ins o l a) n = false

-- whether the node n is the reducer of a Gbk
abbrev pub is_reducer : Blocked → ℕ → Bool
is_reducer b n = list_any (λ e. reduces b e.number e.node n) b.graph.nodes

-- ---- stages and what passes

-- whether a script output, a Pdo or another Flatten reads the Flatten n
abbrev pub is_stage : Blocked → ℕ → Bool
is_stage b n = among (place n 0) b.graph.outputs || goes_on b.graph.nodes (place n 0)

-- whether a Flatten that is a stage reads c
abbrev pub is_staged : Blocked → Place → Bool
is_staged b c = list_any (λ e. is_flatten_of c e.node && is_stage b e.number) b.graph.nodes

-- whether c, an output of a mapper, passes through: a script output or a Flatten that is a stage
-- reads it, or it feeds a Gbk of another level
abbrev pub passes : Blocked → Place → Bool
passes b c =
    among c b.graph.outputs || (is_staged b c || feeds_other b.graph.nodes c)
