-- What holds of each node of a script's graph: it is a source, a Flatten, a Pdo of one step, a call
-- of a function or a step with one output, a Gbk that is not lifted, or a barrier.
use Rattle.std.proofs.Common.{◌≡◌, ℕ, ◌-◌, Bool, false, List, get_or, Some, None, refl}
use Rattle.std.specs.List.{AllByRecursion}
use Rattle.exec_graph.specs.declared.graph.Act.{Act}
use Rattle.exec_graph.specs.declared.graph.Entry.{Entry}
use Rattle.exec_graph.specs.declared.graph.Node.{Node}
use Rattle.exec_graph.specs.declared.graph.Node.TheVariants.{Source, Flatten, Pdo, Gbk}
use Rattle.exec_graph.specs.declared.graph.Place.{Place}
use Rattle.exec_graph.specs.declared.step.Does.{Does}
use Rattle.graph_build.specs.Built.{built}
use Rattle.graph_build.specs.Graphs.{graph_of}
use Rattle.graph_build.specs.Nodes.{barrier, call_in, made_nodes, one_step, read_source, source_number}
use Rattle.graph_build.specs.of_script_program.declared.made.Made.{Made}
use Rattle.graph_build.specs.of_script_program.declared.made.Made.TheVariants as made
use Rattle.graph_build.specs.of_script_program.Script.{Script}
use Rattle.build_law.proofs.Blocks.{each_block, source_at}
use Rattle.build_law.proofs.MadeKinds.{built_of}
use Rattle.build_law.proofs.Placing.{gives, source, start}

-- a source: an input, which is no object, or what is kept
abbrev pub IsSource : Made → Bool → Type 0
IsSource (made.Input file columns) is_object = is_object ≡ false
IsSource (made.Saved is_object call) own = own ≡ is_object
IsSource _ is_object = ⊥

-- it holds of each kind of node that is built
pub record HoldsOfKinds (script : Script) (P : Node → Type 0) : Type 0 where
  pub source : (t number : ℕ) (mk : Made) (is_object : Bool)
      → get_or (built script) t None ≡ Some (built_of number mk) → IsSource mk is_object
      → P (Source (read_source (source_number script (source_at 0 (built script) t)) is_object))
  pub flatten : (ins : List Place) → P (Flatten ins)
  pub call : (t number input f o : ℕ) (c : Place)
      → get_or (built script) t None ≡ Some (built_of number (made.Do input f o))
      → P (call_in script (number - o) f c)
  pub step :
      (c : Place) (origin : ℕ) (last : Bool) (does : Does) → P (Pdo c (one_step origin last does))
  pub group : (c : Place) (origin : ℕ) (last : Bool) → P (Gbk c origin last None)
  pub whole : (origin : ℕ) (act : Act) (ins : List Place) → P (barrier origin act ins)

module _ (script : Script) (P : Node → Type 0) (holds : HoldsOfKinds script P) where
  block_has : (t number n : ℕ) (mk : Made)
      → get_or (built script) t None ≡ Some (built_of number mk)
      → AllByRecursion (λ e. P e.node)
      (made_nodes script (gives script) number (source script t) n mk)
  block_has t number n (made.Input file columns) found =
      (holds.source t number (made.Input file columns) false found refl, tt)
  block_has t number n (made.Do input f output) found =
      (holds.call t number input f output (gives script input) found, tt)
  block_has t number n (made.Group input) found = (holds.group _ _ _, tt)
  block_has t number n (made.Combine input k) found = (holds.step _ _ _ _, tt)
  block_has t number n (made.Flatten inputs) found = (holds.flatten _, tt)
  block_has t number n (made.Count input) found =
      (holds.step _ _ _ _, (holds.group _ _ _, (holds.step _ _ _ _, tt)))
  block_has t number n (made.Join left right) found = (
    holds.step _ _ _ _,
    (holds.step _ _ _ _, (holds.flatten _, (holds.group _ _ _, (holds.step _ _ _ _, tt)))),
  )
  block_has t number n (made.Top many input) found = (
    holds.step _ _ _ _,
    (holds.group _ _ _, (holds.step _ _ _ _, (holds.step _ _ _ _, tt))),
  )
  block_has t number n (made.CombineAll input k) found = (
    holds.step _ _ _ _,
    (holds.group _ _ _, (holds.step _ _ _ _, (holds.whole _ _ _, tt))),
  )
  block_has t number n (made.Operate objects f) found = (holds.whole _ _ _, tt)
  block_has t number n (made.DoWith input f object) found = (holds.whole _ _ _, tt)
  block_has t number n (made.Saved is_object call) found =
      (holds.source t number (made.Saved is_object call) is_object found refl, tt)

  pub each_node : AllByRecursion (λ e. P e.node) (graph_of script).nodes
  each_node =
      each_block script (gives script) (λ (e : Entry). P e.node) 0 0 (built script)
      (λ t it found. block_has t it.number (start script t) it.made found)
