-- Steps side by side, and what is kept where only siblings become one.
use Rattle.std.proofs.Common.{◌≡◌, ℕ, Bool, true, false, cond, ◌||◌, ◌&&◌, List, refl, sym, ap, ◌∙◌}
use Rattle.exec_graph.specs.Forests.{Forest, Bare}
use Rattle.exec_graph.specs.declared.graph.Place.{Place}
use Rattle.exec_graph.specs.declared.graph.Blocked.{Blocked}
use Rattle.exec_graph.specs.Meaning.{place}
use Rattle.exec_graph.specs.Readers.{among, any_node, calls_on, collects, is_read}
use Rattle.graph_laws.specs.Kids.{kept_by}
use Rattle.pardo_fuse.specs.Readers.{is_kept, is_unmarked}
use Rattle.pardo_fuse.specs.SingleFusing.{planted, step_at}
use Rattle.fuse_chain.specs.Cuts.{siblings_of}
use Rattle.fuse_chain.proofs.CutStates.{any_either}

-- Whether the output of a Pdo is read.
abbrev pub reads_output : Blocked → ℕ → Bool
reads_output b i = is_read b.graph (place i 0)

-- The steps of these Pdos side by side, none with a kid.
abbrev pub bare : ℕ → Forest
bare n = Bare

abbrev pub rooted : Blocked → List ℕ → Forest
rooted b ns = kept_by (reads_output b) (planted (step_at (siblings_of b)) bare ns)

-- What is kept where only siblings become one is what is read.
pub kept_read_by : (b : Blocked) (c : Place) → is_kept (siblings_of b) c ≡ is_read b.graph c
kept_read_by b c =
    by (is_unmarked b c) (any_node (calls_on c) b.graph.nodes)
    (any_node (collects c) b.graph.nodes) (among c b.graph.outputs)
    ∙ ap (λ r. r || among c b.graph.outputs)
    (sym (any_either (calls_on c) (collects c) b.graph.nodes))
  where
    by : (u a h o : Bool)
        → (h || (o || (cond (u && cond a false true) false true && a))) ≡ ((a || h) || o)
    by true true true o = refl
    by true true false true = refl
    by true true false false = refl
    by false true true o = refl
    by false true false true = refl
    by false true false false = refl
    by true false true o = refl
    by true false false true = refl
    by true false false false = refl
    by false false true o = refl
    by false false false true = refl
    by false false false false = refl
