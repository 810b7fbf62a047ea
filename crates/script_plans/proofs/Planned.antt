-- The graph of a script is one that the passes take.
use Rattle.std.proofs.Common.{◌≡◌, ap, sym, subst, ◌∙◌}
use Rattle.std.specs.Prelude.{slice_get}
use Rattle.exec_graph.specs.Wellformed.{IsGraphOk}
use Rattle.exec_graph.specs.declared.graph.Graph.{Graph}
use Rattle.optimise.specs.of_graph_bounds.Sources.{AreOfKinds, BringsSuch, OfSource}
use Rattle.build_law.specs.of_graph_build.Graphs.{graph_of}
use Rattle.graph_laws.specs.Single.{HasNarrowSteps, IsUnfused}
use Rattle.build_law.proofs.EachNode.{each_node}
use Rattle.build_law.proofs.SourceTypes.{has_source}
use Rattle.build_law.specs.Signatures.{source_object, sources_of}
use Rattle.optimise.specs.Optimised.{CanOptimise}
use Rattle.script_plans.proofs.Sourced.{sources_below}
use Rattle.build_law.specs.of_script_laws.WellFormed.{IsWellFormed}
use Rattle.build_law.specs.of_script_program.Script.{Script}

-- sources of one number are objects, or none of them is
are_of_kinds : (script : Script) → IsWellFormed script → AreOfKinds (graph_of script)
are_of_kinds script well = (
  (λ number. source_object (slice_get (sources_of script) number)),
  each_node script (BringsSuch (OfSource (λ r. r.is_object
      ≡ source_object (slice_get (sources_of script) r.number))))
      (record {
        source = λ t number mk is_object found is.
            (let it = has_source script well t number mk is_object found is in
            sym (ap source_object it.at ∙ it.kind));
        flatten = λ ins. tt;
        call = λ t number input f o c found. tt;
        step = λ c origin last does. tt;
        group = λ c origin last. tt;
        whole = λ origin act ins. tt;
      }),
)

pub can_optimise : (script : Script) (g : Graph) → IsWellFormed script → g ≡ graph_of script
    → IsGraphOk g → ((s : Script) → IsUnfused (graph_of s))
    → ((s : Script) → IsWellFormed s → HasNarrowSteps (graph_of s)) → CanOptimise g
can_optimise script g well built ok unfused narrow =
    subst CanOptimise (sym built) (record {
      ok = subst IsGraphOk built ok;
      unfused = unfused script;
      narrow = narrow script well;
      sources = sources_below script well;
      kinds = are_of_kinds script well;
    })
