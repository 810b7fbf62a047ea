-- The sources of a script's graph are numbered below their count, and are as many as the needed
-- sources of the script.
use Rattle.std.proofs.Common.{◌≡◌, ℕ, suc, ◌+◌, Bool, true, false, List, [], ◌∷◌, ◌++◌, Option, Some, None, length, length-append, if◌then◌else◌, refl, sym, ap, ◌∙◌, arith}
use Rattle.std.proofs.lemmas.List.{length-map}
use Rattle.std.specs.List.{filter, flat_map}
use Rattle.build_law.proofs.of_direct_meaning.PlaceLemmas.{within}
use Rattle.build_law.proofs.of_direct_meaning.PlainLemmas.{flat-if, more_if}
use Rattle.exec_graph.specs.declared.graph.Entry.{Entry}
use Rattle.exec_graph.specs.declared.graph.Place.{Place}
use Rattle.build_law.specs.of_graph_build.Built.{Built, built}
use Rattle.build_law.specs.of_graph_build.Graphs.{number_past, graph_of, next_source, nodes_at, nodes_from, place_at_number, places}
use Rattle.build_law.specs.of_graph_build.Nodes.{sources_made, made_nodes, source_number}
use Rattle.build_law.specs.of_graph_build.Wanted.{wanted, wanted_from}
use Rattle.build_law.proofs.of_graph_build.BuiltLemmas.{built_length}
use Rattle.build_law.proofs.Blocks.{source_at}
use Rattle.build_law.proofs.EachNode.{each_node}
use Rattle.build_law.proofs.SourceLists.{sources_counted as numbers_counted}
use Rattle.build_law.proofs.SourceTypes.{has_source}
use Rattle.build_law.proofs.Sourcing.{all_sources, next_wanted, wanted_source}
use Rattle.build_law.specs.Signatures.{sources_of}
use Rattle.optimise.specs.Optimised.{source_count}
use Rattle.optimise.specs.of_plan_rules.Fitting.{HasSourcesBelow, IsSourceBelow}
use Rattle.build_law.specs.of_script_laws.WellFormed.{IsWellFormed}
use Rattle.build_law.specs.of_script_program.declared.made.Made.{Made}
use Rattle.build_law.specs.of_script_program.declared.made.Made.TheVariants as made
use Rattle.build_law.specs.of_script_program.Needed.{is_needed, made_of, collections_numbered}
use Rattle.build_law.specs.of_script_program.Script.{Node as ScriptNode, Script}
use Rattle.build_law.specs.of_script_program.Sources.{source_kind, source_kinds}
use Rattle.written_types.specs.Named.{Named}

-- ---- those of the graph

count_append : (xs ys : List Entry) → source_count (xs ++ ys) ≡ source_count xs + source_count ys
count_append [] ys = omega arith
count_append (x ∷ xs) ys =
    let e = count_append xs ys in
    omega arith

module _ (script : Script) (gives : ℕ → Place) where
  block_count : (origin source n : ℕ) (mk : Made)
      → source_count (made_nodes script gives origin source n mk) ≡ sources_made mk
  block_count origin source n (made.Input file columns) = refl
  block_count origin source n (made.Do input f output) = refl
  block_count origin source n (made.Group input) = refl
  block_count origin source n (made.Combine input k) = refl
  block_count origin source n (made.Flatten inputs) = refl
  block_count origin source n (made.Count input) = refl
  block_count origin source n (made.Join left right) = refl
  block_count origin source n (made.Top many input) = refl
  block_count origin source n (made.CombineAll input k) = refl
  block_count origin source n (made.Operate objects f) = refl
  block_count origin source n (made.DoWith input f object) = refl
  block_count origin source n (made.Saved is_object call) = refl

  part_count : (source n : ℕ) (w : Option Built)
      → next_source source w ≡ source + source_count (nodes_at script gives source n w)
  part_count source n None = omega arith
  part_count source n (Some it) =
      ap (λ k. source + k) (sym (block_count it.number source n it.made))

  all_count : (source n : ℕ) (ws : List (Option Built))
      → source + source_count (nodes_from script gives source n ws)
      ≡ source_at source ws (length ws)
  all_count source n [] = omega arith
  all_count source n (w ∷ ws) =
      let block : List Entry = nodes_at script gives source n w in
      let rest : List Entry = nodes_from script gives (next_source source w) (number_past n w) ws in
      let both = count_append block rest in
      let own = part_count source n w in
      let others = all_count (next_source source w) (number_past n w) ws in
      omega (arith, both, own, others)

-- ---- those of the script

as_many : (how : Made) → length (source_kind how) ≡ sources_made how
as_many (made.Input file columns) = refl
as_many (made.Do input f output) = refl
as_many (made.Group input) = refl
as_many (made.Combine input k) = refl
as_many (made.Flatten inputs) = refl
as_many (made.Count input) = refl
as_many (made.Join left right) = refl
as_many (made.Top many input) = refl
as_many (made.CombineAll input k) = refl
as_many (made.Operate objects f) = refl
as_many (made.DoWith input f object) = refl
as_many (made.Saved is_object call) = refl

module _ (script : Script) where
  abbrev kinds_from : ℕ → Named ScriptNode → List Bool
  kinds_from origin nodes =
      flat_map (λ it. source_kind it.1.1.made)
      (filter (λ it. is_needed script it.0) (collections_numbered origin nodes))

  next_kinds : (b : Bool) (how : Made) (k : ℕ) (rest : List Bool)
      → next_wanted k (if b then Some how else None) + length rest
      ≡ k + length (more_if b (source_kind how) rest)
  next_kinds true how k rest =
      let both = length-append (source_kind how) rest in
      let own = as_many how in
      omega (arith, both, own)
  next_kinds false how k rest = refl

  all_kinds : (origin k : ℕ) (nodes : Named ScriptNode)
      → wanted_source k (wanted_from script origin nodes) (length nodes)
      ≡ k + length (kinds_from origin nodes)
  all_kinds origin k [] = omega arith
  all_kinds origin k (entry ∷ nodes) =
      let b = is_needed script origin in
      all_kinds (suc origin) (next_wanted k (if b then Some entry.1.made else None)) nodes
      ∙ next_kinds (is_needed script origin) entry.1.made k (kinds_from (suc origin) nodes)
      ∙ ap (λ l. k + length l)
      (sym (flat-if (λ (it : ℕ × (List ℕ × ScriptNode)). source_kind it.1.1.made)
      (is_needed script origin) (origin, entry)
      (filter (λ it. is_needed script it.0) (collections_numbered (suc origin) nodes))))

pub sources_counted : (script : Script) → IsWellFormed script
    → source_count (graph_of script).nodes ≡ length (source_kinds script)
sources_counted script well =
    let size : length (made_of script) ≡ length script.nodes =
    length-map script.nodes (λ (entry : List ℕ × ScriptNode). entry.1.made) in
    let of_graph = all_count script (place_at_number (places script)) 0 0 (built script) in
    let same : source_at 0 (built script) (length (built script))
    ≡ wanted_source 0 (wanted script) (length script.nodes) =
    ap (source_at 0 (built script)) (built_length script ∙ sym size)
    ∙ all_sources script well ∙ ap (wanted_source 0 (wanted script)) size in
    let of_script : wanted_source 0 (wanted script) (length script.nodes)
    ≡ 0 + length (source_kinds script) =
    all_kinds script 0 0 script.nodes in
    omega (arith, of_graph, same, of_script)

pub sources_below : (script : Script) → IsWellFormed script
    → HasSourcesBelow (source_count (graph_of script).nodes) (graph_of script)
sources_below script well =
    each_node script (λ x. IsSourceBelow (source_count (graph_of script).nodes) x)
    (record {
      source = λ t number mk is_object found is.
          (let it = has_source script well t number mk is_object found is in
          let low = within (sources_of script)
          (source_number script (source_at 0 (built script) t)) it.it it.at in
          let size = numbers_counted script in
          let count = sources_counted script well in
          omega (arith, low, size, count));
      flatten = λ ins. tt;
      call = λ t number input f o c found. tt;
      step = λ c origin last does. tt;
      group = λ c origin last. tt;
      whole = λ origin act ins. tt;
    })
