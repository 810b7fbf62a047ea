-- The graph of a well-formed script is well-formed.
use Rattle.std.proofs.Common.{◌≡◌, ℕ, zero, suc, ◌+◌, ◌-◌, ◌<◌, ◌≤◌, true, List, [], ◌∷◌, ◌++◌, map, length, get_or, Option, Some, None, refl, ap, ◌∙◌, subst, arith}
use Rattle.std.specs.Prelude.{slice_get, IsSomeAnd}
use Rattle.std.specs.List.{AllByRecursion, Contains}
use Rattle.flume_value.proofs.EachLemmas.{Each-both, Each-map, Each-weaker, each_from}
use Rattle.flume_types.specs.declared.types.Ty.{Ty}
use Rattle.flume_collection.proofs.Members.{at_head, at_tail, not_in_none}
use Rattle.exec_graph.specs.Meaning.{IsThere, place, reads}
use Rattle.exec_graph.specs.Readers.{among, is_read, uses}
use Rattle.exec_graph.specs.Wellformed.{IsFounded, IsGraphOk, IsNodeOk, most_nodes, total_size}
use Rattle.written_types.specs.Named.{Named}
use Rattle.graph_build.specs.of_script_program.Needed.{LeadsToOutput, is_needed, made_of, operands, outputs_read}
use Rattle.graph_build.specs.of_script_program.declared.made.Made.{Made}
use Rattle.graph_build.specs.of_script_program.declared.made.Made.TheVariants as made
use Rattle.graph_build.specs.of_script_program.declared.made.Output.{Output}
use Rattle.graph_build.specs.of_script_program.Script.{Node, Script}
use Rattle.direct_meaning.specs.of_script_laws.WellFormed.{AllFit, Fits, HasColumns, IsWellFormed}
use Rattle.direct_meaning.proofs.of_script_laws.NeededLemmas.{needed_law, read_at}
use Rattle.graph_build.specs.Built.{built}
use Rattle.graph_build.specs.Calls.{emitted_at, names_needed, needed_from, number_behind, other_names}
use Rattle.graph_build.specs.Graphs.{graph_of, nodes_of}
use Rattle.graph_build.specs.Nodes.{call_branch}
use Rattle.graph_build.specs.Wanted.{wanted}
use Rattle.graph_build.proofs.BuiltLemmas.{built_length}
use Rattle.build_law.specs.Limits.{HasShortFlattens, IsShort}
use Rattle.build_law.proofs.Blocks.{any_block, each_block}
use Rattle.build_law.proofs.Calling.{alone_built, built_made, built_wanted, how_wanted, needed_as, wanted_here}
use Rattle.build_law.proofs.MadeKinds.{Stand, alone, built_of, by_call, kept_name, stand_of}
use Rattle.build_law.proofs.Names.{parts}
use Rattle.build_law.proofs.Objects.{have_objects}
use Rattle.build_law.proofs.Outputs.{IsAt, where_out}
use Rattle.build_law.proofs.Placing.{call_place, gives, has_call, source, stands_where, start}
use Rattle.build_law.proofs.Fitting.{FlattenFits, IsLastRead, block_ok}
use Rattle.build_law.proofs.Founded.{IsLow, ReadsLow, counts, is_placed, lows, numbers_below, plains}
use Rattle.build_law.proofs.Numbered.{ascends_counts, few_nodes, one_each}
use Rattle.build_law.proofs.Reading.{among_places, any_uses, block_uses, or_left, or_right}
use Rattle.build_law.proofs.Slots.{IsOfCall, call_slot, emits, of_call}

map_twice : {A B C : Type 0} (g : B → C) (f : A → B) (xs : List A)
    → map g (map f xs) ≡ map (λ x. g (f x)) xs
map_twice g f [] = refl
map_twice g f (x ∷ xs) = ap (λ ys. g (f x) ∷ ys) (map_twice g f xs)

module _ (script : Script) (well : IsWellFormed script) where
  -- the outputs of the graph
  outputs_are : map (gives script) (outputs_read script) ≡ (graph_of script).outputs
  outputs_are = map_twice (gives script) (λ output. output.1.reads) script.outputs

  -- a needed collection is read: by the nodes of one that is made from it, or by an output
  used_by : (j t number : ℕ) (mk : Made)
      → get_or (built script) t None ≡ Some (built_of number mk) → Contains (operands mk) j
      → is_read (graph_of script) (gives script j) ≡ true
  used_by j t number mk found reads_ =
      or_left (any_uses (gives script j) (nodes_of script)) _
      (any_block script (gives script) (λ e. uses (gives script j) e.node) 0 0 (built script) t
      (built_of number mk) found
      (block_uses script (gives script) number (source script t) (start script t) j mk reads_))

  read_by_node : (j reader : ℕ) {how : Made} → Stand how
      → get_or (wanted script) reader None ≡ Some how → Contains (operands how) j
      → is_read (graph_of script) (gives script j) ≡ true
  read_by_node j reader (by_call input f o) found reads_ =
      let n = has_call script well reader input f o found in
      used_by j (call_slot script n.first f) (n.first + n.name.place)
      (made.Do input f n.name.place) n.built_ reads_
  read_by_node j reader (kept_name is_object it) found reads_ = absurd (not_in_none j reads_)
  read_by_node j reader (alone how apart none) found reads_ =
      used_by j reader reader how (alone_built script reader how none found) reads_

  read_on : (j reader : ℕ) (o : Option Made) → slice_get (made_of script) reader ≡ o
      → is_needed script reader ≡ true → IsSomeAnd o (λ how. Contains (operands how) j)
      → is_read (graph_of script) (gives script j) ≡ true
  read_on j reader None is needed reads_ = elim reads_ [ ]
  read_on j reader (Some how) is needed reads_ =
      read_by_node j reader (stand_of how) (how_wanted script reader how needed is) reads_

  read_along : (j : ℕ) (path : List ℕ) → LeadsToOutput script j path
      → is_read (graph_of script) (gives script j) ≡ true
  read_along j [] leads =
      or_right (any_uses (gives script j) (nodes_of script)) _
      (subst (λ places. among (gives script j) places ≡ true) outputs_are
      (among_places (gives script) (outputs_read script) j leads))
  read_along j (reader ∷ path) leads =
      read_on j reader (slice_get (made_of script) reader) refl
      ((needed_law script well reader).1 (path, leads.1)) leads.0

  wanted_read : (j : ℕ) (how : Made) → get_or (wanted script) j None ≡ Some how
      → is_read (graph_of script) (gives script j) ≡ true
  wanted_read j how found =
      let way = (needed_law script well j).0 (needed_as script j how found).needed in
      read_along j way.0 way.1

  -- the outputs of a call that have numbers are those of its needed names
  out_read : (t number input f o j : ℕ)
      → get_or (built script) t None ≡ Some (built_of number (made.Do input f o))
      → (it : IsOfCall script well t number input f o)
      → IsAt (names_needed script it.first f) 0 j
      → is_read (graph_of script) (place (start script t) j) ≡ true
  out_read t number input f o j found it at =
      let part = parts script it.first (suc (other_names script f)) at.front at.back at.is in
      let want = emits script well it.first input f it.call (it.first + length at.front)
      (length at.front) part.below refl part.needed in
      subst (λ c. is_read (graph_of script) c ≡ true)
      (call_place script (it.first + length at.front) input f (length at.front) it.first number o
      want refl
      (ap (λ s. get_or (built script) s None) it.slot ∙ found)
      ∙ ap (λ front. place (start script (call_slot script it.first f)) (number_behind 0 front))
      part.same
      ∙ ap (place (start script (call_slot script it.first f))) at.number
      ∙ ap (λ s. place (start script s) j) it.slot)
      (wanted_read (it.first + length at.front) (made.Do input f (length at.front)) want)

  abbrev LastRead : ℕ → ℕ → Made → Type 0
  LastRead t number mk =
      IsLastRead (graph_of script) script (gives script) number (source script t)
      (start script t) mk

  call_read : (t number input f o : ℕ)
      → get_or (built script) t None ≡ Some (built_of number (made.Do input f o))
      → LastRead t number (made.Do input f o)
  call_read t number input f o found j has =
      let it = of_call script well t number input f o found in
      out_read t number input f o j found it
      (subst (λ first. IsAt (names_needed script first f) 0 j) it.from
      (where_out
      (call_branch (number - o) f (emitted_at script (number - o))
      (needed_from script (suc (number - o)) (other_names script f)))
      0 0 j (names_needed script (number - o) f) has))

  last_read : (t number : ℕ) (mk : Made)
      → get_or (built script) t None ≡ Some (built_of number mk) → LastRead t number mk
  last_read t number (made.Do input f o) found = call_read t number input f o found
  last_read t number how found =
      subst (λ c. is_read (graph_of script) c ≡ true)
      (stands_where script well t number how tt found)
      (wanted_read number how (built_wanted script t number how found))

  -- ---- outputs

  pub contained_each : {A : Type 0} (f : A → ℕ) (xs : List A)
      → AllByRecursion (λ x. Contains (map f xs) (f x)) xs
  contained_each f [] = tt
  contained_each f (x ∷ xs) = (
    at_head (f x) (map f xs),
    Each-weaker (λ y. Contains (map f xs) (f y)) (λ y. Contains (f x ∷ map f xs) (f y))
        (λ y is. at_tail (f x) (map f xs) (f y) is) xs (contained_each f xs),
  )

  output_there : (j : ℕ) → j < length script.nodes → Contains (outputs_read script) j
      → IsThere (nodes_of script) (gives script j)
  output_there j below read =
      let how = wanted_here script j below ((needed_law script well j).1 ([], read)) in
      (is_placed script well j how.0 how.1).there

  told : AllByRecursion (IsThere (nodes_of script)) (graph_of script).outputs
  told =
      Each-map (IsThere (nodes_of script)) (λ output. gives script output.1.reads)
      script.outputs
      (Each-both (λ (output : List ℕ × Output). HasColumns script.nodes output.1)
      (λ output. Contains (outputs_read script) output.1.reads)
      (λ output. IsThere (nodes_of script) (gives script output.1.reads))
      (λ output columns read. output_there output.1.reads
      (read_at script.nodes output.1.reads columns.type columns.reads) read)
      script.outputs
      (each_from (λ (output : List ℕ × Output). HasColumns script.nodes output.1) script.outputs
      well.outputs)
      (contained_each (λ (output : List ℕ × Output). output.1.reads) script.outputs))

  pub is_founded : IsFounded (graph_of script)
  is_founded = record {
    ascends = ascends_counts 0 (nodes_of script) (counts script well);
    below = numbers_below script well;
    there = Each-weaker (ReadsLow (IsThere (nodes_of script)))
        (λ e. AllByRecursion (IsThere (nodes_of script)) (reads e.node))
        (λ e low. Each-weaker (IsLow (IsThere (nodes_of script)) e.number)
        (IsThere (nodes_of script)) (λ c h. h.0) (reads e.node) low)
        (nodes_of script) (lows script well);
    told = told;
    ranked = (
      (λ n. n),
      Each-weaker (ReadsLow (IsThere (nodes_of script)))
          (λ e. AllByRecursion (λ c. c.node < e.number) (reads e.node))
          (λ e low. Each-weaker (IsLow (IsThere (nodes_of script)) e.number)
          (λ c. c.node < e.number) (λ c h. h.1) (reads e.node) low)
          (nodes_of script) (lows script well),
    );
  }

  -- ---- sizes

  flatten_fits : (before : Named Node) (made : Made) (type : Ty)
      → Fits script.functions before made type → IsShort made → FlattenFits made
  flatten_fits before (made.Flatten inputs) type fit short = (fit.some, short)
  flatten_fits before _ type fit short = tt

  fits_short : (before nodes : Named Node) (i : ℕ) (made : Made)
      → AllFit script.functions before nodes
      → AllByRecursion (λ entry. IsShort entry.1.made) nodes
      → slice_get (map (λ entry. entry.1.made) nodes) i ≡ Some made → FlattenFits made
  fits_short before [] i made fit short found = cc
  fits_short before (entry ∷ nodes) zero made fit short found =
      let same : entry.1.made ≡ made = cc in
      subst FlattenFits same
      (flatten_fits before entry.1.made entry.1.type fit.0 short.0)
  fits_short before (entry ∷ nodes) (suc i) made fit short found =
      fits_short (before ++ entry ∷ []) nodes i made fit.1 short.1 found

  module _ (short : HasShortFlattens script) where
    nodes_ok : AllByRecursion (λ e. IsNodeOk (graph_of script) e.number e.node) (nodes_of script)
    nodes_ok =
        each_block script (gives script) (λ e. IsNodeOk (graph_of script) e.number e.node) 0 0
        (built script)
        (λ t b found.
        block_ok (graph_of script) script (gives script) b.number (source script t)
        (start script t) b.made (last_read t b.number b.made found)
        (λ c used. or_left (any_uses c (nodes_of script)) _
        (any_block script (gives script) (λ e. uses c e.node) 0 0 (built script) t b found used))
        (fits_short [] script.nodes b.number b.made well.nodes short
        (built_made script t b.number b.made found)))

    pub is_graph_ok : IsGraphOk (graph_of script)
    is_graph_ok = record {
      founded = is_founded;
      nodes = nodes_ok;
      objects = have_objects script well;
      few =
          let sizes = one_each (nodes_of script) (plains script well) in
          let few = few_nodes script (gives script) 0 0 (built script) in
          let same = built_length script in
          let limit = well.few in
          (let e : total_size (nodes_of script) ≤ most_nodes = omega arith in e);
    }
