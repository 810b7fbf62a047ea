-- The graph of a well-formed script means what the script means.
use Rattle.std.proofs.Common.{◌≡◌, ℕ, zero, suc, ◌+◌, ◌-◌, ◌<◌, Bool, List, [], ◌∷◌, map, length, get_or, Option, Some, None, refl, sym, ap, ◌∙◌, subst, arith}
use Rattle.std.specs.Prelude.{slice_get}
use Rattle.std.specs.List.{AllByRecursion, Contains, flat_map}
use Rattle.flume_value.specs.Bag.{bag_of}
use Rattle.flume_value.specs.declared.value.Value.{Value}
use Rattle.flume_value.proofs.EachLemmas.{Each-both, each_from}
use Rattle.flume_collection.specs.Collection.{Collection}
use Rattle.flume_collection.proofs.Members.{at_head}
use Rattle.exec_graph.specs.Meaning.{Agrees, Holds, IsSound, Meets, collection, or_nothing, own_bag, through, traps}
use Rattle.exec_graph.specs.World.{World}
use Rattle.exec_graph.specs.declared.graph.Place.{Place}
use Rattle.exec_graph.proofs.Solving.{Agrees-self, collection_meets}
use Rattle.exec_graph.proofs.Soundness.{IsSound-ok}
use Rattle.graph_build.specs.of_script_program.Needed.{made_of, operands, outputs_read}
use Rattle.graph_build.specs.of_script_program.declared.made.Emitted.{Emitted}
use Rattle.graph_build.specs.of_script_program.declared.made.Made.{Made}
use Rattle.graph_build.specs.of_script_program.declared.made.Made.TheVariants as made
use Rattle.graph_build.specs.of_script_program.declared.made.Output.{Output}
use Rattle.graph_build.specs.of_script_program.Script.{Script}
use Rattle.direct_meaning.specs.of_script_laws.WellFormed.{HasColumns, IsWellFormed}
use Rattle.direct_meaning.proofs.of_script_laws.NeededLemmas.{needed_law, read_at}
use Rattle.direct_meaning.specs.Direct.{made_at, meaning, traps_behind}
use Rattle.graph_build.specs.Built.{built}
use Rattle.graph_build.specs.Calls.{emitted_as}
use Rattle.graph_build.specs.Graphs.{graph_of, nodes_of}
use Rattle.graph_build.specs.Nodes.{before_last, first_of, made_nodes}
use Rattle.graph_build.specs.Wanted.{wanted}
use Rattle.build_law.specs.Limits.{HasShortFlattens}
use Rattle.build_law.specs.Means.{HasOwn, IsMeaning}
use Rattle.build_law.specs.Worlds.{script_world}
use Rattle.build_law.proofs.Apart.{apart_alone, apart_called, others_add}
use Rattle.build_law.proofs.Assembling.{all_settled, assigned, made_here, matches, meets, stands, stands_at}
use Rattle.build_law.proofs.Assigning.{at_of}
use Rattle.build_law.proofs.Blocks.{block_each, blocks_in, in_block}
use Rattle.build_law.proofs.Calling.{alone_built, built_wanted, needed_as, wanted_here}
use Rattle.build_law.proofs.Naming.{operand_wanted}
use Rattle.build_law.proofs.MadeKinds.{IsOther, Kind, Stand, alone, built_of, by_call, called, kept_name, kind_of, other, stand_of}
use Rattle.build_law.proofs.Owning.{HasOwnNode, block_here, call_adds}
use Rattle.build_law.proofs.Passing.{call_label}
use Rattle.build_law.proofs.Placing.{gives, has_call, has_kept, source, stands_where, start}
use Rattle.build_law.proofs.Slots.{call_slot, kept_slot, of_call}
use Rattle.build_law.proofs.Tables.{Matches, made_wanted}
use Rattle.build_law.proofs.Trapping.{AreIn, SameTraps, block_traps, call_traps, made_traps, same_in, same_traps, then_in, trapped, traps_made}
use Rattle.build_law.proofs.WellFormed.{contained_each, is_graph_ok}

-- what is needed is made
wanted_made : (table : List (Option Collection)) (ws : List (Option Made)) (j : ℕ) (how : Made)
    → Matches table ws → get_or ws j None ≡ Some how
    → (c : Collection) × (made_at table j ≡ Some c)
wanted_made [] [] j how h found = cc
wanted_made (None ∷ table) (None ∷ ws) zero how h found = cc
wanted_made (Some c ∷ table) (Some made ∷ ws) zero how h found = (c, refl)
wanted_made (None ∷ table) (None ∷ ws) (suc j) how h found = wanted_made table ws j how h found
wanted_made (Some c ∷ table) (Some made ∷ ws) (suc j) how h found =
    wanted_made table ws j how h found
wanted_made (None ∷ table) (Some made ∷ ws) j how h found = elim h [ ]
wanted_made (Some c ∷ table) (None ∷ ws) j how h found = elim h [ ]
wanted_made (None ∷ table) [] j how h found = elim h [ ]
wanted_made (Some c ∷ table) [] j how h found = elim h [ ]
wanted_made [] (made ∷ ws) j how h found = elim h [ ]

mapped_alike : {A B C : Type 0} (f : B → C) (g : A → B) (k : A → C) (xs : List A)
    → AllByRecursion (λ x. f (g x) ≡ k x) xs → map f (map g xs) ≡ map k xs
mapped_alike f g k [] h = refl
mapped_alike f g k (x ∷ xs) h = λ i. h.0 i ∷ mapped_alike f g k xs h.1 i

module _ (script : Script) (inputs : List (List Value)) (made_ : List (Option Collection))
    (well : IsWellFormed script) (short : HasShortFlattens script)
    (means : meaning script inputs ≡ Some made_) where
  output_made : (j : ℕ) → j < length script.nodes → Contains (outputs_read script) j
      → Some (assigned script inputs made_ (gives script j)) ≡ made_at made_ j
  output_made j below read =
      let how = wanted_here script j below ((needed_law script well j).1 ([], read)) in
      let c = wanted_made made_ (wanted script) j how.0
      (matches script inputs made_ well means) how.1 in
      ap Some (stands script inputs made_ well means j c.0 c.1 ∙ ap or_nothing c.1) ∙ sym c.1

  outputs_made : map (λ c. Some (assigned script inputs made_ c)) (graph_of script).outputs
      ≡ map (λ output. made_at made_ output.1.reads) script.outputs
  outputs_made =
      mapped_alike (λ c. Some (assigned script inputs made_ c))
      (λ output. gives script output.1.reads)
      (λ output. made_at made_ output.1.reads) script.outputs
      (Each-both (λ (output : List ℕ × Output). HasColumns script.nodes output.1)
      (λ output. Contains (outputs_read script) output.1.reads)
      (λ output. Some (assigned script inputs made_
      (gives script output.1.reads)) ≡ made_at made_ output.1.reads)
      (λ output columns read. output_made output.1.reads
      (read_at script.nodes output.1.reads columns.type columns.reads) read)
      script.outputs
      (each_from (λ (output : List ℕ × Output). HasColumns script.nodes output.1) script.outputs
      well.outputs)
      (contained_each script well (λ (output : List ℕ × Output). output.1.reads)
      script.outputs))

  -- how a collection that is made is wanted
  made_as : (j : ℕ) (c : Collection) → made_at made_ j ≡ Some c
      → (how : Made) × (get_or (wanted script) j None ≡ Some how)
  made_as j c made_c =
      made_wanted made_ (wanted script) j c (matches script inputs made_ well means) made_c

  at_made : (j : ℕ) (c : Collection) → made_at made_ j ≡ Some c → at_of made_ j ≡ c
  at_made j c made_c = ap or_nothing made_c

  abbrev w : World
  w = script_world script inputs

  abbrev m : Place → Collection
  m = assigned script inputs made_

  block_meets : (t number : ℕ) (mk : Made)
      → get_or (built script) t None ≡ Some (built_of number mk)
      → Meets w
      (made_nodes script (gives script) number (source script t) (start script t) mk) m
  block_meets t number mk found =
      block_each script (gives script) (λ e. Holds w m e.number e.node) 0 0 (built script) t
      (built_of number mk) found (meets script inputs made_ well means)

  other_value : (t number : ℕ) (mk : Made) → IsOther mk
      → get_or (built script) t None ≡ Some (built_of number mk)
      → m (first_of (start script t + before_last mk)) ≡ at_of made_ number
  other_value t number mk apart found =
      ap m (sym (stands_where script well t number mk apart found))
      ∙ stands_at script inputs made_ well means number mk (built_wanted script t number mk found)

  input_value : (j : ℕ) (how : Made) → get_or (wanted script) j None ≡ Some how → (i : ℕ)
      → Contains (operands how) i → m (gives script i) ≡ at_of made_ i
  input_value j how found i reads_ =
      let it = operand_wanted script well j i how found reads_ in
      stands_at script inputs made_ well means i it.0 it.1

  -- ---- own bags

  own_node : (how : Made) → HasOwn how → IsOther how → HasOwnNode how
  own_node (made.Input file columns) has apart = has
  own_node (made.Do input f o) has apart = absurd apart
  own_node (made.Flatten sources) has apart = has
  own_node (made.Saved is_object call) has apart = has
  own_node _ has apart = tt

  own_of_call : (j input f o : ℕ) → get_or (wanted script) j None ≡ Some (made.Do input f o)
      → own_bag w m (nodes_of script) j ≡ (at_of made_ j).bag
  own_of_call j input f o found =
      let n = has_call script well j input f o found in
      let from : (n.first + n.name.place) - n.name.place ≡ n.first = omega arith in
      let e : j - o ≡ n.first = (let h = n.place in omega arith) in
      let is = (made_here script inputs made_ well means j (made.Do input f o) found).0 in
      ap bag_of
      (others_add script well w m j (call_slot script n.first f) (n.first + n.name.place)
      (made.Do input f n.name.place) n.built_
      (λ s k how there differ. apart_called script well w m j input f o n.first n.call n.below
      n.place (needed_as script j (made.Do input f o) found).made s k (kind_of how) there differ))
      ∙ call_adds script w m (gives script) (n.first + n.name.place)
      (source script (call_slot script n.first f)) (start script (call_slot script n.first f)) j
      input f n.name.place o (at_of made_ input) n.below
      (ap (λ k. k + o) from ∙ n.place)
      (input_value j (made.Do input f o) found input (at_head input []))
      ∙ ap (λ i. (through w (call_label i f o) (at_of made_ input)).bag) (from ∙ sym e)
      ∙ ap (λ (c : Collection). c.bag) (sym is)

  own_of_other : (j : ℕ) (how : Made) → IsOther how → emitted_as how ≡ None → HasOwn how
      → get_or (wanted script) j None ≡ Some how
      → own_bag w m (nodes_of script) j ≡ (at_of made_ j).bag
  own_of_other j how apart none has found =
      let at = alone_built script j how none found in
      ap bag_of
      (others_add script well w m j j j how at
      (λ s k mk there differ. apart_alone script well w m j how none
      (needed_as script j how found).made s k (kind_of mk) there differ))
      ∙ block_here script w m (gives script) j (source script j) (start script j) how
      (at_of made_ j) (own_node how has apart) (all_settled script inputs made_ well means j)
      (block_meets j j how at) (other_value j j how apart at)

  own_by : (j : ℕ) {how : Made} → Stand how → HasOwn how
      → get_or (wanted script) j None ≡ Some how
      → own_bag w m (nodes_of script) j ≡ (at_of made_ j).bag
  own_by j (by_call input f o) has found = own_of_call j input f o found
  own_by j (kept_name is_object it) has found = absurd has
  own_by j (alone how apart none) has found = own_of_other j how apart none has found

  own_made : (j : ℕ) (how : Made) (c : Collection) → slice_get (made_of script) j ≡ Some how
      → HasOwn how → made_at made_ j ≡ Some c → own_bag w m (nodes_of script) j ≡ c.bag
  own_made j how c is has made_c =
      let found = made_as j c made_c in
      own_by j (stand_of how) has
      (found.1 ∙ sym (needed_as script j found.0 found.1).made ∙ is)
      ∙ ap (λ (d : Collection). d.bag) (at_made j c made_c)

  -- ---- traps

  abbrev Trapped : ℕ → ℕ → Made → Collection → Type 0
  Trapped t number mk d =
      SameTraps script w m (gives script)
      (made_nodes script (gives script) number (source script t) (start script t) mk) d

  name_traps : (t number input f o first k : ℕ) → number - o ≡ first
      → get_or (wanted script) (first + k) None ≡ Some (made.Do input f k)
      → Trapped t number (made.Do input f o) (at_of made_ (first + k))
  name_traps t number input f o first k from found =
      let e : (first + k) - k ≡ first = omega arith in
      call_traps script w m (gives script) number (source script t) (start script t) input f o k
      (at_of made_ input) (at_of made_ (first + k))
      (input_value (first + k) (made.Do input f k) found input (at_head input []))
      (ap (λ i. through w (call_label i f k) (at_of made_ input)) (from ∙ sym e)
      ∙ sym (made_here script inputs made_ well means (first + k) (made.Do input f k) found).0)

  other_traps : (t number : ℕ) (how : Made) → IsOther how
      → get_or (built script) t None ≡ Some (built_of number how)
      → Trapped t number how (at_of made_ number)
  other_traps t number how apart found =
      block_traps script w m (gives script) number (source script t) (start script t) how
      (at_of made_ number) apart (block_meets t number how found)
      (other_value t number how apart found)

  wanted_traps : (j : ℕ) (how : Made) → get_or (wanted script) j None ≡ Some how
      → AreIn (at_of made_ j).traps (flat_map traps_behind made_)
  wanted_traps j how found =
      let c = wanted_made made_ (wanted script) j how (matches script inputs made_ well means)
      found in
      then_in (at_of made_ j).traps c.0.traps (flat_map traps_behind made_)
      (same_in (ap (λ (d : Collection). d.traps) (at_made j c.0 c.1)))
      (traps_made made_ j c.0 c.1)

  call_traps_in : (t number input f o : ℕ)
      → get_or (built script) t None ≡ Some (built_of number (made.Do input f o))
      → AreIn (trapped script w m (gives script)
      (made_nodes script (gives script) number (source script t) (start script t)
      (made.Do input f o))) (flat_map traps_behind made_)
  call_traps_in t number input f o found =
      let it = of_call script well t number input f o found in
      let at : get_or (wanted script) (it.first + o) None ≡ Some (made.Do input f o) =
      ap (λ n. get_or (wanted script) n None) it.is
      ∙ built_wanted script t number (made.Do input f o) found in
      then_in _ (at_of made_ (it.first + o)).traps _
      (name_traps t number input f o it.first o it.from at).from
      (wanted_traps (it.first + o) (made.Do input f o) at)

  block_traps_in : (t number : ℕ) {mk : Made} → Kind mk
      → get_or (built script) t None ≡ Some (built_of number mk)
      → AreIn (trapped script w m (gives script)
      (made_nodes script (gives script) number (source script t) (start script t) mk))
      (flat_map traps_behind made_)
  block_traps_in t number (called input f o) found = call_traps_in t number input f o found
  block_traps_in t number (other how apart) found =
      then_in _ (at_of made_ number).traps _ (other_traps t number how apart found).from
      (wanted_traps number how (built_wanted script t number how found))

  graph_traps : AreIn (trapped script w m (gives script) (nodes_of script))
      (flat_map traps_behind made_)
  graph_traps =
      blocks_in script (gives script) (λ e. traps w m e.node) 0 0 (built script)
      (flat_map traps_behind made_)
      (λ t b found. block_traps_in t b.number (kind_of b.made) found)

  in_nodes : (t number : ℕ) (mk : Made)
      → get_or (built script) t None ≡ Some (built_of number mk) → (d : Collection)
      → Trapped t number mk d
      → AreIn d.traps (trapped script w m (gives script) (nodes_of script))
  in_nodes t number mk found d same trap is =
      in_block script (gives script) (λ e. traps w m e.node) 0 0 (built script) t
      (built_of number mk) trap found (same.into trap is)

  call_in_nodes : (j input f o : ℕ) → get_or (wanted script) j None ≡ Some (made.Do input f o)
      → AreIn (at_of made_ j).traps (trapped script w m (gives script) (nodes_of script))
  call_in_nodes j input f o found =
      let n = has_call script well j input f o found in
      let from : (n.first + n.name.place) - n.name.place ≡ n.first = omega arith in
      in_nodes (call_slot script n.first f) (n.first + n.name.place)
      (made.Do input f n.name.place) n.built_ (at_of made_ j)
      (subst (λ i. Trapped (call_slot script n.first f) (n.first + n.name.place)
      (made.Do input f n.name.place) (at_of made_ i)) n.place
      (name_traps (call_slot script n.first f) (n.first + n.name.place) input f n.name.place
      n.first o from
      (ap (λ i. get_or (wanted script) i None) n.place ∙ found)))

  kept_in_nodes : (j : ℕ) (is_object : Bool) (it : Emitted)
      → get_or (wanted script) j None ≡ Some (made.Saved is_object (Some it))
      → AreIn (at_of made_ j).traps (trapped script w m (gives script) (nodes_of script))
  kept_in_nodes j is_object it found =
      let how : Made = made.Saved is_object (Some it) in
      let n = has_kept script well j is_object it found in
      in_nodes (kept_slot script n.name.first it.output) j how n.built_ (at_of made_ j)
      (other_traps (kept_slot script n.name.first it.output) j how tt n.built_)

  wanted_in : (j : ℕ) {how : Made} → Stand how → get_or (wanted script) j None ≡ Some how
      → AreIn (at_of made_ j).traps (trapped script w m (gives script) (nodes_of script))
  wanted_in j (by_call input f o) found = call_in_nodes j input f o found
  wanted_in j (kept_name is_object it) found = kept_in_nodes j is_object it found
  wanted_in j (alone how apart none) found =
      let at = alone_built script j how none found in
      in_nodes j j how at (at_of made_ j) (other_traps j j how apart at)

  script_traps : AreIn (flat_map traps_behind made_)
      (trapped script w m (gives script) (nodes_of script))
  script_traps =
      made_traps made_ (trapped script w m (gives script) (nodes_of script))
      (λ j c made_c.
      let how = made_as j c made_c in
      then_in c.traps (at_of made_ j).traps _
      (same_in (ap (λ (d : Collection). d.traps) (sym (at_made j c made_c))))
      (wanted_in j (stand_of how.0) how.1))

  -- ---- the graph

  sound : IsSound (graph_of script)
  sound = IsSound-ok (graph_of script) (is_graph_ok script well short)

  agrees : Agrees (script_world script inputs) (graph_of script) (graph_of script)
      (assigned script inputs made_) (collection (script_world script inputs) (graph_of script))
  agrees =
      Agrees-self (script_world script inputs) (graph_of script) (assigned script inputs made_)
      (collection (script_world script inputs) (graph_of script)) sound
      (meets script inputs made_ well means)
      (collection_meets (script_world script inputs) (graph_of script) sound)

  some_of : (f g : Place → Collection) (cs : List Place) → map f cs ≡ map g cs
      → map (λ c. Some (f c)) cs ≡ map (λ c. Some (g c)) cs
  some_of f g [] h = refl
  some_of f g (c ∷ cs) h =
      let first : f c ≡ g c = cc in
      let rest : map f cs ≡ map g cs = cc in
      λ i. Some (first i) ∷ some_of f g cs rest i

  pub is_meaning : IsMeaning (script_world script inputs) script made_ (graph_of script)
  is_meaning = record {
    outputs =
        sym (some_of (assigned script inputs made_)
        (collection (script_world script inputs) (graph_of script)) (graph_of script).outputs
        agrees.outputs)
        ∙ outputs_made;
    own = λ j how c is has made_c. sym (agrees.own j) ∙ own_made j how c is has made_c;
    traps = sym agrees.traps
        ∙ same_traps _ _ (record { from = graph_traps; into = script_traps });
  }
