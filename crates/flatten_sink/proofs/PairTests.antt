-- The tests of pairs pass exactly where the pairs can be merged or sunk.
use Rattle.std.proofs.Common.{◌≡◌, ℕ, ◌≤◌, Bool, true, false, leb, ◌&&◌, List, length, Option, Some, refl, sym, ap, subst}
use Rattle.std.proofs.lemmas.Bool.{and_parts, false≢true, leb-true}
use Rattle.exec_graph.specs.Meaning.{SameMeaning, node_at, place}
use Rattle.exec_graph.specs.Readers.{among}
use Rattle.exec_graph.specs.Wellformed.{IsGraphOk, most_nodes, total_size}
use Rattle.exec_graph.specs.declared.graph.Place.{Place}
use Rattle.exec_graph.specs.declared.graph.Graph.{Graph}
use Rattle.exec_graph.specs.declared.graph.Node.{Node}
use Rattle.exec_graph.specs.declared.graph.Node.TheVariants.{Flatten, Pdo}
use Rattle.exec_graph.proofs.Soundness.{SameMeaning-kept}
use Rattle.sink_laws.specs.Chain.{after_call, after_nest, forest_of, has_room, ins_of, CanSinkPdo, CanNest}
use Rattle.sink_laws.specs.Kept.{KeepsTypesAndSteps}
use Rattle.sink_laws.specs.Merging.{spliced}
use Rattle.sink_laws.specs.declared.pair.Pair.{Pair}
use Rattle.sink_laws.proofs.Choosing.{IsKept-call, IsKept-nest}
use Rattle.sink_laws.proofs.Unread.{same_true}
use Rattle.flatten_sink.specs.inner.Pairs.{calls_first, can_call, can_nest, is_flatten}

flatten_is : (o : Option Node) → is_flatten o ≡ true → o ≡ Some (Flatten (ins_of o))
flatten_is (Some (Flatten ins)) h = refl
flatten_is _ h = absurd (false≢true h)

among_is : (c : Place) (o : Option Node) → among c (ins_of o) ≡ true
    → o ≡ Some (Flatten (ins_of o))
among_is c (Some (Flatten ins)) h = refl
among_is c _ h = absurd (false≢true h)

call_is : (n : ℕ) (o : Option Node) → calls_first n o ≡ true
    → o ≡ Some (Pdo (place n 0) (forest_of o))
call_is n (Some (Pdo c f)) h =
    ap (λ (d : Place). Some (Pdo d f)) (sym (same_true (place n 0) c h))
call_is n _ h = absurd (false≢true h)

nest_passes : (g : Graph) (p : Pair) → can_nest g.nodes p ≡ true → CanNest g p
nest_passes g p h =
    let outer : Option Node = node_at g.nodes p.flatten in
    let inner : Option Node = node_at g.nodes p.other in
    let joined : List Place = spliced p.other (ins_of inner) (ins_of outer) in
    let room : Bool = leb (length joined) most_nodes in
    let near : Bool = among (place p.other 0) (ins_of outer) in
    let (flat, rest) = and_parts (is_flatten inner) (near && room) h in
    let (here, fits) = and_parts near room rest in
    record {
      outer = among_is (place p.other 0) outer here;
      inner = flatten_is inner flat;
      nested = here;
      room = leb-true (length joined) most_nodes fits;
    }

call_passes : (g : Graph) (p : Pair) → can_call g.nodes p ≡ true → CanSinkPdo g p
call_passes g p h =
    let (flat, calls) = and_parts (is_flatten (node_at g.nodes p.flatten))
    (calls_first p.flatten (node_at g.nodes p.other)) h in
    record {
      flatten = flatten_is (node_at g.nodes p.flatten) flat;
      pdo = call_is p.flatten (node_at g.nodes p.other) calls;
    }

room_passes : (g : Graph) (p : Pair) → has_room g p ≡ true
    → total_size (after_call g p).nodes ≤ most_nodes
room_passes g p h = leb-true (total_size (after_call g p).nodes) most_nodes h

-- ---- what the graph after it keeps

pub kept_merged : (g h : Graph) (p : Pair) → IsGraphOk g → can_nest g.nodes p ≡ true
    → h ≡ after_nest g p → KeepsTypesAndSteps g h
kept_merged g h p ok t e =
    subst (KeepsTypesAndSteps g) (sym e) (IsKept-nest g p ok (nest_passes g p t))

pub kept_sunk : (g h : Graph) (p : Pair) → IsGraphOk g → can_call g.nodes p ≡ true
    → has_room g p ≡ true → h ≡ after_call g p → KeepsTypesAndSteps g h
kept_sunk g h p ok t r e =
    subst (KeepsTypesAndSteps g) (sym e)
    (IsKept-call g p ok (call_passes g p t) (room_passes g p r))

pub same_kept : (g h : Graph) → IsGraphOk g → KeepsTypesAndSteps g h → SameMeaning g h
same_kept g h ok k = SameMeaning-kept g h ok k.good.ok k.good.keeps
