-- What is read is kept and numbered anew, in one go.
use Rattle.std.proofs.Common.{◌≡◌, ℕ, ◌+◌, Bool, ◌||◌, List, map, Some, refl, sym, ap, ap₂, ◌∙◌, arith}
use Rattle.exec_graph.specs.Forests.{Forest, Bare, numbered}
use Rattle.exec_graph.specs.Meaning.{node_at, place}
use Rattle.exec_graph.specs.Readers.{among, any_node, is_read, uses}
use Rattle.exec_graph.specs.declared.graph.Entry.{Entry}
use Rattle.exec_graph.specs.declared.graph.Graph.{Graph}
use Rattle.exec_graph.specs.declared.graph.Node.{Node}
use Rattle.exec_graph.specs.declared.graph.Node.TheVariants.{Pdo}
use Rattle.exec_graph.specs.declared.graph.Place.{Place}
use Rattle.graph_laws.specs.Joining.{reread_entry, set_node}
use Rattle.graph_laws.specs.Kids.{kept_by, moved_out, number_after, refitted, renewed, same_number}
use Rattle.graph_laws.proofs.Reading.{any_set}
use Rattle.graph_laws.proofs.Wellness.{mapped, node_at-map}
use Rattle.graph_walks.specs.Outs.{outs, place_of}
use Rattle.graph_walks.proofs.Places.{number_place}
use Rattle.graph_joining.specs.inner.Refits.{graph_of, refitted_by, reread_by}
use Rattle.graph_joining.proofs.Commuting.{nodes_both, places_both, set_map, set_over}
use Rattle.graph_joining.proofs.Rereads.{kept_same, moved_same, nodes_same, nodes_same_number, places_same_number}
use Rattle.graph_laws.proofs.Setting.{set_set}
use Rattle.graph_walks.proofs.Rereads.{places_same}

-- twice refitted is once refitted
refitted_twice : (g : Graph) (n : ℕ) (c : Place) (f h : Forest) (r : ℕ → ℕ)
    → refitted (refitted g n c f same_number) n c h r ≡ refitted g n c h r
refitted_twice g n c f h r =
    let R : Place → Place = moved_out n r in
    ap₂ (λ (es : List Entry) (cs : List Place).
    graph_of (map (reread_entry R) es) (map R cs) g.next)
    (ap (λ (es : List Entry). set_node es n (Pdo c h))
    (nodes_same_number n (set_node g.nodes n (Pdo c f)))
    ∙ set_set g.nodes n (Pdo c f) (Pdo c h))
    (places_same_number n g.outputs)

refitted_alike : (g : Graph) (n : ℕ) (c : Place) (f : Forest) (r s : ℕ → ℕ)
    → ((j : ℕ) → r j ≡ s j) → refitted g n c f r ≡ refitted g n c f s
refitted_alike g n c f r s e =
    ap₂ (λ (es : List Entry) (cs : List Place). graph_of es cs g.next)
    (nodes_same (moved_out n r) (moved_out n s) (moved_same n r s e)
    (set_node g.nodes n (Pdo c f)))
    (places_same (moved_out n r) (moved_out n s) (moved_same n r s e) g.outputs)

-- by flags that say what is read, and a table of the places of what is kept
renewed_by : (g : Graph) (n : ℕ) (c : Place) (f roots : Forest) (flags : ℕ → Bool)
    (kept : List ℕ) (table : ℕ → ℕ) → ((j : ℕ) → flags j ≡ is_read g (place n j))
    → roots ≡ numbered 0 (kept_by flags f) → kept ≡ outs (kept_by flags f)
    → ((j : ℕ) → table j ≡ place_of kept j)
    → refitted g n c roots table ≡ renewed g n c f
renewed_by g n c f roots flags kept table read is_roots is_kept is_table =
    let keep : ℕ → Bool = λ j. is_read g (place n j) in
    let k : Forest = kept_by keep f in
    let same : kept_by flags f ≡ k = kept_same flags keep read f in
    ap (λ (h : Forest). refitted g n c h table) (is_roots ∙ ap (numbered 0) same)
    ∙ refitted_alike g n c (numbered 0 k) table (λ j. number_after 0 k j)
    (λ j. is_table j ∙ ap (λ ks. place_of ks j) (is_kept ∙ ap outs same)
    ∙ sym (number_place 0 k j ∙ from_none (place_of (outs k) j)))
    ∙ sym (refitted_twice g n c k (numbered 0 k) (λ j. number_after 0 k j))
  where
    from_none : (m : ℕ) → 0 + m ≡ m
    from_none m = omega arith

-- ---- what is read, and where it is then, in one go

module _ (g : Graph) (n : ℕ) (c : Place) (all : Forest) (r : Place → Place)
    (here : node_at g.nodes n ≡ Some (Pdo c Bare)) (stays : r c ≡ c) where
  abbrev whole : Graph
  whole = refitted_by r g n c all

  -- the steps of a Pdo say nothing of what is read
  read_same : (j : ℕ) → is_read (reread_by r g) (place n j) ≡ is_read whole (place n j)
  read_same j =
      let t : Node → Bool = uses (place n j) in
      let es : List Entry = map (reread_entry r) g.nodes in
      ap (λ b. b || among (place n j) (map r g.outputs))
      (sym (ap (any_node t) (sym (set_map r g.nodes n (Pdo c all)))
      ∙ any_set t es n (Pdo (r c) all) (Pdo (r c) Bare)
      (node_at-map r g.nodes n ∙ ap (mapped r) here) refl))

  -- read by the one rule and then by the table
  once : (roots : Forest) (table : ℕ → ℕ)
      → refitted_by (λ (d : Place). moved_out n table (r d)) g n c roots
      ≡ refitted whole n c roots table
  once roots table =
      let T : Place → Place = moved_out n table in
      ap₂ (λ (es : List Entry) (cs : List Place). graph_of es cs g.next)
      (sym (ap (λ (es : List Entry). map (reread_entry T) es)
      (set_over r g.nodes n (Pdo c all) c roots stays)
      ∙ nodes_both r T (set_node g.nodes n (Pdo c roots))))
      (sym (places_both r T g.outputs))

  pub renewed_once : (roots : Forest) (flags : ℕ → Bool) (kept : List ℕ) (table : ℕ → ℕ)
      → ((j : ℕ) → flags j ≡ is_read (reread_by r g) (place n j))
      → roots ≡ numbered 0 (kept_by flags all) → kept ≡ outs (kept_by flags all)
      → ((j : ℕ) → table j ≡ place_of kept j)
      → refitted_by (λ (d : Place). moved_out n table (r d)) g n c roots ≡ renewed whole n c all
  renewed_once roots flags kept table read is_roots is_kept is_table =
      once roots table
      ∙ renewed_by whole n c all roots flags kept table (λ j. read j ∙ read_same j) is_roots
      is_kept is_table
