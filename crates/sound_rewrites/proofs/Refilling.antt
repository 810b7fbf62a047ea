-- A Flatten with other inputs of the same value; and so one with the inputs of a Flatten in place
-- of it, however many these are.
use Rattle.std.proofs.Common.{◌≡◌, ℕ, ◌<◌, List, [], Some, map, refl, sym, ap, ◌∙◌, subst, arith}
use Rattle.std.specs.List.{AllByRecursion as Each, flat_map}
use Rattle.flume_value.specs.Bag.{put}
use Rattle.flume_value.proofs.EachLemmas.{Each-weaker}
use Rattle.flume_collection.specs.Collection.{Collection, together}
use Rattle.flume_collection.specs.declared.trap.Trap.{Trap}
use Rattle.flume_collection.specs.Sets.{gather, put_new}
use Rattle.flume_collection.specs.Traps.{trap_le}
use Rattle.flume_collection.proofs.Orders.{bags, one_bag, sets}
use Rattle.flume_types.specs.declared.types.Ty.{Ty}
use Rattle.exec_graph.specs.Meaning.{HasOuts, Holds, IsSound, IsThere, KeepsMeaning, Meets, node_at, own, place, reads, traps}
use Rattle.exec_graph.specs.Typing.{IsTypedBy, KeepsTypes, NodeTyped, Signatures}
use Rattle.exec_graph.specs.World.{World}
use Rattle.exec_graph.specs.declared.graph.Place.{Place}
use Rattle.exec_graph.specs.declared.graph.Node.{Node}
use Rattle.exec_graph.specs.declared.graph.Node.TheVariants.{Flatten}
use Rattle.exec_graph.specs.declared.graph.Entry.{Entry}
use Rattle.exec_graph.specs.declared.graph.Graph.{Graph}
use Rattle.exec_graph.proofs.Entries.{all_found}
use Rattle.exec_graph.proofs.Solving.{ranked_at}
use Rattle.graph_laws.specs.Joining.{set_node, without}
use Rattle.graph_laws.proofs.Changes.{all_set, sum_at, sum_set}
use Rattle.graph_laws.proofs.Wellness.{differ_set, node_at-set_other}
use Rattle.sink_laws.specs.Merging.{merge_step, merged_flattens, spliced}
use Rattle.sink_laws.proofs.MergeMeaning.{all_spliced, merged_value, there_set}
use Rattle.sink_laws.proofs.Steps.{lower}
use Rattle.graph_rewrites.proofs.Keeping.{IsAs, as_then}
use Rattle.sound_rewrites.specs.Making.{IsNested}
use Rattle.sound_rewrites.proofs.Dropping.{tidied_as}

-- ---- other inputs
module _ (g : Graph) (f : ℕ) (ins outs : List Place) (ok : IsSound g)
    (at : node_at g.nodes f ≡ Some (Flatten ins)) where
  abbrev x : Node
  x = Flatten outs

  abbrev set : List Entry
  set = set_node g.nodes f x

  abbrev refilled : Graph
  refilled = record { nodes = set; outputs = g.outputs; next = g.next }

  here : (cs : List Place) → Each (IsThere g.nodes) cs → Each (IsThere set) cs
  here cs a =
      Each-weaker (IsThere g.nodes) (IsThere set)
      (λ c t. there_set g.nodes f ins outs c at t) cs a

  refilled_sound : Each (IsThere g.nodes) outs
      → Each (λ c. ok.ranked.0 c.node < ok.ranked.0 f) outs → IsSound refilled
  refilled_sound there lower =
      let T : Entry → Type 0 = λ e. Each (IsThere g.nodes) (reads e.node) in
      let R : Entry → Type 0 = λ e. Each (IsThere set) (reads e.node) in
      let r : ℕ → ℕ = ok.ranked.0 in
      record {
        differ = differ_set g.nodes f x (Flatten ins) at ok.differ;
        there = all_set R g.nodes f x
            (Each-weaker T R (λ e a. here (reads e.node) a) g.nodes ok.there) (here outs there);
        told = here g.outputs ok.told;
        outs = all_set (λ e. HasOuts e.node) g.nodes f x ok.outs tt;
        ranked = (
          r,
          all_set (λ (e : Entry). Each (λ (c : Place). r c.node < r e.number) (reads e.node))
              g.nodes f x ok.ranked.1 lower,
        );
      }

  refilled_keeps : ((w : World) (m : Place → Collection) → Meets w g.nodes m
      → together (map m outs) ≡ together (map m ins)) → KeepsMeaning g refilled
  refilled_keeps same w m h =
      let q : Trap → List Trap → List Trap = put_new trap_le in
      let value : together (map m outs) ≡ together (map m ins) = same w m h in
      let T : Entry → List Trap = λ e. traps w m e.node in (
        m,
        all_set (λ e. Holds w m e.number e.node) g.nodes f x h
            (all_found (λ e. Holds w m e.number e.node) g.nodes f (Flatten ins) at h
            ∙ sym value),
        record {
          outputs = refl;
          own = λ n. one_bag (flat_map (λ (e : Entry). own w m n e.node) g.nodes)
              (flat_map (λ (e : Entry). own w m n e.node) set)
              (sum_at put bags (λ (e : Entry). own w m n e.node) g.nodes f (Flatten ins) [] at
              ∙ sym (sum_set put bags (λ (e : Entry). own w m n e.node) g.nodes f x (Flatten ins) []
              at));
          traps = sum_at q sets T g.nodes f (Flatten ins) [] at
              ∙ ap (λ (c : Collection). gather q c.traps
              (gather q (flat_map T (without g.nodes f)) [])) (sym value)
              ∙ sym (sum_set q sets T g.nodes f x (Flatten ins) [] at);
        },
      )

  refilled_types : ((s : Signatures) (types : Place → Ty) → IsTypedBy s g types
      → Each (λ c. types c ≡ types (place f 0)) outs) → KeepsTypes g refilled
  refilled_types fit s typed = (
    typed.0,
    all_set (λ e. NodeTyped s typed.0 e.number e.node) g.nodes f x typed.1
        (fit s typed.0 typed.1),
  )

-- ---- the inputs of a Flatten in place of it

-- what holds of all inputs of both holds of the new ones
each_spliced : (P : Place → Type 0) (e : ℕ) (es ins : List Place) → Each P ins
    → (P (place e 0) → Each P es) → Each P (spliced e es ins)
each_spliced P e es ins a b =
    all_spliced P e es ins
    (Each-weaker P (λ (c : Place). P c × (c ≡ place e 0 → Each P es))
    (λ c t. (t, λ i. b (subst P i t))) ins a)

module _ (g : Graph) (f : ℕ) (ins : List Place) (e : ℕ) (es : List Place) (ok : IsSound g)
    (can : IsNested g f ins e es) where
  abbrev r : ℕ → ℕ
  r = ok.ranked.0

  ins_lower : Each (λ c. r c.node < r f) ins
  ins_lower = ranked_at r g.nodes f (Flatten ins) ok.ranked.1 can.outer

  es_lower : Each (λ c. r c.node < r e) es
  es_lower = ranked_at r g.nodes e (Flatten es) ok.ranked.1 can.inner

  e_lower : r e < r f
  e_lower = lower r e (r f) ins can.nested ins_lower

  apart : e ≡ f → ⊥
  apart i = let same : r e ≡ r f = ap r i in let less : r e < r f = e_lower in omega arith

  there : (n : ℕ) (cs : List Place) → node_at g.nodes n ≡ Some (Flatten cs)
      → Each (IsThere g.nodes) cs
  there n cs at =
      all_found (λ e. Each (IsThere g.nodes) (reads e.node)) g.nodes n (Flatten cs) at ok.there

  sound : IsSound (merged_flattens g f ins e es)
  sound =
      refilled_sound g f ins (spliced e es ins) ok can.outer
      (each_spliced (IsThere g.nodes) e es ins (there f ins can.outer)
      (λ _. there e es can.inner))
      (each_spliced (λ c. r c.node < r f) e es ins ins_lower
      (λ _. Each-weaker (λ (c : Place). r c.node < r e) (λ (c : Place). r c.node < r f)
      (λ c l. let less : r e < r f = e_lower in omega arith) es es_lower))

  keeps : KeepsMeaning g (merged_flattens g f ins e es)
  keeps =
      refilled_keeps g f ins (spliced e es ins) ok can.outer
      (λ w m h. merged_value m e es ins
      (all_found (λ e. Holds w m e.number e.node) g.nodes e (Flatten es) can.inner h))

  types : KeepsTypes g (merged_flattens g f ins e es)
  types =
      refilled_types g f ins (spliced e es ins) ok can.outer
      (λ s types h. each_spliced (λ c. types c ≡ types (place f 0)) e es ins
      (all_found (λ e. NodeTyped s types e.number e.node) g.nodes f (Flatten ins) can.outer h)
      (λ i. Each-weaker (λ (c : Place). types c ≡ types (place e 0))
      (λ (c : Place). types c ≡ types (place f 0)) (λ c u. u ∙ i) es
      (all_found (λ e. NodeTyped s types e.number e.node) g.nodes e (Flatten es) can.inner h)))

  pub merge_as : IsAs IsSound g (merge_step g f ins e es)
  merge_as =
      as_then IsSound g (merged_flattens g f ins e es) (merge_step g f ins e es)
      (record { ok = sound; keeps = keeps; types = types })
      (tidied_as (merged_flattens g f ins e es) e es sound
      (node_at-set_other g.nodes f e (Flatten (spliced e es ins)) (Flatten es) apart can.inner))
