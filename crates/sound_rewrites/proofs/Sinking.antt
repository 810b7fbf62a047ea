-- A Pdo of a sound graph below the Flatten that it reads, however many nodes there are then.
use Rattle.std.proofs.Common.{◌≡◌, ℕ, ◌+◌, ◌-◌, ◌<◌, List, [], ◌∷◌, Some, map, length, zero, suc, ap, arith}
use Rattle.std.specs.List.{AllByRecursion as Each}
use Rattle.exec_graph.specs.Forests.{Forest, numbered}
use Rattle.exec_graph.specs.Meaning.{HasOuts, IsSound, OutsDiffer, node_at, place}
use Rattle.exec_graph.specs.Wellformed.{Ascends, IsFounded}
use Rattle.exec_graph.specs.declared.graph.Place.{Place}
use Rattle.exec_graph.specs.declared.graph.Node.TheVariants.{Flatten, Pdo}
use Rattle.exec_graph.specs.declared.graph.Entry.{Entry}
use Rattle.exec_graph.specs.declared.graph.Graph.{Graph}
use Rattle.exec_graph.proofs.Entries.{all_found, all_map}
use Rattle.exec_graph.proofs.Solving.{ranked_at}
use Rattle.exec_graph.proofs.Soundness.{differ_ascends}
use Rattle.graph_laws.specs.Joining.{reread_entry}
use Rattle.graph_laws.proofs.Wellness.{outs_reread}
use Rattle.sink_laws.specs.Sinking.{CanSink, copies, flattens, outputs_of, rerouted, sink_step, sunk_once}
use Rattle.sink_laws.proofs.SinkFounded.{IsFounded-sunk, all_sunk, node_at-sunk_other}
use Rattle.sink_laws.proofs.SinkMeaning.{KeepsMeaning-sunk}
use Rattle.sink_laws.proofs.TypesKept.{IsTyped-sunk}
use Rattle.graph_rewrites.proofs.Keeping.{IsAs, as_then}
use Rattle.sound_rewrites.proofs.Dropping.{tidied_as}

copies_outs : (n : ℕ) (f : Forest) (cs : List Place) → OutsDiffer f
    → Each (λ e. HasOuts e.node) (copies n f cs)
copies_outs n f [] d = tt
copies_outs n f (c ∷ cs) d = (d, copies_outs (n + 1) f cs d)

flattens_outs : (n first : ℕ) (ins : List Place) (j k : ℕ)
    → Each (λ e. HasOuts e.node) (flattens n first ins j k)
flattens_outs n first ins j zero = tt
flattens_outs n first ins j (suc k) = (tt, flattens_outs (n + 1) first ins (suc j) k)

module _ (g : Graph) (n p : ℕ) (f : Forest) (ins : List Place) (ok : IsSound g)
    (ascends : Ascends g.nodes) (below : Each (λ e. e.number < g.next) g.nodes)
    (order : numbered 0 f ≡ f) (can : CanSink g n p f ins) where
  abbrev base : ℕ
  base = g.next + length ins

  abbrev new : Graph
  new = sunk_once g p f ins

  founded : IsFounded new
  founded =
      IsFounded-sunk g n p f ins (record {
        ascends = ascends;
        below = below;
        there = ok.there;
        told = ok.told;
        ranked = ok.ranked;
      }) order can

  outs : Each (λ e. HasOuts e.node) new.nodes
  outs =
      all_sunk (λ e. HasOuts e.node) g p f ins
      (all_map (reread_entry (rerouted p base)) (λ (e : Entry). HasOuts e.node)
      (λ (e : Entry). HasOuts e.node) (λ e a. outs_reread (rerouted p base) e.node a) g.nodes
      ok.outs) (λ _. tt)
      (copies_outs g.next f ins
      (all_found (λ e. HasOuts e.node) g.nodes p (Pdo (place n 0) f) can.pdo ok.outs))
      (flattens_outs base g.next ins 0 (outputs_of f - 1))

  sound : IsSound new
  sound = record {
    differ = differ_ascends new.nodes founded.ascends;
    there = founded.there;
    told = founded.told;
    outs = outs;
    ranked = founded.ranked;
  }

  apart : n ≡ p → ⊥
  apart i =
      let r : ℕ → ℕ = ok.ranked.0 in
      let less : r n < r p =
      (ranked_at r g.nodes p (Pdo (place n 0) f) ok.ranked.1 can.pdo).0 in
      let same : r n ≡ r p = ap r i in omega arith

  at_n : node_at new.nodes n ≡ Some (Flatten (map (rerouted p base) ins))
  at_n = node_at-sunk_other g p n f ins (Flatten ins) apart can.flatten

  pub sink_as : IsAs IsSound g (sink_step g n p f ins)
  sink_as =
      as_then IsSound g new (sink_step g n p f ins)
      (record {
        ok = sound;
        keeps = KeepsMeaning-sunk g n p f ins
            (record { sound = ok; below = below; order = order }) can;
        types = λ s t. IsTyped-sunk s g n p f ins below ok.there can t;
      })
      (tidied_as new n (map (rerouted p base) ins) sound at_n)
