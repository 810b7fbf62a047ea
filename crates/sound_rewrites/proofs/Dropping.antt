-- A sound graph without a Flatten that nothing reads.
use Rattle.std.proofs.Common.{◌≡◌, ℕ, ◌<◌, Bool, true, false, cond, List, Some, refl}
use Rattle.std.specs.List.{AllByRecursion as Each}
use Rattle.flume_value.proofs.EachLemmas.{Each-both}
use Rattle.exec_graph.specs.Meaning.{HasOuts, IsSound, IsThere, node_at, place, reads}
use Rattle.exec_graph.specs.Readers.{is_read, same_place}
use Rattle.exec_graph.specs.Typing.{NodeTyped}
use Rattle.exec_graph.specs.declared.graph.Place.{Place}
use Rattle.exec_graph.specs.declared.graph.Node.TheVariants.{Flatten}
use Rattle.exec_graph.specs.declared.graph.Entry.{Entry}
use Rattle.exec_graph.specs.declared.graph.Graph.{Graph}
use Rattle.graph_laws.specs.Joining.{without}
use Rattle.graph_laws.proofs.Changes.{all_without, differ_without}
use Rattle.sink_laws.specs.Merging.{dropped, tidied}
use Rattle.sink_laws.proofs.Dropping.{CanDrop, KeepsMeaning-dropped, there_without}
use Rattle.sink_laws.proofs.Unread.{all_apart, unread_nodes, unread_outputs}
use Rattle.graph_rewrites.proofs.Keeping.{IsAs, as_self}

others_apart : (g : Graph) (n : ℕ) (ins : List Place) → IsSound g → CanDrop g n ins
    → Each (λ e. Each (λ c. c.node ≡ n → ⊥) (reads e.node)) g.nodes
others_apart g n ins ok can =
    Each-both (λ (e : Entry). Each (IsThere g.nodes) (reads e.node))
    (λ (e : Entry). Each (λ d. same_place (place n 0) d ≡ false) (reads e.node))
    (λ (e : Entry). Each (λ c. c.node ≡ n → ⊥) (reads e.node))
    (λ e a b. all_apart g.nodes n ins (reads e.node) can.flatten a b) g.nodes ok.there
    (unread_nodes g (place n 0) can.free)

all_stay : (es : List Entry) (n : ℕ) (cs : List Place) → Each (IsThere es) cs
    → Each (λ c. c.node ≡ n → ⊥) cs → Each (IsThere (without es n)) cs
all_stay es n cs a b =
    Each-both (IsThere es) (λ c. c.node ≡ n → ⊥) (IsThere (without es n))
    (λ c t d. there_without es n c d t) cs a b

sound_dropped : (g : Graph) (n : ℕ) (ins : List Place) → IsSound g → CanDrop g n ins
    → IsSound (dropped g n)
sound_dropped g n ins ok can =
    let r : ℕ → ℕ = ok.ranked.0 in
    record {
      differ = differ_without g.nodes n ok.differ;
      there = all_without (λ (e : Entry). Each (IsThere (without g.nodes n)) (reads e.node)) g.nodes
          n (Each-both (λ (e : Entry). Each (IsThere g.nodes) (reads e.node))
          (λ (e : Entry). Each (λ c. c.node ≡ n → ⊥) (reads e.node))
          (λ (e : Entry). Each (IsThere (without g.nodes n)) (reads e.node))
          (λ e a b. all_stay g.nodes n (reads e.node) a b) g.nodes ok.there
          (others_apart g n ins ok can));
      told = all_stay g.nodes n g.outputs ok.told
          (all_apart g.nodes n ins g.outputs can.flatten ok.told
          (unread_outputs g (place n 0) can.free));
      outs = all_without (λ e. HasOuts e.node) g.nodes n ok.outs;
      ranked = (
        r,
        all_without (λ (e : Entry). Each (λ (c : Place). r c.node < r e.number) (reads e.node))
            g.nodes n ok.ranked.1,
      );
    }

-- It goes where nothing reads it.
pub tidied_as : (g : Graph) (n : ℕ) (ins : List Place) → IsSound g
    → node_at g.nodes n ≡ Some (Flatten ins) → IsAs IsSound g (tidied g n)
tidied_as g n ins ok at = by (is_read g (place n 0)) refl
  where
    by : (b : Bool) → is_read g (place n 0) ≡ b → IsAs IsSound g (cond b g (dropped g n))
    by true i = as_self IsSound g ok
    by false i =
        let drop : CanDrop g n ins = record { flatten = at; free = i } in
        record {
          ok = sound_dropped g n ins ok drop;
          keeps = KeepsMeaning-dropped g n ins ok.there drop;
          types = λ s typed. (
            typed.0,
            all_without (λ e. NodeTyped s typed.0 e.number e.node) g.nodes n typed.1,
          );
        }
