-- What a node reads is read.
use Rattle.std.proofs.Common.{◌≡◌, Bool, true, false, ◌||◌, List, [], ◌∷◌, refl}
use Rattle.std.proofs.lemmas.Bool.{eq-eqb}
use Rattle.std.specs.List.{AllByRecursion}
use Rattle.exec_graph.specs.declared.graph.Place.{Place}
use Rattle.exec_graph.specs.declared.graph.Node.{Node}
use Rattle.exec_graph.specs.declared.graph.Node.TheVariants.{Source, Flatten, Pdo, Gbk, Barrier}
use Rattle.exec_graph.specs.declared.graph.Entry.{Entry}
use Rattle.exec_graph.specs.declared.graph.Graph.{Graph}
use Rattle.exec_graph.specs.Meaning.{reads}
use Rattle.exec_graph.specs.Readers.{same_place, among, any_node, uses, is_read}
use Rattle.exec_graph.proofs.Bools.{or_left, or_right}

pub same_self : (c : Place) → same_place c c ≡ true
same_self c = rw (eq-eqb c.node c.node refl, eq-eqb c.out c.out refl) refl

pub all_among : (Q : Place → Type 0) (cs : List Place) → ((c : Place) → among c cs ≡ true → Q c)
    → AllByRecursion Q cs
all_among Q [] h = tt
all_among Q (c ∷ cs) h = (
  h c (or_left (same_place c c) (among c cs) (same_self c)),
  all_among Q cs (λ d i. h d (or_right (same_place d c) (among d cs) i)),
)

or_false : (b : Bool) → b ≡ true → (b || false) ≡ true
or_false true h = refl
or_false false h = h

uses_all : (Q : Place → Type 0) (x : Node) → ((c : Place) → uses c x ≡ true → Q c)
    → AllByRecursion Q (reads x)
uses_all Q (Source r) h = tt
uses_all Q (Flatten ins) h = all_among Q ins h
uses_all Q (Pdo c f) h = (h c (or_false (same_place c c) (same_self c)), tt)
uses_all Q (Gbk c o l k) h = (h c (same_self c), tt)
uses_all Q (Barrier ins o l a) h = all_among Q ins h

all_used : (Q : Place → Type 0) (es : List Entry)
    → ((c : Place) → any_node (uses c) es ≡ true → Q c)
    → AllByRecursion (λ e. AllByRecursion Q (reads e.node)) es
all_used Q [] h = tt
all_used Q (e ∷ es) h = (
  uses_all Q e.node (λ c i. h c
      (or_left (uses c e.node) (any_node (uses c) es) i)),
  all_used Q es (λ c i. h c (or_right (uses c e.node) (any_node (uses c) es) i)),
)

pub nodes_read : (g : Graph) → AllByRecursion
    (λ e. AllByRecursion (λ c. is_read g c ≡ true) (reads e.node)) g.nodes
nodes_read g = all_used (λ c. is_read g c ≡ true) g.nodes
    (λ c i. or_left (any_node (uses c) g.nodes) (among c g.outputs) i)

pub outputs_read : (g : Graph) → AllByRecursion (λ c. is_read g c ≡ true) g.outputs
outputs_read g = all_among (λ c. is_read g c ≡ true) g.outputs
    (λ c i. or_right (any_node (uses c) g.nodes) (among c g.outputs) i)
