-- Two Pdos pass the tests exactly where they may become one.
use Rattle.std.specs.Prelude.{◌↔◌, IsTrue}
use Rattle.std.proofs.Common.{◌≡◌, ℕ, ◌<◌, Bool, true, ltb, ◌&&◌, Option, Some, refl, sym, ap, ◌∙◌, arith}
use Rattle.std.proofs.lemmas.Bool.{and_from, and_parts, false≢true, lt-ltb, ltb-true}
use Rattle.exec_graph.specs.Forests.{Forest}
use Rattle.exec_graph.specs.Meaning.{node_at, place}
use Rattle.exec_graph.specs.Readers.{same_place}
use Rattle.exec_graph.specs.declared.graph.Graph.{Graph}
use Rattle.exec_graph.specs.declared.graph.Node.{Node}
use Rattle.exec_graph.specs.declared.graph.Node.TheVariants.{Pdo}
use Rattle.exec_graph.specs.declared.graph.Place.{Place}
use Rattle.flatten_sink.specs.of_sink_laws.Chain.{forest_of}
use Rattle.flatten_sink.proofs.of_sink_laws.Unread.{same_true}
use Rattle.graph_laws.proofs.ReadPlaces.{same_self}
use Rattle.graph_rewrites.specs.Rewrites.{CanBeKid, CanBeSibling, forest_at, input_at, input_of}
use Rattle.graph_rewrites.specs.of_graph_bounds.of_pardo_fuse.Readers.{is_pdo}
use Rattle.graph_joining.specs.inner.Tests.{calls_at, can_kid, can_sibling}

pub pdo_is : (o : Option Node) → is_pdo o ≡ true → o ≡ Some (Pdo (input_of o) (forest_of o))
pdo_is (Some (Pdo c f)) h = refl
pdo_is _ h = absurd (false≢true h)

call_is : (c : Place) (o : Option Node) → calls_at c o ≡ true → o ≡ Some (Pdo c (forest_of o))
call_is c o h =
    let both = and_parts (is_pdo o) (same_place c (input_of o)) h in
    pdo_is o both.0
    ∙ ap (λ (d : Place). Some (Pdo d (forest_of o))) (sym (same_true c (input_of o) both.1))

calls_one : (c : Place) (o : Option Node) (f : Forest) → o ≡ Some (Pdo c f)
    → calls_at c o ≡ true
calls_one c o f e = ap (calls_at c) e ∙ same_self c

kid_passes : (g : Graph) (p k q : ℕ) → can_kid g.nodes p k q ≡ true → CanBeKid g p k q
kid_passes g p k q h =
    let both =
    and_parts (is_pdo (node_at g.nodes p)) (calls_at (place p k) (node_at g.nodes q)) h in
    record {
      keeper = pdo_is (node_at g.nodes p) both.0;
      other = call_is (place p k) (node_at g.nodes q) both.1;
    }

passes_kid : (g : Graph) (p k q : ℕ) → CanBeKid g p k q → can_kid g.nodes p k q ≡ true
passes_kid g p k q can =
    and_from (is_pdo (node_at g.nodes p)) (calls_at (place p k) (node_at g.nodes q))
    (ap is_pdo can.keeper) (calls_one (place p k) (node_at g.nodes q) (forest_at g q) can.other)

pub kid_told : (g : Graph) (p k q : ℕ) (b : Bool) → b ≡ can_kid g.nodes p k q
    → IsTrue b ↔ CanBeKid g p k q
kid_told g p k q b is =
    (λ e. kid_passes g p k q (sym is ∙ e), λ can. is ∙ passes_kid g p k q can)

module _ (g : Graph) (p q : ℕ) where
  abbrev a : Bool
  a = is_pdo (node_at g.nodes p)

  abbrev b : Bool
  b = calls_at (input_at g p) (node_at g.nodes q)

  pub sibling_passes : can_sibling g.nodes p q ≡ true → (p < q) × CanBeSibling g p q
  sibling_passes h =
      let less = and_parts (ltb p q) (a && b) h in
      let both = and_parts a b less.1 in
      let lt : p < q = ltb-true p q less.0 in (
        lt,
        record {
          keeper = pdo_is (node_at g.nodes p) both.0;
          other = call_is (input_at g p) (node_at g.nodes q) both.1;
          differ = λ e. omega arith;
        },
      )

  pub passes_sibling : p < q → CanBeSibling g p q → can_sibling g.nodes p q ≡ true
  passes_sibling lt can =
      and_from (ltb p q) (a && b) (lt-ltb p q lt) (and_from a b (ap is_pdo can.keeper)
      (calls_one (input_at g p) (node_at g.nodes q) (forest_at g q) can.other))

  pub sibling_told : (told : Bool) → told ≡ can_sibling g.nodes p q
      → IsTrue told ↔ ((p < q) × CanBeSibling g p q)
  sibling_told told is =
      (λ e. sibling_passes (sym is ∙ e), λ can. is ∙ passes_sibling can.0 can.1)
