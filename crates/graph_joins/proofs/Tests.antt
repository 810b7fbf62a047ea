-- What passes the tests may become one, and what may become one passes them.
use Rattle.std.specs.List.{AllByRecursion}
use Rattle.std.proofs.Common.{◌≡◌, ℕ, true, eqb, ltb, ◌&&◌, Some, sym, ap, ◌∙◌}
use Rattle.std.proofs.lemmas.Bool.{and_from, and_parts, eqb-true, lt-ltb, ltb-true}
use Rattle.exec_graph.specs.Meaning.{HasOuts, node_at, place}
use Rattle.exec_graph.specs.declared.graph.Entry.{Entry}
use Rattle.exec_graph.specs.declared.graph.Graph.{Graph}
use Rattle.exec_graph.specs.declared.graph.Node.TheVariants.{Pdo}
use Rattle.exec_graph.specs.declared.graph.Place.{Place}
use Rattle.exec_graph.proofs.Entries.{all_found}
use Rattle.graph_states.specs.of_graph_rewrites.Rewrites.{forest_at, input_at, input_of}
use Rattle.graph_walks.specs.Outs.{outs}
use Rattle.graph_states.specs.of_pardo_fuse.Readers.{is_pdo}
use Rattle.graph_joining.proofs.Passes.{pdo_is}
use Rattle.graph_joins.specs.Sessions.{IsReader}
use Rattle.graph_joins.specs.inner.Seeks.{is_kth}
use Rattle.graph_joins.specs.inner.Tests.{reads}
use Rattle.graph_joins.proofs.SeekLemmas.{is_told_kth, kth_is}

pub reader_passes : (h : Graph) (p k q : ℕ) (c : Place)
    → AllByRecursion (λ e. HasOuts e.node) h.nodes → c ≡ input_at h q → reads h.nodes p q c ≡ true
    → is_kth (outs (forest_at h p)) k c.node ≡ true → IsReader h p k q c.node
reader_passes h p k q c apart is e kth =
    let at = node_at h.nodes p in
    let bt = node_at h.nodes q in
    let all = and_parts (ltb p q && eqb c.out 0) (is_pdo at && is_pdo bt) e in
    let first = and_parts (ltb p q) (eqb c.out 0) all.0 in
    let pdos = and_parts (is_pdo at) (is_pdo bt) all.1 in
    let zero : c.out ≡ 0 = eqb-true c.out 0 first.1 in
    let keeper : at ≡ Some (Pdo (input_at h p) (forest_at h p)) = pdo_is at pdos.0 in
    let found = kth_is (forest_at h p) k c.node
    (all_found (λ (d : Entry). HasOuts d.node) h.nodes p
    (Pdo (input_at h p) (forest_at h p)) keeper apart) kth in
    record {
      less = ltb-true p q first.0;
      keeper = keeper;
      other = pdo_is bt pdos.1
          ∙ ap (λ (d : Place). Some (Pdo d (forest_at h q)))
          (sym is ∙ ap (λ (o : ℕ). place c.node o) zero);
      has = found.0;
      number = found.1;
    }

-- ---- the other way round

module _ (h : Graph) (p k q n : ℕ) (c : Place) (is : c ≡ input_at h q)
    (r : IsReader h p k q n) where
  read_at : c ≡ place n 0
  read_at = is ∙ ap input_of r.other

  pub reader_is_tested : reads h.nodes p q c ≡ true
  reader_is_tested =
      and_from (ltb p q && eqb c.out 0) (is_pdo (node_at h.nodes p) && is_pdo (node_at h.nodes q))
      (and_from (ltb p q) (eqb c.out 0) (lt-ltb p q r.less)
      (ap (λ (d : Place). eqb d.out 0) read_at))
      (and_from (is_pdo (node_at h.nodes p)) (is_pdo (node_at h.nodes q)) (ap is_pdo r.keeper)
      (ap is_pdo r.other))

  pub reader_is_told : is_kth (outs (forest_at h p)) k c.node ≡ true
  reader_is_told =
      ap (λ (d : Place). is_kth (outs (forest_at h p)) k d.node) read_at
      ∙ is_told_kth (forest_at h p) k n r.has r.number
