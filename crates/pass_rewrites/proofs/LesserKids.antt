-- Kids under the lesser numbers, as rewrites: they lead where kids under the parents' numbers do,
-- but for the numbers at the end.
use Rattle.std.proofs.Common.{◌≡◌, ℕ, ◌<◌, ◌≤◌, Bool, true, false, cond, ltb, List, [], ◌∷◌, map, Some, refl, sym, ap, ap₂, ◌∙◌, subst, arith}
use Rattle.std.specs.List.{AllByRecursion as Each}
use Rattle.std.proofs.lemmas.Bool.{false≢true}
use Rattle.exec_graph.specs.Forests.{Forest}
use Rattle.exec_graph.specs.Meaning.{IsSound, IsThere, node_at, place, reads}
use Rattle.exec_graph.specs.Wellformed.{IsGraphOk}
use Rattle.exec_graph.specs.declared.graph.Graph.{Graph}
use Rattle.exec_graph.specs.declared.graph.Entry.{Entry}
use Rattle.exec_graph.specs.declared.graph.Node.{Node}
use Rattle.exec_graph.specs.declared.graph.Node.TheVariants.{Source, Flatten, Pdo, Gbk, Barrier}
use Rattle.exec_graph.specs.declared.graph.Place.{Place}
use Rattle.exec_graph.proofs.Entries.{entry}
use Rattle.exec_graph.proofs.Solving.{each_found, gives_found}
use Rattle.exec_graph.proofs.Soundness.{IsSound-ok}
use Rattle.fuse_chain.specs.Numbers.{numbers_after_kid, after_kids, other_of_two}
use Rattle.fuse_chain.specs.Rewrites.{IsKid, FusesTo as Fuses, Fusion, is_sibling}
use Rattle.fuse_chain.specs.Rewrites as fusion
use Rattle.fuse_chain.proofs.Keeping.{lead_good}
use Rattle.fuse_chain.proofs.LeastSteps.{two_twice}
use Rattle.fusion_blocks.specs.Blocks.{unmarked}
use Rattle.graph_laws.specs.Joining.{reread}
use Rattle.graph_laws.specs.Kids.{CanKid, with_kid}
use Rattle.graph_laws.proofs.Wellness.{mapped, reads_lower}
use Rattle.graph_rewrites.specs.Exchange.{other_number, swapped}
use Rattle.graph_rewrites.specs.Replays.{Leads}
use Rattle.graph_rewrites.specs.Rewrites.{forest_at, input_at, kid_under, kid_under_other, rewritten}
use Rattle.fuse_chain.specs.of_pardo_fuse.Renumbering.{at_number, entries_in_order, renumbered_entry, renumbered_graph}
use Rattle.pass_rewrites.specs.Passes.{as_rewrite, present_fusions}
use Rattle.pass_rewrites.proofs.Fusing.{forest_is, input_is, kid_can, kid_made}
use Rattle.pass_rewrites.proofs.Lesser.{KeepsAll, kid_kept, kid_other, node_under}

-- ---- one kid
module _ (g h : Graph) (l : ℕ → ℕ) (keeps : KeepsAll l) (ok : IsSound g) (p k q : ℕ)
    (m : IsKid g p k q h) where
  abbrev x : Place → Place
  x = at_number l

  abbrev now : Graph
  now = renumbered_graph l g

  abbrev c : Place
  c = x m.source

  differ : p ≡ q → ⊥
  differ e =
      let r : ℕ → ℕ = ok.ranked.0 in
      let low : r p < r q = reads_lower g q (place p k) m.far r m.can.other ok.ranked.1 in
      let same : r p ≡ r q = ap r e in
      omega arith

  at_p : node_at now.nodes (l p) ≡ Some (Pdo c m.near)
  at_p = node_under l keeps g ok.differ p ∙ ap (mapped x) m.can.keeper

  at_q : node_at now.nodes (l q) ≡ Some (Pdo (place (l p) k) m.far)
  at_q = node_under l keeps g ok.differ q ∙ ap (mapped x) m.can.other

  abbrev made : Graph
  made = with_kid now (l p) k (l q) c m.near m.far

  kid_now : IsKid now (l p) k (l q) made
  kid_now = record {
    source = c;
    near = m.near;
    far = m.far;
    can = record { keeper = at_p; other = at_q };
    is = refl;
  }

  under : kid_under now (l p) k (l q) ≡ renumbered_graph l h
  under =
      kid_made (l p) k (l q) now made kid_now
      ∙ kid_kept g l keeps ok.differ p k q m.source m.near m.far
      ∙ ap (renumbered_graph l) m.is

  abbrev exchanged_kid : Place → Forest → Forest → Graph
  exchanged_kid y u v =
      with_kid (swapped now (l p) (l q) y (place (l p) k) u v) (l q) k (l p) y u v

  under_other : kid_under_other now (l p) k (l q)
      ≡ renumbered_graph (λ n. other_of_two (l p) (l q) (l n)) h
  under_other =
      sym (ap (λ (y : Place). exchanged_kid y m.near m.far) (input_is now (l p) c m.near at_p)
      ∙ ap (λ (u : Forest). exchanged_kid (input_at now (l p)) u m.far)
      (forest_is now (l p) c m.near at_p)
      ∙ ap (λ (v : Forest). exchanged_kid (input_at now (l p)) (forest_at now (l p)) v)
      (forest_is now (l q) (place (l p) k) m.far at_q))
      ∙ kid_other g l keeps ok p k q m.source m.near m.far m.can.keeper m.can.other
      ∙ ap (renumbered_graph (λ n. other_number (l p) (l q) (l n))) m.is

  pub kid_renumbered : rewritten now (as_rewrite (fusion.Kid (l p) k (l q)))
      ≡ renumbered_graph (numbers_after_kid l p q) h
  kid_renumbered = by (ltb (l q) (l p))
    where
      by : (t : Bool)
          → cond t (kid_under_other now (l p) k (l q)) (kid_under now (l p) k (l q))
          ≡ renumbered_graph (λ n. cond t (other_of_two (l p) (l q) (l n)) (l n)) h
      by true = under_other
      by false = under

  pub kid_allowed : CanKid now (l p) k (l q) (input_at now (l p)) (forest_at now (l p))
      (forest_at now (l q))
  kid_allowed = kid_can (l p) k (l q) now made kid_now

  pub keeps_after : KeepsAll (numbers_after_kid l p q)
  keeps_after i j e = keeps i j (by (ltb (l q) (l p)) e)
    where
      by : (t : Bool)
          → cond t (other_of_two (l p) (l q) (l i)) (l i)
          ≡ cond t (other_of_two (l p) (l q) (l j)) (l j)
          → l i ≡ l j
      by true y =
          sym (two_twice (l p) (l q) (l i) (λ z. differ (keeps p q z)))
          ∙ ap (other_of_two (l p) (l q)) y
          ∙ two_twice (l p) (l q) (l j) (λ z. differ (keeps p q z))
      by false y = y

-- ---- kids one after another
pub kids_renumbered : (rs : List Fusion) (g h : Graph) (l : ℕ → ℕ) → KeepsAll l → IsGraphOk g
    → Each (λ r. is_sibling r ≡ false) rs → Fuses rs g h
    → Leads 2 (map as_rewrite (present_fusions l rs)) (unmarked (renumbered_graph l g))
    (unmarked (renumbered_graph (after_kids rs l) h))
kids_renumbered [] g h l keeps ok all f = ap (λ (x : Graph). unmarked (renumbered_graph l x)) f
kids_renumbered (fusion.Kid p k q ∷ rs) g h l keeps ok all f =
    let sound : IsSound g = IsSound-ok g ok in
    let new : ℕ → ℕ = numbers_after_kid l p q in
    let rest : Leads 2 (map as_rewrite (present_fusions new rs))
    (unmarked (renumbered_graph new f.0))
    (unmarked (renumbered_graph (after_kids rs new) h)) =
    kids_renumbered rs f.0 h new (keeps_after g f.0 l keeps sound p k q f.1)
    (lead_good (fusion.Kid p k q ∷ []) g f.0 ok (f.0, f.1, refl)).formed all.1 f.2 in (
      (let at : 2 ≤ 2 = omega arith in at, kid_allowed g f.0 l keeps sound p k q f.1),
      subst (λ (x : Graph). Leads 2 (map as_rewrite (present_fusions new rs)) (unmarked x)
          (unmarked (renumbered_graph (after_kids rs new) h)))
          (sym (kid_renumbered g f.0 l keeps sound p k q f.1)) rest,
    )
kids_renumbered (fusion.Sibling p q ∷ rs) g h l keeps ok all f =
    absurd (false≢true (sym all.0))

-- ---- numbers that agree on the nodes that are there
module _ (g : Graph) (ok : IsSound g) (l m : ℕ → ℕ)
    (agree : (n : ℕ) (z : Node) → node_at g.nodes n ≡ Some z → l n ≡ m n) where
  place_agrees : (c : Place) → IsThere g.nodes c → at_number l c ≡ at_number m c
  place_agrees c t =
      let z = gives_found (node_at g.nodes c.node) c.out t in
      ap (λ (n : ℕ). place n c.out) (agree c.node z.0 z.1)

  places_agree : (cs : List Place) → Each (IsThere g.nodes) cs
      → map (at_number l) cs ≡ map (at_number m) cs
  places_agree [] a = refl
  places_agree (c ∷ cs) a =
      ap₂ (λ (d : Place) (ds : List Place). d ∷ ds) (place_agrees c a.0) (places_agree cs a.1)

  node_agrees : (z : Node) → Each (IsThere g.nodes) (reads z)
      → reread (at_number l) z ≡ reread (at_number m) z
  node_agrees (Source s) a = refl
  node_agrees (Flatten ins) a = ap Flatten (places_agree ins a)
  node_agrees (Pdo c f) a = ap (λ (d : Place). Pdo d f) (place_agrees c a.0)
  node_agrees (Gbk c o i k) a = ap (λ (d : Place). Gbk d o i k) (place_agrees c a.0)
  node_agrees (Barrier ins o i d) a =
      ap (λ (cs : List Place). Barrier cs o i d) (places_agree ins a)

  entries_agree : (es : List Entry) → Each (λ e. node_at g.nodes e.number ≡ Some e.node) es
      → Each (λ e. Each (IsThere g.nodes) (reads e.node)) es
      → map (renumbered_entry l) es ≡ map (renumbered_entry m) es
  entries_agree [] a b = refl
  entries_agree (e ∷ es) a b =
      ap₂ (λ (d : Entry) (ds : List Entry). d ∷ ds)
      (ap₂ (λ (n : ℕ) (z : Node). entry n z) (agree e.number e.node a.0) (node_agrees e.node b.0))
      (entries_agree es a.1 b.1)

  pub numbers_agree : renumbered_graph l g ≡ renumbered_graph m g
  numbers_agree =
      ap₂ (λ (es : List Entry) (cs : List Place). let h : Graph = record {
        nodes = es;
        outputs = cs;
        next = g.next;
      } in h)
      (ap entries_in_order (entries_agree g.nodes (each_found g.nodes ok.differ) ok.there))
      (places_agree g.outputs ok.told)
