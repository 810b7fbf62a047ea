-- A sibling under names.
use Rattle.std.proofs.Common.{◌≡◌, ℕ, ◌<◌, Bool, true, Option, Some, None, inl, inr, refl, sym, ap, ap₂, ◌∙◌, subst, arith}
use Rattle.std.specs.List.{AllByRecursion}
use Rattle.flume_value.proofs.EachLemmas.{Each-weaker}
use Rattle.exec_graph.specs.Forests.{Forest, Bare, Grow, with_out}
use Rattle.exec_graph.specs.Meaning.{IsSound, has_out, node_at, place, reads}
use Rattle.exec_graph.specs.Readers.{is_read}
use Rattle.exec_graph.specs.declared.graph.Entry.{Entry}
use Rattle.exec_graph.specs.declared.graph.Graph.{Graph}
use Rattle.exec_graph.specs.declared.graph.Node.TheVariants.{Pdo}
use Rattle.exec_graph.specs.declared.graph.Place.{Place}
use Rattle.exec_graph.proofs.Bools.{or_cases}
use Rattle.exec_graph.proofs.Entries.{all_found}
use Rattle.graph_laws.specs.Joining.{beside, without}
use Rattle.graph_laws.specs.Kids.{kept_by, out_kept}
use Rattle.graph_laws.proofs.Changes.{all_set, all_without}
use Rattle.graph_laws.proofs.Disjoint.{has_out-beside}
use Rattle.fuse_chain.specs.of_pardo_fuse.Fusing.{holds_out}
use Rattle.fuse_chain.specs.Rewrites.{IsSibling}
use Rattle.fuse_chain.proofs.NextStates.{IsJoin, next_state}
use Rattle.fuse_chain.proofs.Rewriting.{sibling_join, sibling_step}
use Rattle.fuse_chain.proofs.SiblingSteps.{uses_alike}
use Rattle.fuse_chain.proofs.States as states
use Rattle.graph_names.specs.Names.{unnamed}
use Rattle.graph_states.specs.States.{IsFine, Stands, taken_in}

-- ---- states, as fuse_chain has them

pub state_of : (h : Graph) → Stands h → states.IsState h.nodes h.outputs
state_of h s = record {
  differ = s.differ;
  apart = s.apart;
  owner = s.owner;
  owned = s.owned;
  fine = Each-weaker (λ (e : Entry). AllByRecursion (IsFine h.nodes) (reads e.node))
      (λ (e : Entry). AllByRecursion (states.IsFine h.nodes) (reads e.node))
      (λ e a. told e a) h.nodes s.fine;
  told = Each-weaker (IsFine h.nodes) (states.IsFine h.nodes)
      (λ y a. record { there = a.there; other = a.other }) h.outputs s.told;
}
  where
    told : (e : Entry) → AllByRecursion (IsFine h.nodes) (reads e.node)
        → AllByRecursion (states.IsFine h.nodes) (reads e.node)
    told e a =
        Each-weaker (IsFine h.nodes) (states.IsFine h.nodes)
        (λ y b. record { there = b.there; other = b.other }) (reads e.node) a

pub stands_by : (h : Graph) → states.IsState h.nodes h.outputs
    → AllByRecursion (λ e. (i : ℕ) → holds_out i e.node ≡ true → is_read h (place i 0) ≡ true)
    h.nodes → Stands h
stands_by h s read = record {
  differ = s.differ;
  apart = s.apart;
  owner = s.owner;
  owned = s.owned;
  fine = Each-weaker (λ (e : Entry). AllByRecursion (states.IsFine h.nodes) (reads e.node))
      (λ (e : Entry). AllByRecursion (IsFine h.nodes) (reads e.node))
      (λ e a. told e a) h.nodes s.fine;
  told = Each-weaker (states.IsFine h.nodes) (IsFine h.nodes)
      (λ y a. record { there = a.there; other = a.other }) h.outputs s.told;
  read = read;
}
  where
    told : (e : Entry) → AllByRecursion (states.IsFine h.nodes) (reads e.node)
        → AllByRecursion (IsFine h.nodes) (reads e.node)
    told e a =
        Each-weaker (states.IsFine h.nodes) (IsFine h.nodes)
        (λ y b. record { there = b.there; other = b.other }) (reads e.node) a

-- ---- all is kept

abbrev all : ℕ → Bool
all j = true

out_all : (o : Option ℕ) → out_kept all o ≡ o
out_all None = refl
out_all (Some j) = refl

kept_all : (f : Forest) → kept_by all f ≡ f
kept_all Bare = refl
kept_all (Grow l kids rest) =
    ap (λ (o : Option ℕ). Grow (with_out o l) (kept_by all kids) (kept_by all rest))
    (out_all l.out)
    ∙ ap₂ (λ (k r : Forest). Grow l k r) (kept_all kids) (kept_all rest)

module _ (h : Graph) (p q : ℕ) (c : Place) (f i : Forest) (s : Stands h) (less : p < q)
    (at : node_at h.nodes p ≡ Some (Pdo c f)) (bt : node_at h.nodes q ≡ Some (Pdo c i)) where
  abbrev new : Forest
  new = beside f i

  abbrev IsRead : Entry → Type 0
  IsRead e = (j : ℕ) → holds_out j e.node ≡ true → is_read h (place j 0) ≡ true

  abbrev st : states.IsState h.nodes h.outputs
  st = state_of h s

  differ : p ≡ q → ⊥
  differ e = omega arith

  join : IsJoin h.nodes p q c c f i (beside f i)
  join = sibling_join h.nodes h.outputs p q c f i (state_of h s) at bt differ

  read_new : (j : ℕ) → has_out j (beside f i) ≡ true → is_read h (place j 0) ≡ true
  read_new j x = elim (or_cases (has_out j f) (has_out j i) (sym (has_out-beside j f i) ∙ x)) [
    | inl a ↦ all_found IsRead h.nodes p (Pdo c f) at s.read j a
    | inr b ↦ all_found IsRead h.nodes q (Pdo c i) bt s.read j b
  ]

  pub sibling_is : IsSound (unnamed h)
      → IsSibling (unnamed h) p q (unnamed (taken_in h p q c (beside f i)))
  sibling_is sound =
      subst (λ (x : Forest). IsSibling (unnamed h) p q (unnamed (taken_in h p q c x)))
      (kept_all (beside f i))
      (sibling_step h.nodes h.outputs h.next p q c f i all (state_of h s) sound at bt less
      (λ j x. sym (uses_alike h.nodes h.outputs p q c f i (kept_by all (beside f i)) (place j 0)
      at bt differ ∙ read_new j x)))

  next : states.IsState (taken_in h p q c (beside f i)).nodes h.outputs
  next =
      subst (λ (x : Forest). states.IsState (taken_in h p q c x).nodes h.outputs)
      (kept_all (beside f i))
      (next_state h.nodes h.outputs p q c c f i (beside f i) all (state_of h s) join
      (λ j x y. refl))

  read_then : (j : ℕ) → is_read h (place j 0) ≡ true
      → is_read (taken_in h p q c (beside f i)) (place j 0) ≡ true
  read_then j x =
      uses_alike h.nodes h.outputs p q c f i (beside f i) (place j 0) at bt differ ∙ x

  abbrev IsReadThen : Entry → Type 0
  IsReadThen e = (j : ℕ) → holds_out j e.node ≡ true
      → is_read (taken_in h p q c (beside f i)) (place j 0) ≡ true

  pub stands_then : Stands (taken_in h p q c (beside f i))
  stands_then =
      stands_by (taken_in h p q c (beside f i)) next
      (all_set IsReadThen (without h.nodes q) p (Pdo c (beside f i))
      (all_without IsReadThen h.nodes q (Each-weaker IsRead IsReadThen
      (λ e a j x. read_then j (a j x)) h.nodes s.read))
      (λ j x. read_then j (read_new j x)))
