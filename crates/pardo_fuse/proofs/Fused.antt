-- What fusing keeps, where steps have several outputs: first with the numbers of the Pdos that are
-- read, and then with the least of those that become one.
use Rattle.std.specs.List.{list_all}
use Rattle.std.proofs.Common.{◌≡◌, ℕ, Bool, true, false, cond, eqb, List, [], ◌∷◌, map, Some, refl, sym, ap, ◌∙◌, subst}
use Rattle.exec_graph.specs.Meaning.{IsThere, KeepsMeaning, SameMeaning, node_at, place}
use Rattle.exec_graph.specs.Typing.{KeepsTypes}
use Rattle.exec_graph.specs.Wellformed.{Ascends, IsBlockedOk}
use Rattle.exec_graph.specs.declared.graph.Place.{Place}
use Rattle.exec_graph.specs.declared.graph.Node.{Node}
use Rattle.exec_graph.specs.declared.graph.Node.TheVariants.{Flatten, Barrier}
use Rattle.exec_graph.specs.declared.graph.Entry.{Entry}
use Rattle.exec_graph.specs.declared.graph.Blocked.{Blocked}
use Rattle.exec_graph.proofs.Entries.{entry}
use Rattle.exec_graph.proofs.Soundness.{IsSound-ok, SameMeaning-kept, differ_ascends}
use Rattle.graph_laws.specs.Joining.{reread}
use Rattle.graph_laws.proofs.Kids.{IsKept, KeepsMeaning-then}
use Rattle.pardo_fuse.specs.Readers.{Cut, cut_of}
use Rattle.pardo_fuse.specs.inner.Numbers.{least_from}
use Rattle.pardo_fuse.specs.Parting.{parted, parted_graph}
use Rattle.pardo_fuse.specs.Fusing.{fused, fused_by_parents, least_of}
use Rattle.pardo_fuse.specs.Renumbering.{at_number, entries_in_order, renumbered, renumbered_entry}
use Rattle.pardo_fuse.specs.SingleFusing.{fused_by}
use Rattle.pardo_fuse.proofs.Rejoining.{joined_is}
use Rattle.pardo_fuse.specs.Wellformed.{HasLaterKids, IsFusible, IsSettled}
use Rattle.pardo_fuse.proofs.BlockedOk.{IsBlockedOk-fused_by}
use Rattle.pardo_fuse.proofs.Leasts.{least_told, stay_told}
use Rattle.pardo_fuse.proofs.Meaning.{KeepsMeaning-fused}
use Rattle.pardo_fuse.proofs.Members.{apart_least, least_stays, low_least}
use Rattle.pardo_fuse.proofs.PartedMeaning.{KeepsMeaning-parted, KeepsTypes-parted}
use Rattle.pardo_fuse.proofs.PartedNodes.{can_fuse, can_part}
use Rattle.pardo_fuse.proofs.PartedOk.{cut_ok}
use Rattle.pardo_fuse.proofs.OtherNumbers.{AreApart, former}
use Rattle.pardo_fuse.proofs.Carried.{there}
use Rattle.pardo_fuse.proofs.Renumbered.{is_moved}
use Rattle.pardo_fuse.proofs.RenumberedMarks.{blocked_kept, graph_kept, settled_kept}
use Rattle.pardo_fuse.proofs.Settling.{IsSettled-fused_by}
use Rattle.pardo_fuse.proofs.Sorting.{order_same}
use Rattle.pardo_fuse.proofs.Typed.{KeepsTypes-fused}

-- ---- by parents
pub IsBlockedOk-parents : (a : Blocked) → IsFusible a → IsBlockedOk (fused_by_parents a)
IsBlockedOk-parents a fu = subst IsBlockedOk (sym (joined_is a fu))
    (IsBlockedOk-fused_by (cut_of (parted a)) (can_fuse a fu) (cut_ok a fu))

KeepsMeaning-parents : (a : Blocked) → IsFusible a
    → KeepsMeaning a.graph (fused_by_parents a).graph
KeepsMeaning-parents a fu =
    subst (λ (d : Blocked). KeepsMeaning a.graph d.graph) (sym (joined_is a fu))
    (KeepsMeaning-then a.graph (parted_graph a.graph) (fused_by (cut_of (parted a))).graph
    (KeepsMeaning-parted a.graph (can_part a fu))
    (KeepsMeaning-fused (cut_of (parted a)) (can_fuse a fu)))

KeepsTypes-parents : (a : Blocked) → IsFusible a → KeepsTypes a.graph (fused_by_parents a).graph
KeepsTypes-parents a fu =
    subst (λ (d : Blocked). KeepsTypes a.graph d.graph) (sym (joined_is a fu))
    (λ s t. KeepsTypes-fused (cut_of (parted a)) (can_fuse a fu) s
    (KeepsTypes-parted a.graph (can_part a fu) s t))

IsSettled-parents : (a : Blocked) → IsFusible a → IsSettled (fused_by_parents a)
IsSettled-parents a fu = subst IsSettled (sym (joined_is a fu))
    (IsSettled-fused_by (parted a) (can_fuse a fu))

-- ---- under the least numbers
module _ (a : Blocked) (fu : IsFusible a) where
  abbrev l : ℕ → ℕ
  l = least_of (cut_of a)

  abbrev p : Blocked
  p = fused_by_parents a

  good : IsBlockedOk p
  good = IsBlockedOk-parents a fu

  apart : AreApart l p.graph.nodes
  apart = apart_least a (differ_ascends a.graph.nodes fu.ok.ok.founded.ascends)

  kept : IsKept p.graph (fused a).graph
  kept = graph_kept p l good apart (low_least (cut_of a))

  -- what is there is there under its least number
  pub at_fused : (n : ℕ) (z : Node) → node_at p.graph.nodes n ≡ Some z
      → node_at (fused a).graph.nodes (l n) ≡ Some (reread (at_number l) z)
  at_fused = (is_moved p.graph l (IsSound-ok p.graph good.ok) apart).at_new

  pub there_fused : (c : Place) → IsThere p.graph.nodes c
      → IsThere (fused a).graph.nodes (at_number l c)
  there_fused =
      let ok = IsSound-ok p.graph good.ok in
      there p.graph l (former l p.graph.nodes) (fused a).graph.nodes ok
      (is_moved p.graph l ok apart)

  pub IsBlockedOk-fused : IsBlockedOk (fused a)
  IsBlockedOk-fused = blocked_kept p l good apart (low_least (cut_of a))

  pub SameMeaning-fused : SameMeaning a.graph (fused a).graph
  SameMeaning-fused =
      SameMeaning-kept a.graph (fused a).graph fu.ok.ok IsBlockedOk-fused.ok
      (KeepsMeaning-then a.graph p.graph (fused a).graph (KeepsMeaning-parents a fu) kept.keeps)

  pub KeepsTypes-fused_all : KeepsTypes a.graph (fused a).graph
  KeepsTypes-fused_all s t = kept.types s (KeepsTypes-parents a fu s t)

  pub IsSettled-fused : IsSettled (fused a)
  IsSettled-fused =
      settled_kept p l good apart (low_least (cut_of a)) (IsSettled-parents a fu)

-- ---- where no number changes
same_places : (cs : List Place) → map (at_number (λ n. n)) cs ≡ cs
same_places [] = refl
same_places (c ∷ cs) = ap (λ (l : List Place). c ∷ l) (same_places cs)

same_node : (z : Node) → reread (at_number (λ n. n)) z ≡ z
same_node (Flatten ins) = ap Flatten (same_places ins)
same_node (Barrier ins o l a) = ap (λ (cs : List Place). Barrier cs o l a) (same_places ins)
same_node _ = refl

same_entries : (es : List Entry) → map (renumbered_entry (λ n. n)) es ≡ es
same_entries [] = refl
same_entries (e ∷ es) =
    ap (λ (z : Node). entry e.number z ∷ map (renumbered_entry (λ n. n)) es) (same_node e.node)
    ∙ ap (λ (l : List Entry). e ∷ l) (same_entries es)

abbrev made : ℕ → List Entry → List Place → List Place → Blocked
made next es outputs marks =
    record { graph = record { nodes = es; outputs = outputs; next = next }; marks = marks }

-- the same numbers
pub same_numbers : (b : Blocked) → Ascends b.graph.nodes → (l : ℕ → ℕ) → ((n : ℕ) → l n ≡ n)
    → renumbered l b ≡ b
same_numbers b u l e =
    let r : ℕ → ℕ = λ n. n in
    let es : List Entry = b.graph.nodes in
    let nodes : entries_in_order (map (renumbered_entry r) es) ≡ es =
    ap entries_in_order (same_entries es) ∙ order_same es u in
    ap (λ (f : ℕ → ℕ). renumbered f b) (λ i. λ n. e n i)
    ∙ ap (λ (x : List Entry). made b.graph.next x (map (at_number r) b.graph.outputs)
    (map (at_number r) b.marks)) nodes
    ∙ ap (λ (x : List Place). made b.graph.next es x (map (at_number r) b.marks))
    (same_places b.graph.outputs)
    ∙ ap (made b.graph.next es b.graph.outputs) (same_places b.marks)

pub later_same : (a : Blocked) → IsFusible a → HasLaterKids a
    → fused a ≡ fused_by_parents a
later_same a fu late =
    same_numbers (fused_by_parents a) (IsBlockedOk-parents a fu).ok.founded.ascends
    (least_of (cut_of a))
    (least_stays (cut_of a) fu.ok.ok.founded.ascends
    (differ_ascends a.graph.nodes fu.ok.ok.founded.ascends)
    (λ n q j inner (f, at). late q (place n j) f at inner))

-- ---- with a table of the numbers
pub under_least : (a : Blocked) → IsFusible a → (r : ℕ → ℕ) (p : Blocked) (stay : Bool)
    → p ≡ fused_by_parents a → ((n : ℕ) → r n ≡ least_from (cut_of a) a.graph.nodes n)
    → stay ≡ list_all (λ (e : Entry). eqb (r e.number) e.number) a.graph.nodes
    → cond stay p (renumbered r p) ≡ fused a
under_least a fu r p stay is told all =
    ap (λ (q : Blocked). cond stay q (renumbered r q)) is ∙ by stay all
  where
    b : Cut
    b = cut_of a

    whole : Blocked
    whole = fused_by_parents a

    least : renumbered r whole ≡ fused a
    least = ap (λ (f : ℕ → ℕ). renumbered f whole) (λ i. λ n. (told n ∙ least_told b n) i)

    by : (t : Bool) → t ≡ list_all (λ (e : Entry). eqb (r e.number) e.number) a.graph.nodes
        → cond t whole (renumbered r whole) ≡ fused a
    by true e =
        sym (same_numbers whole (IsBlockedOk-parents a fu).ok.founded.ascends r
        (λ n. stay_told b r a.graph.nodes (sym e) n (told n))) ∙ least
    by false e = least
