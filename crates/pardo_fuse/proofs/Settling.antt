-- Nothing is left to fuse in the fused graph.
use Rattle.std.proofs.Common.{◌≡◌, ℕ, Bool, true, false, cond, ◌||◌, ◌&&◌, List, [], ◌∷◌, map, Option, Some, refl, sym, ap, ◌∙◌}
use Rattle.std.proofs.lemmas.Bool.{eqb-true, false≢true}
use Rattle.std.specs.List.{AllByRecursion}
use Rattle.exec_graph.specs.Forests.{Forest, numbered}
use Rattle.exec_graph.specs.declared.graph.Place.{Place}
use Rattle.exec_graph.specs.declared.graph.Node.{Node}
use Rattle.exec_graph.specs.declared.graph.Node.TheVariants.{Pdo}
use Rattle.exec_graph.specs.declared.graph.Entry.{Entry}
use Rattle.exec_graph.specs.Meaning.{node_at}
use Rattle.exec_graph.proofs.Entries.{all_found}
use Rattle.exec_graph.proofs.Solving.{each_found}
use Rattle.exec_graph.specs.declared.graph.Blocked.{Blocked}
use Rattle.pardo_fuse.specs.Readers.{Cut, cut_of, same_place, among, is_pdo, is_marked, is_unmarked, is_inner, readers}
use Rattle.pardo_fuse.specs.Fusing.{finished_entry, is_first, leads}
use Rattle.pardo_fuse.specs.SingleFusing.{CanFuse, forest_reading, fused_by, joined_nodes, entries_left, new_place}
use Rattle.pardo_fuse.specs.Wellformed.{IsSettled}
use Rattle.pardo_fuse.proofs.Places.{same_is, same_self}
use Rattle.pardo_fuse.proofs.Once.{AllGrown}
use Rattle.pardo_fuse.proofs.Levels.{all_grown}
use Rattle.pardo_fuse.proofs.Naming.{all_joined, all_cond}
use Rattle.pardo_fuse.proofs.Finding.{former, not_new, no_joined, joined_pdos, found_again, IsSeen}
use Rattle.pardo_fuse.proofs.Seeing.{leads_outer, leads_seen}
use Rattle.pardo_fuse.proofs.Wellness.{at_finished, done_node}
use Rattle.exec_graph.proofs.Bools.{or_right as right}

abbrev pub now : Cut → Place → Place
now b = new_place (joined_nodes b)

abbrev pub nodes_now : Cut → List Entry
nodes_now b = map (finished_entry (now b)) (joined_nodes b)

-- The Pdo n of the fused graph leads those that read c.
pub record IsLeader (b : Cut) (n : ℕ) (c : Place) : Type 0 where
  pub old : Forest
  pub at : node_at b.graph.nodes n ≡ Some (Pdo c old)
  pub leads : leads b n c ≡ true

abbrev Led : Cut → Entry → Type 0
Led b h =
    (c : Place) (f : Forest) → h.node ≡ Pdo c f → IsLeader b h.number c × (f ≡ forest_reading b c)

left_led : (b : Cut) (n : ℕ) (x : Node) → node_at b.graph.nodes n ≡ Some x
    → AllByRecursion (Led b) (entries_left b n x)
left_led b n (Pdo d g) at =
    all_cond (Led b) (leads b n d) (record { number = n; node = Pdo d (forest_reading b d) })
    (λ i c f e.
    let p : d ≡ c = cc in
    let q : forest_reading b d ≡ f = cc in (
      record {
        old = g;
        at = at ∙ ap (λ (x : Place). Some (Pdo x g)) p;
        leads =
            ap (leads b n) (sym p) ∙ i;
      },
      sym q ∙ ap (forest_reading b) p,
    ))
left_led b n _ at = (λ c f e. let bad : ⊥ = cc in absurd bad, tt)

pub record IsLed (b : Cut) (n : ℕ) (d : Place) (h : Forest) : Type 0 where
  pub from : Place
  pub leader : IsLeader b n from
  pub is : now b from ≡ d
  pub joined : node_at (joined_nodes b) n ≡ Some (Pdo from (forest_reading b from))
  pub forest : numbered 0 (forest_reading b from) ≡ h

done_pdo : (r : Place → Place) (o : Option Node) (d : Place) (h : Forest) → done_node r o
    ≡ Some (Pdo d h) → (c : Place) × (f : Forest) × (o ≡ Some (Pdo c f)) × (r c
    ≡ d) × (numbered 0 f ≡ h)
done_pdo r (Some (Pdo c f)) d h e = (c, f, refl, cc, cc)
done_pdo r _ d h e = let bad : ⊥ = cc in absurd bad

pub led : (b : Cut) → (can : CanFuse b) → (n : ℕ) (d : Place) (h : Forest)
    → node_at (nodes_now b) n ≡ Some (Pdo d h) → IsLed b n d h
led b can n d h at =
    let p = done_pdo (now b) (node_at (joined_nodes b) n) d h (sym (at_finished (now b)
    (joined_nodes b) n) ∙ at) in
    let q = all_found (Led b) (joined_nodes b) n (Pdo p.0 p.1) p.2 (all_joined b (Led b) (left_led
    b) b.graph.nodes (each_found b.graph.nodes can.ok.differ)) p.0 p.1 refl in
    record {
      from = p.0;
      leader = q.0;
      is = p.3;
      joined = p.2
          ∙ ap (λ (x : Forest). Some (Pdo p.0 x)) q.1;
      forest = ap (numbered 0) (sym q.1) ∙ p.4;
    }

pub leader_seen : (b : Cut) (n : ℕ) (c : Place) → CanFuse b → IsLeader b n c → IsSeen b c
leader_seen b n c can l = leads_seen b can n c l.old l.at l.leads

-- Collections that are still read stay apart.
pub now_apart : (b : Cut) (c d : Place) → CanFuse b → AllGrown b → IsSeen b c → IsSeen b d
    → now b c ≡ now b d → c ≡ d
now_apart b c d can g s t e = sym (found_again b c can g s) ∙ ap (former (joined_nodes b)) e
    ∙ found_again b d can g t

pub first_only : (n q : ℕ) (xs : List ℕ) → is_first n xs ≡ true → is_first q xs ≡ true → n ≡ q
first_only n q [] h i = absurd (false≢true h)
first_only n q (x ∷ xs) h i = eqb-true n x h ∙ sym (eqb-true q x i)

pub leads_first : (b : Cut) (n : ℕ) (c : Place) → leads b n c ≡ true
    → is_first n (readers b.graph.nodes c) ≡ true
leads_first b n c h = by (is_inner b c) h
  where
    by : (r : Bool) → cond r false (is_first n (readers b.graph.nodes c)) ≡ true
        → is_first n (readers b.graph.nodes c) ≡ true
    by true i = absurd (false≢true i)
    by false i = i

pub one_leader : (b : Cut) (n q : ℕ) (c d : Place) → IsLeader b n c → IsLeader b q d → c ≡ d → n ≡ q
one_leader b n q c d l m e = first_only n q (readers b.graph.nodes c) (leads_first b n c l.leads)
    (ap (λ (x : Place). is_first q (readers b.graph.nodes x)) e ∙ leads_first b q d m.leads)

pub among_map : (r : Place → Place) (c : Place) (ds : List Place) → among c ds ≡ true
    → among (r c) (map r ds) ≡ true
among_map r c [] h = h
among_map r c (d ∷ ds) h = by (among_map r c ds) (same_place c d) refl h
  where
    by : (among c ds ≡ true → among (r c) (map r ds) ≡ true) → (t : Bool) → same_place c d ≡ t
        → (t || among c ds) ≡ true → (same_place (r c) (r d) || among (r c) (map r ds)) ≡ true
    by f true e i = rw (ap (λ (x : Place). same_place (r c) (r x)) (sym (same_is c d e))
        ∙ same_self (r c)) refl
    by f false e i = right (same_place (r c) (r d)) (among (r c) (map r ds)) (f i)

done_pdos : (b : Cut) (n : ℕ) → CanFuse b → is_pdo (node_at b.graph.nodes n) ≡ false
    → is_pdo (node_at (nodes_now b) n) ≡ false
done_pdos b n can h = ap is_pdo (at_finished (now b) (joined_nodes b) n)
    ∙ by (node_at (joined_nodes b) n) refl
  where
    by : (o : Option Node) → node_at (joined_nodes b) n ≡ o → is_pdo (done_node (now b) o) ≡ false
    by (Some (Pdo c f)) e = absurd (false≢true (sym h ∙ joined_pdos b n c f can e))
    by _ e = refl

marked_by : (m : Bool) → cond m false true ≡ false → m ≡ true
marked_by true h = refl
marked_by false h = absurd (false≢true (sym h))

no_and : (a : Bool) → (a && false) ≡ false
no_and true = refl
no_and false = refl

outer_by : (a : Blocked) (c : Place) → CanFuse (cut_of a) → AllGrown (cut_of a) → is_unmarked a c
    ≡ false → (r : Bool) → is_pdo (node_at a.graph.nodes c.node) ≡ r
    → (is_pdo (node_at (nodes_now (cut_of a)) (now (cut_of a) c).node) && cond (among (now (cut_of
    a) c) (map (now (cut_of a)) a.marks)) false true) ≡ false
outer_by a c can g h true e =
    ap (λ (m : Bool). is_pdo (node_at (nodes_now (cut_of a)) (now (cut_of a) c).node) && cond m
    false true) (among_map (now (cut_of a)) c a.marks (marked_by (is_marked a c) (sym (ap (λ (r
    : Bool). r && cond (is_marked a c) false true) e) ∙ h)))
    ∙ no_and (is_pdo (node_at (nodes_now (cut_of a)) (now (cut_of a) c).node))
outer_by a c can g h false e = ap (λ (r : Bool). r && cond (among (now (cut_of a) c) (map (now
    (cut_of a)) a.marks)) false true) (ap (λ (x : Place). is_pdo (node_at (nodes_now (cut_of a))
    x.node)) (not_new c (joined_nodes (cut_of a)) (no_joined (cut_of a) c.node can g e))
    ∙ done_pdos (cut_of a) c.node can e)

pub IsSettled-fused_by : (a : Blocked) → CanFuse (cut_of a) → IsSettled (fused_by (cut_of a))
unfolding fused_by
IsSettled-fused_by a can =
    let b : Cut = cut_of a in
    let g : AllGrown b = all_grown b can in
    record {
      outer = λ n c f at.
          let l = led b can n c f at in
          ap (λ (x : Place). is_pdo (node_at (nodes_now b) x.node) && cond (among x (map (now b)
          b.marks)) false true) (sym l.is) ∙ outer_by a l.from can g (leads_outer b n l.from
          l.leader.leads) (is_pdo (node_at b.graph.nodes l.from.node)) refl;
      apart = λ n q c f h at bt.
          let l = led b can n c f at in
          let m = led b can q c h bt in
          one_leader b n q l.from m.from l.leader m.leader (now_apart b l.from m.from can g
          (leader_seen b n l.from can l.leader) (leader_seen b q m.from can m.leader) (l.is
          ∙ sym m.is));
    }
