-- Other marks on Gbks keep a graph's meaning: no definition of the meaning reads them.
use Rattle.std.proofs.Common.{◌≡◌, ℕ, ◌<◌, ◌≤◌, Bool, true, false, cond, eqb, ◌||◌, List, [], ◌∷◌, Option, Some, None, map, refl, sym, ap, ◌∙◌, subst}
use Rattle.std.specs.List.{flat_map, AllByRecursion}
use Rattle.std.proofs.lemmas.Bool.{eqb-true}
use Rattle.std.proofs.lemmas.List.Folds.{flat_map-map}
use Rattle.combine_table.specs.declared.comb.Comb.{Comb}
use Rattle.exec_graph.specs.of_flume_types.declared.types.Ty.{Ty}
use Rattle.combine_table.specs.of_flume_value.Bag.{bag_of}
use Rattle.exec_graph.specs.of_flume_collection.declared.trap.Trap.{Trap}
use Rattle.exec_graph.specs.of_flume_collection.Traps.{trap_le}
use Rattle.exec_graph.specs.of_flume_collection.Sets.{set_of}
use Rattle.exec_graph.specs.Objects.{takes_such}
use Rattle.exec_graph.proofs.Entries.{map_same}
use Rattle.exec_graph.specs.Wellformed.{HaveObjects, has_objects, is_object, is_object_at, comb_at, IsLiftedOk, IsNodeOk, size, total_size, Ascends, IsGraphOk, most_nodes}
use Rattle.exec_graph.specs.Meaning.{place, Holds, own, traps, node_at, reads, gives, gives_at, IsThere, KeepsMeaning, SameMeaning}
use Rattle.exec_graph.specs.of_flume_collection.Collection.{Collection}
use Rattle.exec_graph.specs.World.{World}
use Rattle.exec_graph.specs.Readers.{among, calls_on, collects, any_node, those, readers, uses, is_read}
use Rattle.exec_graph.specs.Typing.{KeepsTypes, NodeTyped, Signatures}
use Rattle.graph_laws.specs.Lifting.{marked, marked_entry, remarked, only_comb, lift_of, lifted, lifted_at}
use Rattle.exec_graph.proofs.Entries.{all_map}
use Rattle.exec_graph.proofs.Soundness.{SameMeaning-kept}
use Rattle.exec_graph.specs.declared.graph.Place.{Place}
use Rattle.exec_graph.specs.declared.graph.Node.{Node}
use Rattle.exec_graph.specs.declared.graph.Node.TheVariants.{Source, Flatten, Pdo, Gbk, Barrier}
use Rattle.exec_graph.specs.declared.graph.Entry.{Entry}
use Rattle.exec_graph.specs.declared.graph.Graph.{Graph}
use Rattle.combine_table.proofs.of_flume_value.EachLemmas.{Each-weaker}

-- ---- what does not see a mark
pub reads-marked : (h : Option Comb → Option Comb) (x : Node) → reads (marked h x) ≡ reads x
reads-marked h (Source r) = refl
reads-marked h _ = refl

own-marked : (w : World) (m : Place → Collection) (i : ℕ) (h : Option Comb → Option Comb) (x : Node)
    → own w m i (marked h x) ≡ own w m i x
own-marked w m i h (Source r) = refl
own-marked w m i h _ = refl

traps-marked : (w : World) (m : Place → Collection) (h : Option Comb → Option Comb) (x : Node)
    → traps w m (marked h x) ≡ traps w m x
traps-marked w m h (Source r) = refl
traps-marked w m h _ = refl

holds-marked : (w : World) (m : Place → Collection) (n : ℕ) (h : Option Comb → Option Comb)
    (x : Node) → Holds w m n x → Holds w m n (marked h x)
holds-marked w m n h (Source r) a = a
holds-marked w m n h _ a = a

gives-marked : (h : Option Comb → Option Comb) (x : Node) (j : ℕ) → gives (marked h x) j ≡ gives x j
gives-marked h (Source r) j = refl
gives-marked h _ j = refl

size-marked : (h : Option Comb → Option Comb) (x : Node) → size (marked h x) ≡ size x
size-marked h (Source r) = refl
size-marked h _ = refl

pub calls-marked : (c : Place) (h : Option Comb → Option Comb) (x : Node)
    → calls_on c (marked h x) ≡ calls_on c x
calls-marked c h (Source r) = refl
calls-marked c h _ = refl

pub collects-marked : (c : Place) (h : Option Comb → Option Comb) (x : Node)
    → collects c (marked h x) ≡ collects c x
collects-marked c h (Source r) = refl
collects-marked c h _ = refl

root-marked : (h : Option Comb → Option Comb) (x : Node)
    → comb_at (Some (marked h x)) ≡ comb_at (Some x)
root-marked h (Source r) = refl
root-marked h _ = refl

object-marked : (h : Option Comb → Option Comb) (x : Node)
    → is_object (Some (marked h x)) ≡ is_object (Some x)
object-marked h (Source r) = refl
object-marked h _ = refl

-- ---- lists of nodes
abbrev pub marked_at : (Option Comb → Option Comb) → Option Node → Option Node
marked_at h None = None
marked_at h (Some x) = Some (marked h x)

pub node_at-marked : (s : ℕ → Option Comb → Option Comb) (es : List Entry) (n : ℕ)
    → node_at (map (marked_entry s) es) n ≡ marked_at (s n) (node_at es n)
node_at-marked s [] n = refl
node_at-marked s (e ∷ es) n = by (node_at-marked s es n) (eqb e.number n) refl
  where
    by : node_at (map (marked_entry s) es) n ≡ marked_at (s n) (node_at es n) → (r : Bool)
        → eqb e.number n ≡ r → cond r (Some (marked (s e.number) e.node))
        (node_at (map (marked_entry s) es) n)
        ≡ marked_at (s n) (cond r (Some e.node) (node_at es n))
    by f true i = ap (λ (k : ℕ). Some (marked (s k) e.node)) (eqb-true e.number n i)
    by f false i = f

pub any-marked : (t : Node → Bool) → ((h : Option Comb → Option Comb) (x : Node) → t (marked h x)
    ≡ t x)
    → (s : ℕ → Option Comb → Option Comb) (es : List Entry)
    → any_node t (map (marked_entry s) es) ≡ any_node t es
any-marked t h s [] = refl
any-marked t h s (e ∷ es) = let i = any-marked t h s es in let j = h (s e.number) e.node in cc

pub those-marked : (t : Node → Bool) → ((h : Option Comb → Option Comb) (x : Node)
    → t (marked h x) ≡ t x) → (s : ℕ → Option Comb → Option Comb) (es : List Entry)
    → those t (map (marked_entry s) es) ≡ those t es
those-marked t h s [] = refl
those-marked t h s (e ∷ es) = let i = those-marked t h s es in let j = h (s e.number) e.node in cc

size-all : (s : ℕ → Option Comb → Option Comb) (es : List Entry)
    → total_size (map (marked_entry s) es) ≡ total_size es
size-all s [] = refl
size-all s (e ∷ es) = let i = size-all s es in let j = size-marked (s e.number) e.node in cc

ascends-marked : (s : ℕ → Option Comb → Option Comb) (es : List Entry) → Ascends es
    → Ascends (map (marked_entry s) es)
ascends-marked s [] a = tt
ascends-marked s (e ∷ es) a = (
  all_map (marked_entry s) (λ d. e.number < d.number)
      (λ d. e.number < d.number) (λ d h. h) es a.0,
  ascends-marked s es a.1,
)

flat_map_same : {X Y : Type 0} (f g : X → List Y) → ((x : X) → f x ≡ g x) → (xs : List X)
    → flat_map f xs ≡ flat_map g xs
flat_map_same f g h [] = refl
flat_map_same f g h (x ∷ xs) = let i = flat_map_same f g h xs in let j = h x in cc

gives_at-marked : (h : Option Comb → Option Comb) (o : Option Node) (j : ℕ)
    → gives_at (marked_at h o) j ≡ gives_at o j
gives_at-marked h None j = refl
gives_at-marked h (Some x) j = gives-marked h x j

pub root_at-marked : (h : Option Comb → Option Comb) (o : Option Node)
    → comb_at (marked_at h o) ≡ comb_at o
root_at-marked h None = refl
root_at-marked h (Some x) = root-marked h x

pub there-marked : (s : ℕ → Option Comb → Option Comb) (es : List Entry) (c : Place) → IsThere es c
    → IsThere (map (marked_entry s) es) c
there-marked s es c t = ap (λ (o : Option Node). gives_at o c.out) (node_at-marked s es c.node)
    ∙ gives_at-marked (s c.node) (node_at es c.node) c.out ∙ t

-- ---- the meaning
pub KeepsMeaning-remarked : (s : ℕ → Option Comb → Option Comb) (g : Graph)
    → KeepsMeaning g (remarked s g)
KeepsMeaning-remarked s g w m meets = (
  m,
  all_map (marked_entry s) (λ (e : Entry). Holds w m e.number e.node)
      (λ e. Holds w m e.number e.node) (λ e h. holds-marked w m e.number (s e.number) e.node h)
      g.nodes meets,
  record {
    outputs = refl;
    own = λ i. sym (ap bag_of (flat_map-map (λ (e : Entry). own w m i e.node)
        (marked_entry s) g.nodes
        ∙ flat_map_same (λ (e : Entry). own w m i (marked (s e.number) e.node))
        (λ e. own w m i e.node)
        (λ e. own-marked w m i (s e.number) e.node) g.nodes));
    traps = sym (ap (λ (l : List Trap). set_of trap_le l)
        (flat_map-map (λ (e : Entry). traps w m e.node) (marked_entry s) g.nodes
        ∙ flat_map_same (λ (e : Entry). traps w m (marked (s e.number) e.node))
        (λ e. traps w m e.node)
        (λ e. traps-marked w m (s e.number) e.node) g.nodes));
  },
)

-- ---- the rules
is_read-marked : (s : ℕ → Option Comb → Option Comb) (g : Graph) (c : Place)
    → is_read (remarked s g) c ≡ is_read g c
is_read-marked s g c = ap (λ (b : Bool). b || among c g.outputs)
    (any-marked (uses c) (λ h x. let i = calls-marked c h x in let j = collects-marked c h x in cc)
    s g.nodes)

lifted-marked : (s : ℕ → Option Comb → Option Comb) (g : Graph) (n : ℕ) (k : Comb)
    → IsLiftedOk g n k → IsLiftedOk (remarked s g) n k
lifted-marked s g n k a = record {
  untold = a.untold;
  uncollected = any-marked (collects (place n 0)) (collects-marked (place n 0)) s g.nodes
      ∙ a.uncollected;
  reader = a.reader;
  alone = those-marked (calls_on (place n 0)) (calls-marked (place n 0)) s g.nodes ∙ a.alone;
  root = ap comb_at (node_at-marked s g.nodes a.reader)
      ∙ root_at-marked (s a.reader) (node_at g.nodes a.reader) ∙ a.root;
}

-- the new marks are right
abbrev pub Allowed : Graph → ℕ → Option Comb → Type 0
Allowed g n None = Unit {0}
Allowed g n (Some k) = IsLiftedOk g n k

mark_ok : (s : ℕ → Option Comb → Option Comb) (g : Graph) (c : Place) (n o : ℕ) (l : Bool)
    (k : Option Comb) → Allowed g n k → IsNodeOk (remarked s g) n (Gbk c o l k)
mark_ok s g c n o l None a = tt
mark_ok s g c n o l (Some k) a = lifted-marked s g n k a

had : (g : Graph) (c : Place) (n o : ℕ) (l : Bool) (k : Option Comb)
    → IsNodeOk g n (Gbk c o l k) → Allowed g n k
had g c n o l None a = tt
had g c n o l (Some k) a = a

node_ok : (s : ℕ → Option Comb → Option Comb) (g : Graph) (n : ℕ) (x : Node)
    → ((k : Option Comb) → Allowed g n k → Allowed g n (s n k)) → IsNodeOk g n x
    → IsNodeOk (remarked s g) n (marked (s n) x)
node_ok s g n (Source r) h a = tt
node_ok s g n (Flatten ins) h a = a
node_ok s g n (Pdo c f) h a = record {
  order = a.order;
  read = λ j i. is_read-marked s g (place n j) ∙ a.read j i;
}
node_ok s g n (Gbk c o l k) h a = mark_ok s g c n o l (s n k) (h k (had g c n o l k a))
node_ok s g n (Barrier ins o l i) h a = tt

object_at-marked : (h : Option Comb → Option Comb) (o : Option Node)
    → is_object (marked_at h o) ≡ is_object o
object_at-marked h None = refl
object_at-marked h (Some x) = object-marked h x

objects-marked : (s : ℕ → Option Comb → Option Comb) (es : List Entry) (h : Option Comb
    → Option Comb) (x : Node) → has_objects es x ≡ true
    → has_objects (map (marked_entry s) es) (marked h x) ≡ true
objects-marked s es h (Barrier ins o l i) a =
    ap (takes_such i) (map_same (is_object_at (map (marked_entry s) es)) (is_object_at es)
    (λ c. ap is_object (node_at-marked s es c.node)
    ∙ object_at-marked (s c.node) (node_at es c.node)) ins)
    ∙ a
objects-marked s es h _ a = a

HaveObjects-remarked : (s : ℕ → Option Comb → Option Comb) (g : Graph) → HaveObjects g.nodes
    → HaveObjects (map (marked_entry s) g.nodes)
HaveObjects-remarked s g a =
    all_map (marked_entry s) (λ (e : Entry). has_objects g.nodes e.node ≡ true)
    (λ e. has_objects (map (marked_entry s) g.nodes) e.node ≡ true)
    (λ e b. objects-marked s g.nodes (s e.number) e.node b) g.nodes a

IsGraphOk-remarked : (s : ℕ → Option Comb → Option Comb) (g : Graph)
    → ((n : ℕ) (k : Option Comb) → Allowed g n k → Allowed g n (s n k)) → IsGraphOk g
    → IsGraphOk (remarked s g)
IsGraphOk-remarked s g h ok =
    let here : (cs : List Place) → AllByRecursion (IsThere g.nodes) cs
    → AllByRecursion (IsThere (map (marked_entry s) g.nodes)) cs =
    λ cs a. Each-weaker (IsThere g.nodes) (IsThere (map (marked_entry s) g.nodes))
    (λ c t. there-marked s g.nodes c t) cs a in
    record {
      founded = record {
        ascends = ascends-marked s g.nodes ok.founded.ascends;
        below = all_map (marked_entry s) (λ (e : Entry). e.number < g.next) (λ e. e.number < g.next)
            (λ e i. i) g.nodes ok.founded.below;
        there = all_map (marked_entry s) (λ (e : Entry). AllByRecursion (IsThere g.nodes)
            (reads e.node)) (λ e. AllByRecursion (IsThere (map (marked_entry s) g.nodes))
            (reads e.node)) (λ e a. subst (λ (cs : List Place). AllByRecursion
            (IsThere (map (marked_entry s) g.nodes)) cs) (sym (reads-marked (s e.number) e.node))
            (here (reads e.node) a)) g.nodes ok.founded.there;
        told = here g.outputs ok.founded.told;
        ranked = (
          ok.founded.ranked.0,
          all_map (marked_entry s)
              (λ (e : Entry). AllByRecursion (λ (c : Place). ok.founded.ranked.0
              c.node < ok.founded.ranked.0 e.number) (reads e.node))
              (λ (e : Entry). AllByRecursion (λ (c : Place). ok.founded.ranked.0
              c.node < ok.founded.ranked.0 e.number) (reads e.node))
              (λ e a. subst (λ (cs : List Place). AllByRecursion
              (λ (c : Place). ok.founded.ranked.0 c.node < ok.founded.ranked.0 e.number) cs)
              (sym (reads-marked (s e.number) e.node)) a) g.nodes ok.founded.ranked.1,
        );
      };
      nodes = all_map (marked_entry s) (λ (e : Entry). IsNodeOk g e.number e.node)
          (λ e. IsNodeOk (remarked s g) e.number e.node)
          (λ e a. node_ok s g e.number e.node (h e.number) a) g.nodes ok.nodes;
      objects = HaveObjects-remarked s g ok.objects;
      few = subst (λ (n : ℕ). n ≤ most_nodes) (sym (size-all s g.nodes)) ok.few;
    }

-- ---- types
typed_marked : (s : Signatures) (types : Place → Ty) (n : ℕ) (h : Option Comb → Option Comb)
    (x : Node) → NodeTyped s types n x → NodeTyped s types n (marked h x)
typed_marked s types n h (Source r) a = a
typed_marked s types n h _ a = a

pub KeepsTypes-remarked : (marks : ℕ → Option Comb → Option Comb) (g : Graph)
    → KeepsTypes g (remarked marks g)
KeepsTypes-remarked marks g s (types, a) = (
  types,
  all_map (marked_entry marks) (λ (e : Entry). NodeTyped s types e.number e.node)
      (λ e. NodeTyped s types e.number e.node)
      (λ e b. typed_marked s types e.number (marks e.number) e.node b) g.nodes a,
)

-- ---- what may be lifted
lift_by : (g : Graph) (n : ℕ) (k : Comb) (a b : Bool) (ns : List ℕ)
    → among (place n 0) g.outputs ≡ a → any_node (collects (place n 0)) g.nodes ≡ b
    → readers g.nodes (place n 0) ≡ ns → cond a None (cond b None (only_comb g.nodes ns)) ≡ Some k
    → IsLiftedOk g n k
lift_by g n k true b ns p q r e = let bad : ⊥ = cc in absurd bad
lift_by g n k false true ns p q r e = let bad : ⊥ = cc in absurd bad
lift_by g n k false false [] p q r e = let bad : ⊥ = cc in absurd bad
lift_by g n k false false (x ∷ []) p q r e = record
    { untold = p; uncollected = q; reader = x; alone = r; root = e }
lift_by g n k false false (x ∷ (y ∷ ns)) p q r e = let bad : ⊥ = cc in absurd bad

lift_allowed : (g : Graph) (n : ℕ) (o : Option Comb) → lift_of g n ≡ o → Allowed g n o
lift_allowed g n None e = tt
lift_allowed g n (Some k) e = lift_by g n k (among (place n 0) g.outputs)
    (any_node (collects (place n 0)) g.nodes) (readers g.nodes (place n 0)) refl refl refl e

-- ---- the two passes
pub IsGraphOk-lifted : (g : Graph) → IsGraphOk g → IsGraphOk (lifted g)
IsGraphOk-lifted g ok = IsGraphOk-remarked (λ n k. lift_of g n) g
    (λ n k a. lift_allowed g n (lift_of g n) refl) ok

pub SameMeaning-lifted : (g : Graph) → IsGraphOk g → SameMeaning g (lifted g)
SameMeaning-lifted g ok = SameMeaning-kept g (lifted g) ok (IsGraphOk-lifted g ok)
    (KeepsMeaning-remarked (λ n k. lift_of g n) g)

at_allowed : (g : Graph) (m n : ℕ) (k : Option Comb) (r : Bool) → eqb m n ≡ r → Allowed g m k
    → Allowed g m (cond r (lift_of g n) k)
at_allowed g m n k true i a = subst (λ (x : ℕ). Allowed g x (lift_of g n)) (sym (eqb-true m n i))
    (lift_allowed g n (lift_of g n) refl)
at_allowed g m n k false i a = a

pub IsGraphOk-lifted_at : (n : ℕ) (g : Graph) → IsGraphOk g → IsGraphOk (lifted_at n g)
IsGraphOk-lifted_at n g ok = IsGraphOk-remarked (λ m k. cond (eqb m n) (lift_of g n) k) g
    (λ m k a. at_allowed g m n k (eqb m n) refl a) ok

pub SameMeaning-lifted_at : (n : ℕ) (g : Graph) → IsGraphOk g → SameMeaning g (lifted_at n g)
SameMeaning-lifted_at n g ok = SameMeaning-kept g (lifted_at n g) ok (IsGraphOk-lifted_at n g ok)
    (KeepsMeaning-remarked (λ m k. cond (eqb m n) (lift_of g n) k) g)
